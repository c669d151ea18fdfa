use Rattle.matchit.proofs.OnLiterals.{matchit_on_literals}
use Rattle.std.proofs.Common.{None, refl}
use Rattle.http_routes.proofs.paths.add_all.Goals as goal

pub add-requires : goal.add-requires
unfolding matchit_on_literals
add-requires c = rw c.requires (refl {a = None})

pub add-requires-2 : goal.add-requires-2
unfolding matchit_on_literals
add-requires-2 c = rw (c.in_ok-add.ensures, c.requires) (refl {a = None})

pub add-requires-3 : goal.add-requires-3
unfolding matchit_on_literals
add-requires-3 c = rw (c.in_ok-add-2.ensures, c.in_ok-add.ensures, c.requires) (refl {a = None})

pub add-requires-4 : goal.add-requires-4
unfolding matchit_on_literals
add-requires-4 c = rw (c.in_ok-add-3.ensures, c.in_ok-add-2.ensures, c.in_ok-add.ensures, c.requires) (refl {a = None})

pub add-requires-5 : goal.add-requires-5
unfolding matchit_on_literals
add-requires-5 c =
    rw (c.in_ok-add-4.ensures, c.in_ok-add-3.ensures, c.in_ok-add-2.ensures, c.in_ok-add.ensures, c.requires) (refl {a =
    None})

pub add-requires-6 : goal.add-requires-6
unfolding matchit_on_literals
add-requires-6 c =
    rw (
      c.in_ok-add-5.ensures,
      c.in_ok-add-4.ensures,
      c.in_ok-add-3.ensures,
      c.in_ok-add-2.ensures,
      c.in_ok-add.ensures,
      c.requires,
    ) (refl {a = None})

pub add-requires-7 : goal.add-requires-7
unfolding matchit_on_literals
add-requires-7 c =
    rw (
      c.in_ok-add-6.ensures,
      c.in_ok-add-5.ensures,
      c.in_ok-add-4.ensures,
      c.in_ok-add-3.ensures,
      c.in_ok-add-2.ensures,
      c.in_ok-add.ensures,
      c.requires,
    ) (refl {a = None})

pub add-requires-8 : goal.add-requires-8
unfolding matchit_on_literals
add-requires-8 c =
    rw (
      c.in_ok-add-7.ensures,
      c.in_ok-add-6.ensures,
      c.in_ok-add-5.ensures,
      c.in_ok-add-4.ensures,
      c.in_ok-add-3.ensures,
      c.in_ok-add-2.ensures,
      c.in_ok-add.ensures,
      c.requires,
    ) (refl {a = None})

pub add-requires-9 : goal.add-requires-9
unfolding matchit_on_literals
add-requires-9 c =
    rw (
      c.in_ok-add-8.ensures,
      c.in_ok-add-7.ensures,
      c.in_ok-add-6.ensures,
      c.in_ok-add-5.ensures,
      c.in_ok-add-4.ensures,
      c.in_ok-add-3.ensures,
      c.in_ok-add-2.ensures,
      c.in_ok-add.ensures,
      c.requires,
    ) (refl {a =
    None})

pub add-requires-10 : goal.add-requires-10
unfolding matchit_on_literals
add-requires-10 c =
    rw (
      c.in_ok-add-9.ensures,
      c.in_ok-add-8.ensures,
      c.in_ok-add-7.ensures,
      c.in_ok-add-6.ensures,
      c.in_ok-add-5.ensures,
      c.in_ok-add-4.ensures,
      c.in_ok-add-3.ensures,
      c.in_ok-add-2.ensures,
      c.in_ok-add.ensures,
      c.requires,
    ) (refl {a = None})

pub add-requires-11 : goal.add-requires-11
unfolding matchit_on_literals
add-requires-11 c =
    rw (
      c.in_ok-add-10.ensures,
      c.in_ok-add-9.ensures,
      c.in_ok-add-8.ensures,
      c.in_ok-add-7.ensures,
      c.in_ok-add-6.ensures,
      c.in_ok-add-5.ensures,
      c.in_ok-add-4.ensures,
      c.in_ok-add-3.ensures,
      c.in_ok-add-2.ensures,
      c.in_ok-add.ensures,
      c.requires,
    ) (refl {a = None})

pub add-requires-12 : goal.add-requires-12
unfolding matchit_on_literals
add-requires-12 c =
    rw (
      c.in_ok-add-11.ensures,
      c.in_ok-add-10.ensures,
      c.in_ok-add-9.ensures,
      c.in_ok-add-8.ensures,
      c.in_ok-add-7.ensures,
      c.in_ok-add-6.ensures,
      c.in_ok-add-5.ensures,
      c.in_ok-add-4.ensures,
      c.in_ok-add-3.ensures,
      c.in_ok-add-2.ensures,
      c.in_ok-add.ensures,
      c.requires,
    ) (refl {a = None})

pub add-requires-13 : goal.add-requires-13
unfolding matchit_on_literals
add-requires-13 c =
    rw (
      c.in_ok-add-12.ensures,
      c.in_ok-add-11.ensures,
      c.in_ok-add-10.ensures,
      c.in_ok-add-9.ensures,
      c.in_ok-add-8.ensures,
      c.in_ok-add-7.ensures,
      c.in_ok-add-6.ensures,
      c.in_ok-add-5.ensures,
      c.in_ok-add-4.ensures,
      c.in_ok-add-3.ensures,
      c.in_ok-add-2.ensures,
      c.in_ok-add.ensures,
      c.requires,
    ) (refl {a = None})

pub returns : goal.returns
unfolding matchit_on_literals
returns c =
    rw (
      c.in_ok-add-12.ensures,
      c.in_ok-add-11.ensures,
      c.in_ok-add-10.ensures,
      c.in_ok-add-9.ensures,
      c.in_ok-add-8.ensures,
      c.in_ok-add-7.ensures,
      c.in_ok-add-6.ensures,
      c.in_ok-add-5.ensures,
      c.in_ok-add-4.ensures,
      c.in_ok-add-3.ensures,
      c.in_ok-add-2.ensures,
      c.in_ok-add.ensures,
      c.requires,
    ) at c.add-13.ensures
