-- `closed` puts two fields together, of which none owns anything.
use Rattle.std.specs.Prelude.{None}
use mathlib.Core.Path.{refl, sym, subst}
use mathlib.Core.List.{List, [], ◌∷◌, ◌++◌}
use lib.Dec.{T as IsTrue, lit<}
use seplogic.Ra.Ura.{Ura}
use mir.Syntax.{Fn}
use mir.MapTy.{inst_fn}
use mir.Val.{Val, vnull, vstruct, of_list, has_ty, WT}
use base.Logic.{SProp, ent, id⊢}
use base.Fml.{ftrue, fsep, flft}
use contract.BorrowLft.{◌⊑◌}
use prog.Memory.{Memory}
use prog.Routine.{Routine}
use prog.Wp.{WpFn, Tables}
use types.Logic.{Logic}
use contract.Monad.{Fun, fact}
use contract.Running.{tables, tables_of}
use sound.WpLaws.{WpFn-mono}
use types.Kit.{Item, ‵, raw, ◌⊛◌, ◌$◌, ◌∵◌, !, qed, by, move, keep, use1, join, split, fsplit, fjoin, fpack, feq_i, suffices, done}
use types.Part.{agg}
use types.Run.{lit, no_more, and_then, returns, enter}
use types.ByLocal.{alloc_all, pass_all, free_all, look_at, get, sets}
use denote.Exit.{yes}
use denote.RattleType.{RattleType, Valss}
use denote.RawPtr.{RawPtr, null_ptr}
use denote.Param.Laws.{Laws}
use denote.Signature.{Slot, plain}
use denote.Steps.{nothing}
use denote.Struct.Owning.{shape}
use denote.Struct.Struct.{within}
use denote.Triple.Clauses.{Ended, Clauses}
use denote.Triple.Spec.{triple_of}
use denote.Triple.Table.{entered}
use denote.Triple.Walked.{says, Stays, stay_dropped, walk_of, ends_at, Goes-dropped, walk_Meets}
use Rattle.core.proofs.alloc.Calls.{α, handle_tells}
use Rattle.std_alloc.proofs.BoxSteps.Form.{Bx, P, box_ty, owning}
use Rattle.std_alloc.proofs.ResultValues.{and_tt}
use Rattle.std_heap.specs.contracts.Global as Heap
use Rattle.node_for_c.proofs.AsBox.{boxed, at, held_by}
use Rattle.node_for_c.specs.contracts.handle.Handle.closed as F
use Rattle.node_for_c.specs.contracts.handle.Handle.closed.Key.{name as #self}
use Rattle.node_for_c.proofs.handle.Handle.closed.Statement as stated
use Rattle.node_for_c.proofs.handle.Handle.closed.Code as code

abbrev From : Slot 1
From = plain (λ _. Heap.the_row)

module _ (T : RattleType) (L : Laws T) where
  abbrev E : Bx
  E = boxed T L

  abbrev fn' : Fn
  fn' = inst_fn (at T) code.function

  abbrev ended : Ended
  ended = F.ended T

  abbrev stayed : Stays ended.signature.params ended.kept
  stayed = (stay_dropped From yes, tt)

  module _ {M : Type 1} {𝓤 : Ura M} (𝓛 : Logic 𝓤) (at_mem : Memory → SProp 𝓤) (run : Routine → Fun 𝓤) (𝓣 : Tables 𝓤 𝓛.H)
    where
      open 𝓛 use {H}

      abbrev held : Clauses 𝓤 ended
      held = F.clauses T 𝓛 at_mem run

      walk : (z : (walk_of 𝓛 ended stayed held).Ghost)
          → ent 𝓤 ((walk_of 𝓛 ended stayed held).pre z)
          (WpFn 𝓤 H 𝓣.C 𝓣.Λ fn' (z.0.4.0 ++ []) ((walk_of 𝓛 ended stayed held).post z))
      walk z =
          let κs = z.0.0 in let qs = z.0.1 in
          let Post = (walk_of 𝓛 ended stayed held).post z in
          let a = z.0.3.0 in
          let made : (held_by T).Denot = record { ptr = null_ptr; alloc = a; kept = None } in
          let ts : Item 𝓤 = ‵ (flft κs.0 qs.0) ⊛ ‵ ftrue in
          qed 𝓛 ((ts ⊛ ‵ (fsep (Heap.the_row.own_val a z.0.4.0) ftrue)) ∷ (raw (fact 𝓤 (κs.0 ⊑ T.lives)) ⊛ ‵ ftrue) ∷ [])
          ∵ split ! $ move ! (1 ∷ []) $ fsplit ! $
          handle_tells E.al ! a z.0.4.0 (λ hv ea fa. keep ! (0 ∷ 2 ∷ []) $
          let w : Val = vstruct (of_list (vnull ∷ hv ∷ [])) in
          let typed : IsTrue (has_ty (box_ty E) w) × WT w = (
            and_tt (has_ty (α E.al) hv) fa.0,
            (record { fits = lit< tt }, (fa.1, tt)),
          ) in
          -- what a closed handle owns, from its last part to its first
          nothing ! $ nothing ! $ move ! (2 ∷ 0 ∷ 1 ∷ []) $ fjoin ! $
          feq_i ! (List Val) (vnull ∷ []) (vnull ∷ []) refl $ fjoin ! $ feq_i ! (List Val) (w ∷ []) (w ∷ []) refl $ fjoin
          ! $
          fpack ! (Valss (RawPtr ∷ P E ∷ [])) (within (shape (owning E)) (null_ptr, (a, tt)) (w ∷ []))
          (vnull ∷ [], (hv ∷ [], tt)) $ fjoin ! $ use1 𝓛 (‵ ((held_by T).own_val made (w ∷ []))) (id⊢ 𝓤 _) $
          let Γ : List (Item 𝓤) = ‵ ((held_by T).own_val made (w ∷ [])) ∷ ts ∷ [] in
          by ! (subst (λ (us : List Val). ent 𝓤 (types.Kit.⋆ 𝓛 Γ) (WpFn 𝓤 H 𝓣.C 𝓣.Λ fn' (us ++ []) Post))
          (sym ea)
          (qed 𝓛 Γ ∵ enter ! 𝓣.C 𝓣.Λ fn' (hv ∷ []) _ $ alloc_all ! (λ ls. pass_all ! refl (fa, tt) $
          sets ! (agg ! (and_then ! (lit ! tt) (and_then ! (get ! refl) (no_more !)))) refl typed $ returns !
          (look_at ! 0 refl) $ free_all ! refl $
          suffices ! _ (ends_at 𝓛 ended stayed held z w made (tt, tt) (tt, tt)) $ says ! refl $
          nothing ! $ nothing ! $ fjoin ! $ join ! $ move ! (1 ∷ 0 ∷ []) $ join ! $ done !))))

pub closed_spec : {M : Type 1} → stated.statement M
unfolding tables_of
closed_spec 𝓤 𝓛 𝓜 𝓡 wired T L =
    let 𝓣 : Tables 𝓤 𝓛.H = tables_of 𝓤 𝓛.H 𝓜 (tables 𝓤 𝓛.H 𝓜 𝓡 𝓡.env) in
    entered 𝓤 𝓛.H (triple_of 𝓛 (ended T L).signature (F.spec T 𝓛 𝓜.mem 𝓡.returns)) 𝓣.C 𝓣.Λ (#self (at T)) (fn' T L)
    (code.unfolded 𝓤 𝓛.H 𝓜 𝓡 wired (T, tt))
    (walk_Meets 𝓛 (ended T L) (stayed T L) (Goes-dropped 𝓛 1 From yes (λ κs x f. refl), tt)
    (held T L 𝓛 𝓜.mem 𝓡.returns 𝓣) (WpFn 𝓤 𝓛.H 𝓣.C 𝓣.Λ (fn' T L)) (WpFn-mono 𝓤 𝓛.H 𝓛.laws 𝓣 (fn' T L))
    (walk T L 𝓛 𝓜.mem 𝓡.returns 𝓣))
