-- Room for what is read of one point at a time, and of one of its terms.
use Rattle.std.specs.Prelude.{◌≡◌, ℕ, ◌<◌, ◌≤◌, List, length, map, vec_len, ℤ}
use Rattle.std.specs.List.{All, range_with_len}
use Rattle.replica_state.specs.Points.{Held, rights_of_key}
use Rattle.sharing.specs.declared.remembered.Remembered.{Remembered}
use Rattle.sharing.specs.declared.room.Room.{Room}

-- these are the rights of the first nodes to a term
abbrev pub AreRights : Held → ℕ → List ℤ → Type 0
AreRights held term rights =
    rights ≡ map (rights_of_key held.key held.number term) (range_with_len 0 (length rights))

-- there is a place for each of so many nodes
pub record HasPlaces (nodes : ℕ) (room : Room) : Type 0 where
  pub rights : vec_len room.rights ≡ nodes
  pub executions : vec_len room.executions ≡ nodes

-- each of the others that passed has a place, and there are no more places than numbers of nodes
pub record IsRoomForOthers (room : Room) : Type 0 where
  pub rights : All (λ node. node < vec_len room.rights) room.others.items
  pub executions : All (λ node. node < vec_len room.executions) room.others.items
  pub few_rights : vec_len room.rights ≤ 256
  pub few_executions : vec_len room.executions ≤ 256

-- there are as many places as before, and the same others passed
pub record IsAsLarge (old new : Room) : Type 0 where
  pub rights : vec_len new.rights ≡ vec_len old.rights
  pub executions : vec_len new.executions ≡ vec_len old.executions
  pub others : new.others.items ≡ old.others.items

-- it is of this name, and has a place for the hits of each of so many nodes
pub record IsReadyFor (n : List ℕ) (nodes : ℕ) (entry : Remembered) : Type 0 where
  pub name : entry.name ≡ n
  pub hits : vec_len entry.hits ≡ nodes
