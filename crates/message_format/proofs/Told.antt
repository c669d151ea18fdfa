-- What an entry of a message tells: its setting, and each of its cells.
use Rattle.std.proofs.Common.{◌≡◌, ℕ, ◌++◌, map, ◌⊎◌, inl, inr, ⊎_elim}
use Rattle.operations.specs.Operations.{Operation, Set, Count, Hits, Execs, Shifts, IsIn}
use Rattle.operations.proofs.Members.{IsIn-append_cases}
use Rattle.message_format.specs.Messages.{EntryValue, operations_of}
use Rattle.message_format.proofs.Members.{mapped_from}

module _ (e : EntryValue) where
  abbrev pub hit_told : ℕ × ℕ → Operation
  hit_told c = Count (Hits e.name c.0) c.1

  abbrev pub exec_told : ℕ × ℕ × ℕ → Operation
  exec_told c = Count (Execs e.name e.key c.0 c.1) c.2

  abbrev pub shift_told : ℕ × ℕ × ℕ × ℕ → Operation
  shift_told c = Count (Shifts e.name e.key c.0 c.1 c.2) c.3

  abbrev pub grant_told : ℕ × ℕ × ℕ → Operation
  grant_told c = Count (Shifts e.name e.key c.0 c.1 c.1) c.2

  -- an operation of the entry is its setting or that of one of its cells
  abbrev pub IsTold : Operation → Type 0
  IsTold op = (op ≡ Set e.name e.key) ⊎ (((c : ℕ × ℕ) × IsIn c e.hits × (op ≡ hit_told c))
      ⊎ (((c : ℕ × ℕ × ℕ) × IsIn c e.execs × (op ≡ exec_told c))
      ⊎ (((c : ℕ × ℕ × ℕ × ℕ) × IsIn c e.shifts × (op ≡ shift_told c))
      ⊎ ((c : ℕ × ℕ × ℕ) × IsIn c e.grants × (op ≡ grant_told c)))))

  pub told_of : (op : Operation) → IsIn op (operations_of e) → IsTold op
  told_of op (inl h) = inl h
  told_of op (inr h) = inr (⊎_elim
      (λ l. inl (mapped_from hit_told e.hits op l))
      (λ l. inr (⊎_elim (λ k. inl (mapped_from exec_told e.execs op k))
      (λ k. inr (⊎_elim (λ j. inl (mapped_from shift_told e.shifts op j))
      (λ j. inr (mapped_from grant_told e.grants op j)) (IsIn-append_cases op (map shift_told e.shifts)
      (map grant_told e.grants) k))) (IsIn-append_cases op (map exec_told e.execs)
      (map shift_told e.shifts ++ map grant_told e.grants) l)))
      (IsIn-append_cases op (map hit_told e.hits) (map exec_told e.execs ++
      (map shift_told e.shifts ++ map grant_told e.grants)) h))
