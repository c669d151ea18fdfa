use Rattle.std.proofs.Common.{◌≡◌, ℕ, rules}
use Rattle.std.specs.List.{filter}
use Rattle.std.proofs.lemmas.Map.Entries.{filter_from_retain_pairs}
use Rattle.operations.specs.declared.counted.Counted.{Counted}
use Rattle.operations.specs.Counts.{is_hits}
use Rattle.delta_exchange.proofs.PassMarkLemmas.{hits_only, hits_among}
use Rattle.delta_exchange.proofs.marks.NameMarks.renew.Goals as goal

pub invariant_of-self : goal.invariant_of-self
invariant_of-self c =
    let hits : c.retain.new.self.entries ≡ filter (λ (e : Counted × ℕ). is_hits e.0) c.args.self.now.cells.entries =
    filter_from_retain_pairs _ (λ f. Unit {0}) (λ (e : Counted × ℕ). is_hits e.0) (λ g k v b w f i t. search rules) _
    c.args.self.now.cells.entries c.retain.new.self.entries tt c.retain.ensures.filtered in
    record {
      among = hits_among c.args.self.now.cells.entries c.retain.new.self.entries c.args.self.now.passes
          c.renew.new.self hits c.renew.ensures c.args.self.now.among;
    }

pub returns-clause-cells : goal.returns-clause-cells
returns-clause-cells c =
    let hits : c.retain.new.self.entries ≡ filter (λ (e : Counted × ℕ). is_hits e.0) c.args.self.now.cells.entries =
    filter_from_retain_pairs _ (λ f. Unit {0}) (λ (e : Counted × ℕ). is_hits e.0) (λ g k v b w f i t. search rules) _
    c.args.self.now.cells.entries c.retain.new.self.entries tt c.retain.ensures.filtered in
    hits_only c.args.self.now.cells.entries c.retain.new.self.entries c.args.self.now.passes c.renew.new.self hits
    c.renew.ensures
