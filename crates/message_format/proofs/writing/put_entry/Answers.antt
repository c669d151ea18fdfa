use Rattle.std.proofs.Common.{◌≡◌, ℕ, List, ◌++◌, ap, ◌∙◌}
use Rattle.std.proofs.lemmas.Result.{IfOk-weaker}
use Rattle.message_format.specs.Messages.{entry_value}
use Rattle.message_format.specs.Spelling.{name_bytes, key_bytes, hits_bytes, execs_bytes, shifts_bytes, grants_bytes}
use Rattle.message_format.proofs.Written.{and_then}
use Rattle.message_format.proofs.writing.put_entry.Goals as goal

spelled : (old name key hits execs shifts grants one two three four five six : List ℕ) → one ≡ old ++ name →
    two ≡ one ++ key → three ≡ two ++ hits → four ≡ three ++ execs → five ≡ four ++ shifts → six ≡ five ++ grants →
    six ≡ old ++ (name ++ (key ++ (hits ++ (execs ++ (shifts ++ grants)))))
spelled old name key hits execs shifts grants one two three four five six a b d e f g =
    and_then old name _ a (and_then one key _ b (and_then two hits _ d (and_then three execs _ e
    (and_then four shifts grants f g))))

pub returns : goal.returns
returns c =
    let e = entry_value c.args.entry.now in
    IfOk-weaker c.put_grants.result _ _ (λ _ told. spelled c.args.out.now.items (name_bytes e.name) (key_bytes e.key)
    (hits_bytes e.hits) (execs_bytes e.execs) (shifts_bytes e.shifts) (grants_bytes c.args.form e.grants) _ _ _ _ _ _
    c.in_ok-put_name.ensures c.in_ok-put_key.ensures
    (c.in_ok-put_hits.ensures ∙ ap (λ cells. c.put_key.new.out.items ++ hits_bytes cells) c.deref.ensures.value)
    (c.in_ok-put_execs.ensures ∙ ap (λ cells. c.put_hits.new.out.items ++ execs_bytes cells) c.deref-2.ensures.value)
    (c.in_ok-put_shifts.ensures ∙ ap (λ cells. c.put_execs.new.out.items ++ shifts_bytes cells) c.deref-3.ensures.value)
    (told ∙ ap (λ cells. c.put_shifts.new.out.items ++ grants_bytes c.args.form cells) c.deref-4.ensures.value))
    c.put_grants.ensures
