use Rattle.std.proofs.Common.{◌≡◌, List, ℕ, ◌++◌, ◌∷◌, [], map, ap, subst, ◌∙◌, append_assoc}
use Rattle.std.specs.Int.{w64, to_be_bytes}
use Rattle.message_format.specs.declared.message.NameEntry.{NameEntry}
use Rattle.message_format.specs.declared.wire.Form.{Form}
use Rattle.message_format.specs.Messages.{entry_value, message_value}
use Rattle.message_format.specs.Spelling.{magic, form_of, versions_bytes, entries_bytes}
use Rattle.message_format.proofs.writing.encode.Goals as goal

-- what is written one after the other
written : (head sides base upto ack entries one two three four five six : List ℕ) → one ≡ head → two ≡ one ++ sides →
    three ≡ two ++ base → four ≡ three ++ upto → five ≡ four ++ ack → six ≡ five ++ entries
    → six ≡ head ++ (sides ++ ((base ++ (upto ++ ack)) ++ entries))
written head sides base upto ack entries one two three four five six a b d e f g =
    g ∙ ap (λ o. o ++ entries) (f ∙ ap (λ o. o ++ ack) (e ∙ ap (λ o. o ++ upto)
    (d ∙ ap (λ o. o ++ base) (b ∙ ap (λ o. o ++ sides) a)))) ∙ grouped
  where
    grouped : (((((head ++ sides) ++ base) ++ upto) ++ ack) ++ entries) ≡ head ++
        (sides ++ ((base ++ (upto ++ ack)) ++ entries))
    grouped =
        ap (λ o. o ++ entries) (append_assoc ((head ++ sides) ++ base) upto ack ∙
        append_assoc (head ++ sides) base (upto ++ ack))
        ∙ append_assoc (head ++ sides) (base ++ (upto ++ ack)) entries ∙
        append_assoc head sides ((base ++ (upto ++ ack)) ++ entries)

pub returns : goal.returns
returns c =
    let m = message_value c.args.message.now in
    let form : c.form_of-form.result ≡ form_of m.entries = c.form_of-form.ensures ∙
    ap (λ (es : List NameEntry). form_of (map entry_value es)) c.deref.ensures.value in
    let begun = c.in_ok-extend_from_slice.ensures.items ∙ ap (λ o. o ++ c.magic.result.now) c.new-out.ensures.items ∙
    c.magic.ensures in
    let listed = c.in_ok-put_entries.ensures ∙ ap (λ (es : List NameEntry). c.extend_from_slice-5.new.self.items ++
    entries_bytes c.form_of-form.result (map entry_value es)) c.deref-2.ensures.value in
    subst (λ (f : Form). c.put_entries.new.out.items ≡ magic f ++
    (m.from ∷ m.to ∷ (versions_bytes m ++ entries_bytes f m.entries))) form
    (written (magic c.form_of-form.result) (m.from ∷ m.to ∷ []) (to_be_bytes w64 m.base) (to_be_bytes w64 m.upto)
    (to_be_bytes w64 m.ack) (entries_bytes c.form_of-form.result m.entries) _ _ _ _ _ _ begun
    c.in_ok-extend_from_slice-2.ensures.items (c.in_ok-extend_from_slice-3.ensures.items ∙
    ap (λ b. c.extend_from_slice-2.new.self.items ++ b) c.to_be_bytes.ensures)
    (c.in_ok-extend_from_slice-4.ensures.items ∙ ap (λ b. c.extend_from_slice-3.new.self.items ++ b)
    c.to_be_bytes-2.ensures)
    (c.in_ok-extend_from_slice-5.ensures.items ∙ ap (λ b. c.extend_from_slice-4.new.self.items ++ b)
    c.to_be_bytes-3.ensures) listed)
