use Rattle.std.proofs.Common.{◌≡◌, ◌^◌, ◌<◌, ◌≤◌, ℕ, Bor, List, length, Result, Ok, Err, refl, ap, subst, ◌∙◌, arith}
use Rattle.std.specs.Prelude.{IfOk}
use Rattle.std.proofs.lemmas.Bool.{le-ltb}
use Rattle.std.proofs.lemmas.List.{length-map}
use Rattle.actions.specs.declared.fault.SettingFault.{SettingFault}
use Rattle.actions.specs.SettingGrammar.{SpellsSetting}
use Rattle.actions.specs.SettingReading.{Gives, entries, entries_at, setting_reading}
use Rattle.actions.proofs.EntryLemmas.{Point, texts}
use Rattle.actions.proofs.CountLemmas.{few_entries, few_points}
use Rattle.actions.proofs.SettingSound.{setting_sound}
use Rattle.actions.proofs.SettingComplete.{setting_complete}
use Rattle.actions.proofs.setting.parse_setting.Goals as goal

-- a text that isn't too long is read by its entries
exact : {X : Type 0} (view : X → List Point) (r : Result X SettingFault) (text : List ℕ)
    (lent parts : List (Bor (List ℕ)))
    → length text ≤ 65536 → lent ≡ parts → texts parts ≡ entries text → Gives view r (entries_at 0 (texts lent))
    → Gives view r (setting_reading text)
unfolding setting_reading
exact view r text lent parts short same cut given =
    rw (le-ltb 65536 (length text) short) (subst (Gives view r) (ap (entries_at 0) (ap texts same ∙ cut)) given)

found : {X : Type 0} (view : X → List Point) (r : Result X SettingFault) (text : List ℕ) →
    Gives view r (setting_reading text)
    → IfOk r (λ x. SpellsSetting text (view x))
found view (Ok x) text given = setting_sound text (view x) given
found view (Err e) text given = tt

few : {X : Type 0} (view : X → List Point) (r : Result X SettingFault) (text : List ℕ) →
    Gives view r (setting_reading text)
    → IfOk r (λ x. length (view x) < 2 ^ 16)
few view (Ok x) text given = few_points text (view x) given
few view (Err e) text given = tt

pub parse_entries-requires : goal.parse_entries-requires
parse_entries-requires c =
    omega (
      arith,
      few_entries c.args.text.now c.if-text-gt-MAX_SETTING.false,
      ap length c.deref.ensures.value,
      ap length c.in_ok-entries.ensures,
      length-map c.in_ok-entries.entries.items (λ (x : Bor (List ℕ)). x.now),
    )

pub returns-then-text-gt-MAX_SETTING-clause-long : goal.returns-then-text-gt-MAX_SETTING-clause-long
returns-then-text-gt-MAX_SETTING-clause-long c = λ _. refl

pub returns-clause-exact : goal.returns-clause-exact
returns-clause-exact c =
    exact (λ v. v.items) c.parse_entries.result c.args.text.now c.deref.result.now c.in_ok-entries.entries.items
    c.if-text-gt-MAX_SETTING.false c.deref.ensures.value c.in_ok-entries.ensures c.parse_entries.ensures

pub returns-clause-found : goal.returns-clause-found
returns-clause-found c = found (λ v. v.items) c.parse_entries.result c.args.text.now (returns-clause-exact c)

pub returns-clause-only : goal.returns-clause-only
returns-clause-only c = λ points h.
    subst (Gives (λ v. v.items) c.parse_entries.result) (setting_complete c.args.text.now points h)
    (returns-clause-exact c)

pub returns-clause-few : goal.returns-clause-few
returns-clause-few c = few (λ v. v.items) c.parse_entries.result c.args.text.now (returns-clause-exact c)
