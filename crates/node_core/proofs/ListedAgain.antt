-- What a node lists is a setting text of the points that are set.
use Rattle.std.proofs.Common.{◌≡◌, ℕ, ◌≤◌, List, [], ◌∷◌, ◌++◌, length, map, Option, Some, None, Ok, IsTrue, inl, inr, refl, sym, ◌∙◌, ap, subst, append_assoc}
use Rattle.std.specs.Prelude.{codes, option_and_then, option_map}
use Rattle.std.specs.List.{filter_map, join_with_byte, cons_option}
use Rattle.std.proofs.lemmas.List.{append-nil}
use Rattle.actions.specs.Value.{TermValue}
use Rattle.actions.specs.Names.{is_name}
use Rattle.actions.specs.Grammar.{SpellsActions}
use Rattle.actions.specs.Canonical.{canonical}
use Rattle.actions.specs.SettingGrammar.{Entry, setting, entry_text, EndsBare, SetEach, SpellsSetting}
use Rattle.actions.specs.SettingReading.{setting_reading}
use Rattle.actions.proofs.Complete.{reading_complete}
use Rattle.actions.proofs.EndLemmas.{canonical_ends_bare}
use Rattle.actions.proofs.SettingComplete.{setting_complete}
use Rattle.stamp_register.specs.Keys.{KeyValue, terms_read, terms_in_text, terms_set}
use Rattle.operations.specs.Operations.{Operation, IsIn}
use Rattle.replica_state.specs.States.{State}
use Rattle.replica_state.specs.Folds.{fold}
use Rattle.message_format.specs.Spelling.{IsBody}
use Rattle.delta_exchange.specs.Wholes.{AreLawful}
use Rattle.delta_exchange.proofs.LawfulStates.{lawful_state}
use Rattle.node_calls.specs.Asks.{Load}
use Rattle.node_steps.specs.Nodes.{setting_in}
use Rattle.node_steps.specs.Settings.{points_read, settings, settings_of}
use Rattle.node_steps.specs.Texts.{list_entry, list_text, point_listed, points_listed, setting_listed, settings_listed}

abbrev Point : Type 0
Point = List ℕ × List TermValue

abbrev Setting : Type 0
Setting = List ℕ × Option (List ℕ)

-- texts that set these points one by one, as these settings
record Lists (points : List Point) (texts : List (List ℕ)) (asked : List Setting) : Type 0 where
  entries : List Entry
  set : SetEach entries points
  written : texts ≡ map entry_text entries
  same : settings_of points ≡ asked

nothing : Lists [] [] []
nothing = record { entries = []; set = tt; written = refl; same = refl }

terms_again : (text : List ℕ) (terms : List TermValue) → SpellsActions text terms
    → terms_in_text text ≡ Some terms
unfolding terms_in_text
terms_again text terms spelled = ap terms_read (reading_complete text terms spelled)

module _ (name : List ℕ) (named : IsTrue (is_name name))
    (points : List Point) (texts : List (List ℕ)) (asked : List Setting) (rest : Lists points texts asked) where
  -- the same with what is listed of this name, which has these terms under a key, and this text
  abbrev Listed : Option (KeyValue × List TermValue) → Option (List ℕ) → Type 0
  Listed terms text =
      Lists (cons_option (option_map (λ (s : KeyValue × List TermValue). (name, s.1)) terms) points)
      (cons_option (option_map (λ (t : List ℕ). name ++ codes "=" ++ t) text) texts)
      (cons_option (option_map (λ (t : List ℕ). (name, Some t)) text) asked)

  one_listed : (key : KeyValue) (text : List ℕ) (terms : List TermValue)
      → SpellsActions text terms → text ≡ canonical terms → Listed (Some (key, terms)) (Some text)
  one_listed key text terms spelled is_canonical = record {
    entries = setting 0 name text 0 ∷ rest.entries;
    set = (named, refl, spelled, subst EndsBare (sym is_canonical) (canonical_ends_bare terms), rest.set);
    written =
        ap (λ (t : List ℕ). t ∷ texts) (append_assoc name (codes "=") text)
        ∙ ap (λ (t : List ℕ). (name ++ (codes "=" ++ t)) ∷ texts) (sym (append-nil text))
        ∙ ap (λ (ts : List (List ℕ)). (name ++ (codes "=" ++ (text ++ []))) ∷ ts) rest.written;
    same =
        ap (λ (t : List ℕ). (name, Some t) ∷ settings_of points) (sym is_canonical)
        ∙ ap (λ (ss : List Setting). (name, Some text) ∷ ss) rest.same;
  }

  by_body : (key : KeyValue) (body : Option (List ℕ)) → IsBody body
      → Listed (option_map (λ (ts : List TermValue). (key, ts)) (terms_set body)) body
  by_body key None bodied = rest
  by_body key (Some text) bodied =
      subst
      (λ (terms : Option (List TermValue)). Listed (option_map (λ (ts : List TermValue). (key, ts)) terms) (Some text))
      (sym (terms_again text bodied.1 bodied.2))
      (one_listed key text bodied.1 bodied.2 bodied.3)

  by_key : (found : Option KeyValue) → ((key : KeyValue) → found ≡ Some key → IsBody key.body)
      → Listed (setting_in found) (option_and_then (λ (key : KeyValue). key.body) found)
  by_key None bodied = rest
  by_key (Some key) bodied = by_body key key.body (bodied key refl)

module _ (v : State) (bodied : (name : List ℕ) (key : KeyValue) → v.key name ≡ Some key → IsBody key.body) where
  abbrev ListsAll : List (List ℕ) → Type 0
  ListsAll names =
      Lists (filter_map (point_listed v) names) (filter_map (list_entry v) names) (filter_map (setting_listed v) names)

  each_listed : (names : List (List ℕ)) → ((name : List ℕ) → IsIn name names → IsTrue (is_name name))
      → ListsAll names
  each_listed [] named = nothing
  each_listed (name ∷ names) named =
      by_key name (named name (inl refl)) (filter_map (point_listed v) names) (filter_map (list_entry v) names)
      (filter_map (setting_listed v) names) (each_listed names (λ n h. named n (inr h))) (v.key name) (bodied name)

module _ (nodes : ℕ) (ops : List Operation) (lawful : AreLawful nodes ops) where
  abbrev v : State
  v = fold ops

  all_listed : Lists (filter_map (point_listed v) v.names) (filter_map (list_entry v) v.names)
      (filter_map (setting_listed v) v.names)
  all_listed =
      let state = lawful_state nodes ops lawful in
      each_listed v (λ name key e. (state.key name key e).body) v.names state.named

  spells_listed : length (list_text v) ≤ 65536 → SpellsSetting (list_text v) (points_listed v)
  unfolding list_text points_listed
  spells_listed short =
      let all = all_listed in
      let joined = ap (λ (texts : List (List ℕ)). join_with_byte 59 texts) all.written in
      record { short = short; entries = (all.entries, all.set, joined) }

  pub read_again : length (list_text v) ≤ 65536 → setting_reading (list_text v) ≡ Ok (points_listed v)
  read_again short = setting_complete (list_text v) (points_listed v) (spells_listed short)

  pub loaded_again : length (list_text v) ≤ 65536 → settings (Load (list_text v)) ≡ settings_listed v
  unfolding points_listed settings_listed
  loaded_again short = ap (λ r. settings_of (points_read r)) (read_again short) ∙ all_listed.same
