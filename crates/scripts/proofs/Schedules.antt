-- Lines that go on one after the other are a schedule.
use Rattle.std.proofs.Common.{◌≡◌, ℕ, zero, suc, ◌+◌, ◌<◌, arith, Bool, true, false, List, [], ◌∷◌, ◌++◌, Option, Some, None, inr, refl, sym, ap, ◌∙◌, subst, subst₂, append_assoc, append-nil, length, get_or, drop}
use Rattle.std.proofs.lemmas.List.{drop_all, drop_more}
use Rattle.std.specs.Prelude.{IfSome, if◌then◌else◌}
use Rattle.stamp_register.specs.declared.key.Stamp.{Stamp}
use Rattle.cluster_model.specs.Worlds.{Cluster, cluster_of, is_cluster_size}
use Rattle.cluster_model.specs.Histories.{all_executions}
use Rattle.cluster_model.specs.Events.{WorldValue, EventValue, Answer, answer, new_world}
use Rattle.cluster_model.specs.Runs.{Continues, HasHistory, after_answers, happened}
use Rattle.cluster_model.proofs.RunLemmas.{RunsTo, begun, one_more_event}
use Rattle.streams.specs.Lines.{is_skipped}
use Rattle.scripts.specs.Commands.{CommandValue, nodes, event, question}
use Rattle.scripts.specs.Script.{after_event, after_line, after_read, command_in}
use Rattle.scripts.specs.Schedules.{AllGoOn, GoesOn, IsScheduled, LineGoesOn, answers_from, asked_in, cluster_made, event_asked, events_in, run_in, run_with}

-- ---- a line

-- it leaves the cluster that what it asks for leaves
pub after_line_is : (w : Option WorldValue) (line : List ℕ) → after_line w line ≡ after_read w (asked_in line)
after_line_is w line = at (is_skipped line)
  where
    at : (skipped : Bool) → (if skipped then w else after_read w (command_in line)) ≡ after_read w
        (if skipped then None else command_in line)
    at true = refl
    at false = refl

-- ---- the lines behind the one that makes the cluster

pub answers_more : (w : WorldValue) (es : List EventValue) (e : EventValue) →
    answers_from w (es ++ e ∷ []) ≡ answers_from w es ++ answer (after_answers w es (answers_from w es)) e ∷ []
unfolding after_answers
answers_more w [] e = refl
answers_more w (f ∷ es) e = ap (λ (told : List Answer). answer w f ∷ told) (answers_more (after_event w f) es e)

-- a run of a cluster came to this world
abbrev ComesTo : Cluster → List EventValue → WorldValue → Type 0
ComesTo c es w = RunsTo (new_world c) es (answers_from (new_world c) es) w

abbrev Comes : Cluster → List EventValue → Type 0
Comes c es = (w : WorldValue) × ComesTo c es w

one_more : (c : Cluster) (es : List EventValue) (w : WorldValue) (e : EventValue) → ComesTo c es w →
    Continues w (after_event w e) (happened w e (answer w e)) → ComesTo c (es ++ e ∷ []) (after_event w e)
one_more c es w e came goes =
    let answered : answers_from (new_world c) es ++ answer w e ∷ [] ≡ answers_from (new_world c) (es ++ e ∷ []) =
    ap (λ (v : WorldValue). answers_from (new_world c) es ++ answer v e ∷ []) came.now_is ∙
    sym (answers_more (new_world c) es e) in
    subst (λ (told : List Answer). RunsTo (new_world c) (es ++ e ∷ []) told (after_event w e)) answered
    (one_more_event (new_world c) es (answers_from (new_world c) es) w came e (answer w e) (after_event w e) (inr refl)
    refl goes)

-- whatever run came so far goes on by lines
abbrev AreMore : Cluster → List (List ℕ) → Type 0
AreMore c lines = (es : List EventValue) (w : WorldValue) → ComesTo c es w → AllGoOn (Some w) lines →
    Comes c (es ++ events_in lines)

more_by : (c : Cluster) (lines : List (List ℕ)) → AreMore c lines → (es : List EventValue) (w : WorldValue) →
    ComesTo c es w
    → (o : Option CommandValue) → IfSome o (GoesOn (Some w)) → AllGoOn (after_read (Some w) o) lines →
    Comes c (es ++ (event_asked o ++ events_in lines))
more_by c lines more es w came None goes all = more es w came all
more_by c lines more es w came (Some (nodes count cap)) goes all = more es w came all
more_by c lines more es w came (Some (question node asked)) goes all = more es w came all
more_by c lines more es w came (Some (event e)) goes all =
    subst (Comes c) (append_assoc es (e ∷ []) (events_in lines))
    (more (es ++ e ∷ []) (after_event w e) (one_more c es w e came goes) all)

more_lines : (c : Cluster) (lines : List (List ℕ)) → AreMore c lines
more_lines c [] = λ es w came all. (w, subst (λ (es : List EventValue). ComesTo c es w) (sym (append-nil es)) came)
more_lines c (line ∷ lines) = λ es w came all.
    more_by c lines (more_lines c lines) es w came (asked_in line) all.0
    (subst (λ (v : Option WorldValue). AllGoOn v lines) (after_line_is (Some w) line) all.1)

-- ---- all lines

none_below : (n cap : ℕ) (stamp : Stamp) (term : ℕ) → all_executions (cluster_of n cap) [] stamp term ≡ 0
none_below zero cap stamp term = refl
none_below (suc n) cap stamp term = ap (λ (m : ℕ). 0 + m) (none_below n cap stamp term)

no_executions : (c : Cluster) (stamp : Stamp) (term : ℕ) → all_executions c [] stamp term ≡ 0
no_executions c stamp term = none_below c.nodes c.trace_cap stamp term

are_scheduled : (c : Cluster) (es : List EventValue) → HasHistory c [] (new_world c) → Comes c es →
    IsScheduled (record { cluster = c; events = es })
are_scheduled c es new came = record {
  history = subst (HasHistory c _) came.1.now_is (came.1.history c [] new);
  executions = λ stamp term.
      let none = no_executions c stamp term in
      let told = came.1.executions c [] new stamp term in
      omega (arith, none, told);
  honest = came.1.honest c [] new;
}

start_by : (lines : List (List ℕ)) → (AllGoOn None lines → IfSome (run_in lines) IsScheduled) →
    (o : Option CommandValue) → IfSome o (GoesOn None)
    → AllGoOn (after_read None o) lines → IfSome (run_with (cluster_made o) lines (run_in lines)) IsScheduled
start_by lines later None goes all = later all
start_by lines later (Some (event e)) goes all = later all
start_by lines later (Some (question node asked)) goes all = later all
start_by lines later (Some (nodes count cap)) goes all = by_size (is_cluster_size count) refl all
  where
    by_size : (b : Bool) → is_cluster_size count ≡ b → AllGoOn
        (if b then Some (new_world (cluster_of count cap)) else None) lines
        → IfSome (run_with (if b then Some (cluster_of count cap) else None) lines (run_in lines)) IsScheduled
    by_size true size all = are_scheduled (cluster_of count cap) (events_in lines) (goes size)
        (more_lines (cluster_of count cap) lines [] (new_world (cluster_of count cap))
        (begun (new_world (cluster_of count cap))) all)
    by_size false size all = later all

-- lines that go on, from before there is a cluster
pub all_scheduled : (lines : List (List ℕ)) → AllGoOn None lines → IfSome (run_in lines) IsScheduled
all_scheduled [] all = tt
all_scheduled (line ∷ lines) all =
    start_by lines (all_scheduled lines) (asked_in line) all.0
    (subst (λ (v : Option WorldValue). AllGoOn v lines) (after_line_is None line) all.1)

-- ---- in a loop over lines

-- that what is left goes on says that all do
abbrev pub IfRestGoesOn : List (List ℕ) → ℕ → Option WorldValue → Type 0
IfRestGoesOn lines n w = AllGoOn w (drop n lines) → AllGoOn None lines

pub rest_goes_on : (lines : List (List ℕ)) (n m : ℕ) (w next : Option WorldValue) (line : List ℕ) → n < length lines →
    line ≡ get_or lines n line → m ≡ n + 1
    → next ≡ after_line w line → LineGoesOn w line → IfRestGoesOn lines n w → IfRestGoesOn lines m next
rest_goes_on lines n m w next line h e last after goes so_far rest =
    let here : drop n lines ≡ line ∷ drop (n + 1) lines = drop_more lines n line h ∙
    ap (λ (x : List ℕ). x ∷ drop (n + 1) lines) (sym e) in
    so_far (subst (AllGoOn w) (sym here) (goes, subst₂ AllGoOn after (ap (λ (k : ℕ). drop k lines) last) rest))

pub all_go_on : (lines : List (List ℕ)) (n : ℕ) (w : Option WorldValue) → n ≡ length lines → IfRestGoesOn lines n w →
    IfSome (run_in lines) IsScheduled
all_go_on lines n w end so_far =
    let none : drop n lines ≡ [] = drop_all n lines (omega (arith, end)) in
    all_scheduled lines (so_far (subst (AllGoOn w) (sym none) tt))
