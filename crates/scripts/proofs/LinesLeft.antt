-- The cluster that lines leave is that of the run that they ask for, and each line is answered by it.
use Rattle.std.proofs.Common.{◌≡◌, ℕ, Bool, true, false, List, [], ◌∷◌, ◌++◌, Option, Some, None, refl, sym, ap, ◌∙◌, append_assoc}
use Rattle.std.specs.Prelude.{option_map, if◌then◌else◌}
use Rattle.cluster_model.specs.Worlds.{cluster_of, is_cluster_size}
use Rattle.cluster_model.specs.Events.{WorldValue, new_world}
use Rattle.cluster_model.specs.Runs.{after_answers}
use Rattle.scripts.specs.Commands.{CommandValue, nodes, event, question}
use Rattle.scripts.specs.Script.{after_event, after_line, after_read, line_output, text_from}
use Rattle.scripts.specs.Schedules.{answers_from, asked_in, cluster_made, event_asked, events_in, run_in, run_with, world_left}
use Rattle.scripts.specs.Laws.{after_lines}
use Rattle.scripts.proofs.Schedules.{after_line_is}

-- ---- behind the line that makes the cluster

abbrev LeaveFrom : List (List ℕ) → Type 0
LeaveFrom lines = (w : WorldValue) → after_lines (Some w) lines ≡ Some
    (after_answers w (events_in lines) (answers_from w (events_in lines)))

leave_by : (lines : List (List ℕ)) → LeaveFrom lines → (w : WorldValue) (o : Option CommandValue) →
    after_lines (after_read (Some w) o) lines ≡ Some (after_answers w (event_asked o ++ events_in lines)
    (answers_from w (event_asked o ++ events_in lines)))
unfolding after_answers
leave_by lines rest w None = rest w
leave_by lines rest w (Some (nodes count cap)) = rest w
leave_by lines rest w (Some (question node asked)) = rest w
leave_by lines rest w (Some (event e)) = rest (after_event w e)

leave_from : (lines : List (List ℕ)) → LeaveFrom lines
unfolding after_answers
leave_from [] = λ w. refl
leave_from (line ∷ lines) = λ w.
    ap (λ (v : Option WorldValue). after_lines v lines) (after_line_is (Some w) line) ∙
    leave_by lines (leave_from lines) w (asked_in line)

-- ---- from the start

start_by : (lines : List (List ℕ)) → after_lines None lines ≡ option_map world_left (run_in lines) →
    (o : Option CommandValue) →
    after_lines (after_read None o) lines ≡ option_map world_left (run_with (cluster_made o) lines (run_in lines))
start_by lines later None = later
start_by lines later (Some (event e)) = later
start_by lines later (Some (question node asked)) = later
start_by lines later (Some (nodes count cap)) = by_size (is_cluster_size count)
  where
    by_size : (b : Bool) → after_lines (if b then Some (new_world (cluster_of count cap)) else None) lines
        ≡ option_map world_left (run_with (if b then Some (cluster_of count cap) else None) lines (run_in lines))
    by_size true = leave_from lines (new_world (cluster_of count cap))
    by_size false = later

pub lines_leave : (lines : List (List ℕ)) → after_lines None lines ≡ option_map world_left (run_in lines)
lines_leave [] = refl
lines_leave (line ∷ lines) =
    ap (λ (v : Option WorldValue). after_lines v lines) (after_line_is None line) ∙
    start_by lines (lines_leave lines) (asked_in line)

-- ---- what is printed

after_lines-push : (w : Option WorldValue) (before : List (List ℕ)) (line : List ℕ) →
    after_lines w (before ++ line ∷ []) ≡ after_line (after_lines w before) line
after_lines-push w [] line = refl
after_lines-push w (first ∷ before) line = after_lines-push (after_line w first) before line

text_at : (w : Option WorldValue) (before : List (List ℕ)) (line : List ℕ) (behind : List (List ℕ)) →
    text_from line_output w (before ++ line ∷ behind) ≡
    text_from line_output w before ++ (line_output (after_lines w before) line ++
    text_from line_output (after_line (after_lines w before) line) behind)
text_at w [] line behind = refl
text_at w (first ∷ before) line behind =
    ap (λ (text : List ℕ). line_output w first ++ text) (text_at (after_line w first) before line behind)
    ∙ sym (append_assoc (line_output w first) (text_from line_output (after_line w first) before) _)

pub lines_are_answered : (before : List (List ℕ)) (line : List ℕ) (behind : List (List ℕ)) →
    text_from line_output None (before ++ line ∷ behind) ≡
    text_from line_output None before ++ (line_output (after_lines None before) line ++
    text_from line_output (after_lines None (before ++ line ∷ [])) behind)
lines_are_answered before line behind =
    text_at None before line behind
    ∙ ap (λ (v : Option WorldValue). text_from line_output None before ++
    (line_output (after_lines None before) line ++ text_from line_output v behind))
    (sym (after_lines-push None before line))
