-- What is read of a script of threads is what the grammar says.
use Rattle.std.specs.Prelude.{◌≡◌, ◌↔◌, ℕ, List, [], ◌++◌, Some, Ok, Err}
use Rattle.thread_plans.specs.Plans.{PlanValue, plan_in}
use Rattle.thread_plans.specs.BadLines.{bad_lines, bad_said}
use Rattle.thread_plans.specs.Grammar.{IsRefusedAt, IsScriptOf}

-- a text is a script of one plan at most
abbrev pub ScriptHasOnePlan : Type 0
ScriptHasOnePlan = (text : List ℕ) (p q : PlanValue) → IsScriptOf text p → IsScriptOf text q → p ≡ q

-- it is read as the plan that it is a script of
abbrev pub PlanIsRead : Type 0
PlanIsRead = (text : List ℕ) (p : PlanValue) → (plan_in text ≡ Ok p) ↔ IsScriptOf text p

-- and refused at the line that no plan goes on with
abbrev pub LineIsRefused : Type 0
LineIsRefused = (text : List ℕ) (number : ℕ) → (plan_in text ≡ Err number) ↔ IsRefusedAt text number

-- of a script with a plan nothing is said
abbrev pub NothingIsSaid : Type 0
NothingIsSaid = (text : List ℕ) (p : PlanValue) → plan_in text ≡ Ok p → bad_lines text ≡ []

-- of any other the line that is refused is named first
abbrev pub RefusedIsNamed : Type 0
RefusedIsNamed = (text : List ℕ) (number : ℕ) → plan_in text ≡ Err number →
    (why : List ℕ) × (rest : List (List ℕ)) × (bad_lines text ≡ bad_said number (Some why) ++ rest)
