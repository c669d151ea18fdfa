-- The request of a connection, answered by a node.
use Rattle.std.proofs.Common.{◌≡◌, ℕ, Option, Some, None, refl, subst}
use Rattle.std.specs.Prelude.{MatchOption}
use Rattle.http_routes.specs.Asked.{asked_value}
use Rattle.http_routes.specs.declared.request.Asked.{Asked}
use Rattle.http_steps.specs.Requests.{IsRequestIn}
use Rattle.http_steps.specs.Stages.{IsAnsweredBy}
use Rattle.http_steps.specs.declared.coming.Whole.{Whole}
use Rattle.http_steps.specs.declared.connection.Connection.{Connection}
use Rattle.http_steps.specs.declared.connection.Stage.{Stage}
use Rattle.http_steps.specs.declared.connection.Stage.TheVariants as stages
use Rattle.node_for_c.specs.Serving.{IsAnsweredOver, IsServedTo, asked_in}
use Rattle.node_for_c.specs.declared.registry.Registry.{Registry}
use Rattle.node_for_c.specs.declared.serving.ServedReply.{ServedReply}
use Rattle.std.proofs.Common.{List}

module _ (now : ℕ) (served : ServedReply) (k l : Registry) (whole : Whole) (new : Connection)
    (node : IsServedTo (asked_value whole.asked.now) whole.body.now now served k l) where
  abbrev Over : Stage → Type 0
  Over stage = MatchOption (asked_in stage) ⊥ (λ request. IsAnsweredOver now served.answered k l request new)

  pub answered_over : (stage : Stage) → IsRequestIn stage (Some whole) → IsAnsweredBy served.reply stage new.stage
      → Over stage
  answered_over (stages.Asked request) is by =
      record {
        served = served;
        node = subst (λ (it : Asked). IsServedTo (asked_value it) request.body.items now served k l) is.asked
            (subst (λ (it : List ℕ). IsServedTo (asked_value whole.asked.now) it now served k l) is.body node);
        told = refl;
        stage = by;
      }
  answered_over stages.Head is by = absurd (let no : ◌≡◌ {A = Option Whole} (Some whole) None = is in cc)
  answered_over (stages.Permit coming) is by = absurd (let no : ◌≡◌ {A = Option Whole} (Some whole) None = is in cc)
  answered_over (stages.Body coming) is by = absurd (let no : ◌≡◌ {A = Option Whole} (Some whole) None = is in cc)
  answered_over (stages.Answered request reply) is by =
      absurd (let no : ◌≡◌ {A = Option Whole} (Some whole) None = is in cc)
  answered_over stages.Replied is by = absurd (let no : ◌≡◌ {A = Option Whole} (Some whole) None = is in cc)
  answered_over stages.Gone is by = absurd (let no : ◌≡◌ {A = Option Whole} (Some whole) None = is in cc)
