-- Question 1 of a plan with messages.
-- Assumes nothing.
use mathlib.Core.Bool.{Bool, true, false, and-false, ◌&&◌}
use mathlib.Core.List.{[]}
use mathlib.Core.Path.{◌≡◌, refl, ap, ◌∙◌}
use Rattle.bits.proofs.Tests.{and-true, both_true}
use Rattle.plan.specs.Plan.{legal_plan}
use Rattle.plan.specs.declared.Plan.{Plan}
use Rattle.messages.specs.Message.{rising, legal_messages, Schedule, legal_schedule, plain}
use Rattle.messages.specs.Bytes.{messages_from, message_count, messages_in}
use Rattle.messages.specs.Theorems.{ScheduleLegal}

module _ (p : Schedule) where
  pub plan-illegal : legal_plan p.plan ≡ false → legal_schedule p ≡ false
  unfolding legal_schedule
  plan-illegal h = rw h

  pub messages-illegal : legal_messages p.messages ≡ false → legal_schedule p ≡ false
  unfolding legal_schedule
  messages-illegal h = ap (λ b. legal_plan p.plan && b) h ∙ and-false (legal_plan p.plan)

  pub by-messages : legal_plan p.plan ≡ true → legal_schedule p ≡ legal_messages p.messages
  unfolding legal_schedule
  by-messages h = rw h

  pub both-legal : legal_plan p.plan ≡ true → legal_messages p.messages ≡ true → legal_schedule p ≡ true
  unfolding legal_schedule
  both-legal h g = and-true h g

  parts : legal_schedule p ≡ true → (legal_plan p.plan ≡ true) × (legal_messages p.messages ≡ true)
  unfolding legal_schedule
  parts = both_true (legal_plan p.plan) (legal_messages p.messages)

  module _ (legal : legal_schedule p ≡ true) where
    pub plan-legal : legal_plan p.plan ≡ true
    plan-legal = (parts legal).0

    pub messages-legal : legal_messages p.messages ≡ true
    messages-legal = (parts legal).1

-- no messages are legal, and no bytes hold none
pub none-legal : legal_messages [] ≡ true
unfolding legal_messages rising
none-legal = refl

pub none_in : messages_in [] ≡ []
unfolding messages_in message_count messages_from
none_in = refl

and_yes : (b : Bool) → (b && true) ≡ b
and_yes true = refl
and_yes false = refl

pub plain-legal : (p : Plan) → legal_schedule (plain p) ≡ legal_plan p
unfolding legal_schedule
plain-legal p = rw none-legal (and_yes (legal_plan p))

pub schedule-legal : ScheduleLegal
schedule-legal = (λ p. (parts p, λ h. both-legal p h.0 h.1), λ p. (plain-legal p, rw none_in))
