-- What is sent in a minute, by the next message.
-- Assumes nothing.
use Prim.Native.Nat.{ℕ, suc, ◌-◌, ◌/◌, ◌%◌, ◌<◌}
use mathlib.Core.Bool.{true}
use mathlib.Core.List.{List}
use mathlib.Core.Path.{◌≡◌, ap, ◌∙◌}
use lib.ListN.{length}
use Rattle.calendar.specs.Calendar.{minute_count}
use Rattle.plan.specs.declared.Plan.{Plan}
use Rattle.messages.specs.Message.{Message, legal_messages, legal_schedule}
use Rattle.messages.specs.Bytes.{message_at, messages_from, messages_in, schedule_of}
use Rattle.messages.specs.Walk.{remaining, NextIs}
use Rattle.messages.proofs.Laws.{legal-parts}
use Rattle.messages.proofs.Schedules.{messages-legal}
use Rattle.messages.proofs.Stepping.{rest-rises, cons, its-minute, not-next}
use Rattle.format.specs.Frame.{sent_by}
use Rattle.format.specs.Message.{time, message, content_of, content_at}
use Rattle.format.proofs.Contents.{here, by-remaining, none_here}

-- a plan with the messages that bytes hold
module _ (p : Plan) (s : List ℕ) where
  module _ (legal : legal_schedule (schedule_of p s) ≡ true) where
    messages-ok : legal_messages (messages_in s) ≡ true
    messages-ok = messages-legal (schedule_of p s) legal

    pub whole : length s % 10 ≡ 0
    whole = (legal-parts s messages-ok).0

    module _ (m k due : ℕ) (at : NextIs s m k due) where
      by-rest : content_at (schedule_of p s) m ≡ content_of (remaining m (messages_in s)) (sent_by p m)
      unfolding content_at sent_by
      by-rest = by-remaining (sent_by p m) (messages_in s)

      pub message-sent : m < minute_count → m ≡ due → content_at (schedule_of p s) m ≡ message (sent_by p m) (message_at s k).payload
      message-sent r e =
          by-rest
          ∙ ap (λ (cs : List Message). content_of cs (sent_by p m)) (cons s messages-ok m k due at r e)
          ∙ here (sent_by p m) (message_at s k) (messages_from s (suc k) (length s / 10 - suc k)) (unfold sent_by in its-minute s messages-ok m k due at r e)

      pub time-sent : (m ≡ due → ⊥) → content_at (schedule_of p s) m ≡ time (sent_by p m)
      time-sent n =
          by-rest
          ∙ none_here (sent_by p m) (remaining m (messages_in s)) (unfold sent_by in rest-rises s messages-ok m k due at) (unfold sent_by in not-next s messages-ok m k due at n)
