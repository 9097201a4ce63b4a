-- The next message, from minute to minute.
-- Assumes nothing.
use Prim.Native.Nat.{ℕ, suc, ◌+◌, ◌/◌, ◌<◌}
use mathlib.Core.Bool.{true}
use mathlib.Core.List.{List, ◌∷◌}
use mathlib.Core.Path.{◌≡◌, sym, ap, ◌∙◌}
use native.Mathlib.Decide.{dec_lt}
use native.Mathlib.Numerals.{add-one}
use native.Mathlib.Omega.{arith}
use lib.ListN.{length}
use Rattle.calendar.specs.Calendar.{minute_count}
use Rattle.messages.specs.Message.{payload_limit, rising, legal_messages}
use Rattle.messages.specs.Bytes.{message_size, message_at, messages_in}
use Rattle.messages.specs.Walk.{remaining, next_minute, all_from, NextIs}
use Rattle.messages.proofs.Laws.{none_from, some-from, legal-parts}
use Rattle.messages.proofs.Minutes.{rising-cons, remaining-rise, same-remain, rest-remain}

-- the minute of message k, and the end of the range
pub minute-next : (s : List ℕ) (k : ℕ) → k < length s / message_size → next_minute (all_from s k) ≡ (message_at s k).minute
unfolding next_minute
minute-next s k h = ap next_minute (some-from s k h)

pub minute-none : (s : List ℕ) (k : ℕ) → (k < length s / message_size → ⊥) → next_minute (all_from s k) ≡ minute_count
unfolding next_minute
minute-none s k h = ap next_minute (none_from s k (omega arith))

module _ (s : List ℕ) (legal : legal_messages (messages_in s) ≡ true) (m k due : ℕ) (at : NextIs s m k due) where
  rises : rising 0 (messages_in s) ≡ true
  rises = (legal-parts s legal).2

  pub rest-rises : rising m (remaining m (messages_in s)) ≡ true
  rest-rises = remaining-rise 0 m (messages_in s) rises

  -- the minute has a message
  module _ (range : m < minute_count) (e : m ≡ due) where
    pub index : k < length s / message_size
    index = elim (dec_lt k (length s / message_size)) [
      | yes h ↦ h
      | no h ↦ let d : due ≡ minute_count = at.next ∙ minute-none s k h in absurd (omega arith)
    ]

    pub cons : remaining m (messages_in s) ≡ message_at s k ∷ all_from s (suc k)
    cons = sym at.rest ∙ some-from s k index

    pub its-minute : (message_at s k).minute ≡ m
    its-minute = sym (minute-next s k index) ∙ sym at.next ∙ sym e

    pub its-data : (message_at s k).payload < payload_limit
    its-data = (rising-cons m (message_at s k) (all_from s (suc k)) (ap (rising m) (sym cons) ∙ rest-rises)).1

    pub step-on : (d : ℕ) → d ≡ next_minute (all_from s (k + 1)) → NextIs s (m + 1) (k + 1) d
    step-on d h =
        record {
          inside = omega (arith, index);
          rest = rw (add-one k, add-one m) (sym (rest-remain 0 m (messages_in s) (all_from s (suc k)) (message_at s k) rises cons its-minute));
          next = h;
        }

  -- it has none
  module _ (n : m ≡ due → ⊥) where
    pub not-next : next_minute (remaining m (messages_in s)) ≡ m → ⊥
    not-next h = n (sym h ∙ ap next_minute (sym at.rest) ∙ sym at.next)

    pub step_past : NextIs s (m + 1) k due
    step_past =
        record {
          inside = at.inside;
          rest = at.rest ∙ rw (add-one m) (sym (same-remain 0 m (messages_in s) rises not-next));
          next = at.next;
        }
