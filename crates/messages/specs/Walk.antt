-- From minute to minute and from message to message. No section of the papers: steps of the code that writes, for contracts of inner functions.
-- Assumes nothing.
use Rattle.std.specs.Prelude.{ℕ, ◌-◌, ◌/◌, ◌≤◌, List, [], ◌∷◌, ◌≡◌, ltb, length}
use Rattle.bits.specs.Bits.{pick}
use Rattle.calendar.specs.Calendar.{minute_count}
use Rattle.messages.specs.Message.{Message}
use Rattle.messages.specs.Bytes.{message_size, messages_from, messages_in}

-- of messages whose minutes rise, those from minute m on
unfoldable pub remaining : ℕ → List Message → List Message
remaining m [] = []
remaining m (c ∷ cs) = let r = remaining m cs in pick (ltb c.minute m) r (c ∷ cs)

-- the minute of the next message, or the end of the range where there is none
unfoldable pub next_minute : List Message → ℕ
next_minute [] = minute_count
next_minute (c ∷ cs) = c.minute

-- of the messages that bytes hold, those from message k on
abbrev pub all_from : List ℕ → ℕ → List Message
all_from s k = messages_from s k (length s / message_size - k)

-- message k is the first from minute m on, and due is its minute; where there is none, k is the number of messages and due the end of the range
pub record NextIs (s : List ℕ) (m k due : ℕ) : Type 0 where
  pub inside : k ≤ length s / message_size
  pub rest : all_from s k ≡ remaining m (messages_in s)
  pub next : due ≡ next_minute (all_from s k)
