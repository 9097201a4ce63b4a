-- The messages of a plan (document 02, 7) as the bytes that a caller gives: ten for each, its minute (4) and its data (6), big-endian.
-- Assumes nothing.
use Rattle.std.specs.Prelude.{ℕ, zero, suc, ◌+◌, ◌*◌, ◌/◌, ◌%◌, List, [], ◌∷◌, eqb, length, get_or}
use Rattle.bits.specs.Bits.{pick}
use Rattle.plan.specs.declared.Plan.{Plan}
use Rattle.messages.specs.Message.{Message, message_limit, Schedule}

-- the bytes of a message
abbrev pub message_size : ℕ
message_size = 10

-- the number that n bytes from a place on write, most significant first
unfoldable pub big_endian : List ℕ → ℕ → ℕ → ℕ
big_endian s at zero = 0
big_endian s at (suc n) = big_endian s at n * 256 + get_or s (at + n) 0

-- message k, counted from 0
unfoldable pub message_at : List ℕ → ℕ → Message
message_at s k = record { minute = big_endian s (k * message_size) 4; payload = big_endian s (k * message_size + 4) 6 }

-- n messages from message k on
unfoldable pub messages_from : List ℕ → ℕ → ℕ → List Message
messages_from s k zero = []
messages_from s k (suc n) = message_at s k ∷ messages_from s (suc k) n

-- how many messages bytes hold; bytes that are no whole messages are taken as one more than a plan may have
unfoldable pub message_count : List ℕ → ℕ
message_count s = pick (eqb (length s % message_size) 0) (length s / message_size) (message_limit + 1)

-- the messages that bytes hold
unfoldable pub messages_in : List ℕ → List Message
messages_in s = messages_from s 0 (message_count s)

-- a plan with the messages that bytes hold
abbrev pub schedule_of : Plan → List ℕ → Schedule
schedule_of p s = record { plan = p; messages = messages_in s }
