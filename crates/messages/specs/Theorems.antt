-- What holds of every plan with messages (document 02, 7), and of messages as bytes: the statements that proofs/ proves.
-- Assumes nothing.
use Rattle.std.specs.Prelude.{ℕ, zero, suc, ◌/◌, ◌%◌, ◌^◌, ◌≤◌, ◌<◌, true, false, List, [], ◌∷◌, ◌++◌, map, ◌⊎◌, ◌↔◌, ◌≢◌, ◌≡◌, length, get_or}
use Rattle.bits.specs.Bits.{concat}
use Rattle.plan.specs.Plan.{legal_plan}
use Rattle.plan.specs.declared.Plan.{Plan}
use Rattle.messages.specs.Message.{Message, legal_messages, Schedule, legal_schedule, plain}
use Rattle.messages.specs.Bytes.{message_at, messages_in, schedule_of}

-- message k of a list, counted from 0
abbrev pub nth : List Message → ℕ → Message
nth cs k = get_or cs k (record { minute = 0; payload = 0 })

-- ---- question 1

-- messages are legal exactly if there are "up to four", "each with data below 2^42", "the minutes in range and strictly rising"
abbrev pub MessagesLegal : Type 0
MessagesLegal =
    (cs : List Message)
    → legal_messages cs ≡ true
    ↔ ((length cs ≤ 4)
    × ((k : ℕ) → k < length cs → ((nth cs k).minute < 52_596_000) × ((nth cs k).payload < 2 ^ 42))
    × ((j k : ℕ) → j < k → k < length cs → (nth cs j).minute < (nth cs k).minute))

-- question 1 asks for a legal plan and legal messages; of a plan without messages it asks what it asked before, and no bytes are no messages
abbrev pub ScheduleLegal : Type 0
ScheduleLegal =
    ((p : Schedule) → legal_schedule p ≡ true ↔ ((legal_plan p.plan ≡ true) × (legal_messages p.messages ≡ true)))
    × ((p : Plan) → (legal_schedule (plain p) ≡ legal_plan p) × (schedule_of p [] ≡ plain p))

-- ---- messages as bytes

-- a length that is no multiple of 10, or above 40, is refused; whole messages are read one after the other
abbrev pub BytesLegal : Type 0
BytesLegal =
    (s : List ℕ)
    → ((length s % 10 ≢ 0) ⊎ (40 < length s) → legal_messages (messages_in s) ≡ false)
    × (length s % 10 ≡ 0
    → (length (messages_in s) ≡ length s / 10) × ((k : ℕ) → k < length s / 10 → nth (messages_in s) k ≡ message_at s k))

-- the n low bytes of x, most significant first
unfoldable pub number_bytes : ℕ → ℕ → List ℕ
number_bytes zero x = []
number_bytes (suc n) x = number_bytes n (x / 256) ++ (x % 256 ∷ [])

-- four bytes of the minute and six of the data
unfoldable pub message_bytes : Message → List ℕ
message_bytes c = number_bytes 4 c.minute ++ number_bytes 6 c.payload

-- the bytes of messages hold these messages, whatever their number
abbrev pub BytesOfMessages : Type 0
BytesOfMessages =
    (cs : List Message)
    → ((k : ℕ) → k < length cs → ((nth cs k).minute < 2 ^ 32) × ((nth cs k).payload < 2 ^ 48))
    → messages_in (concat (map message_bytes cs)) ≡ cs
