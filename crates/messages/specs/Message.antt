-- A plan with messages, and question 1 of it (document 02, 7, "Message frames").
-- Assumes nothing.
use Rattle.std.specs.Prelude.{ℕ, ◌+◌, ◌^◌, Bool, true, ◌&&◌, List, [], ◌∷◌, leb, ltb, length}
use Rattle.calendar.specs.Calendar.{minute_count}
use Rattle.plan.specs.Plan.{legal_plan}
use Rattle.plan.specs.declared.Plan.{Plan}

-- a minute and its data
pub record Message : Type 0 where
  pub minute : ℕ
  pub payload : ℕ

-- "up to four minutes"
abbrev pub message_limit : ℕ
message_limit = 4

-- "each with data below 2^42"
abbrev pub payload_limit : ℕ
payload_limit = 2 ^ 42

-- "the minutes in range and strictly rising", the first of them b or later, and all data below the limit
unfoldable pub rising : ℕ → List Message → Bool
rising b [] = true
rising b (c ∷ cs) = leb b c.minute && ltb c.minute minute_count && ltb c.payload payload_limit && rising (c.minute + 1) cs

-- what question 1 also wants
unfoldable pub legal_messages : List Message → Bool
legal_messages cs = leb (length cs) message_limit && rising 0 cs

-- the six numbers of document 01, and the messages beside them
pub record Schedule : Type 0 where
  pub plan : Plan
  pub messages : List Message

-- question 1
unfoldable pub legal_schedule : Schedule → Bool
legal_schedule p = legal_plan p.plan && legal_messages p.messages

-- a plan without messages
abbrev pub plain : Plan → Schedule
plain p = record { plan = p; messages = [] }
