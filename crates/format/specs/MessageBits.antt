-- What is sent in a message's minute, a message frame bit by bit, and an entry's bytes by its kind, in the numbers of document 02, 7.
-- Assumes nothing.
use Rattle.std.specs.Prelude.{ℕ, ◌-◌, ◌%◌, ◌<◌, List, [], ◌∷◌, ◌++◌, map, true, ◌≢◌, ◌≡◌, length, take, drop, get_or, replicate}
use Rattle.bits.specs.Bits.{bits}
use Rattle.plan.specs.declared.Plan.{Plan}
use Rattle.messages.specs.Message.{Schedule, legal_messages, plain}
use Rattle.messages.specs.Theorems.{nth}
use Rattle.format.specs.Frame.{Sent, sent_by}
use Rattle.format.specs.Inverting.{from}
use Rattle.format.specs.Entry.{sent_entry, entry_bytes}
use Rattle.format.specs.Message.{message_frame, message_entry, time, message, content_at}

-- by a plan p whose messages are legal, in minute m
pub record SentIn (p : Schedule) (m : ℕ) : Type 0 where
  -- the message of that minute, with its data
  pub of-message : (k : ℕ) → k < length p.messages → (nth p.messages k).minute ≡ m
      → content_at p m ≡ message (sent_by p.plan m) (nth p.messages k).payload
  -- where there is none, the time frame
  pub of-time : ((k : ℕ) → k < length p.messages → (nth p.messages k).minute ≢ m) → content_at p m ≡ time (sent_by p.plan m)

-- theorem: in every minute; by a plan without messages always the time frame
pub record MessagesSent : Type 0 where
  pub in-minute : (p : Schedule) (m : ℕ) → legal_messages p.messages ≡ true → SentIn p m
  pub without : (p : Plan) (m : ℕ) → content_at (plain p) m ≡ time (sent_by p m)

-- the numbers of the data bits in the frame, data[41] first
unfoldable pub data_numbers : List ℕ
data_numbers = from 13 6 ++ from 20 9 ++ from 30 9 ++ from 40 9 ++ from 50 9

-- the bits of f at the data bits' numbers
unfoldable pub data_bits : List ℕ → List ℕ
data_bits f = map (λ k. get_or f k 0) data_numbers

-- the frame f of a message with data d in the place of s
pub record LaidOut (f : List ℕ) (s : Sent) (d : ℕ) : Type 0 where
  pub sync : take 13 f ≡ 1 ∷ 1 ∷ 0 ∷ 1 ∷ 0 ∷ 0 ∷ 0 ∷ 1 ∷ 1 ∷ 1 ∷ 0 ∷ 1 ∷ 0 ∷ []
  pub data-bits : data_bits f ≡ bits 42 d
  pub time0 : get_or f 19 0 ≡ s.minute % 2
  pub notice : get_or f 49 0 ≡ s.notice
  pub unread : (get_or f 29 0 ≡ 0) × (get_or f 39 0 ≡ 0)
  pub rest : drop 59 f ≡ replicate (s.seconds - 59) 0

-- theorem: every message frame is laid out so
abbrev pub MessageLaidOut : Type 0
MessageLaidOut = (s : Sent) (d : ℕ) → LaidOut (message_frame s d) s d

-- theorem: bytes 4 to 11 of a message's entry, and bytes 11 to 17 of a time frame's, in the papers' numbers
pub record EntryKinds : Type 0 where
  pub of-message : (m seconds notice d : ℕ)
      → drop 4 (take 12 (entry_bytes (message_entry m seconds notice d))) ≡ seconds ∷ 0 ∷ 0 ∷ 0 ∷ notice ∷ 0 ∷ 1 ∷ 1 ∷ []
  pub of-time : (s : Sent) (i : ℕ) → drop 11 (entry_bytes (sent_entry s i)) ≡ 0 ∷ 0 ∷ 0 ∷ 0 ∷ 0 ∷ 0 ∷ 0 ∷ []
