-- A message frame (document 02, 7; source document 002), its entry as sent, and what a plan with messages sends in a minute.
-- Assumes nothing.
use Rattle.std.specs.Prelude.{ℕ, ◌-◌, ◌%◌, Bool, true, false, List, [], ◌∷◌, ◌++◌, ◌≡◌, eqb, take, drop, replicate}
use Rattle.bits.specs.Bits.{pick, bits, number}
use Rattle.messages.specs.Message.{Message, Schedule}
use Rattle.format.specs.Frame.{min_frame, Sent, sent_by, frame}
use Rattle.format.specs.Entry.{Entry, sent_entry}

-- ---- the frame

-- "Its sync word is 1101000111010", bits 0 to 12
abbrev pub message_sync_word : ℕ
message_sync_word = 0b1101000111010

unfoldable pub message_sync : List ℕ
message_sync = bits 13 message_sync_word

-- bits 0 to 58 of a message with the data bits d, data[41] first: "its data[41..0] lie in 13–18, 20–28, 30–38, 40–48 and 50–58, time[0] in
-- 19, notice in 49"; bits 29 and 39 are sent 0 and not read, as in a time frame
unfoldable pub message_body : List ℕ → ℕ → ℕ → List ℕ
message_body d echo notice =
    message_sync ++ take 6 d ++ (echo ∷ [])
    ++ take 9 (drop 6 d) ++ (0 ∷ []) ++ take 9 (drop 15 d) ++ (0 ∷ []) ++ take 9 (drop 24 d)
    ++ (notice ∷ []) ++ drop 33 d

-- a message with data d in the place of the time frame of s: of s its minute, length and notice are sent
unfoldable pub message_frame : Sent → ℕ → List ℕ
message_frame s d = message_body (bits 42 d) (s.minute % 2) s.notice ++ replicate (s.seconds - min_frame) 0

-- whether a frame has a message's sync word
unfoldable pub is_message : List ℕ → Bool
is_message f = eqb (number (take 13 f)) message_sync_word

-- the data bits that a frame holds
unfoldable pub data_in : List ℕ → List ℕ
data_in f = take 6 (drop 13 f) ++ take 9 (drop 20 f) ++ take 9 (drop 30 f) ++ take 9 (drop 40 f) ++ take 9 (drop 50 f)

-- "A message entry has the counted minute, length and notice; state, leap, row and repair are 0, echo is 1."
unfoldable pub message_entry : ℕ → ℕ → ℕ → ℕ → Entry
message_entry m seconds notice d =
    record {
      minute = m;
      seconds = seconds;
      daylight = 0;
      leap = 0;
      row = 0;
      notice = notice;
      place = 0;
      echo = 1;
      message = 1;
      payload = d;
    }

-- ---- what is sent in a minute: a time frame, or a message in its place

pub data Content : Type 0 where
  time : Sent → Content
  message : Sent → ℕ → Content

-- by the messages of a plan
unfoldable pub content_of : List Message → Sent → Content
content_of [] s = time s
content_of (c ∷ cs) s = let r = content_of cs s in pick (eqb c.minute s.minute) (message s c.payload) r

-- by a plan with its messages, in minute m
unfoldable pub content_at : Schedule → ℕ → Content
content_at p m = content_of p.messages (sent_by p.plan m)

-- whether it is a time frame
abbrev pub is_time : Content → Bool
is_time (time s) = true
is_time (message s d) = false

-- a time frame is sent in minute m
abbrev pub TimeAt : Schedule → ℕ → Type 0
TimeAt p m = is_time (content_at p m) ≡ true

-- its frame
abbrev pub frame_of : Content → List ℕ
frame_of (time s) = frame s
frame_of (message s d) = message_frame s d

-- its entry as sent, with place i inverted where it is a time frame
abbrev pub entry_for : Content → ℕ → Entry
entry_for (time s) i = sent_entry s i
entry_for (message s d) i = message_entry s.minute s.seconds s.notice d
