-- One inverted bit anywhere in a time frame (document 02, 3), read alone.
-- Assumes nothing.
use Rattle.std.specs.Prelude.{ℕ, ◌-◌, ◌≤◌, ◌<◌, true, List, ◌≡◌, ltb, eqb, length, get_or}
use Rattle.bits.specs.Bits.{pick, invert_bit}
use Rattle.calendar.specs.Calendar.{minute_count}
use Rattle.plan.specs.Plan.{legal_plan}
use Rattle.plan.specs.declared.Plan.{Plan}
use Rattle.format.specs.Frame.{min_frame, Sent, sent_by, frame}
use Rattle.format.specs.Inverting.{frame_places}
use Rattle.format.specs.Entry.{Entry, entry_size, sent_entry}
use Rattle.format.specs.Received.{with_echo}
use Rattle.format.specs.Questions.{start}
use Rattle.format.specs.Next.{Answer, refused, entry, one_outcome, read_one}

-- an entry with another notice
unfoldable pub with_notice : ℕ → Entry → Entry
with_notice b e =
    record {
      minute = e.minute;
      seconds = e.seconds;
      daylight = e.daylight;
      leap = e.leap;
      row = e.row;
      notice = b;
      place = e.place;
      echo = e.echo;
      message = e.message;
      payload = e.payload;
    }

-- what reading gives where bit k is inverted: "in the sync word the answer is 8" (bits 0 to 12); "in the 31 bits or at 19, 29 or 39 all
-- fields but repair and echo read as sent", with place 0 and echo 0 at 19, and else with the bit's place, which is 0 at 29 and 39, and
-- echo 1; "at 49 only the notice differs"; "in the state word 9" (47, 48 and 50 to 52), "in the next-change word 10" (53 to 58),
-- "behind bit 58 it is 13"
unfoldable pub one_bit_answer : Sent → ℕ → Answer
one_bit_answer s k =
    pick (ltb k 13) (refused 8)
    (pick (eqb k 19) (entry (with_echo 0 (sent_entry s 0)))
    (pick (ltb k 47) (entry (sent_entry s (get_or frame_places k 0)))
    (pick (eqb k 49) (entry (with_notice (1 - s.notice) (sent_entry s 0)))
    (pick (ltb k 53) (refused 9)
    (pick (ltb k min_frame) (refused 10)
    (refused 13))))))

-- theorem: every time frame that a legal plan gives a minute of the range, of 59, 60 and 61 bits alike, with any one of its bits inverted, read
-- alone with entry space enough
abbrev pub AnyBitInverted : Type 0
AnyBitInverted =
    (p : Plan) (m k : ℕ) (buffer : List ℕ) → legal_plan p ≡ true → m < minute_count → k < length (frame (sent_by p m)) → entry_size ≤ length buffer
    → read_one start buffer (invert_bit k (frame (sent_by p m))) ≡ one_outcome buffer (one_bit_answer (sent_by p m) k)
