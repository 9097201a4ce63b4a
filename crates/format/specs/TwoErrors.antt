-- Two inverted bits that are read as another minute (document 01, "Known blunders": who corrects one error does not see every two;
-- document 02, 2).
-- Assumes nothing.
use Rattle.std.specs.Prelude.{ℕ, Bool, true, List, ◌≡◌}
use Rattle.timeword.specs.Theorems.{time_place}
use Rattle.plan.specs.Plan.{legal_plan}
use Rattle.plan.specs.declared.Plan.{Plan}
use Rattle.format.specs.Frame.{Sent, sent_by, frame}
use Rattle.format.specs.Inverting.{inverted}
use Rattle.format.specs.Entry.{sent_entry}
use Rattle.format.specs.Received.{with_echo}
use Rattle.format.specs.Questions.{start}
use Rattle.format.specs.Next.{entry, read_next}

-- the frame of minute 0 with time[i] and time[j] inverted
abbrev pub two_inverted : Plan → ℕ → ℕ → List ℕ
two_inverted p i j = inverted (time_place j) (inverted (time_place i) (frame (sent_by p 0)))

-- the same, sent in another minute
unfoldable pub with_minute : ℕ → Sent → Sent
with_minute m s =
    record {
      minute = m;
      daylight = s.daylight;
      leap = s.leap;
      row = s.row;
      seconds = s.seconds;
      notice = s.notice;
    }

-- theorem: by every legal plan, alone or of a recording. time[1] and time[2] inverted read as minute 32,774 with place 16 and echo 1, as if a
-- frame of that minute had one inverted bit; time[0] and time[1] inverted read as minute 16,387 with place 17 and echo 0
abbrev pub TwoErrorsMistaken : Type 0
TwoErrorsMistaken =
    (p : Plan) (alone : Bool) → legal_plan p ≡ true
    → (read_next start alone (two_inverted p 1 2) ≡ entry (sent_entry (with_minute 32_774 (sent_by p 0)) 16))
    × (read_next start alone (two_inverted p 0 1) ≡ entry (with_echo 0 (sent_entry (with_minute 16_387 (sent_by p 0)) 17)))
