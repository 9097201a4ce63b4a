-- The leap state by which a message's length is read (document 02, 7: "Its length follows the leap state last read in that month").
-- Assumes nothing.
use Rattle.std.specs.Prelude.{ℕ, Bool, ◌&&◌, List, [], ◌∷◌, ◌≡◌, eqb}
use Rattle.bits.specs.Bits.{pick}
use Rattle.calendar.specs.Calendar.{month_index}
use Rattle.format.specs.Entry.{Entry}
use Rattle.format.specs.Questions.{unknown, counted, leap_read}
use Rattle.sequence.specs.Refusals.{state_after, Read}

-- an entry of a time frame of month k
unfoldable pub time_of_month : ℕ → Entry → Bool
time_of_month k e = eqb e.message 0 && eqb (month_index e.minute) k

-- the leap state of the last time frame of month k among the entries, or l where there is none
unfoldable pub last_leap : ℕ → ℕ → List Entry → ℕ
last_leap k l [] = l
last_leap k l (e ∷ es) = last_leap k (pick (time_of_month k e) e.leap l) es

-- theorem: after the entries of any frames read, the reader has the leap state of the last time frame of the counted minute's month, or
-- not known where no time frame of that month was read
abbrev pub LeapLastRead : Type 0
LeapLastRead =
    (space : ℕ) (f : List ℕ) (es : List Entry) → Read space f es
    → leap_read (state_after es) ≡ last_leap (month_index (counted (state_after es))) unknown es
