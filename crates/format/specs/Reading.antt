-- A time frame's entry, all questions aside (document 01, "Frame" and "Recordings and entries").
-- Assumes nothing.
use Rattle.std.specs.Prelude.{ℕ, zero, suc, ◌/◌, ◌%◌, Bool, true, false, List, eqb, get_or}
use Rattle.bits.specs.Bits.{pick, number}
use Rattle.calendar.specs.Calendar.{last_of_month}
use Rattle.timeword.specs.TimeWord.{reading}
use Rattle.codewords.specs.CodeWords.{state_of, row_of}
use Rattle.format.specs.Frame.{min_frame, usual_frame, max_frame, word_in, state_in, next_in}
use Rattle.format.specs.Entry.{Entry}

-- the length called for ("Questions in order", 13), by the leap state and whether the minute is the last of its month:
-- 61 (positive, 2) or 59 (negative, 1) if it is, else 60
unfoldable pub seconds_for : ℕ → Bool → ℕ
seconds_for zero b = usual_frame
seconds_for (suc l) false = usual_frame
seconds_for (suc zero) true = min_frame
seconds_for (suc (suc l)) true = max_frame

-- the entry that a time frame's bits give ("Recordings and entries"); state_of and row_of have a number of their own for a word that is illegal or
-- unassigned
unfoldable pub entry_of : List ℕ → Entry
entry_of f =
    let t = reading (word_in f) in
    let k = state_of (number (state_in f)) in
    record {
      minute = t.minute;
      seconds = seconds_for (k / 4) (last_of_month t.minute);
      daylight = k % 4;
      leap = k / 4;
      row = row_of (k % 4) (number (next_in f));
      notice = get_or f 49 0;
      place = t.place;
      echo = pick (eqb (get_or f 19 0) (t.minute % 2)) 1 0;
      message = 0;
      payload = 0;
    }
