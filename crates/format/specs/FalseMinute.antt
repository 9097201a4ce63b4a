-- What a false minute takes, of a frame as read (document 01, "Time word" and "Buyer's note"): two code words are three places apart.
-- Assumes nothing.
use Rattle.std.specs.Prelude.{ℕ, ◌≤◌, ◌<◌, Bool, List, ◌≢◌, ◌≡◌}
use Rattle.bits.specs.Bits.{distance}
use Rattle.calendar.specs.Calendar.{minute_count}
use Rattle.timeword.specs.TimeWord.{code_word}
use Rattle.format.specs.Inverting.{time_bits}
use Rattle.format.specs.Entry.{Entry}
use Rattle.format.specs.Next.{entry, read_next}
use Rattle.format.specs.declared.Due.{Due}

-- the number of places at which the 31 time-word bits of the frame that f begins with differ from those of minute m
abbrev pub distance_from : ℕ → List ℕ → ℕ
distance_from m f = distance (time_bits f) (code_word m)

-- of a frame's bits f that are read with the entry e, and a minute m
pub record ReadNear (f : List ℕ) (e : Entry) (m : ℕ) : Type 0 where
  -- at most one of the 31 bits differs from those of m: the minute read is m
  pub within-one : distance_from m f ≤ 1 → e.minute ≡ m
  -- at most two differ, and the place is 0: the minute read is m
  pub within-two : distance_from m f ≤ 2 → e.place ≡ 0 → e.minute ≡ m
  -- exactly two differ: the place is not 0
  pub two-never-place-0 : distance_from m f ≡ 2 → e.place ≢ 0

-- theorem: any bits that are read as a time frame, alone or of a recording, in any state, and any minute of the range. A message has no
-- time word: its minute is the counted one
abbrev pub FrameReadNear : Type 0
FrameReadNear =
    (due : Due) (alone : Bool) (f : List ℕ) (e : Entry) (m : ℕ) → read_next due alone f ≡ entry e → e.message ≡ 0 → m < minute_count → ReadNear f e m
