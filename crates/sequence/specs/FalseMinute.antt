-- What a false minute takes, of a recording as read (document 01, "Time word" and "Buyer's note"; question 14): one time frame near its
-- minute decides the minute of every frame.
-- Assumes nothing.
use Rattle.std.specs.Prelude.{ℕ, ◌+◌, ◌*◌, ◌/◌, ◌≤◌, ◌<◌, List, [], ◌⊎◌, ◌≢◌, ◌≡◌, length, get_or, take, drop}
use Rattle.calendar.specs.Calendar.{minute_count}
use Rattle.format.specs.Entry.{Entry, entry_size, entry_bytes}
use Rattle.format.specs.Reading.{entry_of}
use Rattle.format.specs.FalseMinute.{distance_from}
use Rattle.format.specs.declared.Due.{Due}
use Rattle.sequence.specs.Reading.{read_frames, read_into}
use Rattle.sequence.specs.Refusals.{bits_after, Read}

-- the entries that reading f into a buffer finds, from a state on
abbrev pub entries_read : Due → List ℕ → List ℕ → List Entry
entries_read due buffer f = (read_frames (length buffer / entry_size) due f).entries

-- the entry at rank k; there is one where k is less than their number
abbrev pub entry_at_rank : ℕ → List Entry → Entry
entry_at_rank k es = get_or es k (entry_of [])

-- the bits of f from the frame at rank k on: those after the entries before it
abbrev pub bits_at_rank : ℕ → List ℕ → List Entry → List ℕ
bits_at_rank k f es = bits_after f (take k es)

-- a time frame is read at rank k; a message has place 0 too, but no time word (document 02, 7), so that it makes no reading sure
abbrev pub TimeAtRank : ℕ → List Entry → Type 0
TimeAtRank k es = (entry_at_rank k es).message ≡ 0

-- the 31 bits read at rank k are near minute m: at most one differs from its bits, or at most two do and the place is 0
abbrev pub NearAtRank : ℕ → List ℕ → List Entry → ℕ → Type 0
NearAtRank k f es m =
    (distance_from m (bits_at_rank k f es) ≤ 1) ⊎ ((distance_from m (bits_at_rank k f es) ≤ 2) × ((entry_at_rank k es).place ≡ 0))

-- the 31 bits read at rank k are far from minute m: at least two differ from its bits, and at least three where the place is 0
abbrev pub FarAtRank : ℕ → List ℕ → List Entry → ℕ → Type 0
FarAtRank k f es m =
    (2 ≤ distance_from m (bits_at_rank k f es)) × ((entry_at_rank k es).place ≡ 0 → 3 ≤ distance_from m (bits_at_rank k f es))

-- of the entries es that are read from f
pub record MinutesRead (f : List ℕ) (es : List Entry) : Type 0 where
  -- where one rank of a time frame is near its minute, from m at rank 0 on, every entry has its minute
  pub one-rank-decides : (m k : ℕ) → k < length es → TimeAtRank k es → m + k < minute_count → NearAtRank k f es (m + k)
      → (j : ℕ) → j < length es → (entry_at_rank j es).minute ≡ m + j
  -- where one entry has another minute, every rank of a time frame is far from its own: a false minute takes two inverted bits in every
  -- time frame, and three in each with place 0
  pub false-minute-takes : (m j : ℕ) → j < length es → (entry_at_rank j es).minute ≢ m + j
      → (k : ℕ) → k < length es → TimeAtRank k es → m + k < minute_count → FarAtRank k f es (m + k)

-- theorem: any bits that are read into any buffer, from any state on; the entries before a refusal too
abbrev pub FalseMinute : Type 0
FalseMinute = (due : Due) (buffer f : List ℕ) → MinutesRead f (entries_read due buffer f)

-- for a caller whose reading of f into a buffer ends with 0
pub record ReadWhole (buffer f : List ℕ) (es : List Entry) : Type 0 where
  -- es are the entries of all frames of f, every question answered yes, to the last bit
  pub every-frame : Read (length buffer) f es
  pub all-bits : (read_into buffer f).used ≡ length f
  -- as many as the call says, each with its bytes in the buffer, by rank
  pub as_many : (read_into buffer f).count ≡ length es
  pub in_buffer : (k : ℕ) → k < length es → take entry_size (drop (entry_size * k) (read_into buffer f).buffer) ≡ entry_bytes (entry_at_rank k es)
  -- and what a false minute takes
  pub minutes : MinutesRead f es

-- theorem: any bits that are read completely, into any buffer
abbrev pub FalseMinuteOfWhole : Type 0
FalseMinuteOfWhole = (buffer f : List ℕ) → (read_into buffer f).refusal ≡ 0 → (es : List Entry) × ReadWhole buffer f es
