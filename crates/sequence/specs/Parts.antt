-- A reading in parts: up to any frame's end, and on from the state there. No section of the papers: document 02, 10, builds on it.
-- Assumes nothing.
use Rattle.std.specs.Prelude.{ℕ, ◌-◌, ◌≤◌, List, ◌≡◌, length, take, drop}
use Rattle.format.specs.declared.Due.{Due}
use Rattle.sequence.specs.Reading.{Found, read_frames, seconds_of, due_after}

-- where reading f from a state on, with space for n entries, finds r: its first j entries and the others
pub record InParts (n j : ℕ) (due : Due) (f : List ℕ) (r : Found) : Type 0 where
  -- read to the end of frame j: these entries, all their bits, 0, and the state after them
  pub first : read_frames n due (take (seconds_of (take j r.entries)) f)
      ≡ record { entries = take j r.entries; used = seconds_of (take j r.entries); refusal = 0; due = due_after due (take j r.entries) }
  -- read on from that state and that bit: the other entries, and the refusal and state of reading it whole
  pub rest : read_frames (n - j) (due_after due (take j r.entries)) (drop (seconds_of (take j r.entries)) f)
      ≡ record { entries = drop j r.entries; used = r.used - seconds_of (take j r.entries); refusal = r.refusal; due = r.due }

-- at every frame's end, from every state, of every recording, refused or not
abbrev pub ReadInParts : Type 0
ReadInParts = (n j : ℕ) (due : Due) (f : List ℕ) → j ≤ length (read_frames n due f).entries → InParts n j due f (read_frames n due f)

-- the state at the end is that after the entries, whether reading is refused or not
abbrev pub StateAtEnd : Type 0
StateAtEnd = (n : ℕ) (due : Due) (f : List ℕ) → (read_frames n due f).due ≡ due_after due (read_frames n due f).entries
