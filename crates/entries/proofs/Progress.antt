-- The step of reading as the code gives it: a halt is a refusal, and an advance an entry.
-- Assumes nothing.
use Prim.Native.Nat.{ℕ, suc, ◌-◌, ◌/◌, ◌≤◌, ◌<◌}
use mathlib.Core.Bool.{Bool, false}
use mathlib.Core.List.{List, ◌++◌}
use mathlib.Core.Path.{◌≡◌, refl, sym, ap, ◌∙◌}
use native.Mathlib.Decide.{dec_le}
use native.Mathlib.Omega.{arith}
use lib.ListN.{length, drop}
use Rattle.std.specs.Prelude.{Result, Ok, Err}
use Rattle.std.specs.Result.{IsErrAnd}
use Rattle.questions.specs.declared.Refusal.{Refusal}
use Rattle.questions.specs.Refusals.{refusal_number}
use Rattle.format.specs.Entry.{Entry, entry_size, entry_bytes}
use Rattle.format.specs.Questions.{after}
use Rattle.format.specs.Next.{Answer, refused, entry, due_after_answer, OneOutcome, one_outcome, read_next, read_entry}
use Rattle.format.specs.declared.Due.{Due}
use Rattle.format.proofs.One.{no-5, yes-5}
use Rattle.sequence.specs.Reading.{stop, read_frames}
use Rattle.sequence.proofs.Steps.{no-space, frame_refused}
use Rattle.entries.specs.Answer.{Progress, halt, advance, progress, step_numbers}
use Rattle.entries.specs.declared.Advance.{Advance}

pub halted : (due : Due) (a : Answer) (n : ℕ) → halt n ≡ progress due a → a ≡ refused n
halted due (refused m) n h = cc
halted due (entry e) n h = let z : ◌≡◌ {A = ℕ} 0 1 = cc in absurd (omega arith)

-- the entry of an advance by n bits to the state d
pub record Advanced (due : Due) (a : Answer) (n : ℕ) (d : Due) : Type 0 where
  pub taken : Entry
  pub is : a ≡ entry taken
  pub bits : n ≡ taken.seconds
  pub next : d ≡ after due taken

pub advanced : (due : Due) (a : Answer) (n : ℕ) (d : Due) → advance n d ≡ progress due a → Advanced due a n d
advanced due (refused m) n d h = let z : ◌≡◌ {A = ℕ} 0 1 = cc in absurd (omega arith)
advanced due (entry e) n d h = record { taken = e; is = refl; bits = cc; next = cc }

-- a step that passes a refusal on
pub passed-on : (r : Result Advance Refusal) (x : Refusal) → IsErrAnd r (λ e. e ≡ x) → step_numbers r ≡ halt (refusal_number x)
passed-on (Ok s) x h = absurd h
passed-on (Err e) x h = ap (λ (y : Refusal). halt (refusal_number y)) h

-- ---- the step, from the next frame's answer

module _ (due : Due) (alone : Bool) (buffer f : List ℕ) where
  -- what it comes to, and the buffer after it
  abbrev Gives : Progress → List ℕ → Type 0
  Gives p later = (p ≡ progress due (read_entry due alone (length buffer) f)) × (later ≡ (one_outcome buffer (read_entry due alone (length buffer) f)).buffer)

  pub no_room : length buffer < entry_size → Gives (halt 5) buffer
  unfolding one_outcome
  no_room h = rw (no-5 due alone (length buffer) f h) (refl, refl)

  pub halts : (n : ℕ) → entry_size ≤ length buffer → read_next due alone f ≡ refused n → Gives (halt n) buffer
  unfolding one_outcome
  halts n h e = rw (yes-5 due alone (length buffer) f h, e) (refl, refl)

  pub advances : (e : Entry) (later : List ℕ) (next : Due) → entry_size ≤ length buffer → read_next due alone f ≡ entry e
      → later ≡ entry_bytes e ++ drop entry_size buffer → next ≡ after due e → Gives (advance e.seconds next) later
  unfolding one_outcome
  advances e later next h r a d = rw (yes-5 due alone (length buffer) f h, r, a, d) (refl, refl)

-- ---- one frame alone

module _ (due : Due) (buffer ys : List ℕ) where
  pub one-halted : (a : Answer) (n : ℕ) → halt n ≡ progress due a → ys ≡ (one_outcome buffer a).buffer
      → (◌≡◌ {A = OneOutcome} (record { refusal = n; buffer = ys }) (one_outcome buffer a)) × (due ≡ due_after_answer due a)
  unfolding one_outcome due_after_answer
  one-halted a n h e = let same : ys ≡ buffer = rw (halted due a n h) at e in rw (halted due a n h, same) (refl, refl)

  pub one-advanced : (a : Answer) (n : ℕ) (d : Due) → advance n d ≡ progress due a → ys ≡ (one_outcome buffer a).buffer
      → (◌≡◌ {A = OneOutcome} (record { refusal = 0; buffer = ys }) (one_outcome buffer a)) × (d ≡ due_after_answer due a)
  unfolding one_outcome due_after_answer
  one-advanced (refused m) n d h e = let z : ◌≡◌ {A = ℕ} 0 1 = cc in absurd (omega arith)
  one-advanced (entry taken) n d h e = (rw e, cc)

-- ---- a frame of a recording, with free bytes for entries

module _ (free : ℕ) (due : Due) (f : List ℕ) where
  -- an entry has its room
  pub room_of : (e : Entry) → read_entry due false free f ≡ entry e → entry_size ≤ free
  room_of e h =
      elim (dec_le entry_size free) [
        | yes l ↦ l
        | no l ↦ let z : ◌≡◌ {A = ℕ} 0 1 = cc (no-5 due false free f (omega arith)) in absurd (omega arith)
      ]

  pub refused-step : 0 < length f → (r : ℕ) → read_entry due false free f ≡ refused r → read_frames (free / entry_size) due f ≡ stop due r
  refused-step some r h =
      elim (dec_le entry_size free) [
        | yes l ↦
            let n : free / entry_size ≡ suc (free / entry_size - 1) = omega arith in
            rw n (frame_refused (free / entry_size - 1) due f some r (sym (yes-5 due false free f l) ∙ h))
        | no l ↦
            let n : free / entry_size ≡ 0 = omega arith in
            let five : r ≡ 5 = cc (no-5 due false free f (omega arith)) in
            rw (n, five) (no-space due f some)
      ]
