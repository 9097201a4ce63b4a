-- Two inverted bits of minute 0's frame that are read as another minute.
-- Assumes nothing.
use Prim.Native.Nat.{ℕ}
use mathlib.Core.Bool.{Bool, true, false}
use mathlib.Core.List.{List}
use mathlib.Core.Path.{◌≡◌, refl}
use native.Mathlib.Omega.{arith}
use Rattle.bits.specs.Bits.{bit, bits}
use Rattle.bits.proofs.Tests.{binary}
use Rattle.calendar.specs.Calendar.{last_of_month}
use Rattle.timeword.specs.TimeWord.{Received, par0, par1, par2, par3, par4, sum_of, parity, parities, code_word, invert}
use Rattle.timeword.specs.Theorems.{time_place}
use Rattle.timeword.proofs.Computed.{two-places-mistaken}
use Rattle.plan.specs.Plan.{legal_plan}
use Rattle.plan.specs.declared.Plan.{Plan}
use Rattle.plan.proofs.Days.{not_last, sixty-in-day}
use Rattle.format.specs.Frame.{usual_frame, Sent, sent_by, sync, body, body_of, frame}
use Rattle.format.specs.Inverting.{from, frame_places, flip, invert_at, inverted}
use Rattle.format.specs.Entry.{sent_entry}
use Rattle.format.specs.Received.{with_echo}
use Rattle.format.specs.Reading.{seconds_for}
use Rattle.format.specs.Questions.{start, follows}
use Rattle.format.specs.Next.{entry, read_next}
use Rattle.format.specs.TwoErrors.{two_inverted, with_minute, TwoErrorsMistaken}
use Rattle.format.proofs.Legal.{Legal, legal-sent}
use Rattle.format.proofs.AnyWord.{with_words, state_sent, word_entry, any-word-read, seconds-usual}

-- the code word of minute 0 with two places inverted
abbrev word0 : ℕ → ℕ → List ℕ
word0 i j = invert (time_place j) (invert (time_place i) (code_word 0))

received-0 : Received (word0 1 2) × Received (word0 0 1)
unfolding invert code_word parities parity sum_of bits bit par0 par1 par2 par3 par4
received-0 = ((refl, binary (word0 1 2) refl), (refl, binary (word0 0 1) refl))

-- the frames with these places inverted are the frame with that word
frames-0 : (p : Plan)
    → (two_inverted p 1 2 ≡ with_words (word0 1 2) (state_sent (sent_by p 0)) (sent_by p 0))
    × (two_inverted p 0 1 ≡ with_words (word0 0 1) (state_sent (sent_by p 0)) (sent_by p 0))
unfolding sent_by frame body_of body sync with_words inverted invert_at flip frame_places from invert code_word parities bits
frames-0 p = (refl, refl)

module _ (p : Plan) (legal : legal_plan p ≡ true) where
  abbrev s : Sent
  s = sent_by p 0

  is-legal : Legal s
  is-legal = legal-sent p legal 0 (omega arith)

  sixty : s.seconds ≡ usual_frame
  unfolding sent_by
  sixty = sixty-in-day p 0 (λ e. omega arith)

  called : (m : ℕ) → last_of_month m ≡ false → seconds_for s.leap (last_of_month m) ≡ s.seconds
  called m h = rw (h, sixty) (seconds-usual s.leap)

  entries-0 : (word_entry s 32774 16 ≡ sent_entry (with_minute 32774 s) 16) × (word_entry s 16387 17 ≡ with_echo 0 (sent_entry (with_minute 16387 s) 17))
  unfolding sent_by with_echo sent_entry with_minute
  entries-0 = (refl, refl)

  mistaken : (alone : Bool)
      → (read_next start alone (two_inverted p 1 2) ≡ entry (sent_entry (with_minute 32774 s) 16))
      × (read_next start alone (two_inverted p 0 1) ≡ entry (with_echo 0 (sent_entry (with_minute 16387 s) 17)))
  unfolding follows
  mistaken alone = (
    rw ((frames-0 p).0, ← entries-0.0)
        (any-word-read (word0 1 2) received-0.0 s is-legal 32774 16 two-places-mistaken.1 (omega arith)
        (called 32774 (not_last 32774 (λ e. omega arith))) start alone refl),
    rw ((frames-0 p).1, ← entries-0.1)
        (any-word-read (word0 0 1) received-0.1 s is-legal 16387 17 two-places-mistaken.0 (omega arith)
        (called 16387 (not_last 16387 (λ e. omega arith))) start alone refl),
  )

pub two-errors-mistaken : TwoErrorsMistaken
two-errors-mistaken p alone legal = mistaken p legal alone
