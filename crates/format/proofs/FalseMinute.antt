-- What a false minute takes, of a frame as read.
-- Assumes nothing.
use Prim.Native.Nat.{ℕ, ◌≤◌, ◌<◌}
use mathlib.Core.Bool.{Bool, true}
use mathlib.Core.List.{List, ◌++◌}
use mathlib.Core.Path.{◌≡◌, refl, subst, sym, ◌∙◌}
use native.Mathlib.Omega.{arith}
use lib.ListN.{length, take, drop, get_or}
use borrow.Author.Tests.{leb-true}
use Rattle.questions.specs.Questions.{AllYes}
use Rattle.bits.specs.Bits.{Binary, is_bit, all}
use Rattle.bits.proofs.Parts.{binary-append, binary-take, binary-drop}
use Rattle.bits.proofs.Tests.{binary}
use Rattle.calendar.specs.Calendar.{minute_count}
use Rattle.timeword.specs.TimeWord.{Received}
use Rattle.timeword.proofs.Distance.{near-read-as, two-inverted-never-place-0}
use Rattle.format.specs.Frame.{min_frame, word_in}
use Rattle.format.specs.Inverting.{from, time_numbers, time_bits}
use Rattle.format.specs.Entry.{Entry}
use Rattle.format.specs.Reading.{entry_of}
use Rattle.format.specs.Questions.{next_questions}
use Rattle.format.specs.Next.{entry, read_next}
use Rattle.format.specs.FalseMinute.{ReadNear, FrameReadNear}
use Rattle.format.specs.declared.Due.{Due}
use Rattle.format.proofs.Questions.{word-front}
use Rattle.format.proofs.Refusals.{frame-accepted}
use Rattle.format.proofs.Accepted.{entry-only, entry-time, kind-time}
use Rattle.format.proofs.Unread.{tabulate, split}

-- the time word that is read is made of the 31 time-word bits, by their numbers
pub time-bits-read : (f : List ℕ) → min_frame ≤ length f → time_bits f ≡ word_in f
time-bits-read f l = rw (split min_frame f l) at (go (λ k. get_or f k 0) (drop min_frame f))
  where
    go : (g : ℕ → ℕ) (r : List ℕ) → time_bits (tabulate min_frame g ++ r) ≡ word_in (tabulate min_frame g ++ r)
    go g r = unfold time_bits time_numbers from word_in tabulate in refl

-- it is a word of 31 bits
word-length : (f : List ℕ) → min_frame ≤ length f → length (word_in f) ≡ 31
word-length f l = rw (split min_frame f l) at (go (λ k. get_or f k 0) (drop min_frame f))
  where
    go : (g : ℕ → ℕ) (r : List ℕ) → length (word_in (tabulate min_frame g ++ r)) ≡ 31
    go g r = unfold word_in tabulate in refl

part-binary : (f : List ℕ) (n a : ℕ) → Binary f → Binary (take n (drop a f))
part-binary f n a b = binary-take n (drop a f) (binary-drop a f b)

word-binary : (f : List ℕ) → Binary f → Binary (word_in f)
unfolding word_in
word-binary f b =
    binary-append (take 6 (drop 13 f) ++ take 9 (drop 20 f) ++ take 9 (drop 30 f)) (take 7 (drop 40 f))
    (binary-append (take 6 (drop 13 f) ++ take 9 (drop 20 f)) (take 9 (drop 30 f))
    (binary-append (take 6 (drop 13 f)) (take 9 (drop 20 f)) (part-binary f 6 13 b) (part-binary f 9 20 b))
    (part-binary f 9 30 b))
    (part-binary f 7 40 b)

pub word-received : (f : List ℕ) → min_frame ≤ length f → all is_bit (take min_frame f) ≡ true → Received (word_in f)
word-received f l b = (word-length f l, rw (word-front f) at (word-binary (take min_frame f) (binary (take min_frame f) b)))

-- by questions 6 and 7
module _ (due : Due) (alone : Bool) (f : List ℕ) (a : AllYes (next_questions due alone f)) where
  q6 : min_frame ≤ length f
  unfolding next_questions
  q6 = leb-true min_frame (length f) a.0

  q7 : all is_bit (take min_frame f) ≡ true
  unfolding next_questions
  q7 = a.1.0

  read-near : (m : ℕ) → m < minute_count → ReadNear f (entry_of f) m
  unfolding entry_of
  read-near m h =
      let w = word-received f q6 q7 in
      let e = time-bits-read f q6 in
      record {
        within-one = λ d. (near-read-as (word_in f) m w (omega arith)).0 (rw e at d);
        within-two = λ d z. (near-read-as (word_in f) m w (omega arith)).1 (rw e at d) z;
        two-never-place-0 = λ d z. two-inverted-never-place-0 (word_in f) m w (omega arith) (rw e at d) z;
      }

pub frame-read-near : FrameReadNear
frame-read-near due alone f e m h t l =
    let s = entry-only due alone f e h in
    let a = (frame-accepted due alone f).0 (subst (λ (d : Entry). read_next due alone f ≡ entry d) s h) in
    let k = entry-time due f (kind-time due f (subst (λ (d : Entry). d.message ≡ 0) s t)) in
    subst (λ (d : Entry). ReadNear f d m) (sym (s ∙ k)) (read-near due alone f a m (omega arith))
