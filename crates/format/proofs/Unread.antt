-- Bits 29 and 39 of a frame are not read, and nothing after the frame is.
-- Assumes nothing.
use Prim.Native.Nat.{ℕ, zero, suc, ◌+◌, ◌-◌, ◌≤◌, ◌<◌}
use mathlib.Core.Bool.{Bool, true, false}
use mathlib.Core.List.{List, [], ◌∷◌, ◌++◌}
use mathlib.Core.Path.{◌≡◌, refl, sym, ap, subst, ◌∙◌}
use native.Mathlib.Decide.{dec_le}
use native.Mathlib.Omega.{arith}
use lib.Dec.{leb}
use lib.ListN.{length, take, drop, get_or, length-set, length-take}
use lib.Seq.{get_or-take, take-take}
use borrow.Author.Tests.{le-leb}
use Rattle.bits.specs.Bits.{is_bit}
use Rattle.bits.proofs.Parts.{part-take}
use Rattle.format.specs.Frame.{min_frame, word_in, state_in, next_in}
use Rattle.format.specs.Inverting.{with_unread}
use Rattle.format.specs.Entry.{Entry}
use Rattle.format.specs.Message.{is_message, data_in}
use Rattle.format.specs.Reading.{entry_of}
use Rattle.format.specs.Questions.{message_in, enough, entry_next, time_questions, message_questions, next_questions}
use Rattle.format.specs.Next.{entry, read_next, read_one}
use Rattle.format.specs.declared.Due.{Due}
use Rattle.format.proofs.Questions.{word-front, state-front, next-front, no-6}
use Rattle.format.proofs.One.{one_same}
use Rattle.format.proofs.Messages.{data-front}
use Rattle.format.proofs.Accepted.{accepted, entry-only, next-59}

-- the list of g 0 to g (n - 1)
unfoldable pub tabulate : ℕ → (ℕ → ℕ) → List ℕ
tabulate zero g = []
tabulate (suc n) g = g 0 ∷ tabulate n (λ k. g (suc k))

-- a list by its first n elements and the rest
pub split : (n : ℕ) (l : List ℕ) → n ≤ length l → tabulate n (λ k. get_or l k 0) ++ drop n l ≡ l
unfolding tabulate
split zero l h = refl
split (suc n) [] h = absurd (omega arith)
split (suc n) (x ∷ l) h = ap {B = List ℕ} (λ r. x ∷ r) (split n l (omega arith))

pub length-unread : (x y : ℕ) (f : List ℕ) → length (with_unread x y f) ≡ length f
unfolding with_unread
length-unread x y f = simp length-set

module _ (x y : ℕ) (hx : is_bit x ≡ true) (hy : is_bit y ≡ true) where
  spread : (due : Due) (alone : Bool) (g : ℕ → ℕ) (r : List ℕ) → is_bit (g 29) ≡ true → is_bit (g 39) ≡ true
      → read_next due alone (with_unread x y (tabulate min_frame g ++ r)) ≡ read_next due alone (tabulate min_frame g ++ r)
  unfolding with_unread read_next next_questions time_questions message_questions entry_next is_message message_in data_in entry_of word_in state_in next_in tabulate
  spread due alone g r h29 h39 = rw (hx, hy, h29, h39)

  -- the next frame in any state
  pub next-unread : (due : Due) (alone : Bool) (f : List ℕ) → is_bit (get_or f 29 0) ≡ true → is_bit (get_or f 39 0) ≡ true
      → read_next due alone (with_unread x y f) ≡ read_next due alone f
  next-unread due alone f h29 h39 =
      elim (dec_le min_frame (length f)) [
        | yes l ↦ rw (split min_frame f l) at (spread due alone (λ k. get_or f k 0) (drop min_frame f) h29 h39)
        | no l ↦ no-6 due alone (with_unread x y f) (rw (length-unread x y f) (omega arith)) ∙ sym (no-6 due alone f (omega arith))
      ]

  -- one frame alone, into an entry buffer
  pub one-unread : (due : Due) (buffer f : List ℕ) → is_bit (get_or f 29 0) ≡ true → is_bit (get_or f 39 0) ≡ true
      → read_one due buffer (with_unread x y f) ≡ read_one due buffer f
  one-unread due buffer f h29 h39 = one_same due buffer (with_unread x y f) f (next-unread due true f h29 h39)

  pub entry-unread : (f : List ℕ) → min_frame ≤ length f → entry_of (with_unread x y f) ≡ entry_of f
  entry-unread f l = rw (split min_frame f l) at (go (λ k. get_or f k 0) (drop min_frame f))
    where
      go : (g : ℕ → ℕ) (r : List ℕ) → entry_of (with_unread x y (tabulate min_frame g ++ r)) ≡ entry_of (tabulate min_frame g ++ r)
      go g r = unfold with_unread entry_of word_in state_in next_in tabulate in refl

-- an entry comes from the first 59 bits
pub entry-front : (f : List ℕ) → entry_of (take min_frame f) ≡ entry_of f
unfolding entry_of
entry-front f = rw (word-front f, state-front f, next-front f, get_or-take min_frame f 49 0 (omega arith), get_or-take min_frame f 19 0 (omega arith))

-- ---- a frame's answer comes from the bits that it calls for, and from whether there are enough of them

-- two lists with the same first s bits, 59 or more
module _ (f g : List ℕ) (s : ℕ) (long : min_frame ≤ s) (same : take s f ≡ take s g) where
  front : take min_frame f ≡ take min_frame g
  front = sym (take-take min_frame s f long) ∙ ap (take min_frame) same ∙ take-take min_frame s g long

  sync-same : take 13 g ≡ take 13 f
  sync-same = sym (take-take 13 min_frame g (omega arith)) ∙ ap (take 13) (sym front) ∙ take-take 13 min_frame f (omega arith)

  kind-same : is_message g ≡ is_message f
  unfolding is_message
  kind-same = rw sync-same

  bit-same : (k : ℕ) → k < min_frame → get_or g k 0 ≡ get_or f k 0
  bit-same k l = sym (get_or-take min_frame g k 0 l) ∙ ap (λ (l : List ℕ). get_or l k 0) (sym front) ∙ get_or-take min_frame f k 0 l

  state-same : state_in g ≡ state_in f
  state-same = sym (state-front g) ∙ ap state_in (sym front) ∙ state-front f

  behind : take (s - min_frame) (drop min_frame f) ≡ take (s - min_frame) (drop min_frame g)
  behind =
      let h : min_frame + (s - min_frame) ≤ s = omega arith in
      sym (part-take s min_frame (s - min_frame) f h) ∙ ap (λ (l : List ℕ). take (s - min_frame) (drop min_frame l)) same ∙ part-take s min_frame (s - min_frame) g h

  entry-same : entry_of g ≡ entry_of f
  entry-same = sym (entry-front g) ∙ ap entry_of (sym front) ∙ entry-front f

  message-same : (due : Due) → message_in due g ≡ message_in due f
  unfolding message_in
  message-same due =
      let d : data_in g ≡ data_in f = sym (data-front g) ∙ ap data_in (sym front) ∙ data-front f in
      rw (d, bit-same 49 (omega arith))

  next-same : (due : Due) → entry_next due g ≡ entry_next due f
  unfolding entry_next
  next-same due = rw (kind-same, message-same due, entry-same)

-- the next frame in any state
pub next-entry-unread : (x y : ℕ) → is_bit x ≡ true → is_bit y ≡ true → (due : Due) (f : List ℕ) → min_frame ≤ length f → entry_next due (with_unread x y f) ≡ entry_next due f
next-entry-unread x y hx hy due f l = rw (split min_frame f l) at (go (λ k. get_or f k 0) (drop min_frame f))
  where
    go : (g : ℕ → ℕ) (r : List ℕ) → entry_next due (with_unread x y (tabulate min_frame g ++ r)) ≡ entry_next due (tabulate min_frame g ++ r)
    go g r = unfold with_unread entry_next is_message message_in data_in entry_of word_in state_in next_in tabulate in refl

module _ (due : Due) (f g : List ℕ) (same : take (entry_next due f).seconds f ≡ take (entry_next due f).seconds g) where
  abbrev s : ℕ
  s = (entry_next due f).seconds

  pub next-same-answer : (alone : Bool) → leb min_frame (length f) ≡ leb min_frame (length g) → enough alone s (length f) ≡ enough alone s (length g)
      → read_next due alone g ≡ read_next due alone f
  unfolding read_next next_questions time_questions message_questions
  next-same-answer alone q6 q13 =
      let long = next-59 due f in
      rw (
        next-same f g s long same due,
        kind-same f g s long same,
        state-same f g s long same,
        sync-same f g s long same,
        bit-same f g s long same 19 (omega arith),
        ← front f g s long same,
        ← q6,
        ← q13,
        ← behind f g s long same,
      )

-- an accepted frame is accepted with fewer bits after it
pub cut-answer : (due : Due) (f : List ℕ) (e : Entry) (m : ℕ) → read_next due false f ≡ entry e → e.seconds ≤ m → read_next due false (take m f) ≡ entry e
unfolding enough
cut-answer due f e m h l =
    let is : e ≡ entry_next due f = entry-only due false f e h in
    let s = (entry_next due f).seconds in
    let fits : s ≤ length f = subst (λ (d : Entry). d.seconds ≤ length f) is (accepted due false f e h).enough-left in
    let short : s ≤ m = subst (λ (d : Entry). d.seconds ≤ m) is l in
    let long : min_frame ≤ s = next-59 due f in
    let both : s ≤ length (take m f) = omega (arith, length-take m f) in
    next-same-answer due f (take m f) (sym (take-take s m f short)) false
    (le-leb min_frame (length f) (omega arith) ∙ sym (le-leb min_frame (length (take m f)) (omega arith)))
    (le-leb s (length f) fits ∙ sym (le-leb s (length (take m f)) both))
    ∙ h
