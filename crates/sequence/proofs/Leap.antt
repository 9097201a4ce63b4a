-- The leap state that the reader has is that of the last time frame of the counted minute's month.
-- Assumes nothing.
use Prim.Native.Nat.{ℕ, ◌+◌, ◌≤◌, ◌<◌}
use mathlib.Core.Bool.{Bool, true, false, ◌&&◌, false≢true, and-false}
use mathlib.Core.List.{List, [], ◌∷◌, ◌++◌}
use mathlib.Core.Logic.{◌⊎◌, inl, inr}
use mathlib.Core.Path.{◌≡◌, refl, sym, ap, ◌∙◌}
use native.Mathlib.Decide.{dec_lt}
use native.Mathlib.Omega.{arith}
use lib.Dec.{eqb}
use borrow.Author.Tests.{eq-eqb, ne_eqb, eqb-true, eqb-false, not-true, not-false}
use Rattle.questions.specs.Questions.{AllYes}
use Rattle.bits.specs.Bits.{pick}
use Rattle.calendar.specs.Calendar.{month_index, last_of_month}
use Rattle.calendar.proofs.MonthOrder.{months-count-up}
use Rattle.format.specs.Entry.{Entry}
use Rattle.format.specs.Message.{is_message}
use Rattle.format.specs.Reading.{entry_of}
use Rattle.format.specs.Questions.{start, unknown, counted, leap_read, after, message_in, entry_next, time_questions, message_questions, next_questions}
use Rattle.format.specs.declared.Due.{Due}
use Rattle.format.specs.declared.Due.TheVariants.{Any, Minute}
use Rattle.format.proofs.Accepted.{next-counted}
use Rattle.sequence.specs.Reading.{due_after}
use Rattle.sequence.specs.Refusals.{bits_after, state_after, Read, none, more}
use Rattle.sequence.specs.Leap.{time_of_month, last_leap, LeapLastRead}
use Rattle.sequence.proofs.ReadRefusals.{due-snoc, after-5}

-- ---- entries of earlier minutes

abbrev Earlier : ℕ → List Entry → Type 0
Earlier t [] = Unit {0}
Earlier t (e ∷ es) = (e.minute < t) × Earlier t es

-- and one of a later minute after them
earlier-snoc : (t u : ℕ) (es : List Entry) (e : Entry) → Earlier t es → t ≤ u → e.minute < u → Earlier u (es ++ (e ∷ []))
earlier-snoc t u [] e h l k = (k, tt)
earlier-snoc t u (d ∷ es) e h l k = (omega (arith, h.0), earlier-snoc t u es e h.1 l k)

other-month : (k : ℕ) (e : Entry) → (month_index e.minute ≡ k → ⊥) → time_of_month k e ≡ false
unfolding time_of_month
other-month k e h = ap (λ (b : Bool). eqb e.message 0 && b) (ne_eqb (month_index e.minute) k h) ∙ and-false (eqb e.message 0)

-- none of them lies in a later month
none-later : (t k l : ℕ) → month_index t < k → (es : List Entry) → Earlier (t + 1) es → last_leap k l es ≡ l
unfolding last_leap
none-later t k l h [] a = refl
none-later t k l h (e ∷ es) a =
    let m : month_index e.minute ≤ month_index t = months-count-up e.minute t (omega (arith, a.0)) in
    rw (other-month k e (λ q. omega arith)) (none-later t k l h es a.1)

-- ---- one entry more

last_snoc : (k l : ℕ) (es : List Entry) (e : Entry) → last_leap k l (es ++ (e ∷ [])) ≡ pick (time_of_month k e) e.leap (last_leap k l es)
unfolding last_leap
last_snoc k l [] e = refl
last_snoc k l (d ∷ es) e = last_snoc k (pick (time_of_month k d) d.leap l) es e

-- a month ends, or goes on
new-month : (t : ℕ) → last_of_month t ≡ true → month_index t < month_index (t + 1)
unfolding last_of_month
new-month t h =
    let n = eqb-false (month_index (t + 1)) (month_index t) (not-true (eqb (month_index (t + 1)) (month_index t)) h) in
    let m = months-count-up t (t + 1) (omega arith) in
    more-than (month_index t) (month_index (t + 1)) m (λ e. n (sym e))
  where
    more-than : (a b : ℕ) → a ≤ b → (a ≡ b → ⊥) → a < b
    more-than a b l n = elim (dec_lt a b) [
      | yes h ↦ h
      | no h ↦ absurd (n (omega arith))
    ]

same-month : (t : ℕ) → last_of_month t ≡ false → month_index (t + 1) ≡ month_index t
unfolding last_of_month
same-month t h = eqb-true (month_index (t + 1)) (month_index t) (not-false (eqb (month_index (t + 1)) (month_index t)) h)

-- the state after a time frame, or after a frame of the counted minute
module _ (due : Due) (es : List Entry) (e : Entry) where
  leap-step : (eqb e.message 0 ≡ true) ⊎ (counted due ≡ e.minute) → Earlier (e.minute + 1) (es ++ (e ∷ []))
      → leap_read due ≡ last_leap (month_index (counted due)) unknown es
      → leap_read (after due e) ≡ last_leap (month_index (e.minute + 1)) unknown (es ++ (e ∷ []))
  unfolding after
  leap-step k a h = go (last_of_month e.minute) refl
    where
      same : (b : Bool) → eqb e.message 0 ≡ b → (b ≡ true) ⊎ (counted due ≡ e.minute)
          → pick b e.leap (leap_read due) ≡ pick (b && eqb (month_index e.minute) (month_index e.minute)) e.leap (last_leap (month_index e.minute) unknown es)
      same true q k = rw (eq-eqb (month_index e.minute) (month_index e.minute) refl)
      same false q (inl z) = absurd (false≢true z)
      same false q (inr z) = h ∙ ap (λ (t : ℕ). last_leap (month_index t) unknown es) z

      go : (b : Bool) → last_of_month e.minute ≡ b
          → pick b unknown (pick (eqb e.message 0) e.leap (leap_read due)) ≡ last_leap (month_index (e.minute + 1)) unknown (es ++ (e ∷ []))
      go true q = sym (none-later e.minute (month_index (e.minute + 1)) unknown (new-month e.minute q) (es ++ (e ∷ [])) a)
      go false q =
          rw (same-month e.minute q)
          (same (eqb e.message 0) refl k ∙ sym (last_snoc (month_index e.minute) unknown es e ∙ (unfold time_of_month in refl)))

-- ---- as read

module _ (f : List ℕ) where
  -- the first frame is no message
  first-time : AllYes (next_questions Any false f) → eqb (entry_next Any f).message 0 ≡ true
  unfolding next_questions entry_next
  first-time a = go (is_message f) a.1.1.1
    where
      next : Bool → Entry
      next b = pick b (message_in Any f) (entry_of f)

      go : (b : Bool) → AllYes (pick b (message_questions Any false f (next b)) (time_questions Any false f (next b))) → eqb (next b).message 0 ≡ true
      go true a = unfold message_questions in absurd (false≢true a.0)
      go false a = unfold entry_of in refl

  kind : (due : Due) → AllYes (next_questions due false f) → (eqb (entry_next due f).message 0 ≡ true) ⊎ (counted due ≡ (entry_next due f).minute)
  kind Any a = inl (first-time a)
  kind (Minute m l) a = inr (sym (next-counted m l false f a))

  not-before : (due : Due) → AllYes (next_questions due false f) → counted due ≤ (entry_next due f).minute
  not-before Any a = omega arith
  not-before (Minute m l) a = omega (arith, next-counted m l false f a)

abbrev Carried : List Entry → Type 0
Carried es = Earlier (counted (state_after es)) es × (leap_read (state_after es) ≡ last_leap (month_index (counted (state_after es))) unknown es)

counted-after : (due : Due) (e : Entry) → counted (after due e) ≡ e.minute + 1
unfolding after
counted-after due e = refl

carried : (space : ℕ) (f : List ℕ) {es : List Entry} → Read space f es → Carried es
carried space f none = unfold due_after last_leap in (tt, refl)
carried space f (more es r l a) = step (carried space f r)
  where
    due : Due
    due = state_after es

    e : Entry
    e = entry_next due (bits_after f es)

    yes : AllYes (next_questions due false (bits_after f es))
    yes = after-5 space f es a

    counted_next : counted (state_after (es ++ (e ∷ []))) ≡ e.minute + 1
    counted_next = ap counted (due-snoc start es e) ∙ counted-after due e

    step : Carried es → Carried (es ++ (e ∷ []))
    step c =
        let b = earlier-snoc (counted due) (e.minute + 1) es e c.0 (omega (arith, not-before (bits_after f es) due yes)) (omega arith) in
        rw counted_next (b, ap leap_read (due-snoc start es e) ∙ leap-step due es e (kind (bits_after f es) due yes) b c.1)

pub leap-last-read : LeapLastRead
leap-last-read space f es r = (carried space f r).1
