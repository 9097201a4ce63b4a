-- The elements of a time, place by place, and the time that they show.
-- Assumes nothing.
use Prim.Native.Nat.{ℕ, ◌+◌, ◌*◌, ◌/◌, ◌%◌, ◌^◌, ◌<◌}
use mathlib.Core.Bool.{Bool, true, false, ◌||◌}
use mathlib.Core.List.{List, append-nil}
use mathlib.Core.Path.{◌≡◌, refl, ap, ◌∙◌}
use native.Mathlib.Omega.{arith}
use lib.Dec.{T, eqb, eqb→eq}
use lib.ListN.{length, take, drop, get_or}
use borrow.Author.Tests.{eqb-true}
use Rattle.bits.specs.Bits.{bit, all, concat}
use Rattle.bits.proofs.Tests.{all-at, upto, upto-at}
use Rattle.questions.specs.Questions.{one_of}
use Rattle.questions.proofs.Laws.{one-of-listed}
use Rattle.irig_rules.specs.declared.Clock.{Clock}
use Rattle.irig_rules.specs.Irig.{element_count, low_bits, second_of_day, elements_of}
use Rattle.irig_rules.specs.Reading.{low_number, number_at, clock_in, real_clock}
use Rattle.irig_rules.specs.Theorems.{identifiers, fields_of, inside, AllShown, Shown, ElementsLaidOut}
use Rattle.irig_rules.proofs.Low.{shown-at, low-join, low-back}
use Rattle.irig_rules.proofs.Facts.{Real, real, second-high, day-high}

-- a test of all numbers of a list holds of each
pub listed-all : (t : ℕ → Bool) (ks : List ℕ) → all t ks ≡ true → (k : ℕ) → one_of ks k ≡ true → t k ≡ true
listed-all t ks h k o = let r = (one-of-listed ks k).0 o in rw r.2 at (all-at t ks h r.0 r.1)

module _ (c : Clock) where
  abbrev e : List ℕ
  e = elements_of c

  pub length-elements : length e ≡ element_count
  unfolding elements_of concat low_bits
  length-elements = refl

  marks-all : all (λ k. eqb (get_or e k 0) 2) identifiers ≡ true
  unfolding elements_of concat low_bits
  marks-all = refl

  -- a place that is no identifier's and in no field
  zero-at : ℕ → Bool
  zero-at k = one_of identifiers k || inside (fields_of c) k || eqb (get_or e k 0) 0

  zeros-all : T (upto zero-at 100)
  unfolding zero-at elements_of concat low_bits fields_of inside one_of
  zeros-all = tt

  zero : (k : ℕ) → k < 100 → one_of identifiers k ≡ false → inside (fields_of c) k ≡ false → get_or e k 0 ≡ 0
  unfolding zero-at
  zero k h a b = eqb→eq (get_or e k 0) 0 (rw (a, b) at (upto-at zero-at 100 zeros-all k h))

  -- the digits, and the straight seconds
  parts :
      ((take 4 (drop 1 e) ≡ low_bits 4 (c.second % 10)) × (take 3 (drop 6 e) ≡ low_bits 3 (c.second / 10)))
      × ((take 4 (drop 10 e) ≡ low_bits 4 (c.minute % 10)) × (take 3 (drop 15 e) ≡ low_bits 3 (c.minute / 10)))
      × ((take 4 (drop 20 e) ≡ low_bits 4 (c.hour % 10)) × (take 2 (drop 25 e) ≡ low_bits 2 (c.hour / 10)))
      × ((take 4 (drop 30 e) ≡ low_bits 4 (c.day % 10)) × (take 4 (drop 35 e) ≡ low_bits 4 (c.day / 10 % 10)) × (take 2 (drop 40 e) ≡ low_bits 2 (c.day / 100)))
      × ((take 9 (drop 80 e) ≡ low_bits 9 (second_of_day c)) × (take 8 (drop 90 e) ≡ low_bits 8 (second_of_day c / 512)))
  unfolding elements_of concat low_bits
  parts = ((refl, refl), (refl, refl), (refl, refl), (refl, refl, refl), (refl, refl))

  fields-shown : AllShown e (fields_of c)
  unfolding fields_of
  fields-shown =
      let p = parts in
      let q : (k n x : ℕ) → take n (drop k e) ≡ low_bits n x → (i : ℕ) → i < n → get_or e (k + i) 0 ≡ bit x i = shown-at e in (
        q 1 4 _ p.0.0,
        (
          q 6 3 _ p.0.1,
          (
            q 10 4 _ p.1.0,
            (
              q 15 3 _ p.1.1,
              (
                q 20 4 _ p.2.0,
                (
                  q 25 2 _ p.2.1,
                  (
                    q 30 4 _ p.3.0,
                    (
                      q 35 4 _ p.3.1,
                      (
                        q 40 2 _ p.3.2,
                        (q 80 9 _ p.4.0, (q 90 8 _ p.4.1, tt)),
                      ),
                    ),
                  ),
                ),
              ),
            ),
          ),
        ),
      )

  pub laid_out : Shown e c
  laid_out =
      record {
        length = length-elements;
        marks = λ k o. eqb-true (get_or e k 0) 2 (listed-all (λ k. eqb (get_or e k 0) 2) identifiers marks-all k o);
        fields = fields-shown;
        zeros = zero;
      }

pub elements-laid-out : ElementsLaidOut
elements-laid-out = laid_out

-- ---- the time of the elements of a real time

tens : (n : ℕ) → n / 10 * 10 + n % 10 ≡ n
tens n = omega arith

hundreds : (n : ℕ) → n / 100 * 100 + n / 10 % 10 * 10 + n % 10 ≡ n
hundreds n = omega arith

module _ (c : Clock) (h : real_clock c ≡ true) where
  abbrev r : Real c
  r = real c h

  shown : (k n x : ℕ) → take n (drop k (elements_of c)) ≡ low_bits n x → x < 2 ^ n → number_at (elements_of c) k n ≡ x
  unfolding number_at
  shown k n x p l = ap low_number p ∙ low-back n x l

  pub clock-back : clock_in (elements_of c) ≡ c
  unfolding clock_in
  clock-back =
      let p = parts c in
      rw (
        shown 1 4 (c.second % 10) p.0.0 (omega arith),
        shown 6 3 (c.second / 10) p.0.1 (omega (arith, second-high c r)),
        shown 10 4 (c.minute % 10) p.1.0 (omega arith),
        shown 15 3 (c.minute / 10) p.1.1 (omega (arith, r.minute)),
        shown 20 4 (c.hour % 10) p.2.0 (omega arith),
        shown 25 2 (c.hour / 10) p.2.1 (omega (arith, r.hour)),
        shown 30 4 (c.day % 10) p.3.0 (omega arith),
        shown 35 4 (c.day / 10 % 10) p.3.1 (omega arith),
        shown 40 2 (c.day / 100) p.3.2 (omega (arith, r.high)),
        tens c.second,
        tens c.minute,
        tens c.hour,
        hundreds c.day,
      )

  -- the straight seconds
  pub straight-back : number_at (elements_of c) 80 9 + number_at (elements_of c) 90 8 * 512 ≡ second_of_day c
  unfolding low_bits
  straight-back =
      let s : ℕ = second_of_day c in
      let p = parts c in
      let q : s ≡ s % 512 + s / 512 * 512 = omega arith in
      let low : low_bits 9 s ≡ low_bits 9 (s % 512) = ap (low_bits 9) q ∙ low-join 9 0 (s % 512) (s / 512) (omega arith) ∙ append-nil (low_bits 9 (s % 512)) in
      rw (
        shown 80 9 (s % 512) (p.4.0 ∙ low) (omega arith),
        shown 90 8 (s / 512) p.4.1 (omega (arith, day-high c r)),
      )
      (omega arith)
