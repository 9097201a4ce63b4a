-- Question 17, second by second.
-- Assumes nothing.
use Prim.Native.Nat.{ℕ, ◌+◌, ◌-◌, ◌≤◌, ◌<◌}
use mathlib.Core.Bool.{Bool, true, false}
use mathlib.Core.List.{List}
use mathlib.Core.Path.{◌≡◌, refl, sym, ◌∙◌}
use native.Mathlib.Decide.{dec_lt}
use native.Mathlib.Omega.{arith}
use lib.Dec.{T, leb, eqb, eqb→eq}
use lib.ListN.{length, take, drop, get_or, length-drop}
use lib.Seq.{length-take-le, get_or-take, get_or-drop}
use Rattle.bits.specs.Bits.{pick, all}
use Rattle.bits.proofs.Tests.{upto, upto-at, all-at, at_all}
use Rattle.questions.specs.Questions.{one_of}
use Rattle.symbols.specs.Symbols.{fits}
use Rattle.symbols.proofs.Places.{kinds, is_kind, fits_each, each_at, at_each}
use Rattle.amplitude_rules.specs.Amplitude.{table1}
use Rattle.amplitude_rules.specs.Reading.{is_mark}
use Rattle.amplitude_rules.specs.Theorems.{markers, zeros, right_at, LayoutSeconds}
use Rattle.amplitude_rules.proofs.Facts.{layout, layout-fits}

-- the kind of a second
kind_at : ℕ → ℕ
kind_at k = pick (one_of markers k) 2 (pick (one_of zeros k) 0 1)

right-kind : (k x : ℕ) → right_at k x ≡ is_kind (kind_at k) x
unfolding right_at is_kind kind_at
right-kind k x = go (one_of markers k) (one_of zeros k)
  where
    go : (a b : Bool) → pick a (eqb x 2) (pick b (eqb x 0) (leb x 1)) ≡ pick (eqb (pick a 2 (pick b 0 1)) 1) (leb x 1) (eqb x (pick a 2 (pick b 0 1)))
    go true b = refl
    go false true = refl
    go false false = refl

-- the layout has these kinds in seconds 0 to 58
same_kind : ℕ → Bool
same_kind k = eqb (get_or (kinds table1) k 0) (kind_at k)

same-kinds : T (upto same_kind 59)
unfolding same_kind kinds table1 kind_at one_of
same-kinds = tt

kind-is : (k : ℕ) → k < 59 → get_or (kinds table1) k 0 ≡ kind_at k
unfolding same_kind
kind-is k h = eqb→eq (get_or (kinds table1) k 0) (kind_at k) (upto-at same_kind 59 same-kinds k h)

kinds-length : length (kinds table1) ≡ 59
unfolding kinds table1
kinds-length = refl

-- seconds 59 and 60 are markers
late-kind : (k : ℕ) → 59 ≤ k → k ≤ 60 → kind_at k ≡ 2
unfolding kind_at one_of
late-kind k h l = elim (dec_lt k 60) [
  | yes e ↦ let z : k ≡ 59 = omega arith in rw z
  | no n ↦ let z : k ≡ 60 = omega arith in rw z
]

module _ (s : List ℕ) where
  abbrev Right : Type 0
  Right = (k : ℕ) → k < length s → right_at k (get_or s k 0) ≡ true

  front_length : 59 ≤ length s → length (take 59 s) ≡ 59
  front_length h = length-take-le 59 s h

  -- from the layout to its seconds
  module _ (low : 59 ≤ length s) (high : length s ≤ 61) (row : fits table1 (take 59 s) ≡ true) (rest : all is_mark (drop 59 s) ≡ true) where
    early : (k : ℕ) → k < 59 → right_at k (get_or s k 0) ≡ true
    early k h =
        let r = each_at (kinds table1) (take 59 s) (sym (fits_each table1 (take 59 s)) ∙ row) in
        let e = r.1 k (omega (arith, front_length low)) in
        right-kind k (get_or s k 0) ∙ rw (kind-is k h, get_or-take 59 s k 0 h) at e

    late : (k : ℕ) → 59 ≤ k → k < length s → right_at k (get_or s k 0) ≡ true
    unfolding is_kind
    late k h l =
        let e = all-at is_mark (drop 59 s) rest (k - 59) (omega (arith, length-drop 59 s)) in
        let z : 59 + (k - 59) ≡ k = omega arith in
        right-kind k (get_or s k 0) ∙ rw (late-kind k h (omega arith)) (rw (get_or-drop 59 s (k - 59) 0, z) at e)

    right : Right
    right k l = elim (dec_lt k 59) [
      | yes h ↦ early k h
      | no n ↦ late k (omega arith) l
    ]

  -- and back
  module _ (low : 59 ≤ length s) (high : length s ≤ 61) (h : Right) where
    row_fits_lem : fits table1 (take 59 s) ≡ true
    row_fits_lem = fits_each table1 (take 59 s) ∙ at_each (kinds table1) (take 59 s) (front_length low ∙ sym kinds-length, places)
      where
        places : (i : ℕ) → i < length (take 59 s) → is_kind (get_or (kinds table1) i 0) (get_or (take 59 s) i 0) ≡ true
        places i l =
            let k : i < 59 = omega (arith, front_length low) in
            rw (kind-is i k, get_or-take 59 s i 0 k) (sym (right-kind i (get_or s i 0)) ∙ h i (omega arith))

    rest-marked : all is_mark (drop 59 s) ≡ true
    unfolding is_kind
    rest-marked = at_all is_mark (drop 59 s) places
      where
        places : (i : ℕ) → i < length (drop 59 s) → is_mark (get_or (drop 59 s) i 0) ≡ true
        places i l =
            let n = length-drop 59 s in
            let e = sym (right-kind (59 + i) (get_or s (59 + i) 0)) ∙ h (59 + i) (omega (arith, n)) in
            rw (get_or-drop 59 s i 0) (rw (late-kind (59 + i) (omega arith) (omega (arith, n))) at e)

pub layout-seconds : LayoutSeconds
layout-seconds s = (
  (λ h. let l = layout s h in (l.low, l.high, right s l.low l.high l.row l.rest)),
  (λ h. layout-fits s (record { low = h.0; high = h.1; row = row_fits_lem s h.0 h.1 h.2; rest = rest-marked s h.0 h.1 h.2 })),
)
