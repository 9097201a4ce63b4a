-- The tests of values and of fields, as facts.
-- Assumes nothing.
use Prim.Native.Nat.{ℕ, zero, suc, ◌+◌, ◌≤◌, ◌<◌}
use mathlib.Core.Bool.{Bool, true, false, ◌&&◌, ◌||◌, false≢true}
use mathlib.Core.List.{List}
use mathlib.Core.Logic.{◌⊎◌, inl, inr}
use mathlib.Core.Path.{◌≡◌, refl, sym, ap}
use native.Mathlib.Decide.{dec_lt}
use native.Mathlib.Omega.{arith}
use lib.Dec.{leb, eqb}
use lib.IntN.{ℤ, pos, negsuc}
use lib.ListN.{length, take, drop, get_or}
use mir.Syntax.{w32}
use mir.Val.{of_z, to_z}
use borrow.Author.Tests.{lt-ltb, ltb-true, le-leb, leb-true, eqb-true, ne_eqb}
use Rattle.bits.specs.Bits.{pick, all}
use Rattle.bits.proofs.Tests.{both_true, and-true}
use Rattle.symbols.specs.Symbols.{fits}
use Rattle.gregorian.specs.Gregorian.{first_year, year_count, leap_year, year_length}
use Rattle.calendar.specs.Calendar.{minute_count, last_of_month}
use Rattle.plan.specs.Plan.{min_frame, usual_frame, max_frame}
use Rattle.amplitude_rules.specs.declared.Fields.{Fields}
use Rattle.amplitude_rules.specs.declared.Values.{Values}
use Rattle.amplitude_rules.specs.Amplitude.{table1, plus_bits, minus_bits, sign_bits, legal_sign, legal_ut1, leap_mark, length_fits, legal_values}
use Rattle.amplitude_rules.specs.Reading.{is_mark, layout_fits, fields_from, sign_of, decimal_digits, real_fields}
use Rattle.amplitude_rules.specs.Theorems.{UT1Limits}

-- values that fit each other, as facts
pub record Legal (r : Values) : Type 0 where
  pub minute : r.minute < minute_count
  pub sign : legal_sign r.sign ≡ true
  pub tenths : r.tenths ≤ 9
  pub warning : r.warning ≤ 1
  pub daylight : r.daylight ≤ 3
  pub length : length_fits (last_of_month r.minute) r.warning r.seconds ≡ true

pub legal : (r : Values) → legal_values r ≡ true → Legal r
unfolding legal_values legal_ut1
legal r h =
    let a = both_true _ _ h in
    let b = both_true _ _ a.0 in
    let c = both_true _ _ b.0 in
    let d = both_true _ _ c.0 in
    let u = both_true _ _ d.1 in
    record {
      minute = ltb-true _ _ d.0;
      sign = u.0;
      tenths = leb-true _ _ u.1;
      warning = leb-true _ _ c.1;
      daylight = leb-true _ _ b.1;
      length = a.1;
    }

pub legal-values : (r : Values) → Legal r → legal_values r ≡ true
unfolding legal_values legal_ut1
legal-values r l = simp (lt-ltb _ _ l.minute, l.sign, le-leb _ _ l.tenths, le-leb _ _ l.warning, le-leb _ _ l.daylight, l.length)

-- ---- the length

-- a length that fits is 59, 60 or 61
pub lengths : (last : Bool) (warning n : ℕ) → length_fits last warning n ≡ true → (min_frame ≤ n) × (n ≤ max_frame)
unfolding length_fits
lengths last warning n h =
    elim (dec_lt n min_frame) [
      | yes l ↦ absurd (outside (λ k e. omega arith))
      | no l ↦ elim (dec_lt max_frame n) [
        | yes g ↦ absurd (outside (λ k e. omega arith))
        | no g ↦ (omega arith, omega arith)
      ]
    ]
  where
    never : (t : Bool) → pick t false false ≡ true → ⊥
    never true h = false≢true h
    never false h = false≢true h

    outside : ((k : ℕ) → (min_frame ≤ k) × (k ≤ max_frame) → n ≡ k → ⊥) → ⊥
    outside far =
        never (last && eqb warning 1)
        (rw (not_at min_frame (omega arith, omega arith), not_at usual_frame (omega arith, omega arith), not_at max_frame (omega arith, omega arith)) at h)
      where
        not_at : (k : ℕ) → (min_frame ≤ k) × (k ≤ max_frame) → eqb n k ≡ false
        not_at k i = ne_eqb n k (far k i)

-- ---- the UT1 sign

pub sign-back : (z : ℤ) → legal_sign z ≡ true → sign_of (sign_bits z) ≡ z
unfolding legal_sign sign_of sign_bits
sign-back (pos n) h = ap pos (sym (eqb-true n 1 h))
sign-back (negsuc n) h = ap negsuc (sym (eqb-true n 0 h))

-- a legal sign as a signed number of 32 bits
pub legal-through : (z : ℤ) → legal_sign z ≡ true → to_z w32 (of_z w32 z) ≡ z
unfolding legal_sign
legal-through (pos zero) h = absurd (false≢true h)
legal-through (pos (suc zero)) h = refl
legal-through (pos (suc (suc k))) h = let e = eqb-true (suc (suc k)) 1 h in absurd (omega arith)
legal-through (negsuc zero) h = refl
legal-through (negsuc (suc k)) h = let e = eqb-true (suc k) 0 h in absurd (omega arith)

pub sign-real : (z : ℤ) → (eqb (sign_bits z) plus_bits || eqb (sign_bits z) minus_bits) ≡ true
unfolding sign_bits
sign-real (pos n) = refl
sign-real (negsuc n) = refl

pub sign_small : (z : ℤ) → sign_bits z < 8
unfolding sign_bits
sign_small (pos n) = omega arith
sign_small (negsuc n) = omega arith

pub sign-forth : (b : ℕ) → (eqb b plus_bits || eqb b minus_bits) ≡ true → sign_bits (sign_of b) ≡ b
unfolding sign_bits sign_of
sign-forth b h = go (eqb b plus_bits) refl h
  where
    go : (t : Bool) → eqb b plus_bits ≡ t → (t || eqb b minus_bits) ≡ true → sign_bits (pick t (pos 1) (negsuc 0)) ≡ b
    go true e h = sym (eqb-true b plus_bits e)
    go false e h = sym (eqb-true b minus_bits h)

-- every sign that is read is legal
pub sign-legal : (b : ℕ) → legal_sign (sign_of b) ≡ true
unfolding sign_of legal_sign
sign-legal b = go (eqb b plus_bits)
  where
    go : (t : Bool) → legal_sign (pick t (pos 1) (negsuc 0)) ≡ true
    go true = refl
    go false = refl

-- ---- the leap-year mark

pub picked-below : {x y n : ℕ} (b : Bool) → x < n → y < n → pick b x y < n
picked-below true h k = h
picked-below false h k = k

pub mark-small : (y : ℕ) → leap_mark y < 2
unfolding leap_mark
mark-small y = picked-below (leap_year y) (omega arith) (omega arith)

-- ---- real fields

pub record Real (x : Fields) : Type 0 where
  pub sign : (eqb x.sign plus_bits || eqb x.sign minus_bits) ≡ true
  pub minute : x.minute < 60
  pub hour : x.hour < 24
  pub low : 1 ≤ x.day
  pub high : x.day ≤ year_length (first_year + x.year)
  pub leap : x.leap ≡ leap_mark (first_year + x.year)

pub real : (x : Fields) → real_fields x ≡ true → Real x
unfolding real_fields
real x h =
    let a = both_true _ _ h in
    let b = both_true _ _ a.0 in
    let c = both_true _ _ b.0 in
    let d = both_true _ _ c.0 in
    let e = both_true _ _ d.0 in
    record {
      sign = e.0;
      minute = ltb-true _ _ e.1;
      hour = ltb-true _ _ d.1;
      low = leb-true _ _ c.1;
      high = leb-true _ _ b.1;
      leap = eqb-true _ _ a.1;
    }

-- ---- question 17

-- its parts: the length, the row, and markers after it
pub record Layout (s : List ℕ) : Type 0 where
  pub low : min_frame ≤ length s
  pub high : length s ≤ max_frame
  pub row : fits table1 (take min_frame s) ≡ true
  pub rest : all is_mark (drop min_frame s) ≡ true

pub layout : (s : List ℕ) → layout_fits s ≡ true → Layout s
unfolding layout_fits
layout s h =
    let a = both_true _ _ h in
    let b = both_true _ _ a.0 in
    let c = both_true _ _ b.0 in
    record { low = leb-true _ _ c.0; high = leb-true _ _ c.1; row = b.1; rest = a.1 }

pub layout-fits : (s : List ℕ) → Layout s → layout_fits s ≡ true
unfolding layout_fits
layout-fits s l = and-true (and-true (and-true (le-leb min_frame (length s) l.low) (le-leb (length s) max_frame l.high)) l.row) l.rest

-- ---- decimal digits

module _ (v : List ℕ) (h : decimal_digits v ≡ true) where
  abbrev p : ℕ → ℕ
  p k = get_or v k 0

  pub nines : (p 1 ≤ 9) × (p 3 ≤ 9) × (p 5 ≤ 9) × (p 6 ≤ 9) × (p 8 ≤ 9) × (p 9 ≤ 9) × (p 10 ≤ 9)
  unfolding decimal_digits
  nines =
      let a = both_true _ _ h in
      let b = both_true _ _ a.0 in
      let c = both_true _ _ b.0 in
      let d = both_true _ _ c.0 in
      let e = both_true _ _ d.0 in
      let f = both_true _ _ e.0 in
      (leb-true _ _ f.0, leb-true _ _ f.1, leb-true _ _ e.1, leb-true _ _ d.1, leb-true _ _ c.1, leb-true _ _ b.1, leb-true _ _ a.1)

  -- they show a year of the range
  pub year-small : (fields_from v).year < year_count
  unfolding fields_from
  year-small = let n = nines in omega arith

-- ---- UT1

abbrev OneOrMinusOne : ℤ → Type 0
OneOrMinusOne z = (z ≡ pos 1) ⊎ (z ≡ negsuc 0)

sign-is : (z : ℤ) → legal_sign z ≡ true → OneOrMinusOne z
unfolding legal_sign
sign-is (pos n) h = inl (ap pos (eqb-true n 1 h))
sign-is (negsuc n) h = inr (ap negsuc (eqb-true n 0 h))

is-sign : (z : ℤ) → OneOrMinusOne z → legal_sign z ≡ true
unfolding legal_sign
is-sign z (inl e) = rw e
is-sign z (inr e) = rw e

pub ut1-limits : UT1Limits
unfolding legal_ut1
ut1-limits sign tenths = (
  (λ h. let b = both_true (legal_sign sign) (leb tenths 9) h in (sign-is sign b.0, leb-true tenths 9 b.1)),
  (λ h. and-true (is-sign sign h.0) (le-leb tenths 9 h.1)),
)
