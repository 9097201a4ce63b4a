-- Laws of reading: real fields, their values, and the two questions.
-- Assumes nothing.
use Prim.Native.Nat.{ℕ, ◌+◌, ◌≤◌, ◌<◌}
use mathlib.Core.Bool.{Bool, true, false}
use mathlib.Core.List.{List}
use mathlib.Core.Path.{◌≡◌, refl, sym, ap, ◌∙◌}
use native.Mathlib.Omega.{arith}
use lib.ListN.{length}
use mir.Syntax.{w32}
use mir.Val.{of_z, to_z}
use Rattle.bits.specs.Bits.{pick}
use Rattle.bits.specs.Numbers.{Numbers, found, refused as refusedAlone}
use Rattle.questions.specs.Questions.{asked}
use Rattle.gregorian.specs.Gregorian.{first_year, year_count, leap_year, month_lengths, months_of, year_length, year_lengths, before}
use Rattle.gregorian.proofs.Years.{before-closed}
use Rattle.calendar.specs.Calendar.{last_of_month}
use Rattle.plan.specs.Plan.{max_frame}
use Rattle.amplitude_rules.specs.Amplitude.{leap_mark, length_fits}
use Rattle.amplitude_rules.specs.Reading.{fields_from, sign_of, layout_fits, numbers_in, values_of, decimal_digits, real_fields, numbers_fit}
use Rattle.amplitude_rules.specs.Reading.{read_questions, accepted, refused, read_amplitude}
use Rattle.amplitude_rules.specs.declared.Fields.{Fields}
use Rattle.amplitude_rules.specs.declared.Values.{Values}
use Rattle.amplitude_rules.proofs.Facts.{real, layout, legal-through, sign-legal, mark-small}
use Rattle.amplitude_row.specs.declared.Row.{Row}
use Rattle.std.specs.Prelude.{Result, Ok, Err}
use Rattle.questions.specs.Refusals.{refusal_number}
use Rattle.questions.specs.declared.Refusal.{Refusal}
use Rattle.questions.specs.declared.Refusal.TheVariants.{IllegalPlan, BadCount, MinuteTooLarge, NoBitSpace, NoEntrySpace, TooShort, NotBits}
use Rattle.questions.specs.declared.Refusal.TheVariants.{BadSync, BadState, BadNextChange, BadMinute, BadLength, OutOfOrder, NotADate}
use Rattle.questions.specs.declared.Refusal.TheVariants.{BadSetting, BadSymbols, BadValue, FirstMessage, UnknownLength, BadSecond}
use Rattle.amplitude_row.specs.Row.{row_numbers, layout_answer, layout_questions, layout_reading}
use Rattle.amplitude_reader.specs.Answer.{numbers_questions, numbers_reading}

-- a year's length by its leap-year mark
pub year_days : (y : ℕ) → year_length y ≡ 365 + leap_mark y
unfolding year_length months_of leap_mark before month_lengths
year_days y = go (leap_year y)
  where
    go : (b : Bool) → before (month_lengths b) 12 ≡ 365 + pick b 1 0
    go true = refl
    go false = refl

pub mark_small : (y : ℕ) → leap_mark y < 2
mark_small y = omega (arith, mark-small y)

-- a sign as a signed number of 32 bits
pub sign-through : (b : ℕ) → to_z w32 (of_z w32 (sign_of b)) ≡ sign_of b
sign-through b = legal-through (sign_of b) (sign-legal b)

-- the bounds of real fields, and of the days before their year, for sums
pub record Bounds (x : Fields) : Type 0 where
  pub low : 1 ≤ x.day
  pub high : x.day ≤ 366
  pub hour : x.hour < 24
  pub minute : x.minute < 60
  pub days : before year_lengths x.year < 40_000

pub bounds : (x : Fields) → x.year < year_count → real_fields x ≡ true → Bounds x
bounds x hy h =
    let r = real x h in
    record {
      low = r.low;
      high = omega (arith, r.high, year_days (first_year + x.year), mark-small (first_year + x.year));
      hour = r.hour;
      minute = r.minute;
      days = rw (before-closed x.year (omega arith)) (omega arith);
    }

-- question 18, answered step by step
module _ (v : List ℕ) (n : ℕ) where
  pub not-decimal : decimal_digits v ≡ false → refused 18 ≡ numbers_reading v n
  unfolding numbers_reading numbers_questions asked numbers_fit
  not-decimal h = rw h

  module _ (x : Fields) (d : decimal_digits v ≡ true) (e : x ≡ fields_from v) where
    real-is : (b : Bool) → real_fields x ≡ b → real_fields (fields_from v) ≡ b
    real-is b h = ap real_fields (sym e) ∙ h

    pub no_fields : real_fields x ≡ false → refused 18 ≡ numbers_reading v n
    unfolding numbers_reading numbers_questions asked numbers_fit
    no_fields h = rw (d, real-is false h)

    module _ (r : Values) (h : real_fields x ≡ true) (t : r ≡ values_of x n) where
      values-is : r ≡ values_of (fields_from v) n
      values-is = t ∙ ap (λ (y : Fields). values_of y n) e

      fits-is : (b : Bool) → length_fits (last_of_month r.minute) r.warning r.seconds ≡ b
          → length_fits (last_of_month (values_of (fields_from v) n).minute) (values_of (fields_from v) n).warning n ≡ b
      unfolding values_of
      fits-is b k = ap (λ (q : Values). length_fits (last_of_month q.minute) q.warning q.seconds) (sym values-is) ∙ k

      pub no_length : length_fits (last_of_month r.minute) r.warning r.seconds ≡ false → refused 18 ≡ numbers_reading v n
      unfolding numbers_reading numbers_questions asked numbers_fit
      no_length k = rw (d, real-is true h, fits-is false k)

      pub all_fit : length_fits (last_of_month r.minute) r.warning r.seconds ≡ true → accepted r ≡ numbers_reading v n
      unfolding numbers_reading numbers_questions asked numbers_fit
      all_fit k = rw (d, real-is true h, fits-is true k) (ap accepted values-is)

-- question 17: what its answer says of the test b
some : (v w : List ℕ) (b : Bool) → found v ≡ pick b (found w) (refusedAlone 17) → (b ≡ true) × (v ≡ w)
some v w true e = (refl, ap (λ (n : Numbers). n.values) e)
some v w false e = let z : ◌≡◌ {A = ℕ} 0 17 = ap (λ (n : Numbers). n.number) e in absurd (omega arith)

none : (k : ℕ) (w : List ℕ) (b : Bool) → 0 < k → refusedAlone k ≡ pick b (found w) (refusedAlone 17) → (b ≡ false) × (k ≡ 17)
none k w true h e = let z : ◌≡◌ {A = ℕ} k 0 = ap (λ (n : Numbers). n.number) e in absurd (omega arith)
none k w false h e = (refl, ap (λ (n : Numbers). n.number) e)

-- no refusal has number 0
some_number : (e : Refusal) → 0 < refusal_number e
some_number IllegalPlan = omega arith
some_number BadCount = omega arith
some_number MinuteTooLarge = omega arith
some_number NoBitSpace = omega arith
some_number NoEntrySpace = omega arith
some_number TooShort = omega arith
some_number NotBits = omega arith
some_number BadSync = omega arith
some_number BadState = omega arith
some_number BadNextChange = omega arith
some_number BadMinute = omega arith
some_number BadLength = omega arith
some_number OutOfOrder = omega arith
some_number NotADate = omega arith
some_number BadSetting = omega arith
some_number BadSymbols = omega arith
some_number BadValue = omega arith
some_number FirstMessage = omega arith
some_number UnknownLength = omega arith
some_number BadSecond = omega arith

module _ (s : List ℕ) (r : Result Row Refusal) (e : layout_answer r ≡ layout_reading s) where
  answer-is : layout_reading s ≡ pick (layout_fits s) (found (numbers_in s)) (refusedAlone 17)
  unfolding layout_reading layout_questions asked
  answer-is = refl

  pub no-layout : (x : Refusal) → r ≡ Err x → refused (refusal_number x) ≡ read_amplitude s
  unfolding read_amplitude read_questions asked
  no-layout x q =
      let n = none (refusal_number x) (numbers_in s) (layout_fits s) (some_number x) (ap layout_answer (sym q) ∙ e ∙ answer-is) in
      rw (n.0, n.1)

  module _ (d : Row) (q : r ≡ Ok d) where
    both : (layout_fits s ≡ true) × (row_numbers d ≡ numbers_in s)
    both = some (row_numbers d) (numbers_in s) (layout_fits s) (ap layout_answer (sym q) ∙ e ∙ answer-is)

    pub short-enough : length s ≤ max_frame
    short-enough = (layout s both.0).high

    pub by-numbers : numbers_reading (row_numbers d) (length s) ≡ read_amplitude s
    unfolding read_amplitude read_questions asked numbers_reading numbers_questions
    by-numbers = rw (both.0, both.1)
