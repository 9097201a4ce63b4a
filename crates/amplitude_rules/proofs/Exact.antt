-- Accepted symbols are those of the values that are read.
-- Assumes nothing.
use Prim.Native.Nat.{ℕ, suc, ◌+◌, ◌-◌, ◌/◌, ◌%◌, ◌≤◌, ◌<◌}
use mathlib.Core.Bool.{Bool, true, false, ◌||◌, and-false}
use mathlib.Core.Logic.{◌⊎◌, inl, inr, ◌≢◌}
use mathlib.Core.List.{List, [], ◌∷◌}
use mathlib.Core.Path.{◌≡◌, refl, sym, ap, ◌∙◌}
use native.Mathlib.Omega.{arith}
use lib.Dec.{eqb}
use lib.ListN.{length, take, drop, get_or, replicate, length-drop, take-append-drop}
use borrow.Author.Tests.{eqb-true, ne_eqb}
use Rattle.bits.specs.Bits.{all}
use Rattle.bits.proofs.Tests.{both_true}
use Rattle.symbols.specs.Symbols.{fill, numbers}
use Rattle.symbols.proofs.Laws.{read-fills}
use Rattle.gregorian.specs.Gregorian.{first_year, year_count, day_count, year_length, year_lengths, before, year_of_day}
use Rattle.gregorian.proofs.Walk.{before-mono, walk_at}
use Rattle.gregorian.proofs.Months.{years-at}
use Rattle.gregorian.proofs.Years.{length-years, days-of-years}
use Rattle.calendar.specs.Calendar.{minute_count, last_of_month}
use Rattle.plan.specs.Plan.{min_frame, usual_frame, max_frame}
use Rattle.questions.proofs.Laws.{Verdict, all_yes, first-no, verdict, answer, yes-at}
use Rattle.amplitude_rules.specs.declared.Fields.{Fields}
use Rattle.amplitude_rules.specs.declared.Values.{Values}
use Rattle.amplitude_rules.specs.Amplitude.{table1, digits, length_fits, legal_values, fields_of, symbols}
use Rattle.amplitude_rules.specs.Reading.{is_mark, layout_fits, numbers_in, fields_from, fields_in, values_of, values_in, decimal_digits, real_fields, numbers_fit}
use Rattle.amplitude_rules.specs.Reading.{fields_fit, read_questions, refused, accepted, read_amplitude}
use Rattle.amplitude_rules.specs.Theorems.{ReadExactly, SymbolsApart, AcceptedLengths}
use Rattle.amplitude_rules.proofs.Digits.{digits-fields}
use Rattle.amplitude_rules.proofs.Facts.{Legal, legal, legal-values, Real, real, sign-forth, sign-legal, layout, nines, year-small}
use Rattle.amplitude_rules.proofs.ReadBack.{read-values}

marks-only : (s : List ℕ) → all is_mark s ≡ true → replicate (length s) 2 ≡ s
marks-only [] h = refl
marks-only (x ∷ s) h =
    let b = both_true (eqb x 2) (all is_mark s) h in
    rw (← eqb-true x 2 b.0) (ap (λ (l : List ℕ). x ∷ l) (rw (eqb-true x 2 b.0) (marks-only s b.1)))

-- the days of a year before its day d, of a year y of the range
module _ (y d : ℕ) (hy : y < year_count) (low : 1 ≤ d) (high : d ≤ year_length (first_year + y)) where
  abbrev day : ℕ
  day = before year_lengths y + (d - 1)

  inside : day < before year_lengths (suc y)
  unfolding year_length
  inside = rw (years-at y hy) (omega arith)

  day-in-range : day < day_count
  day-in-range = omega (arith, inside, before-mono year_lengths (suc y) year_count hy, days-of-years)

  day-place : year_of_day day ≡ record { index = y; rest = d - 1 }
  unfolding year_of_day
  day-place =
      let e : day - before year_lengths y ≡ d - 1 = omega arith in
      walk_at year_lengths day y (record { inside = omega (arith, length-years); low = omega arith; high = inside })
      ∙ rw e

-- the fields of their values are these fields
module _ (x : Fields) (n : ℕ) (h : Real x) (hy : x.year < year_count) where
  abbrev t : ℕ
  t = (values_of x n).minute

  values-day : t / 1440 ≡ before year_lengths x.year + (x.day - 1)
  unfolding values_of
  values-day = let a = h.minute in let b = h.hour in omega arith

  values-in-range : t < minute_count
  unfolding values_of
  values-in-range = let a = h.minute in let b = h.hour in omega (arith, day-in-range x.year x.day hy h.low h.high)

  fields-values : fields_of (values_of x n) ≡ x
  unfolding fields_of values_of
  fields-values =
      let a = h.minute in
      let b = h.hour in
      let l = h.low in
      let e : t % 60 ≡ x.minute = omega arith in
      let f : t % 1440 / 60 ≡ x.hour = omega arith in
      let g : x.day - 1 + 1 ≡ x.day = omega arith in
      rw (values-day, day-place x.year x.day hy h.low h.high, e, f, g, sign-forth x.sign h.sign, ← h.leap)

-- symbols whose layout and fields fit
module _ (s : List ℕ) (q : layout_fits s ≡ true) (v : fields_fit s ≡ true) where
  values : (decimal_digits (numbers_in s) ≡ true) × (real_fields (fields_in s) ≡ true) × (length_fits (last_of_month (values_in s).minute) (values_in s).warning (length s) ≡ true)
  unfolding numbers_fit
  values =
      let a = both_true _ _ v in
      let b = both_true _ _ a.0 in
      (b.0, b.1, a.1)

  row_back : fill table1 (numbers_in s) ≡ take min_frame s
  unfolding numbers_in
  row_back = (read-fills table1 (take min_frame s) (layout s q).row).1

  flags : (get_or (numbers_in s) 12 0 < 2) × (get_or (numbers_in s) 13 0 < 4)
  unfolding numbers_in numbers table1
  flags =
      let h = (read-fills table1 (take min_frame s) (layout s q).row).0 in
      let k = h.1.1.1.1.1.1.1.1.1.1.1.1 in
      (k.0, k.1.0)

  abbrev p : ℕ → ℕ
  p k = get_or (numbers_in s) k 0

  digits-back : digits (fields_in s) ≡ numbers_in s
  unfolding numbers_in numbers table1
  digits-back =
      let n = nines (numbers_in s) values.0 in
      digits-fields (p 0) (p 1) (p 2) (p 3) (p 4) (p 5) (p 6) (p 7) (p 8) (p 9) (p 10) (p 11) (p 12) (p 13) n.0 n.1 n.2 n.3 n.6

  year : (fields_in s).year < year_count
  year = year-small (numbers_in s) values.0

  abbrev r : Values
  r = values_in s

  symbols-back : symbols r ≡ s
  unfolding symbols values_of
  symbols-back =
      let rest = marks-only (drop min_frame s) (layout s q).rest in
      let e : length s - min_frame ≡ length (drop min_frame s) = sym (length-drop min_frame s) in
      rw (fields-values (fields_in s) (length s) (real (fields_in s) values.1) year, digits-back, row_back, e, rest)
      (take-append-drop min_frame s)

  legal-back : Legal r
  unfolding values_of fields_from
  legal-back =
      record {
        minute = values-in-range (fields_in s) (length s) (real (fields_in s) values.1) year;
        sign = sign-legal (fields_in s).sign;
        tenths = (nines (numbers_in s) values.0).4;
        warning = omega (arith, flags.0);
        daylight = omega (arith, flags.1);
        length = values.2;
      }

-- the values of an accepted answer
values-of-answer : (q r : Values) → accepted q ≡ accepted r → q ≡ r
values-of-answer q r h = cc

pub not-refused : (n : ℕ) (q : Values) → refused n ≡ accepted q → ⊥
not-refused n q h = let z : ◌≡◌ {A = ℕ} 0 1 = cc in omega arith

pub read-exactly : ReadExactly
unfolding read_amplitude read_questions answer
read-exactly s q = (
  (λ h. go h (verdict refused (accepted (values_in s)) (read_questions s))),
  (λ h. ap read_amplitude h.1 ∙ read-values q (legal q h.0)),
)
  where
    go : read_amplitude s ≡ accepted q → Verdict refused (accepted (values_in s)) (read_questions s) → (legal_values q ≡ true) × (s ≡ symbols q)
    go h (first-no n a e) = absurd (not-refused n q (sym e ∙ h))
    go h (all_yes a e) =
        let l : layout_fits s ≡ true = yes-at (read_questions s) a 17 in
        let f : fields_fit s ≡ true = yes-at (read_questions s) a 18 in
        rw (← values-of-answer (values_in s) q (sym e ∙ h)) (legal-values (r s l f) (legal-back s l f), sym (symbols-back s l f))

pub symbols-apart : SymbolsApart
symbols-apart q r lq lr other same =
    other (values-of-answer q r (sym (read-values q (legal q lq)) ∙ ap read_amplitude same ∙ read-values r (legal r lr)))

-- ---- what is accepted

or : (a b : Bool) → (a || b) ≡ true → (a ≡ true) ⊎ (b ≡ true)
or true b h = inl refl
or false b h = inr h

module _ (r : Values) (fits : length_fits (last_of_month r.minute) r.warning r.seconds ≡ true) where
  warned : last_of_month r.minute ≡ true → r.warning ≡ 1 → (r.seconds ≡ 59) ⊎ (r.seconds ≡ 61)
  unfolding length_fits
  warned last one = go (or (eqb r.seconds min_frame) (eqb r.seconds max_frame) (rw (last, one) at fits))
    where
      go : (eqb r.seconds min_frame ≡ true) ⊎ (eqb r.seconds max_frame ≡ true) → (r.seconds ≡ 59) ⊎ (r.seconds ≡ 61)
      go (inl e) = inl (eqb-true r.seconds min_frame e)
      go (inr e) = inr (eqb-true r.seconds max_frame e)

  other : (last_of_month r.minute ≡ false) ⊎ (r.warning ≢ 1) → r.seconds ≡ 60
  unfolding length_fits
  other (inl h) = eqb-true r.seconds usual_frame (rw h at fits)
  other (inr n) = eqb-true r.seconds usual_frame (rw (ne_eqb r.warning 1 n, and-false (last_of_month r.minute)) at fits)

pub accepted-lengths : AcceptedLengths
accepted-lengths s r h =
    let l = (legal r ((read-exactly s r).0 h).0).length in
    record { warned = warned r l; other = other r l }
