-- Second 60, the straight seconds, and the range of what is read.
-- Assumes nothing.
use Prim.Native.Nat.{ℕ, ◌+◌, ◌*◌, ◌≤◌}
use mathlib.Core.Bool.{true}
use mathlib.Core.List.{List, [], ◌∷◌}
use mathlib.Core.Logic.{◌⊎◌, inl, inr}
use mathlib.Core.Path.{◌≡◌, refl, ap, ◌∙◌}
use native.Mathlib.Omega.{arith}
use Rattle.bits.specs.Bits.{all}
use Rattle.bits.specs.Numbers.{found}
use Rattle.questions.specs.Questions.{one_of}
use Rattle.gregorian.specs.Gregorian.{month_lengths, before}
use Rattle.irig_rules.specs.declared.Clock.{Clock}
use Rattle.irig_rules.specs.Irig.{second_of_day, elements_of}
use Rattle.irig_rules.specs.Reading.{clock_in, ends_month, real_second, real_clock, read_irig}
use Rattle.irig_rules.specs.Theorems.{last_days, leap_second, LeapSecondDays, Agrees, StraightAgrees, IrigRange}
use Rattle.irig_rules.proofs.Facts.{Sixty, InMinute, Real, real, before-sixty, day-high}
use Rattle.irig_rules.proofs.Shown.{listed-all, straight-back}
use Rattle.irig_rules.proofs.MonthEnds.{month-of}
use Rattle.irig_rules.proofs.Given.{clock-reads, Read, accepted}

-- ---- second 60

last-days-real : all (λ d. real_clock (leap_second d)) last_days ≡ true
unfolding real_clock real_second ends_month one_of month_lengths before
last-days-real = refl

last-read : (d : ℕ) → one_of last_days d ≡ true → read_irig (elements_of (leap_second d)) ≡ found (d ∷ 86_400 ∷ [])
unfolding second_of_day
last-read d h = clock-reads (leap_second d) (listed-all (λ k. real_clock (leap_second k)) last_days last-days-real d h)

leap-is : (c : Clock) → Sixty c → c ≡ leap_second c.day
leap-is c s = rw (s.hour, s.minute, s.second)

module _ (e : List ℕ) (d q : ℕ) (h : read_irig e ≡ found (d ∷ q ∷ [])) where
  abbrev c : Clock
  c = clock_in e

  abbrev a : Read e d q
  a = accepted e d q h

  abbrev r : Real c
  r = real c a.real

  abbrev Last : Type 0
  Last = (one_of last_days d ≡ true) × (e ≡ elements_of (leap_second d))

  last : Sixty c → Last
  last s = (
    rw a.day at (month-of c.day r.high s.ends).listed,
    a.same ∙ ap elements_of (leap-is c s) ∙ ap (λ (k : ℕ). elements_of (leap_second k)) a.day,
  )

  alone : (c.second ≡ 60) ⊎ (86_400 ≤ q) → Last
  alone at = go r.second at
    where
      go : InMinute c → (c.second ≡ 60) ⊎ (86_400 ≤ q) → Last
      go (inr s) k = last s
      go (inl l) (inl k) = absurd (omega arith)
      go (inl l) (inr k) = absurd (omega (arith, before-sixty c r l, a.second))

  digits_are : (c.hour * 60 + c.minute) * 60 + c.second ≡ second_of_day c
  unfolding second_of_day
  digits_are = refl

  agrees : Agrees e d q
  agrees =
      record {
        straight = rw (← a.same) at (straight-back c a.real) ∙ a.second;
        digits = digits_are ∙ a.second;
        day = a.day;
      }

  range : (1 ≤ d) × (d ≤ 366) × (q ≤ 86_400)
  range = (rw a.day at r.low, rw a.day at r.high, rw a.second at (day-high c r))

pub leap-second-days : LeapSecondDays
leap-second-days = record { read = last-read; alone = alone }

pub straight-agrees : StraightAgrees
straight-agrees = agrees

pub irig-range : IrigRange
irig-range = range
