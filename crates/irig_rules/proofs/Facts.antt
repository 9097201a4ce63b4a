-- Real times as facts: what `real_clock` tests, and the other way round.
-- Assumes nothing.
use Prim.Native.Nat.{◌≤◌, ◌<◌}
use mathlib.Core.Bool.{Bool, true, false, ◌&&◌, ◌||◌}
use mathlib.Core.Logic.{◌⊎◌, inl, inr}
use mathlib.Core.Path.{◌≡◌, refl}
use native.Mathlib.Omega.{arith}
use lib.Dec.{ltb, eqb}
use borrow.Author.Tests.{lt-ltb, ltb-true, le-leb, leb-true, eqb-true}
use Rattle.bits.proofs.Tests.{and-true, both_true}
use Rattle.irig_rules.specs.declared.Clock.{Clock}
use Rattle.irig_rules.specs.Irig.{second_of_day}
use Rattle.irig_rules.specs.Reading.{ends_month, real_second, real_clock}

-- second 60 of 23:59 of a day that ends a month
pub record Sixty (c : Clock) : Type 0 where
  pub second : c.second ≡ 60
  pub hour : c.hour ≡ 23
  pub minute : c.minute ≡ 59
  pub ends : ends_month c.day ≡ true

abbrev pub InMinute : Clock → Type 0
InMinute c = (c.second < 60) ⊎ Sixty c

pub record Real (c : Clock) : Type 0 where
  pub low : 1 ≤ c.day
  pub high : c.day ≤ 366
  pub hour : c.hour < 24
  pub minute : c.minute < 60
  pub second : InMinute c

module _ (c : Clock) where
  abbrev a : Bool
  a = eqb c.second 60

  abbrev b : Bool
  b = eqb c.hour 23

  abbrev d : Bool
  d = eqb c.minute 59

  in-minute : real_second c ≡ true → InMinute c
  unfolding real_second
  in-minute h = go (ltb c.second 60) refl h
    where
      go : (t : Bool) → ltb c.second 60 ≡ t → (t || (a && b && d && ends_month c.day)) ≡ true → InMinute c
      go true e h = inl (ltb-true c.second 60 e)
      go false e h =
          let x = both_true _ _ h in
          let y = both_true _ _ x.0 in
          let z = both_true _ _ y.0 in
          inr (record { second = eqb-true c.second 60 z.0; hour = eqb-true c.hour 23 z.1; minute = eqb-true c.minute 59 y.1; ends = x.1 })

  minute-in : InMinute c → real_second c ≡ true
  unfolding real_second
  minute-in (inl h) = rw (lt-ltb c.second 60 h)
  minute-in (inr s) = rw (s.second, s.hour, s.minute, s.ends)

  pub real : real_clock c ≡ true → Real c
  unfolding real_clock
  real h =
      let x = both_true _ _ h in
      let y = both_true _ _ x.0 in
      let z = both_true _ _ y.0 in
      let w = both_true _ _ z.0 in
      record {
        low = leb-true 1 c.day w.0;
        high = leb-true c.day 366 w.1;
        hour = ltb-true c.hour 24 z.1;
        minute = ltb-true c.minute 60 y.1;
        second = in-minute x.1;
      }

  pub real-clock : Real c → real_clock c ≡ true
  unfolding real_clock
  real-clock r =
      and-true
      (and-true (and-true (and-true (le-leb 1 c.day r.low) (le-leb c.day 366 r.high)) (lt-ltb c.hour 24 r.hour)) (lt-ltb c.minute 60 r.minute))
      (minute-in r.second)

  module _ (r : Real c) where
    pub second-high : c.second ≤ 60
    second-high = go r.second
      where
        go : InMinute c → c.second ≤ 60
        go (inl h) = omega arith
        go (inr s) = omega (arith, s.second)

    -- below second 60 the day has fewer than 86,400 seconds, and else it is just so many
    pub before-sixty : c.second < 60 → second_of_day c < 86_400
    unfolding second_of_day
    before-sixty h = omega (arith, r.hour, r.minute)

    pub day-high : second_of_day c ≤ 86_400
    unfolding second_of_day
    day-high = go r.second
      where
        go : InMinute c → second_of_day c ≤ 86_400
        go (inl h) = omega (arith, before-sixty h)
        go (inr s) = rw (s.hour, s.minute, s.second) (omega arith)
