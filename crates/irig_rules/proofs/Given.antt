-- Elements are accepted exactly when a legal plan, minute and second give them.
-- Assumes nothing.
use Prim.Native.Nat.{ℕ, ◌+◌, ◌-◌, ◌*◌, ◌/◌, ◌%◌, ◌≤◌, ◌<◌}
use mathlib.Core.Bool.{Bool, true, false, ◌&&◌}
use mathlib.Core.List.{List, [], ◌∷◌}
use mathlib.Core.Logic.{◌⊎◌, inl, inr}
use mathlib.Core.Path.{◌≡◌, refl, sym, ap, ◌∙◌}
use native.Mathlib.Decide.{dec_lt}
use native.Mathlib.Omega.{arith}
use lib.Dec.{eqb}
use lib.IntN.{ℤ, pos}
use lib.ListN.{get_or}
use borrow.Author.Tests.{lt-ltb, eqb-true}
use Rattle.bits.specs.Bits.{pick, distance}
use Rattle.bits.specs.Numbers.{Numbers, found, refused}
use Rattle.bits.proofs.Tests.{both_true}
use Rattle.bits.proofs.Distance.{distance-refl, distance_none}
use Rattle.questions.specs.Questions.{asked}
use Rattle.gregorian.specs.Gregorian.{first_year, leap_year, month_lengths, months_of, year_length, lengths_from, year_lengths, before, walk, year_of_day}
use Rattle.gregorian.proofs.Months.{placed, year-rest, months-short}
use Rattle.calendar.specs.Calendar.{minute_count, month_count, month_index, last_of_month, last_minute}
use Rattle.calendar.proofs.LastMinute.{one-last-minute, last-is}
use Rattle.codewords.specs.declared.LeapState.TheVariants.{None}
use Rattle.plan.specs.Plan.{legal_plan, legal_rows, legal_leap, has_changes, leap_at, leap_length, length_at}
use Rattle.plan.specs.declared.Plan.{Plan}
use Rattle.plan.proofs.LeapMinute.{three-lengths, other-length-in-leap-minute, leap-minute-length}
use Rattle.messages.specs.Message.{Schedule, legal_schedule, legal_messages, rising, plain}
use Rattle.irig_rules.specs.declared.Clock.{Clock}
use Rattle.irig_rules.specs.Irig.{second_of_day, elements_of, day_of_year, clock_at}
use Rattle.irig_rules.specs.Reading.{clock_in, real_clock, consistent, read_questions, read_irig}
use Rattle.irig_rules.specs.Theorems.{Gives, IrigReadsBack, IrigGiven, IrigNotGiven}
use Rattle.irig_rules.proofs.Facts.{Sixty, InMinute, Real, real, real-clock}
use Rattle.irig_rules.proofs.Shown.{clock-back}
use Rattle.irig_rules.proofs.MonthEnds.{last-day, month-of}

-- ---- reading, and the elements of a time

answers : (t : Bool) (d q d' q' : ℕ) → pick t (found (d ∷ q ∷ [])) (refused 21) ≡ found (d' ∷ q' ∷ []) → (t ≡ true) × (d ≡ d') × (q ≡ q')
answers true d q d' q' h = (refl, ap (λ (n : Numbers). get_or n.values 0 0) h, ap (λ (n : Numbers). get_or n.values 1 0) h)
answers false d q d' q' h = let z : ◌≡◌ {A = ℕ} 21 0 = ap (λ (n : Numbers). n.number) h in absurd (omega arith)

-- the elements of a real time are read as that time
pub clock-reads : (c : Clock) → real_clock c ≡ true → read_irig (elements_of c) ≡ found (c.day ∷ second_of_day c ∷ [])
unfolding read_irig read_questions asked consistent
clock-reads c h = rw (clock-back c h, h, distance-refl (elements_of c))

-- what was accepted
pub record Read (e : List ℕ) (d q : ℕ) : Type 0 where
  pub real : real_clock (clock_in e) ≡ true
  pub same : e ≡ elements_of (clock_in e)
  pub day : (clock_in e).day ≡ d
  pub second : second_of_day (clock_in e) ≡ q

tests : (e : List ℕ) → (real_clock (clock_in e) && consistent e) ≡ true → (real_clock (clock_in e) ≡ true) × (e ≡ elements_of (clock_in e))
unfolding consistent
tests e h = let b = both_true _ _ h in (b.0, distance_none e (elements_of (clock_in e)) (eqb-true (distance e (elements_of (clock_in e))) 0 b.1))

pub accepted : (e : List ℕ) (d q : ℕ) → read_irig e ≡ found (d ∷ q ∷ []) → Read e d q
unfolding read_irig read_questions asked
accepted e d q h =
    let a = answers (real_clock (clock_in e) && consistent e) (clock_in e).day (second_of_day (clock_in e)) d q h in
    let t = tests e a.0 in
    record { real = t.0; same = t.1; day = a.1; second = a.2 }

-- ---- what is given is accepted

module _ (p : Plan) (t x : ℕ) (h : t < minute_count) (l : x < length_at p t) where
  second-small : x ≤ 60
  second-small = go (three-lengths p t)
    where
      go : (length_at p t ≡ 59) ⊎ (length_at p t ≡ 60) ⊎ (length_at p t ≡ 61) → x ≤ 60
      go (inl e) = omega arith
      go (inr (inl e)) = omega arith
      go (inr (inr e)) = omega arith

  day-small : (1 ≤ day_of_year t) × (day_of_year t ≤ 366)
  unfolding day_of_year
  day-small =
      let at = placed (t / 1440) (omega (arith, h)) in
      omega (arith, year-rest (t / 1440) at, months-short (first_year + (year_of_day (t / 1440)).index) 12 (omega arith))

  -- second 60 is that of a month's last minute
  sixty : x ≡ 60 → Sixty (clock_at t x)
  unfolding clock_at
  sixty e =
      let d = last-day t (other-length-in-leap-minute p t (λ f. omega arith)).0 in
      record { second = e; hour = omega (arith, d.1); minute = omega (arith, d.1); ends = d.0 }

  in-minute : InMinute (clock_at t x)
  unfolding clock_at
  in-minute =
      elim (dec_lt x 60) [
        | yes k ↦ inl k
        | no k ↦ inr (sixty (omega (arith, second-small)))
      ]

  pub clock-real : real_clock (clock_at t x) ≡ true
  unfolding clock_at
  clock-real =
      real-clock (clock_at t x) (record { low = day-small.0; high = day-small.1; hour = omega arith; minute = omega arith; second = in-minute })

-- the second of the day, without hour and minute
second_is : (t x : ℕ) → second_of_day (clock_at t x) ≡ t % 1440 * 60 + x
unfolding second_of_day clock_at
second_is t x = omega arith

day-is : (t x : ℕ) → day_of_year t ≡ (clock_at t x).day
unfolding clock_at
day-is t x = refl

pub reads-back : IrigReadsBack
unfolding clock_at
reads-back e p t x g =
    ap read_irig g.3 ∙ clock-reads (clock_at t x) (clock-real p.plan t x g.1 g.2) ∙ rw (second_is t x)

-- ---- what is accepted is given

-- a plan with no daylight time and no messages, and with a leap second in a month or none
abbrev simple : ℤ → ℕ → Schedule
simple sign month = plain (record { kind = 1; spring = 0; autumn = 0; leap_month = month; leap_sign = sign; notice = 0 })

simple-sixty : (t : ℕ) → length_at (simple (pos 0) 0).plan t ≡ 60
unfolding length_at leap_at
simple-sixty t = go (last_of_month t) (eqb (month_index t) 0)
  where
    go : (a b : Bool) → pick a (leap_length (pick b None None)) 60 ≡ 60
    go true true = refl
    go true false = refl
    go false b = refl

simple-legal : legal_schedule (simple (pos 0) 0) ≡ true
unfolding legal_schedule legal_messages rising legal_plan legal_rows has_changes legal_leap
simple-legal = refl

leap-legal : (k : ℕ) → k < month_count → legal_schedule (simple (pos 1) k) ≡ true
unfolding legal_schedule legal_messages rising legal_plan legal_rows has_changes legal_leap
leap-legal k h = rw (lt-ltb k month_count h)

-- a day of the year 2000
first-year : (d : ℕ) → d < 366 → year_of_day d ≡ record { index = 0; rest = d }
unfolding year_of_day year_lengths lengths_from year_length months_of month_lengths leap_year before walk
first-year d h = rw (lt-ltb d 366 h)

day-of-first : (t d : ℕ) → t / 1440 ≡ d - 1 → 1 ≤ d → d ≤ 366 → day_of_year t ≡ d
unfolding day_of_year
day-of-first t d f low high = let k : d - 1 + 1 ≡ d = omega arith in rw (f, first-year (d - 1) (omega arith), k)

-- a plan, minute and second whose time is c
pub record Source (c : Clock) : Type 0 where
  pub plan : Schedule
  pub minute : ℕ
  pub second : ℕ
  pub legal : legal_schedule plan ≡ true
  pub inside : minute < minute_count
  pub below : second < length_at plan.plan minute
  pub clock : clock_at minute second ≡ c

clock-is : (c : Clock) (t x : ℕ) → day_of_year t ≡ c.day → t % 1440 / 60 ≡ c.hour → t % 60 ≡ c.minute → x ≡ c.second → clock_at t x ≡ c
unfolding clock_at
clock-is c t x a b d e = rw (a, b, d, e)

module _ (c : Clock) (r : Real c) where
  common : c.second < 60 → Source c
  common h =
      let m : ℕ = c.hour * 60 + c.minute in
      let t : ℕ = (c.day - 1) * 1440 + m in
      let hour = r.hour in
      let minute = r.minute in
      let low = r.low in
      let high = r.high in
      let f : t / 1440 ≡ c.day - 1 = omega arith in
      let a : t % 1440 / 60 ≡ c.hour = omega arith in
      let b : t % 60 ≡ c.minute = omega arith in
      record {
        plan = simple (pos 0) 0;
        minute = t;
        second = c.second;
        legal = simple-legal;
        inside = omega arith;
        below = rw (simple-sixty t) h;
        clock = clock-is c t c.second (day-of-first t c.day f low high) a b refl;
      }

  leap : Sixty c → Source c
  leap s =
      let m = month-of c.day r.high s.ends in
      let t : ℕ = last_minute m.month in
      let small = m.small in
      let last = (one-last-minute m.month t (omega arith)).1 refl in
      let n = ((leap-minute-length (simple (pos 1) m.month).plan t (last.1, last.0)).0 refl).0 in
      let a : t % 1440 / 60 ≡ c.hour = omega (arith, m.minute, s.hour) in
      let b : t % 60 ≡ c.minute = omega (arith, m.minute, s.minute) in
      record {
        plan = simple (pos 1) m.month;
        minute = t;
        second = 60;
        legal = leap-legal m.month (omega arith);
        inside = ((last-is t).0 last.1).0;
        below = rw n (omega arith);
        clock = clock-is c t 60 m.day a b (sym s.second);
      }

  source : Source c
  source = go r.second
    where
      go : InMinute c → Source c
      go (inl h) = common h
      go (inr s) = leap s

abbrev Given : List ℕ → ℕ → ℕ → Type 0
Given e d q = (p : Schedule) × (t : ℕ) × (x : ℕ) × Gives e p t x × (d ≡ day_of_year t) × (q ≡ t % 1440 * 60 + x)

given_by : (e : List ℕ) (d q : ℕ) → Read e d q → Given e d q
given_by e d q r =
    let c : Clock = clock_in e in
    let s : Source c = source c (real c r.real) in (
      s.plan,
      s.minute,
      s.second,
      (s.legal, s.inside, s.below, r.same ∙ ap elements_of (sym s.clock)),
      sym r.day ∙ sym (day-is s.minute s.second ∙ ap (λ (k : Clock). k.day) s.clock),
      sym r.second ∙ ap second_of_day (sym s.clock) ∙ second_is s.minute s.second,
    )

pub irig-given : IrigGiven
irig-given e d q = (
  (λ h. given_by e d q (accepted e d q h)),
  (λ s. reads-back e s.0 s.1 s.2 s.3 ∙ rw (s.4, s.5)),
)

none : (e : List ℕ) → ((p : Schedule) (t x : ℕ) → Gives e p t x → ⊥) → read_irig e ≡ refused 21
unfolding read_irig read_questions asked
none e k = go (real_clock (clock_in e) && consistent e) refl
  where
    go : (b : Bool) → (real_clock (clock_in e) && consistent e) ≡ b → pick b (found ((clock_in e).day ∷ second_of_day (clock_in e) ∷ [])) (refused 21) ≡ refused 21
    go true h =
        let t = tests e h in
        let s = given_by e (clock_in e).day (second_of_day (clock_in e)) (record { real = t.0; same = t.1; day = refl; second = refl }) in
        absurd (k s.0 s.1 s.2 s.3)
    go false h = refl

pub irig-not-given : IrigNotGiven
irig-not-given e = (never, none e)
  where
    never : read_irig e ≡ refused 21 → (p : Schedule) (t x : ℕ) → Gives e p t x → ⊥
    never h p t x g =
        let z : ◌≡◌ {A = ℕ} 21 0 = ap (λ (n : Numbers). n.number) (sym h ∙ reads-back e p t x g) in
        omega arith
