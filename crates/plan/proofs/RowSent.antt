-- The states and the rows that each kind sends.
-- Assumes nothing.
use Prim.Native.Nat.{ℕ, suc, ◌+◌, ◌/◌, ◌≤◌, ◌<◌}
use mathlib.Core.Bool.{Bool, true, false, and-false, false≢true}
use mathlib.Core.Logic.{inl, inr}
use mathlib.Core.Path.{◌≡◌, refl, sym, ap, ◌∙◌}
use native.Mathlib.Decide.{ℕ_discrete, dec_lt}
use native.Mathlib.Omega.{arith}
use lib.Dec.{leb, ltb, lit≤}
use borrow.Author.Tests.{le-leb, lt-leb, lt-ltb, le-ltb}
use Rattle.bits.specs.Bits.{pick}
use Rattle.gregorian.specs.Gregorian.{first_year, year_lengths, year_of_day}
use Rattle.gregorian.specs.declared.Place.{Place}
use Rattle.gregorian.proofs.Walk.{before-mono}
use Rattle.gregorian.proofs.Months.{Placed, placed, year-place}
use Rattle.calendar.specs.Calendar.{minute_count}
use Rattle.codewords.specs.CodeWords.{daylight_number}
use Rattle.codewords.specs.declared.DaylightState.{DaylightState}
use Rattle.codewords.specs.declared.DaylightState.TheVariants.{Standard, Begins, Daylight, Ends}
use Rattle.plan.specs.Plan.{daylight_of, has_changes, spring_day, autumn_day, is_earlier, spring_row, autumn_row, within, changing, spring_day_of, autumn_day_of, daylight_at, next_row, spring_year, row_on, row_for, row_at}
use Rattle.plan.specs.Earlier.{of_kind, AsKind0From2007, RowSent, OwnRowsSent, StatesOfKind0, StatesOfKinds1And2}
use Rattle.plan.specs.declared.Plan.{Plan}
use Rattle.plan.proofs.Laws.{year-of}
use Rattle.plan.proofs.Follows.{spring-of-late, changes-in-order}
use Rattle.plan.proofs.Earlier.{with-changes, own-days, not_earlier, own-rows}

-- dst_on[1] picks the row
picks : (spring autumn : ℕ) (a b : Bool) → next_row spring autumn (daylight_of a b) ≡ pick a autumn spring
picks spring autumn true true = refl
picks spring autumn true false = refl
picks spring autumn false true = refl
picks spring autumn false false = refl

pub next-on : (spring autumn : ℕ) (d : DaylightState) → leb 2 (daylight_number d) ≡ true → next_row spring autumn d ≡ autumn
next-on spring autumn Standard h = absurd (false≢true h)
next-on spring autumn Ends h = absurd (false≢true h)
next-on spring autumn Begins h = refl
next-on spring autumn Daylight h = refl

pub next-off : (spring autumn : ℕ) (d : DaylightState) → leb 2 (daylight_number d) ≡ false → next_row spring autumn d ≡ spring
next-off spring autumn Standard h = refl
next-off spring autumn Ends h = refl
next-off spring autumn Begins h = absurd (false≢true (sym h))
next-off spring autumn Daylight h = absurd (false≢true (sym h))

module _ (p : Plan) (t y : ℕ) (c : has_changes p.kind ≡ true) (e : (year_of_day (t / 1440)).index ≡ y) where
  abbrev on : Bool
  on = within (spring_day_of p y) (autumn_day_of p y) (t / 1440)

  by_state : (spring autumn : ℕ) → next_row spring autumn (daylight_at p t) ≡ pick on autumn spring
  unfolding daylight_at changing
  by_state spring autumn = rw (c, e) (picks spring autumn on (within (spring_day_of p y + 1) (autumn_day_of p y + 1) (t / 1440)))

  by-day : row_at p t ≡ pick on (autumn_row p y) (spring_row p (spring_year p y (t / 1440)))
  unfolding row_at row_for row_on
  by-day = rw (c, e) (by_state (spring_row p (spring_year p y (t / 1440))) (autumn_row p y))

  before-spring : t / 1440 < spring_day_of p y → row_at p t ≡ spring_row p y
  before-spring h =
      by-day
      ∙ unfold within spring_year in
      rw (lt-leb (spring_day_of p y) (t / 1440) h, lt-ltb (t / 1440) (autumn_day_of p y) (omega (arith, changes-in-order p y)))

  from-spring : spring_day_of p y ≤ t / 1440 → t / 1440 < autumn_day_of p y → row_at p t ≡ autumn_row p y
  from-spring h k = by-day ∙ unfold within spring_year in rw (le-leb (spring_day_of p y) (t / 1440) h, lt-ltb (t / 1440) (autumn_day_of p y) k)

  from-autumn : autumn_day_of p y ≤ t / 1440 → row_at p t ≡ spring_row p (y + 1)
  from-autumn h =
      by-day
      ∙ unfold within spring_year in
      rw (le-leb (spring_day_of p y) (t / 1440) (omega (arith, changes-in-order p y)), le-ltb (t / 1440) (autumn_day_of p y) h)

  -- where the rows are the plan's own, the state picks one of them, and is that of their days
  own_row : autumn_row p y ≡ p.autumn → spring_row p (spring_year p y (t / 1440)) ≡ p.spring
      → (d : DaylightState) → row_for p t d ≡ next_row p.spring p.autumn d
  unfolding row_for row_on
  own_row own s d = rw (c, e, own, s)

  own-state : is_earlier p.kind y ≡ false → daylight_at p t ≡ changing (spring_day p.spring y) (autumn_day p.autumn y) (t / 1440)
  unfolding daylight_at
  own-state own = let days = own-days p y own in rw (c, e, days.0, days.1)

pub row-sent : RowSent
row-sent p t y k e = let c = with-changes p k in (before-spring p t y c e, from-spring p t y c e, from-autumn p t y c e)

-- kind 0: the plan's own rows in every year
own-0 : (p : Plan) → p.kind ≡ 0 → (y : ℕ) → (spring_row p y ≡ p.spring) × (autumn_row p y ≡ p.autumn)
own-0 p k y = own-rows p y (inl (λ l. omega arith))

pub row-for-0 : (p : Plan) → p.kind ≡ 0 → (t : ℕ) (d : DaylightState) → row_for p t d ≡ next_row p.spring p.autumn d
row-for-0 p k t d =
    let y = (year_of_day (t / 1440)).index in
    own_row p t y (with-changes p (inl k)) refl (own-0 p k y).1 (own-0 p k (spring_year p y (t / 1440))).0 d

pub states-of-kind-0 : StatesOfKind0
unfolding row_at
states-of-kind-0 p t y k e = (
  own-state p t y (with-changes p (inl k)) e (not_earlier p.kind y (inl (λ l. omega arith))),
  row-for-0 p k t (daylight_at p t),
)

-- kinds 1 and 2: the same in every minute
pub states-of-kinds-1-and-2 : StatesOfKinds1And2
unfolding row_at row_for daylight_at has_changes
states-of-kinds-1-and-2 p t = (λ k. rw k (refl, refl), λ k. rw k (refl, refl))

-- kind 3 from 2007 on: the plan's own rows
year-or-next : (p : Plan) (y day : ℕ) → y ≤ spring_year p y day
unfolding spring_year
year-or-next p y day = go (ltb day (autumn_day_of p y))
  where
    go : (b : Bool) → y ≤ pick b y (y + 1)
    go true = omega arith
    go false = omega arith

module _ (p : Plan) (t y : ℕ) (k : p.kind ≡ 3) (e : (year_of_day (t / 1440)).index ≡ y) (late : 2006 < first_year + y) where
  own : (z : ℕ) → y ≤ z → (spring_row p z ≡ p.spring) × (autumn_row p z ≡ p.autumn)
  own z h = own-rows p z (inr (omega (arith, late)))

  state-from-2007 : daylight_at p t ≡ changing (spring_day p.spring y) (autumn_day p.autumn y) (t / 1440)
  state-from-2007 = own-state p t y (with-changes p (inr k)) e (not_earlier p.kind y (inr late))

  row-from-2007 : row_at p t ≡ next_row p.spring p.autumn (daylight_at p t)
  unfolding row_at
  row-from-2007 =
      let next = (own (spring_year p y (t / 1440)) (year-or-next p y (t / 1440))).0 in
      own_row p t y (with-changes p (inr k)) e (own y (omega arith)).1 next (daylight_at p t)

pub as-kind-0-from-2007 : AsKind0From2007
as-kind-0-from-2007 p t late =
    let y = (year_of_day (t / 1440)).index in
    let l : 2006 < first_year + y = omega (arith, late, year-of t) in
    let zero = states-of-kind-0 (of_kind 0 p) t y refl refl in
    let state = state-from-2007 (of_kind 3 p) t y refl refl l ∙ sym zero.0 in
    (state, row-from-2007 (of_kind 3 p) t y refl refl l ∙ ap (next_row p.spring p.autumn) state ∙ sym zero.1)

-- kind 3 from the autumn day of 2006 on
module _ (p : Plan) (t : ℕ) (k : p.kind ≡ 3) (late : autumn_day_of p 6 ≤ t / 1440) where
  -- in the rest of 2006 dst_on[1] is 0, and the row is the spring row of 2007
  rest-of-2006 : (year_of_day (t / 1440)).index ≡ 6 → row_at p t ≡ next_row p.spring p.autumn (daylight_at p t)
  unfolding within
  rest-of-2006 e =
      let c = with-changes p (inr k) in
      let after : ltb (t / 1440) (autumn_day_of p 6) ≡ false = le-ltb (t / 1440) (autumn_day_of p 6) late in
      let off : pick (on p t 6 c e) p.autumn p.spring ≡ p.spring =
      rw after (ap (λ (b : Bool). pick b p.autumn p.spring) (and-false (leb (spring_day_of p 6) (t / 1440)))) in
      from-autumn p t 6 c e late ∙ (own-rows p 7 (inr (lit≤ tt))).0 ∙ sym (by_state p t 6 c e p.spring p.autumn ∙ off)

  from-2006 : (d : Placed (t / 1440)) → 6 ≤ d.year
  from-2006 d =
      elim (dec_lt d.year 6) [
        | yes h ↦
            absurd (omega (
              arith,
              late,
              before-mono year_lengths (suc d.year) 6 h,
              d.in_year.high,
              spring-of-late p 6,
              changes-in-order p 6,
            ))
        | no h ↦ omega arith
      ]

  own-sent : t < minute_count → row_at p t ≡ next_row p.spring p.autumn (daylight_at p t)
  own-sent h =
      let d = placed (t / 1440) (omega arith) in
      let y : (year_of_day (t / 1440)).index ≡ d.year = ap (λ (x : Place). x.index) (year-place (t / 1440) d) in
      elim (ℕ_discrete d.year 6) [
        | yes e ↦ rest-of-2006 (y ∙ e)
        | no n ↦ row-from-2007 p t d.year k y (omega (arith, from-2006 d))
      ]

pub own-rows-sent : OwnRowsSent
own-rows-sent p t k h late = own-sent p t k late h
