-- `plan::Plan::daylight_on` meets its contract: by the law of the year its days are those of the definition.
-- Assumes nothing.
use Prim.Native.Nat.{ℕ}
use mathlib.Core.Path.{◌≡◌, sym, ap₂, ◌∙◌}
use native.Mathlib.Omega.{arith}
use Rattle.codewords.specs.CodeWords.{daylight_number}
use Rattle.plan.specs.Plan.{april_sunday, autumn_day, spring_day_of, autumn_day_of, changing}
use Rattle.plan.specs.declared.Plan.{Plan}
use Rattle.plan.proofs.Laws.{spring-small, spring-day-of-small, autumn-small, autumn-day-of-small}
use Rattle.plan.proofs.Earlier.{earlier-days, own-days}
use Rattle.plan.proofs.Plan.daylight_on.Goals as goal
use Rattle.plan.proofs.Plan.daylight_on.Goals.{After-autumn_day}

-- the days of the earlier law
module _ (c : After-autumn_day) where
  abbrev plan : Plan
  plan = c.args.self

  abbrev years : ℕ
  years = c.args.year.since_first

  law : (spring_day_of plan years ≡ april_sunday years) × (autumn_day_of plan years ≡ autumn_day 36 years)
  law = earlier-days plan years (sym c.is_earlier.ensures ∙ c.if-is_earlier.true)

  spring-is : c.april_sunday-spring.result ≡ spring_day_of plan years
  spring-is = c.april_sunday-spring.ensures ∙ sym law.0

  autumn-is : c.autumn_day.result ≡ autumn_day_of plan years
  autumn-is = c.autumn_day.ensures ∙ sym law.1

pub changing_on-requires : goal.changing_on-requires
changing_on-requires c =
    let d = (goal.at.changing_on-requires c).After-autumn_day in (
      omega (arith, spring-is d, spring-day-of-small (plan d) (years d) (omega arith)),
      omega (arith, autumn-is d, autumn-day-of-small (plan d) (years d) (omega arith)),
    )

pub changing_on-requires-else-is_earlier : goal.changing_on-requires-else-is_earlier
changing_on-requires-else-is_earlier c =
    let a = c.args in (
      rw c.spring_day-spring.ensures (spring-small a.self.spring a.year.since_first (omega arith)),
      rw c.autumn_day-else-is_earlier.ensures (autumn-small a.self.autumn a.year.since_first (omega arith)),
    )

pub returns-then-is_earlier : goal.returns-then-is_earlier
returns-then-is_earlier c =
    let d = (goal.at.returns-then-is_earlier c).After-autumn_day in
    c.changing_on.ensures ∙ ap₂ (λ (s e : ℕ). daylight_number (changing s e c.args.day)) (spring-is d) (autumn-is d)

pub returns-else-is_earlier : goal.returns-else-is_earlier
returns-else-is_earlier c =
    let a = c.args in
    let own = own-days a.self a.year.since_first (sym c.is_earlier.ensures ∙ c.if-is_earlier.false) in
    rw (c.changing_on-else-is_earlier.ensures, c.spring_day-spring.ensures, c.autumn_day-else-is_earlier.ensures, own.0, own.1)
