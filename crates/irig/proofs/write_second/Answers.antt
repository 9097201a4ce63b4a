-- `irig::write_second` meets its contract.
-- Assumes nothing.
use Prim.Native.Nat.{◌<◌}
use mathlib.Core.Path.{◌≡◌, sym, ap, ◌∙◌}
use native.Mathlib.Omega.{arith}
use Rattle.std.proofs.lemmas.Result.{err_from_is_err_and}
use Rattle.calendar.specs.Calendar.{minute_count}
use Rattle.plan.specs.Plan.{length_at}
use Rattle.irig_rules.specs.Reading.{real_clock}
use Rattle.irig_rules.proofs.Given.{clock-real}
use Rattle.irig.proofs.Writing.{no-1, no-3, no-21, no-4, all_yes}
use Rattle.irig.proofs.write_second.Goals as goal
use Rattle.irig.proofs.write_second.Goals.{In_ok-minute, Else-length-second}

pub returns-then-not-is_legal : goal.returns-then-not-is_legal
returns-then-not-is_legal c = no-1 _ c.args.minute c.args.second c.args.out.now (sym c.is_legal.ensures ∙ c.if-not-is_legal.true)

pub returns-in_err-minute : goal.returns-in_err-minute
returns-in_err-minute c =
    let p = err_from_is_err_and c.from_residual.result c.from_residual.ensures.1 in
    rw (p.1, p.2, c.in_err-minute.ensures.0)
    (no-3 _ c.args.minute c.args.second c.args.out.now (sym c.is_legal.ensures ∙ c.if-not-is_legal.false) c.in_err-minute.ensures.1)

-- the minute is in the range
real : (c : In_ok-minute) → c.args.minute < minute_count
real c = omega (arith, c.in_ok-minute.ensures)

-- the second is below its length
below : (c : Else-length-second) → c.args.second < length_at c.args.schedule.plan c.args.minute
below c = omega (arith, (rw c.in_ok-minute.ensures at c.length.ensures), c.if-length-second.false)

pub returns-then-length-second : goal.returns-then-length-second
returns-then-length-second c =
    let d = goal.at.returns-then-length-second c in
    no-21 _ c.args.minute c.args.second c.args.out.now (sym c.is_legal.ensures ∙ c.if-not-is_legal.false)
    (real d.In_ok-minute) (omega (arith, (rw c.in_ok-minute.ensures at c.length.ensures), c.if-length-second.true))

pub returns-then-out-lt-ELEMENTS : goal.returns-then-out-lt-ELEMENTS
returns-then-out-lt-ELEMENTS c =
    let d = goal.at.returns-then-out-lt-ELEMENTS c in
    no-4 _ c.args.minute c.args.second c.args.out.now (sym c.is_legal.ensures ∙ c.if-not-is_legal.false)
    (real d.In_ok-minute) (below d.Else-length-second) c.if-out-lt-ELEMENTS.true

pub put_row-requires : goal.put_row-requires
put_row-requires c =
    let d = goal.at.put_row-requires c in (
      ap real_clock (rw c.in_ok-minute.ensures at c.clock_at.ensures)
          ∙ clock-real c.args.schedule.plan c.args.minute c.args.second (real d.In_ok-minute) (below d.Else-length-second),
      c.if-out-lt-ELEMENTS.false,
    )

pub returns : goal.returns
returns c =
    let d = goal.at.returns c in
    all_yes _ c.args.minute c.args.second c.args.out.now (sym c.is_legal.ensures ∙ c.if-not-is_legal.false)
    (real d.In_ok-minute) (below d.Else-length-second) c.if-out-lt-ELEMENTS.false c.clock_at.result c.put_row.new.out
    (rw c.in_ok-minute.ensures at c.clock_at.ensures) c.put_row.ensures
