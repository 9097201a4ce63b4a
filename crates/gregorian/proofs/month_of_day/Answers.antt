-- `gregorian::month_of_day` meets its contract: day / 32 is the month or one short, and the start of the next month tells which.
-- Assumes nothing.
use Prim.Native.Nat.{◌+◌, ◌/◌, ◌<◌}
use mathlib.Core.Path.{◌≡◌, sym}
use native.Mathlib.Omega.{arith}
use lib.ListN.{get_or}
use Rattle.gregorian.specs.Gregorian.{first_year, before, months_of}
use Rattle.gregorian.proofs.Walk.{Lies, walk_at}
use Rattle.gregorian.proofs.Months.{length-months, guess_small, lies-here, lies-next}
use Rattle.gregorian.proofs.month_of_day.Goals as goal
use Rattle.gregorian.proofs.month_of_day.Goals.{then-starts-i, else-starts-i, After-month_starts-starts, Joined-starts-i}

-- the first guess is a month
small : (c : After-month_starts-starts) → c.args.day / 32 < 12
small c = guess_small (first_year + c.args.years) c.args.day c.requires

pub bounds-starts-i : goal.bounds-starts-i
bounds-starts-i c = omega (arith, small (goal.at.bounds-starts-i c).After-month_starts-starts)

-- the day lies in the month chosen
found : (c : Joined-starts-i) → Lies (months_of (first_year + c.args.years)) c.args.day c.if-starts-i.i
found c =
    let a = c.args in
    let year = first_year + a.years in
    let h = c.requires in
    let next = c.month_starts-starts.ensures (a.day / 32 + 1) (omega (arith, small c.before)) in
    elim c.if-starts-i.branch [
      | then-starts-i w ↦ rw w.i-is (lies-next year a.day h (omega (arith, next, w.if-starts-i.true)))
      | else-starts-i w ↦ rw w.i-is (lies-here year a.day h (omega (arith, next, w.if-starts-i.false)))
    ]

-- its start
start : (c : Joined-starts-i) → get_or c.month_starts-starts.result c.if-starts-i.i 0 ≡ before (months_of (first_year + c.args.years)) c.if-starts-i.i
start c = c.month_starts-starts.ensures c.if-starts-i.i (omega (arith, (found c).inside, length-months (first_year + c.args.years)))

pub overflow_cast-result : goal.overflow_cast-result
overflow_cast-result c =
    omega (arith, (found (goal.at.overflow_cast-result c).Joined-starts-i).inside, length-months (first_year + c.args.years))

pub offset_bounds-starts-i-2 : goal.offset_bounds-starts-i-2
offset_bounds-starts-i-2 c =
    omega (arith, (found (goal.at.offset_bounds-starts-i-2 c).Joined-starts-i).inside, length-months (first_year + c.args.years))

pub bounds-starts-i-2 : goal.bounds-starts-i-2
bounds-starts-i-2 c =
    omega (arith, (found (goal.at.bounds-starts-i-2 c).Joined-starts-i).inside, length-months (first_year + c.args.years))

pub overflow_sub-result : goal.overflow_sub-result
overflow_sub-result c =
    omega (arith, start (goal.at.overflow_sub-result c).Joined-starts-i, (found (goal.at.overflow_sub-result c).Joined-starts-i).low)

pub returns : goal.returns
returns c =
    rw (start (goal.at.returns c).Joined-starts-i)
    (sym (walk_at (months_of (first_year + c.args.years)) c.args.day c.if-starts-i.i (found (goal.at.returns c).Joined-starts-i)))
