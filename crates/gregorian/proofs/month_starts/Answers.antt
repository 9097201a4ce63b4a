use Prim.Native.Nat.{◌+◌, ◌≤◌}
use mathlib.Core.Path.{◌≡◌, refl, sym, ◌∙◌}
use native.Mathlib.Numerals.{add-one}
use native.Mathlib.Omega.{arith}
use borrow.Author.Rules.{rules}
use lib.ListN.{get_or, length-set}
use Rattle.gregorian.specs.Gregorian.{first_year, before, months_of}
use Rattle.gregorian.proofs.Walk.{before-suc, filled}
use Rattle.gregorian.proofs.Months.{length-months, months-short}
use Rattle.gregorian.proofs.month_starts.Goals as goal
use Rattle.gregorian.proofs.month_starts.Goals.{In-loop-i}

pub loop-i-init : goal.loop-i-init
unfolding before
loop-i-init c =
    (search rules, search rules, c.months_of-lengths.ensures, refl, λ k l. let e : k ≡ 0 = omega arith in rw e)

-- the sum after one more month
step :
    (c : In-loop-i)
    → before (months_of (first_year + c.args.years)) (c.loop-i.i + 1)
    ≡ c.loop-i.sum + get_or c.months_of-lengths.result c.loop-i.i 0
step c =
    let inv = c.loop-i.invariant in
    let year = first_year + c.args.years in
    let i = c.loop-i.i in
    rw (inv.3, inv.2, add-one i) (before-suc (months_of year) i (omega (arith, length-months year)))

fits :
    (c : In-loop-i)
    → before (months_of (first_year + c.args.years)) (c.loop-i.i + 1) ≤ 366
fits c = months-short (first_year + c.args.years) (c.loop-i.i + 1) (omega arith)

pub overflow_add-sum : goal.overflow_add-sum
overflow_add-sum c = omega (arith, step (goal.at.overflow_add-sum c).In-loop-i, fits (goal.at.overflow_add-sum c).In-loop-i)

pub loop-i-preserved : goal.loop-i-preserved
loop-i-preserved c =
    let inv = c.loop-i.invariant in
    let i = c.loop-i.i in
    let sum = sym (step (goal.at.loop-i-preserved c).In-loop-i) in
    let starts = c.loop-i.starts in (
      omega arith,
      length-set starts (i + 1) _ ∙ inv.1,
      inv.2,
      sum,
      filled (months_of (first_year + c.args.years)) starts (i + 1) _ (omega arith) (λ k l. inv.4 k (omega arith)) sum,
    )

pub returns : goal.returns
returns c = λ k l. c.loop-i.invariant.4 k (omega arith)
