use Prim.Native.Nat.{suc, ◌-◌}
use mathlib.Core.List.{append-nil}
use mathlib.Core.Path.{◌≡◌, sym, ◌∙◌}
use native.Mathlib.Omega.{arith}
use lib.ListN.{length}
use lib.Seq.{drop-length}
use Rattle.decimal.specs.Decimal.{digits}
use Rattle.decimal.proofs.Laws.{fill-next}
use Rattle.decimal.proofs.fill_digits.Goals as goal

pub loop-i-init : goal.loop-i-init
loop-i-init c =
    let a = c.args in
    rw (drop-length a.out.now) (append-nil (digits (length a.out.now) a.n))

pub loop-i-preserved : goal.loop-i-preserved
loop-i-preserved c =
    let l = c.loop-i in
    let j : suc (l.i - 1) ≡ l.i = omega arith in
    sym (fill-next l.out (l.i - 1) l.rest (omega arith)) ∙ rw j l.invariant

pub returns : goal.returns
unfolding digits
returns c =
    let e : c.loop-i.i ≡ 0 = omega arith in
    rw e at c.loop-i.invariant
