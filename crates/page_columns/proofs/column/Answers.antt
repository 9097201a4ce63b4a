use Prim.Native.Nat.{suc, ◌-◌}
use mathlib.Core.Path.{◌≡◌, sym, ◌∙◌}
use native.Mathlib.Omega.{arith}
use borrow.Author.Rules.{rules}
use Rattle.page_columns.proofs.Cells.{blank_digits, cells-next, column-is}
use Rattle.page_columns.proofs.column.Goals as goal

pub loop-i-preserved : goal.loop-i-preserved
loop-i-preserved g c =
    let l = c.loop-i in
    let j : suc (l.i - 1) ≡ l.i = omega arith in
    (search rules, rw c.digit_or_blank.ensures (sym (cells-next l.column (l.i - 1) l.left (omega arith)) ∙ rw j l.invariant.1))

pub returns : goal.returns
unfolding blank_digits
returns g c =
    let e : c.loop-i.i ≡ 0 = omega arith in
    (rw e at c.loop-i.invariant.1) ∙ column-is g.row.N c.args.n c.args.end c.requires.two c.requires.fits
