-- `codewords::next_word` meets its contract.
-- Assumes nothing.
use Prim.Native.Nat.{◌≤◌}
use mathlib.Core.Path.{◌≡◌, sym}
use native.Mathlib.Omega.{arith}
use lib.ListN.{get_or-eq_default}
use Rattle.codewords.specs.CodeWords.{unassigned, next_words}
use Rattle.codewords.proofs.RowList.{row-place}
use Rattle.codewords.proofs.next_word.Goals as goal

pub returns-in-1-to-51 : goal.returns-in-1-to-51
unfolding next_words
returns-in-1-to-51 c = sym (row-place next_words c.args.row (omega arith))

pub returns-in_default : goal.returns-in_default
unfolding next_words
returns-in_default c =
    let e : c.args.row ≡ 0 = omega arith in
    rw e

pub returns-in_default-2 : goal.returns-in_default-2
unfolding next_words
returns-in_default-2 c =
    let h : unassigned ≤ c.args.row = omega arith in
    sym (get_or-eq_default next_words 0 h)
