use Prim.Native.Nat.{suc}
use mathlib.Core.Path.{◌≡◌, refl}
use native.Mathlib.Numerals.{add-one}
use native.Mathlib.Omega.{arith}
use Rattle.sequence.specs.Writing.{frames}
use Rattle.listing.specs.Listing.{frame_lines}
use Rattle.listing.proofs.Texts.{length-snoc, lines-small}
use Rattle.listing.proofs.text.lines_length.Goals as goal

pub loop-i-init : goal.loop-i-init
unfolding frames frame_lines
loop-i-init c = refl

pub overflow_add-sum : goal.overflow_add-sum
overflow_add-sum c =
    let a = c.args in
    let i = c.loop-i.i in
    omega (
      arith,
      c.line_length-sum.ensures,
      c.loop-i.invariant,
      length-snoc a.plan a.first i,
      lines-small a.plan a.first (suc i) (omega arith),
    )

pub loop-i-preserved : goal.loop-i-preserved
loop-i-preserved c =
    let a = c.args in
    let i = c.loop-i.i in
    rw (add-one i) (omega (arith, c.line_length-sum.ensures, c.loop-i.invariant, length-snoc a.plan a.first i))

pub returns : goal.returns
returns c =
    let a = c.args in
    let e : c.loop-i.i ≡ a.count = omega arith in
    rw (← e) c.loop-i.invariant
