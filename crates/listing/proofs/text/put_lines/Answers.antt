use Prim.Native.Nat.{ℕ, suc, ◌+◌, ◌≤◌}
use mathlib.Core.Path.{◌≡◌, refl}
use native.Mathlib.Numerals.{add-one}
use native.Mathlib.Omega.{arith}
use lib.ListN.{length}
use Rattle.plan.specs.declared.Plan.{Plan}
use Rattle.sequence.specs.Writing.{frames}
use Rattle.listing.specs.Listing.{frame_lines}
use Rattle.sequence.proofs.Putting.{put_of, put-length, put-more, rest-length}
use Rattle.listing.proofs.Texts.{line_of, lines_snoc, length-snoc, lines-mono}
use Rattle.listing.proofs.text.put_lines.Goals as goal
use Rattle.listing.proofs.text.put_lines.Goals.{In-loop-i}

pub loop-i-init : goal.loop-i-init
unfolding frames frame_lines
loop-i-init c =
    record { size = refl; room = omega arith; is = refl }

-- in a turn the next line fits
module _ (c : In-loop-i) where
  abbrev p : Plan
  p = c.args.plan

  abbrev m : ℕ
  m = c.args.first

  abbrev i : ℕ
  i = c.loop-i.i

  fits : c.loop-i.at + length (line_of p (m + i)) ≤ length c.args.out.now
  fits = omega (
    arith,
    c.loop-i.invariant.size,
    length-snoc p m i,
    lines-mono p m (suc i) c.args.count c.loop-i-test.true,
    c.requires.2,
  )

  within : c.loop-i.at ≤ length c.loop-i.out
  within = omega (arith, fits, put-length c.loop-i.invariant)

pub slice_bounds-put_line-count : goal.slice_bounds-put_line-count
slice_bounds-put_line-count c =
    let d = (goal.at.slice_bounds-put_line-count c).In-loop-i in
    (within d)

pub slice_bounds-put_line-start : goal.slice_bounds-put_line-start
slice_bounds-put_line-start c =
    let d = (goal.at.slice_bounds-put_line-start c).In-loop-i in
    (within d)

pub put_line-at-requires : goal.put_line-at-requires
put_line-at-requires c =
    let d = (goal.at.put_line-at-requires c).In-loop-i in
    (c.requires.0, rw (rest-length c.loop-i.invariant) (omega (arith, fits d)))

pub overflow_add-at : goal.overflow_add-at
overflow_add-at c =
    let d = (goal.at.overflow_add-at c).In-loop-i in
    omega (arith, fits d, c.put_line-at.ensures.0)

pub loop-i-preserved : goal.loop-i-preserved
loop-i-preserved c =
    let d = (goal.at.loop-i-preserved c).In-loop-i in
    let p : Plan = c.args.plan in
    let m : ℕ = c.args.first in
    let i : ℕ = c.loop-i.i in
    let w = c.put_line-at in
    let l = line_of p (m + i) in
    rw (add-one i, lines_snoc p m i)
    (put-more c.loop-i.invariant
    (put_of l _ w.new.out (length l) w.result refl (rw (rest-length c.loop-i.invariant) (omega (arith, fits d))) w.ensures.0 w.ensures.1))

pub shape_of-out : goal.shape_of-out
shape_of-out c =
    put-length c.loop-i.invariant

pub returns : goal.returns
returns c =
    let a = c.args in
    let l = c.loop-i in
    let e : l.i ≡ a.count = omega arith in
    rw (← e, l.invariant.size) l.invariant.is
