use Prim.Native.Nat.{ℕ, ◌-◌, ◌*◌, ◌≤◌, ◌<◌}
use mathlib.Core.List.{List, ◌++◌}
use mathlib.Core.Path.{◌≡◌, ap, ◌∙◌}
use native.Mathlib.Omega.{arith}
use lib.ListN.{length, take, drop}
use Rattle.format.specs.Entry.{Entry}
use Rattle.sequence.proofs.Putting.{Put, put-length, rest-length}
use Rattle.page_rules.specs.Theorems.{Each, Fits}
use Rattle.page.specs.Bytes.{entries_in}
use Rattle.page.proofs.Lines.{count-few, up_to, put-none, put_next, lines-whole}
use Rattle.page.proofs.put_part.Goals as goal

pub loop-i-init : goal.loop-i-init
loop-i-init c =
    put-none 10 _ c.args.out.now

pub slice_bounds-put_line_at-count : goal.slice_bounds-put_line_at-count
slice_bounds-put_line_at-count c =
    let within : c.loop-i.i * 42 ≤ length c.loop-i.out = omega (arith, c.loop-i.invariant.room, put-length c.loop-i.invariant) in
    within

pub slice_bounds-put_line_at-start : goal.slice_bounds-put_line_at-start
slice_bounds-put_line_at-start c =
    let within : c.loop-i.i * 42 ≤ length c.loop-i.out = omega (arith, c.loop-i.invariant.room, put-length c.loop-i.invariant) in
    within

pub put_line_at-requires : goal.put_line_at-requires
put_line_at-requires c =
    let es : List Entry = entries_in c.args.entries.now in
    let fit : Each Fits es = c.requires.2 in
    let room : c.loop-i.i < 10
    → 42 ≤ length (take (length c.loop-i.out - c.loop-i.i * 42) (drop (c.loop-i.i * 42) c.loop-i.out)) =
    λ h. omega (arith, rest-length c.loop-i.invariant, c.requires.3) in
    (omega arith, c.requires.0, fit, room (omega arith))

pub loop-i-preserved : goal.loop-i-preserved
loop-i-preserved c =
    let es : List Entry = entries_in c.args.entries.now in
    let few : length es ≤ 10 = count-few c.args.entries.now c.requires.1 in
    let fit : Each Fits es = c.requires.2 in
    let room : c.loop-i.i < 10
    → 42 ≤ length (take (length c.loop-i.out - c.loop-i.i * 42) (drop (c.loop-i.i * 42) c.loop-i.out)) =
    λ h. omega (arith, rest-length c.loop-i.invariant, c.requires.3) in
    put_next 10 es few fit c.loop-i.i c.args.out.now c.loop-i.out c.put_line_at.new.out
    (omega arith) c.loop-i.invariant (room (omega arith)) c.put_line_at.ensures

pub shape_of-out : goal.shape_of-out
shape_of-out c =
    put-length c.loop-i.invariant

pub returns : goal.returns
returns c =
    let es : List Entry = entries_in c.args.entries.now in
    let few : length es ≤ 10 = count-few c.args.entries.now c.requires.1 in
    let fit : Each Fits es = c.requires.2 in
    let n : c.loop-i.i ≡ 10 = omega arith in
    let p : Put (up_to 10 es 10) c.args.out.now c.loop-i.out 420 = rw n at c.loop-i.invariant in
    p.is ∙ ap (λ (w : List ℕ). w ++ drop 420 c.args.out.now) (lines-whole 10 es few fit)
