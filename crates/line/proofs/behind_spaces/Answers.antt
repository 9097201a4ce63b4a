use Prim.Native.Nat.{◌+◌}
use mathlib.Core.Path.{refl, sym, ap, ◌∙◌}
use native.Mathlib.Numerals.{add-one}
use borrow.Author.Rules.{part_to_end}
use Rattle.line.specs.Line.{behind_spaces, behind}
use Rattle.line.proofs.Parts.{behind-some, behind-none}
use Rattle.line.proofs.behind_spaces.Goals as goal
use Rattle.line.proofs.behind_spaces.Goals.{in-Some, in-None}

pub loop-init : goal.loop-init
unfolding behind_spaces
loop-init c = refl

pub loop-preserved : goal.loop-preserved
unfolding behind_spaces
loop-preserved c =
    let s = c.loop.rest.now in
    let e = ap (behind 32) c.loop.invariant in
    elim c.match-place_of.branch [
      | in-Some w ↦
          rw (w.rest-is, add-one c.loop.counter) (part_to_end s (w.in-Some.space + 1) ∙ behind-some 32 s w.in-Some.space (sym c.place_of.ensures.place ∙ w.in-Some.is) ∙ e)
      | in-None w ↦ rw (w.rest-is, add-one c.loop.counter) (behind-none 32 s (sym c.place_of.ensures.place ∙ w.in-None.is) ∙ e)
    ]
