-- `irig::read_second` meets its contract.
-- Assumes nothing.
use Prim.Native.Nat.{ℕ}
use mathlib.Core.List.{[], ◌∷◌}
use mathlib.Core.Path.{sym, ap, ◌∙◌}
use Rattle.bits.specs.Numbers.{found}
use Rattle.irig.proofs.Reading.{other_length, not-real, not-row, is_row}
use Rattle.irig.proofs.read_second.Goals as goal
use Rattle.irig.proofs.read_second.Goals.{else-is_real-via-then-is_real+else-is_row, else-is_real-via-else-is_real}

pub returns-else-elements-eq-ELEMENTS : goal.returns-else-elements-eq-ELEMENTS
returns-else-elements-eq-ELEMENTS c =
    other_length c.args.elements.now c.if-elements-eq-ELEMENTS.false

pub returns-then-is_row : goal.returns-then-is_row
returns-then-is_row c =
    let k = c.clock_in-clock.result in
    ap (λ (q : ℕ). found (k.day ∷ q ∷ [])) c.second_of_day-second.ensures
    ∙ is_row c.args.elements.now k c.clock_in-clock.ensures (sym c.is_real.ensures ∙ c.if-is_real.true) (sym c.if-is_row.true ∙ c.is_row.ensures)

pub returns-else-is_real : goal.returns-else-is_real
returns-else-is_real c =
    let k = c.clock_in-clock.result in
    elim c.else-is_real.branch [
      | else-is_real-via-then-is_real+else-is_row w ↦
          not-row c.args.elements.now k c.clock_in-clock.ensures (sym c.is_real.ensures ∙ w.if-is_real.true) (sym w.if-is_row.false ∙ w.is_row.ensures)
      | else-is_real-via-else-is_real w ↦ not-real c.args.elements.now k c.clock_in-clock.ensures (sym c.is_real.ensures ∙ w.if-is_real.false)
    ]
