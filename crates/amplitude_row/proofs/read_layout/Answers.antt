-- `amplitude_row::read_layout` meets its contract.
-- Assumes nothing.
use Prim.Native.Nat.{◌≤◌}
use mathlib.Core.Path.{sym, ◌∙◌}
use lib.ListN.{length}
use borrow.Author.Rules.{rules}
use Rattle.plan.specs.Plan.{min_frame, max_frame}
use Rattle.amplitude_row.proofs.Layouts.{outside, rest-is, not-marked, no_row, has-layout}
use Rattle.amplitude_row.proofs.ByLine.{no_lines, row_fits_lem, row-numbers}
use Rattle.amplitude_row.proofs.read_layout.Goals as goal
use Rattle.amplitude_row.proofs.read_layout.Goals.{then-not-contains-via-then-not-contains, then-not-contains-via-else-not-contains+then-not-are_markers}

pub returns-then-not-contains : goal.returns-then-not-contains
returns-then-not-contains c =
    let s = c.args.s.now in
    elim c.then-not-contains.branch [
      | then-not-contains-via-then-not-contains w ↦ outside s (λ p q. search rules)
      | then-not-contains-via-else-not-contains+then-not-are_markers w ↦
          not-marked s (rest-is s _ w.are_markers.ensures ∙ w.if-not-are_markers.true)
    ]

pub returns-in-Some : goal.returns-in-Some
returns-in-Some c =
    let s = c.args.s.now in
    let low : min_frame ≤ length s = search rules in
    let high : length s ≤ max_frame = search rules in
    let lines = sym c.lines_in.ensures ∙ c.in-Some.is in
    let blank = sym c.has_blanks.ensures ∙ c.if-has_blanks.true in
    has-layout s low high (row_fits_lem s low c.in-Some.lines lines ∙ blank)
    (rest-is s _ c.are_markers.ensures ∙ c.if-not-are_markers.false) _
    (c.row_of.ensures ∙ sym (row-numbers s low c.in-Some.lines lines blank))

pub returns-in_default : goal.returns-in_default
returns-in_default c =
    let s = c.args.s.now in
    let low : min_frame ≤ length s = search rules in
    no_row s
    (row_fits_lem s low c.in-Some.lines (sym c.lines_in.ensures ∙ c.in-Some.is) ∙ sym c.has_blanks.ensures ∙ c.if-has_blanks.false)

pub returns-in_default-2 : goal.returns-in_default-2
returns-in_default-2 c =
    let s = c.args.s.now in
    let low : min_frame ≤ length s = search rules in
    no_row s (no_lines s low (sym c.lines_in.ensures ∙ c.in_default.is))
