-- `line::read_line` meets its contract.
-- Assumes nothing.
use mathlib.Core.Bool.{and-false}
use mathlib.Core.Path.{sym, ap, ◌∙◌}
use Rattle.decimal.specs.Decimal.{number_in}
use Rattle.decimal.proofs.Reading.{number-value, number-none}
use Rattle.line.specs.Line.{part, last_part, sign_in, is_line}
use Rattle.line.proofs.Lines.{sign-value, sign-none, illegal, legal}
use Rattle.line.proofs.read_line.Goals as goal

pub returns-in_err-number_in : goal.returns-in_err-number_in
unfolding is_line
returns-in_err-number_in c =
    let l = c.args.line.now in
    c.from_residual.ensures ∙ illegal l (rw (number-none (part 0 l) (sym c.number_in.ensures ∙ c.in_err-number_in.was)))

pub returns-in_err-number_in-2 : goal.returns-in_err-number_in-2
unfolding is_line
returns-in_err-number_in-2 c =
    let l = c.args.line.now in
    c.from_residual-in_err-number_in-2.ensures ∙ illegal l (rw (number-none (part 1 l) (sym c.number_in-2.ensures ∙ c.in_err-number_in-2.was), and-false))

pub returns-in_err-number_in-3 : goal.returns-in_err-number_in-3
unfolding is_line
returns-in_err-number_in-3 c =
    let l = c.args.line.now in
    c.from_residual-in_err-number_in-3.ensures ∙ illegal l (rw (number-none (part 2 l) (sym c.number_in-3.ensures ∙ c.in_err-number_in-3.was), and-false))

pub returns-in_err-number_in-4 : goal.returns-in_err-number_in-4
unfolding is_line
returns-in_err-number_in-4 c =
    let l = c.args.line.now in
    c.from_residual-in_err-number_in-4.ensures ∙ illegal l (rw (number-none (part 3 l) (sym c.number_in-4.ensures ∙ c.in_err-number_in-4.was), and-false))

pub returns-in_err-read_sign : goal.returns-in_err-read_sign
unfolding is_line
returns-in_err-read_sign c =
    let l = c.args.line.now in
    c.from_residual-in_err-read_sign.ensures ∙ illegal l (rw (sign-none (part 4 l) (sym (c.read_sign.ensures ∙ ap sign_in c.part_of.ensures) ∙ c.in_err-read_sign.was), and-false))

pub returns-in_err-number_in-5 : goal.returns-in_err-number_in-5
unfolding is_line
returns-in_err-number_in-5 c =
    let l = c.args.line.now in
    c.from_residual-in_err-number_in-5.ensures ∙ illegal l (rw (number-none (part 5 l) (sym c.number_in-5.ensures ∙ c.in_err-number_in-5.was), and-false))

pub returns-in_err-number_in-6 : goal.returns-in_err-number_in-6
unfolding is_line
returns-in_err-number_in-6 c =
    let l = c.args.line.now in
    c.from_residual-in_err-number_in-6.ensures ∙ illegal l (rw (number-none (part 6 l) (sym c.number_in-6.ensures ∙ c.in_err-number_in-6.was), and-false))

pub returns-in_err-read_number : goal.returns-in_err-read_number
unfolding is_line last_part
returns-in_err-read_number c =
    let l = c.args.line.now in
    c.from_residual-in_err-read_number.ensures ∙ illegal l (rw (number-none (last_part l) (sym (c.read_number.ensures ∙ ap number_in c.behind_spaces.ensures) ∙ c.in_err-read_number.was), and-false))

-- a line of eight numbers
pub returns : goal.returns
unfolding last_part
returns c =
    let l = c.args.line.now in
    legal l
    (number-value (part 0 l) c.in_ok-number_in.field-0 (sym c.number_in.ensures ∙ c.in_ok-number_in.was))
    (number-value (part 1 l) c.in_ok-number_in-2.field-0 (sym c.number_in-2.ensures ∙ c.in_ok-number_in-2.was))
    (number-value (part 2 l) c.in_ok-number_in-3.field-0 (sym c.number_in-3.ensures ∙ c.in_ok-number_in-3.was))
    (number-value (part 3 l) c.in_ok-number_in-4.field-0 (sym c.number_in-4.ensures ∙ c.in_ok-number_in-4.was))
    (sign-value (part 4 l) c.in_ok-read_sign.field-0 (sym (c.read_sign.ensures ∙ ap sign_in c.part_of.ensures) ∙ c.in_ok-read_sign.was))
    (number-value (part 5 l) c.in_ok-number_in-5.field-0 (sym c.number_in-5.ensures ∙ c.in_ok-number_in-5.was))
    (number-value (part 6 l) c.in_ok-number_in-6.field-0 (sym c.number_in-6.ensures ∙ c.in_ok-number_in-6.was))
    (number-value (last_part l) c.in_ok-read_number.field-0 (sym (c.read_number.ensures ∙ ap number_in c.behind_spaces.ensures) ∙ c.in_ok-read_number.was))
