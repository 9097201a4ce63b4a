-- `line::read_sign` meets its contract.
-- Assumes nothing.
use Prim.Native.Nat.{◌^◌, ◌<◌}
use mathlib.Core.Bool.{true, false}
use mathlib.Core.Path.{◌≡◌, refl, sym, ap, ◌∙◌}
use native.Mathlib.Omega.{arith}
use lib.ListN.{drop, get_or}
use borrow.Author.Rules.{part_to_end}
use borrow.Author.Tests.{ltb-true}
use Rattle.std.specs.Prelude.{Some}
use Rattle.decimal.specs.Decimal.{number_in}
use Rattle.line.specs.Line.{has_minus}
use Rattle.line.proofs.Signs.{pos-fits, pos-back, neg-fits, neg-back}
use Rattle.line.proofs.Lines.{minus, no_minus, no-text, no_sign, said-small, sign-is}
use Rattle.line.proofs.read_sign.Goals as goal
use Rattle.line.proofs.read_sign.Goals.{in_default-via-then-text-lt1, in_default-via-else-text-lt1+in_default-1, In_ok-read_number-in-45, In_ok-read_number-in_default}

-- the text behind a minus
module _ (c : In_ok-read_number-in-45) where
  said : number_in (drop 1 c.args.text.now) ≡ Some c.in_ok-read_number-in-45.field-0
  said =
      sym (c.read_number.ensures ∙ ap number_in (part_to_end c.args.text.now 1)) ∙ c.in_ok-read_number-in-45.was

  small : c.in_ok-read_number-in-45.field-0 < 10 ^ 9
  small = said-small (drop 1 c.args.text.now) c.in_ok-read_number-in-45.field-0 said

-- a text with no minus
module _ (c : In_ok-read_number-in_default) where
  small-2 : c.in_ok-read_number-in_default.field-0 < 10 ^ 9
  small-2 =
      said-small c.args.text.now c.in_ok-read_number-in_default.field-0 (sym c.read_number-in_default.ensures ∙ c.in_ok-read_number-in_default.was)

pub returns-in_err-read_number-in-45 : goal.returns-in_err-read_number-in-45
returns-in_err-read_number-in-45 c =
    let w = c.args.text.now in
    let m : get_or w 0 0 ≡ 45 = omega arith in
    c.from_residual.ensures
    ∙ no_sign w (drop 1 w) true (minus w m) refl
    (sym (c.read_number.ensures ∙ ap number_in (part_to_end w 1)) ∙ c.in_err-read_number-in-45.was)

pub overflow_cast-result : goal.overflow_cast-result
overflow_cast-result c = pos-fits _ (small c)

pub overflow_sub-result : goal.overflow_sub-result
overflow_sub-result c = neg-fits _ (small c)

pub returns-in_ok-read_number-in-45 : goal.returns-in_ok-read_number-in-45
returns-in_ok-read_number-in-45 c =
    let w = c.args.text.now in
    let m : get_or w 0 0 ≡ 45 = omega arith in
    sign-is w (drop 1 w) true (minus w m) refl c.in_ok-read_number-in-45.field-0 _ (said c) (neg-back _ (small c))

pub returns-in_err-read_number-in_default : goal.returns-in_err-read_number-in_default
returns-in_err-read_number-in_default c =
    let w = c.args.text.now in
    let n : has_minus w ≡ false =
    elim c.in_default.branch [
      | in_default-via-then-text-lt1 v ↦ no_minus w (λ e. omega (arith, no-text w (omega (arith, ltb-true))))
      | in_default-via-else-text-lt1+in_default-1 v ↦ no_minus w (λ e. omega arith)
    ] in
    c.from_residual-in_err-read_number-in_default.ensures
    ∙ no_sign w w false n refl (sym c.read_number-in_default.ensures ∙ c.in_err-read_number-in_default.was)

pub overflow_cast-result-in_default : goal.overflow_cast-result-in_default
overflow_cast-result-in_default c = pos-fits _ (small-2 c)

pub returns-in_ok-read_number-in_default : goal.returns-in_ok-read_number-in_default
returns-in_ok-read_number-in_default c =
    let w = c.args.text.now in
    let n : has_minus w ≡ false =
    elim c.in_default.branch [
      | in_default-via-then-text-lt1 v ↦ no_minus w (λ e. omega (arith, no-text w (omega (arith, ltb-true))))
      | in_default-via-else-text-lt1+in_default-1 v ↦ no_minus w (λ e. omega arith)
    ] in
    sign-is w w false n refl c.in_ok-read_number-in_default.field-0 _ (sym c.read_number-in_default.ensures ∙ c.in_ok-read_number-in_default.was) (pos-back _ (small-2 c))
