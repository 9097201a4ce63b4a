-- `page_columns::leap_sign` meets its contract.
-- Assumes nothing.
use native.Mathlib.Omega.{arith}
use Rattle.page_rules.specs.Page.{leap_text}
use Rattle.page_columns.proofs.Texts.{plus-is}
use borrow.Author.Rules.{rules}
use Rattle.page_columns.proofs.leap_sign.Goals as goal

pub returns-in-0 : goal.returns-in-0
unfolding leap_text
returns-in-0 c = search rules

pub returns-in-1 : goal.returns-in-1
unfolding leap_text
returns-in-1 c = search rules

pub returns-in_default : goal.returns-in_default
returns-in_default c = plus-is c.args.leap (λ e. omega arith) (λ e. omega arith)
