-- `page_lines::line_of` meets its contract.
-- Assumes nothing.
use Rattle.page_rules.specs.Page.{feed}
use borrow.Author.Rules.{rules}
use Rattle.page_lines.proofs.line_of.Goals as goal

pub returns : goal.returns
unfolding feed
returns c = search rules
