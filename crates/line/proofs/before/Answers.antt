-- `line::before` meets its contract.
-- Assumes nothing.
use Rattle.line.specs.Line.{before}
use Rattle.line.proofs.Parts.{index-position}
use Rattle.line.proofs.before.Goals as goal

pub returns : goal.returns
unfolding before
returns c =
    let a = c.args in
    rw (c.unwrap_or.ensures, c.place_of.ensures.place, index-position a.x a.text.now)
