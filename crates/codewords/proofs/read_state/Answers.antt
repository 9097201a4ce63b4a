-- `codewords::read_state` meets its contract.
-- Assumes nothing.
use Rattle.std.proofs.Common.{◌≡◌, ◌∙◌, rules, Some, None}
use Rattle.codewords.specs.CodeWords.{illegal, state_of, below}
use Rattle.codewords.proofs.Answers.{below-some, below-none, legal, illegal-as}
use Rattle.codewords.proofs.ReadBack.{state_at, state-number}
use Rattle.codewords.proofs.read_state.Goals as goal

pub returns-in_err-k : goal.returns-in_err-k
returns-in_err-k c =
    let v = c.args.word in
    let e : None ≡ below illegal (state_of v) = search rules in
    rw c.from_residual.ensures (illegal-as v (below-none illegal (state_of v) e))

pub returns : goal.returns
returns c =
    let v = c.args.word in
    let k = c.in_ok-k.k in
    let e : Some k ≡ below illegal (state_of v) = search rules in
    let f = below-some illegal (state_of v) k e in
    legal (state_at k) v (state-number k f.1 ∙ f.0)
