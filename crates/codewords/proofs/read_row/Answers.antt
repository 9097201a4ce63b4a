-- `codewords::read_row` meets its contract.
-- Assumes nothing.
use Rattle.std.proofs.Common.{◌≡◌, rules, arith, Some, MatchOption}
use Rattle.codewords.specs.CodeWords.{daylight_number, unassigned, row_among, below}
use Rattle.codewords.proofs.Rows.{half-read}
use Rattle.codewords.proofs.Tables.{daylight-lt}
use Rattle.codewords.proofs.read_row.Goals as goal

pub returns : goal.returns
returns c =
    let a = c.args in
    let h : MatchOption c.find_row-row.result (c.or_else.result ≡ below unassigned (row_among 49 unassigned a.word)) (λ x. c.or_else.result ≡ Some x) = search rules in
    half-read (daylight_number a.daylight) a.word _ (daylight-lt a.daylight) (omega (arith, c.from-half.ensures)) c.find_row-row.result c.or_else.result c.find_row-row.ensures h
