-- `codewords::find_row` meets its contract.
-- Assumes nothing.
use Rattle.std.proofs.Common.{◌≡◌, sym, ap, ◌∙◌, ◌+◌, ◌-◌, arith, rules, length, drop, nat_eq, slice_range}
use Rattle.std.specs.Option.{option_map}
use Rattle.std.specs.List.{position_or_len}
use Rattle.codewords.specs.CodeWords.{next_words, row_among, below}
use Rattle.codewords.proofs.Answers.{below-from}
use Rattle.codewords.proofs.RowList.{part-length, part-place}
use Rattle.codewords.proofs.find_row.Goals as goal

pub returns : goal.returns
unfolding next_words row_among
returns c =
    let a = c.args in
    let part = slice_range (drop 1 next_words) (a.from - 1) (a.end - 1) in
    let n = position_or_len (λ w. nat_eq w a.word) part in
    let e : c.map.result ≡ option_map (λ k. a.from + k) c.place_of.result = search rules in
    let l = part-length next_words a.from a.end (omega arith) (omega arith) in
    let h : row_among a.from a.end a.word ≡ a.from + n = part-place next_words a.from a.end (omega arith) (omega arith) a.word (omega arith) in
    e ∙ ap (option_map (λ k. a.from + k)) c.place_of.ensures ∙ below-from a.from n (length part) a.end (omega arith) ∙ ap (below a.end) (sym h)
