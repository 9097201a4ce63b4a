-- `codewords::find_state` meets its contract.
-- Assumes nothing.
use Rattle.std.proofs.Common.{◌≡◌, sym, ap, ◌∙◌, zero-add, nat_eq, get_or, rules}
use Rattle.std.specs.Option.{option_map}
use Rattle.std.specs.List.{position_or_len}
use Rattle.codewords.specs.CodeWords.{illegal, state_words, state_of, below}
use Rattle.codewords.proofs.Answers.{option_map-same}
use Rattle.codewords.proofs.Search.{first-place}
use Rattle.codewords.proofs.find_state.Goals as goal

pub returns : goal.returns
unfolding state_words state_of
returns c =
    let w = c.args.word in
    let e : state_of w ≡ position_or_len (λ x. nat_eq x w) state_words =
    first-place (λ x. nat_eq x w) (λ k. nat_eq (get_or state_words k 0) w) state_words 0 (λ i m. rw (zero-add i)) ∙ zero-add _ in
    let m : c.map.result ≡ option_map (λ k. k) c.place_of.result = search rules in
    m ∙ option_map-same c.place_of.result ∙ c.place_of.ensures ∙ ap (below illegal) (sym e)
