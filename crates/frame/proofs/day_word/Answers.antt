-- `frame::day_word` meets its contract.
-- Assumes nothing.
use Prim.Native.Nat.{ℕ, ◌*◌}
use mathlib.Core.Path.{◌≡◌, ap, ◌∙◌}
use native.Mathlib.Omega.{arith}
use lib.ListN.{get_or}
use Rattle.codewords.specs.CodeWords.{state_words, next_words}
use Rattle.plan.specs.Plan.{row_for, row_at, state_at}
use Rattle.plan.specs.declared.Plan.{Plan}
use Rattle.plan.proofs.Laws.{same-daylight}
use Rattle.plan.proofs.Rows.{notice-legal}
use Rattle.format.proofs.Sending.{state-word-small, next-word-small, state_word_at, next_word_at, day-word-is}
use Rattle.frame.proofs.day_word.Goals as goal
use Rattle.frame.proofs.day_word.Goals.{After-from-3}

module _ (c : After-from-3) where
  abbrev p : Plan
  p = c.args.plan

  abbrev m : ℕ
  m = c.args.day * 1440

  row_is : c.row_for.result ≡ row_at p m
  unfolding row_at state_at
  row_is = c.row_for.ensures ∙ ap (row_for p m) (same-daylight c.state-state.result (state_at p m) c.state-state.ensures)

  state-is : c.from.result ≡ state_word_at p m
  state-is = c.from.ensures ∙ c.state_word-state.ensures ∙ ap (λ (k : ℕ). get_or state_words k 0) c.state-state.ensures

  next-is : c.from-3.result ≡ next_word_at p m
  next-is = c.from-3.ensures ∙ c.next_word-next.ensures ∙ ap (λ (r : ℕ). get_or next_words r 0) row_is

pub day_part-requires : goal.day_part-requires
day_part-requires c =
    let d = (goal.at.day_part-requires c).After-from-3 in (
      omega (arith, state-is d, state-word-small (p d) (m d)),
      omega (arith, notice-legal (p d) c.requires.0),
      omega (arith, next-is d, next-word-small (p d) c.requires.0 (m d)),
    )

pub returns : goal.returns
returns c =
    let d = (goal.at.returns c).After-from-3 in
    (rw c.from-2.ensures at c.day_part.ensures) ∙ day-word-is (p d) c.args.day _ _ (state-is d) (next-is d)
