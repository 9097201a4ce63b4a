-- `recording::write_next` meets its contract.
-- Assumes nothing.
use Prim.Native.Nat.{ℕ}
use mathlib.Core.List.{List, ◌++◌}
use mathlib.Core.Path.{ap, ◌∙◌}
use lib.ListN.{drop}
use Rattle.plan.specs.Plan.{length_at}
use Rattle.recording.proofs.write_next.Goals as goal

pub returns : goal.returns
returns c =
    let a = c.args in
    let n = length_at a.schedule.plan a.minute.index in
    (c.put_frame.ensures.0, c.put_frame.ensures.1 ∙ ap (λ (l : List ℕ). l ++ drop n a.out.now) c.word_sent-sent.ensures.1)
