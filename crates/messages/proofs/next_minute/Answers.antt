-- `messages::next_minute` meets its contract.
-- Assumes nothing.
use mathlib.Core.Path.{sym, ◌∙◌}
use native.Mathlib.Omega.{arith}
use Rattle.messages.proofs.Stepping.{minute-next, minute-none}
use Rattle.messages.proofs.next_minute.Goals as goal

pub returns-then-k-bytes : goal.returns-then-k-bytes
returns-then-k-bytes c =
    let a = c.args in
    c.minute_at.ensures ∙ sym (minute-next a.bytes.now a.k (omega arith))

pub returns-else-k-bytes : goal.returns-else-k-bytes
returns-else-k-bytes c =
    let a = c.args in
    sym (minute-none a.bytes.now a.k (λ h. omega arith))
