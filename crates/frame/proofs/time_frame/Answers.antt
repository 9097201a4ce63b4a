-- `frame::time_frame` meets its contract.
-- Assumes nothing.
use Prim.Native.Nat.{ℕ, ◌+◌, ◌*◌, ◌^◌, ◌<◌}
use mathlib.Core.Path.{◌≡◌}
use native.Mathlib.Omega.{arith}
use Rattle.bits.specs.Bits.{number}
use Rattle.plan.specs.declared.Plan.{Plan}
use Rattle.plan.proofs.Rows.{notice-legal}
use Rattle.format.specs.Frame.{min_frame, body_of, sent_by}
use Rattle.format.proofs.Sending.{time-lt, body-lt, word-is}
use Rattle.frame.proofs.time_frame.Goals as goal
use Rattle.frame.proofs.time_frame.Goals.{After-time_part}

pub time_part-requires : goal.time_part-requires
time_part-requires c = (rw (c.from.ensures, c.encode-time.ensures) (time-lt c.args.minute), omega arith)

module _ (c : After-time_part) where
  abbrev p : Plan
  p = c.args.plan

  abbrev m : ℕ
  m = c.args.minute

  abbrev w : ℕ
  w = c.time_part.result * 4096 + c.args.day

  word : w ≡ number (body_of (sent_by p m))
  word = word-is p m _ _ _ c.requires.1 c.encode-time.ensures (rw (c.from.ensures, c.from-2.ensures) at c.time_part.ensures) c.requires.2

  small : w < 2 ^ min_frame
  small = rw word (body-lt (sent_by p m) (unfold sent_by in notice-legal p c.requires.0))

pub overflow_mul-result : goal.overflow_mul-result
overflow_mul-result c = omega (arith, small (goal.at.overflow_mul-result c).After-time_part)

pub overflow_add-result : goal.overflow_add-result
overflow_add-result c = omega (arith, small (goal.at.overflow_add-result c).After-time_part)

pub returns : goal.returns
returns c = word (goal.at.returns c).After-time_part
