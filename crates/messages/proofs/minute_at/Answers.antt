-- `messages::minute_at` meets its contract.
-- Assumes nothing.
use Prim.Native.Nat.{ℕ}
use native.Mathlib.Omega.{arith}
use Rattle.std.proofs.lemmas.List.{get_or-take, get_or-drop}
use Rattle.messages.specs.Bytes.{big_endian, message_at}
use Rattle.messages.proofs.minute_at.Goals as goal

pub returns : goal.returns
unfolding message_at big_endian
returns c = omega (arith, get_or-take {A = ℕ}, get_or-drop {A = ℕ})
