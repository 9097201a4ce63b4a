-- The length that a leap state's number calls for, by the length of a month's last minute.
-- Assumes nothing.
use Prim.Native.Nat.{ℕ, zero, suc, ◌<◌}
use mathlib.Core.Bool.{Bool, true, false}
use mathlib.Core.Path.{◌≡◌, refl}
use native.Mathlib.Omega.{arith}
use Rattle.bits.specs.Bits.{pick}
use Rattle.format.specs.Frame.{min_frame, usual_frame, max_frame}
use Rattle.format.specs.Reading.{seconds_for}

pub shorter : (b : Bool) → pick b min_frame usual_frame ≡ seconds_for 1 b
unfolding seconds_for
shorter true = refl
shorter false = refl

pub longer : (l : ℕ) (b : Bool) → 1 < l → pick b max_frame usual_frame ≡ seconds_for l b
unfolding seconds_for
longer zero b h = absurd (omega arith)
longer (suc zero) b h = absurd (omega arith)
longer (suc (suc l)) true h = refl
longer (suc (suc l)) false h = refl
