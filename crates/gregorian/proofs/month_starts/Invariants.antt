-- `gregorian::month_starts` meets its contract: each start is the sum of the months passed, which have at most 366 days.
-- Assumes nothing.
use Prim.Native.Nat.{ℕ, ◌+◌, ◌≤◌}
use mathlib.Core.Path.{◌≡◌}
use lib.ListN.{length, get_or}
use Rattle.gregorian.specs.Gregorian.{first_year, before, months_of}
use Rattle.gregorian.proofs.month_starts.Given as goal

abbrev pub invariant-loop-i : goal.invariant-loop-i
invariant-loop-i l =
    (l.i ≤ 12)
    × (length l.starts ≡ 13)
    × (l.length-items ≡ months_of (first_year + l.years))
    × (l.sum ≡ before (months_of (first_year + l.years)) l.i)
    × ((k : ℕ) → k ≤ l.i → get_or l.starts k 0 ≡ before (months_of (first_year + l.years)) k)
