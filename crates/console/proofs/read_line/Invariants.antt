-- `console::read_line` meets its contract: the bytes before `i` are those that the input gave, and none of them is a line feed.
-- Assumes nothing.
use Rattle.std.proofs.Common.{◌≡◌, ℕ, ◌<◌, get_or, take}
use Rattle.std.specs.Io.KnownBytes.{Consumes}
use Rattle.console.proofs.read_line.Given as goal

abbrev pub invariant-loop-i : goal.invariant-loop-i
invariant-loop-i g l =
    Consumes (g.R.Read.remaining l.initial.input) (g.R.Read.remaining l.input) (take l.i l.line)
    × ((k : ℕ) → k < l.i → get_or l.line k 0 ≡ 10 → ⊥)
