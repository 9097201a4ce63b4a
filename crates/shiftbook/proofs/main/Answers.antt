-- `shiftbook::main` is safe and ends: an array is lent whole.
-- Assumes nothing.
use Rattle.std.proofs.Common.{◌≡◌, ℕ, length, replicate, sym}
use Rattle.std.proofs.lemmas.List.{length-replicate}
use Rattle.shiftbook.proofs.main.Goals as goal

-- the length of an array of equal bytes, stated for any length: at a large one it is not computed
size_of : (n b : ℕ) → n ≡ length (replicate n b)
size_of n b = sym (length-replicate n b)

pub slice_bounds-run-end : goal.slice_bounds-run-end
slice_bounds-run-end c = size_of 2745001 0
