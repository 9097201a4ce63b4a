-- Every statement of specs with its proof: where a proof is missing, this module is not proved.
-- Assumes nothing.
use Rattle.book.specs.Theorems.{FirstBytesDecide, SpaceIsEnough, NothingFromGaps, FramesAsPrinted}
use Rattle.book.proofs.Inputs.{first-bytes-decide, space-is-enough, nothing-from-gaps}
use Rattle.book.proofs.Printed.{frames-as-printed}

first-bytes-decide' : FirstBytesDecide
first-bytes-decide' = first-bytes-decide

space-is-enough' : SpaceIsEnough
space-is-enough' = space-is-enough

nothing-from-gaps' : NothingFromGaps
nothing-from-gaps' = nothing-from-gaps

frames-as-printed' : FramesAsPrinted
frames-as-printed' = frames-as-printed
