-- `timeword::decode` meets its contract: the syndrome's place is the one that the search finds.
-- Assumes nothing.
use Prim.Native.Nat.{◌<◌}
use native.Mathlib.Omega.{arith}
use Rattle.timeword.proofs.Correct.{reading-is}
use Rattle.timeword.proofs.Syndrome.{syndrome-lt, places, place_of, place-lt}
use Rattle.timeword.proofs.decode.Goals as goal
use Rattle.timeword.proofs.decode.Goals.{After-syndrome_of-s}

pub bounds-s : goal.bounds-s
bounds-s c = omega (arith, c.syndrome_of-s.ensures, syndrome-lt c.args.word)

-- a place fits 5 bits
place-small : (c : After-syndrome_of-s) → place_of c.syndrome_of-s.result < 32
place-small c = place-lt c.syndrome_of-s.result (omega (arith, c.syndrome_of-s.ensures, syndrome-lt c.args.word))

pub overflow_cast-minute : goal.overflow_cast-minute
unfolding places
overflow_cast-minute c =
    omega (arith, place-small (goal.at.overflow_cast-minute c).After-syndrome_of-s)

pub overflow_shr-minute : goal.overflow_shr-minute
unfolding places
overflow_shr-minute c = place-small (goal.at.overflow_shr-minute c).After-syndrome_of-s

pub returns : goal.returns
unfolding places
returns c = reading-is c.args.word c.syndrome_of-s.result c.syndrome_of-s.ensures
