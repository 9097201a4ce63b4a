-- `amplitude_writer::put_ends` meets its contract.
-- Assumes nothing.
use native.Mathlib.Omega.{arith}
use lib.Seq.{lt-length-set}
use Rattle.amplitude_writer.proofs.Written.{no-marker, one-marker, two-markers}
use Rattle.amplitude_writer.proofs.put_ends.Goals as goal

pub returns-then-seconds-le-ROW : goal.returns-then-seconds-le-ROW
returns-then-seconds-le-ROW c = no-marker c.args.out.now c.args.seconds c.requires.2 (omega arith)

pub returns-then-seconds-le-LEAP_SECOND : goal.returns-then-seconds-le-LEAP_SECOND
returns-then-seconds-le-LEAP_SECOND c =
    one-marker c.args.out.now c.args.seconds c.requires.2 (omega arith)

pub bounds-out-60 : goal.bounds-out-60
bounds-out-60 c =
    lt-length-set c.args.out.now 59 2 (omega (arith, c.requires.2, c.if-seconds-le-LEAP_SECOND.false))

pub returns : goal.returns
returns c = two-markers c.args.out.now c.args.seconds c.requires.2 (omega arith)
