-- `entries::read_one` meets its contract.
-- Assumes nothing.
use Prim.Native.Nat.{ℕ}
use mathlib.Core.Bool.{true}
use mathlib.Core.List.{List}
use mathlib.Core.Path.{◌≡◌}
use lib.ListN.{length}
use Rattle.format.specs.Next.{Answer, read_entry, read_one, one_due}
use Rattle.format.specs.declared.Due.{Due}
use Rattle.format.specs.declared.Due.TheVariants.{Minute}
use Rattle.questions.specs.Refusals.{refusal_number}
use Rattle.entries.specs.Answer.{halt, advance, progress}
use Rattle.entries.proofs.Progress.{one-halted, one-advanced}
use Rattle.entries.proofs.read_one.Goals as goal

pub returns-in-Err : goal.returns-in-Err
unfolding read_one one_due
returns-in-Err c =
    let due : Due = c.args.due in
    let buffer : List ℕ = c.args.entry.now in
    let answer : Answer = read_entry due true (length buffer) c.args.bits.now in
    let n = refusal_number c.in-Err.refusal in
    let h : halt n ≡ progress due answer = rw c.in-Err.is at c.read_entry.ensures.0 in
    one-halted due buffer c.read_entry.new.out answer n h c.read_entry.ensures.1

pub returns-in-Ok : goal.returns-in-Ok
unfolding read_one one_due
returns-in-Ok c =
    let due : Due = c.args.due in
    let buffer : List ℕ = c.args.entry.now in
    let answer : Answer = read_entry due true (length buffer) c.args.bits.now in
    let n = c.in-Ok.step.length in
    let d : Due = Minute c.in-Ok.step.minute c.in-Ok.step.leap in
    let h : advance n d ≡ progress due answer = rw c.in-Ok.is at c.read_entry.ensures.0 in
    one-advanced due buffer c.read_entry.new.out answer n d h c.read_entry.ensures.1
