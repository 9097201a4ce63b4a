-- `recording::write_recording` meets its contract.
-- Assumes nothing.
use Prim.Native.Nat.{ℕ, ◌+◌, ◌≤◌}
use mathlib.Core.Path.{◌≡◌, sym, ◌∙◌}
use mathlib.Core.Bool.{true}
use mathlib.Core.List.{List}
use native.Mathlib.Omega.{arith}
use Rattle.calendar.specs.Calendar.{minute_count}
use Rattle.messages.specs.Message.{Schedule, legal_schedule}
use Rattle.messages.specs.Bytes.{schedule_of}
use Rattle.sequence.proofs.Refusals.{no-1, few, many, no-3, no-4, yes-4}
use Rattle.recording.proofs.write_recording.Goals as goal
use Rattle.recording.proofs.write_recording.Goals.{Start, Else-not-is_legal, Else-count-first, then-count-lt1-via-then-count-lt1, then-count-lt1-via-else-count-lt1+then-count-gt-MAX_COUNT}

module _ (c : Start) where
  abbrev q : Schedule
  q = schedule_of c.args.schedule.plan c.args.schedule.messages.now

  abbrev m : ℕ
  m = c.args.first

  abbrev n : ℕ
  n = c.args.count

  abbrev out : List ℕ
  out = c.args.out.now

legal : (c : Else-not-is_legal) → legal_schedule (schedule_of c.args.schedule.plan c.args.schedule.messages.now) ≡ true
legal c = sym c.is_legal.ensures ∙ c.if-not-is_legal.false

-- the last minute is in the range
fits : (c : Else-count-first) → c.args.first + c.args.count ≤ minute_count
fits c = omega arith

pub returns-then-not-is_legal : goal.returns-then-not-is_legal
returns-then-not-is_legal c =
    let a = (goal.at.returns-then-not-is_legal c).Start in
    no-1 (q a) (m a) (n a) (out a) (sym c.is_legal.ensures ∙ c.if-not-is_legal.true)

pub returns-then-count-lt1 : goal.returns-then-count-lt1
returns-then-count-lt1 c =
    let d = goal.at.returns-then-count-lt1 c in
    let a = d.Start in
    elim c.then-count-lt1.branch [
      | then-count-lt1-via-then-count-lt1 w ↦ few (q a) (m a) (n a) (out a) (legal d.Else-not-is_legal) w.if-count-lt1.true
      | then-count-lt1-via-else-count-lt1+then-count-gt-MAX_COUNT w ↦ many (q a) (m a) (n a) (out a) (legal d.Else-not-is_legal) w.if-count-gt-MAX_COUNT.true
    ]

pub returns-then-count-first : goal.returns-then-count-first
returns-then-count-first c =
    let d = goal.at.returns-then-count-first c in
    let a = d.Start in
    no-3 (q a) (m a) (n a) (out a) (legal d.Else-not-is_legal) c.if-count-lt1.false c.if-count-gt-MAX_COUNT.false (omega arith)

pub returns-then-out-needed : goal.returns-then-out-needed
returns-then-out-needed c =
    let d = goal.at.returns-then-out-needed c in
    let a = d.Start in
    no-4 (q a) (m a) (n a) (out a) (legal d.Else-not-is_legal) c.if-count-lt1.false c.if-count-gt-MAX_COUNT.false (fits d.Else-count-first)
    (rw (← c.bits_needed-needed.ensures) c.if-out-needed.true)

pub write_frames-requires : goal.write_frames-requires
write_frames-requires c =
    let d = goal.at.write_frames-requires c in
    (legal d.Else-not-is_legal, c.if-count-lt1.false, fits d.Else-count-first, rw (← c.bits_needed-needed.ensures) c.if-out-needed.false)

pub returns : goal.returns
returns c =
    let d = goal.at.returns c in
    let a = d.Start in
    let y = c.bits_needed-needed in
    yes-4 (q a) (m a) (n a) (out a) (legal d.Else-not-is_legal) c.if-count-lt1.false c.if-count-gt-MAX_COUNT.false (fits d.Else-count-first)
    y.result c.write_frames.new.out (rw (← y.ensures) c.if-out-needed.false) y.ensures c.write_frames.ensures
