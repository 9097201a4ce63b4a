use Prim.Native.Nat.{ℕ, suc, ◌+◌, ◌-◌, ◌/◌, ◌≤◌, ◌<◌}
use mathlib.Core.Bool.{true}
use mathlib.Core.Path.{◌≡◌, refl, sym, ap, ◌∙◌}
use native.Mathlib.Omega.{arith}
use mathlib.Core.List.{List, ◌++◌}
use native.Mathlib.Nat.{add-zero, add_assoc}
use native.Mathlib.Numerals.{add-one}
use lib.ListN.{length, take, drop, length-drop}
use Rattle.bits.specs.Bits.{concat}
use Rattle.calendar.specs.Calendar.{minute_count}
use Rattle.plan.specs.declared.Plan.{Plan}
use Rattle.plan.specs.Plan.{length_at}
use Rattle.messages.specs.Message.{Schedule, legal_schedule}
use Rattle.messages.specs.Bytes.{schedule_of}
use Rattle.messages.specs.Walk.{NextIs}
use Rattle.messages.proofs.Schedules.{plan-legal, messages-legal}
use Rattle.messages.proofs.Stepping.{index, step-on, step_past}
use Rattle.format.specs.Message.{content_at, frame_of}
use Rattle.format.specs.Sending.{day_word}
use Rattle.sequence.specs.Writing.{recording, frames, seconds}
use Rattle.sequence.proofs.Tails.{tail, tail-back, length_rest}
use Rattle.sequence.proofs.Sums.{seconds-snoc, seconds-mono, recording-snoc, length-recording, part-more}
use Rattle.recording.proofs.Turn.{whole}
use Rattle.recording.proofs.write_frames.Goals as goal
use Rattle.recording.proofs.write_frames.Goals.{then-minute-day, else-minute-day, then-minute-due, else-minute-due, In-loop-i, Joined-minute-day}

-- where the next message is the one after the minute
moved : {s : List ℕ} {m n k d k' d' : ℕ} → m ≡ n → k' ≡ k → d' ≡ d → NextIs s m k d → NextIs s n k' d'
moved e f g x = rw (← e, f, g) x

pub day_word-word-requires : goal.day_word-word-requires
day_word-word-requires c =
    (plan-legal (schedule_of c.args.schedule.plan c.args.schedule.messages.now) c.requires.0, omega (arith, c.requires.1, c.requires.2))

pub first_from-k-requires : goal.first_from-k-requires
first_from-k-requires c =
    whole c.args.schedule.plan c.args.schedule.messages.now c.requires.0

pub next_minute-due-requires : goal.next_minute-due-requires
next_minute-due-requires c =
    (whole c.args.schedule.plan c.args.schedule.messages.now c.requires.0, c.first_from-k.ensures.0)

pub loop-i-init : goal.loop-i-init
unfolding seconds recording frames concat
loop-i-init c =
    let f = c.first_from-k in
    let a = c.args in (
      refl,
      refl,
      refl,
      c.day_word-word.ensures,
      rw (add-zero a.first) (record { inside = f.ensures.0; rest = f.ensures.1; next = c.next_minute-due.ensures }),
    )

pub overflow_add-minute : goal.overflow_add-minute
overflow_add-minute c =
    omega (arith, c.requires.2, c.loop-i-test.true)

-- in a turn
module _ (c : In-loop-i) where
  abbrev p : Plan
  p = c.args.schedule.plan

  abbrev s : List ℕ
  s = c.args.schedule.messages.now

  abbrev q : Schedule
  q = schedule_of p s

  legal : legal_schedule q ≡ true
  legal = c.requires.0

  abbrev m : ℕ
  m = c.args.first

  abbrev i : ℕ
  i = c.loop-i.i

  abbrev at : ℕ
  at = c.loop-i.at

  abbrev out₀ : List ℕ
  out₀ = c.args.out.now

  fits : at + length_at p (m + i) ≤ length out₀
  fits = omega (
    arith,
    c.loop-i.invariant.0,
    seconds-snoc p m i,
    seconds-mono p m (suc i) c.args.count c.loop-i-test.true,
    c.requires.3,
  )

  range : m + i < minute_count
  range = omega (arith, c.requires.2, c.loop-i-test.true)

  next-is : NextIs s (m + i) c.loop-i.k c.loop-i.due
  next-is = c.loop-i.invariant.4

pub day_word-word-requires-then-minute-day : goal.day_word-word-requires-then-minute-day
day_word-word-requires-then-minute-day c =
    let d = (goal.at.day_word-word-requires-then-minute-day c).In-loop-i in
    (plan-legal (q d) (legal d), omega (arith, c.requires.2, c.loop-i-test.true))

pub slice_bounds-write_next-count : goal.slice_bounds-write_next-count
slice_bounds-write_next-count c =
    let d = (goal.at.slice_bounds-write_next-count c).In-loop-i in
    omega (arith, fits d, c.loop-i.invariant.1)

pub slice_bounds-write_next-start : goal.slice_bounds-write_next-start
slice_bounds-write_next-start c =
    let d = (goal.at.slice_bounds-write_next-start c).In-loop-i in
    omega (arith, fits d, c.loop-i.invariant.1)

-- the day that the minute is in, and its bits
module _ (c : Joined-minute-day) where
  day-now : c.if-minute-day.day ≡ (c.args.first + c.loop-i.i) / 1440
  day-now = elim c.if-minute-day.branch [ then-minute-day w ↦ w.day-is | else-minute-day w ↦ w.day-is ∙ sym w.if-minute-day.false ]

  word-now : c.if-minute-day.word ≡ day_word c.args.schedule.plan c.if-minute-day.day
  word-now = elim c.if-minute-day.branch [
    | then-minute-day w ↦ w.word-is ∙ w.day_word-word-then-minute-day.ensures ∙ ap (day_word c.args.schedule.plan) (sym w.day-is)
    | else-minute-day w ↦ w.word-is ∙ c.loop-i.invariant.3 ∙ ap (day_word c.args.schedule.plan) (sym w.day-is)
  ]

pub write_next-at-requires : goal.write_next-at-requires
write_next-at-requires c =
    let z = goal.at.write_next-at-requires c in
    let d = z.In-loop-i in
    let j = z.Joined-minute-day in
    let at : ℕ = c.loop-i.at in
    let out : List ℕ = c.loop-i.out in (
      legal d,
      next-is d,
      word-now j ∙ ap (day_word (p d)) (day-now j),
      rw (tail out at) (omega (arith, fits d, c.loop-i.invariant.1, length-drop at out)),
    )

pub overflow_add-at : goal.overflow_add-at
overflow_add-at c =
    let d = (goal.at.overflow_add-at c).In-loop-i in
    omega (arith, fits d, c.write_next-at.ensures.0)

-- the minute has a message
message-is : (d : In-loop-i) → m d + i d ≡ d.loop-i.due → d.loop-i.k < length (s d) / 10
message-is d e = index (s d) (messages-legal (q d) (legal d)) (m d + i d) d.loop-i.k d.loop-i.due (next-is d) (range d) e

pub overflow_add-k : goal.overflow_add-k
overflow_add-k c =
    omega (arith, c.loop-i.invariant.4.inside, message-is (goal.at.overflow_add-k c).In-loop-i c.if-minute-due.true)

pub next_minute-due-requires-then-minute-due : goal.next_minute-due-requires-then-minute-due
next_minute-due-requires-then-minute-due c =
    let d = (goal.at.next_minute-due-requires-then-minute-due c).In-loop-i in
    (whole (p d) (s d) (legal d), omega (arith, message-is d c.if-minute-due.true))

pub loop-i-preserved : goal.loop-i-preserved
loop-i-preserved c =
    let z = goal.at.loop-i-preserved c in
    let d = z.In-loop-i in
    let p : Plan = c.args.schedule.plan in
    let s : List ℕ = c.args.schedule.messages.now in
    let q : Schedule = schedule_of p s in
    let m : ℕ = c.args.first in
    let i : ℕ = c.loop-i.i in
    let at : ℕ = c.loop-i.at in
    let out : List ℕ = c.loop-i.out in
    let out₀ : List ℕ = c.args.out.now in
    let next : (ys : List ℕ) (n : ℕ) → n ≡ length_at p (m + i) → ys ≡ frame_of (content_at q (m + i)) ++ drop (length_at p (m + i)) (take (length out - at) (drop at out)) → take at out ++ (ys ++ drop (length out - at) (drop at out)) ≡ recording q m (i + 1) ++ drop (at + n) out₀ = λ ys n en e. tail-back out at ys
    ∙ rw (e, tail out at, add-one i, recording-snoc q m i, en)
    (part-more (recording q m i) (frame_of (content_at q (m + i))) out₀ out at (length_at p (m + i))
    (length-recording q m i ∙ sym c.loop-i.invariant.0) c.loop-i.invariant.2) in
    let sum : (n : ℕ) → n ≡ length_at p (m + i) → at + n ≡ seconds p m (i + 1) = λ n e. rw (add-one i) (omega (arith, e, c.loop-i.invariant.0, seconds-snoc p m i)) in
    let next-now : NextIs s (m + (i + 1)) c.if-minute-due.k c.if-minute-due.due = (let ok = messages-legal q (legal d) in
    let a = add_assoc m i 1 in
    elim c.if-minute-due.branch [
      | then-minute-due w ↦ moved a w.k-is w.due-is (step-on s ok (m + i) c.loop-i.k c.loop-i.due (next-is d) (range d) w.if-minute-due.true w.next_minute-due-then-minute-due.result w.next_minute-due-then-minute-due.ensures)
      | else-minute-due w ↦ moved a w.k-is w.due-is (step_past s ok (m + i) c.loop-i.k c.loop-i.due (next-is d) w.if-minute-due.false)
    ]) in
    let n = c.write_next-at.result in
    let e : n ≡ length_at p (m + i) = c.write_next-at.ensures.0 in
    let b = next c.write_next-at.new.out n e c.write_next-at.ensures.1 in
    let x = sum n e in (
      x,
      ap length b ∙ length_rest (recording q m (i + 1)) out₀ (at + n) (length-recording q m (i + 1) ∙ sym x) (omega (arith, fits d)),
      b,
      word-now z.Joined-minute-day,
      next-now,
    )

pub shape_of-out : goal.shape_of-out
shape_of-out c =
    c.loop-i.invariant.1

pub returns : goal.returns
returns c =
    let a = c.args in
    let e : c.loop-i.i ≡ a.count = omega arith in
    rw (← e, ← c.loop-i.invariant.0) c.loop-i.invariant.2
