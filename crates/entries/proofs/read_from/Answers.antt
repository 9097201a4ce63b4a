use Prim.Native.Nat.{ℕ, suc, ◌+◌, ◌-◌, ◌*◌, ◌/◌, ◌≤◌, ◌<◌}
use mathlib.Core.Path.{◌≡◌, refl, sym, ap, ◌∙◌}
use mathlib.Core.Bool.{false}
use native.Mathlib.Omega.{arith}
use mathlib.Core.List.{List, [], ◌++◌}
use native.Mathlib.Nat.{sub-zero}
use lib.ListN.{length, take, drop, length-drop, drop_of_length-le}
use Rattle.format.specs.Entry.{Entry, entry_size, entry_bytes}
use Rattle.format.specs.Next.{Answer, refused, entry, read_next, read_entry, one_outcome}
use Rattle.format.specs.declared.Due.{Due}
use Rattle.format.specs.declared.Due.TheVariants.{Minute}
use Rattle.questions.specs.Refusals.{refusal_number}
use Rattle.format.proofs.Accepted.{Accepted, accepted}
use Rattle.format.proofs.One.{yes-5}
use Rattle.sequence.specs.Reading.{Found, stop, read_frames, read_from, due_from, Outcome}
use Rattle.sequence.proofs.Resume.{resume, resume-none, resume-stop}
use Rattle.sequence.proofs.Steps.{ended}
use Rattle.sequence.proofs.Tails.{tail}
use Rattle.std.specs.Prelude.{Ok, Err}
use Rattle.questions.specs.declared.Refusal.{Refusal}
use Rattle.entries.specs.Answer.{progress, step_numbers}
use Rattle.entries.specs.declared.Advance.{Advance}
use Rattle.entries.proofs.Progress.{halted, Advanced, advanced, room_of, refused-step}
use Rattle.entries.proofs.Turn.{same_back, put-length, turn, turn-due}
use Rattle.entries.proofs.read_from.Goals as goal
use Rattle.entries.proofs.read_from.Goals.{After-read_entry}

-- where a reading stops with a number, or at the end with 0
stopped : (count used n : ℕ) (buffer later : List ℕ) (due last : Due) (o : Outcome) (rest : Found) → later ≡ buffer → rest ≡ stop due n
    → resume count used buffer rest ≡ o → rest.due ≡ last
    → (◌≡◌ {A = Outcome} (record { count = count; used = used; refusal = n; buffer = later }) o) × (due ≡ last)
unfolding stop
stopped count used n buffer later due last o rest same e r l =
    (rw same (sym (resume-stop count used buffer due n) ∙ ap (resume count used buffer) (sym e) ∙ r), rw e at l)

pub loop-used-init : goal.loop-used-init
unfolding read_from due_from
loop-used-init c =
    let b = c.args in
    let n = length b.entries.now / entry_size in (
      omega arith,
      omega arith,
      refl,
      rw (sub-zero n) (resume-none b.entries.now (read_frames n b.due b.bits.now)),
      rw (sub-zero n),
    )

-- after the step
module _ (c : After-read_entry) where
  abbrev bits : List ℕ
  bits = c.args.bits.now

  abbrev rest : List ℕ
  rest = drop c.loop-used.used bits

  abbrev from : ℕ
  from = c.loop-used.count * entry_size

  abbrev part : List ℕ
  part = take (length c.loop-used.entries - from) (drop from c.loop-used.entries)

  abbrev answer : Answer
  answer = read_entry c.loop-used.next false (length part) rest

  progress-is : step_numbers c.read_entry.result ≡ progress c.loop-used.next answer
  progress-is = c.read_entry.ensures.0
      ∙ ap (λ (f : List ℕ). progress c.loop-used.next (read_entry c.loop-used.next false (length part) f)) (tail bits c.loop-used.used)

  abbrev later : List ℕ
  later = c.read_entry.new.out

  later-is : later ≡ (one_outcome part answer).buffer
  later-is = c.read_entry.ensures.1
      ∙ ap (λ (f : List ℕ). (one_outcome part (read_entry c.loop-used.next false (length part) f)).buffer) (tail bits c.loop-used.used)

  abbrev buffer : List ℕ
  buffer = c.args.entries.now

  part_length : length part ≡ length buffer - from
  part_length = rw (tail c.loop-used.entries from) (omega (arith, length-drop from c.loop-used.entries, c.loop-used.invariant.2))

-- after a refusal
module _ (d : After-read_entry) (r : Refusal) (h : d.read_entry.result ≡ Err r) where
  refused-is : answer d ≡ refused (refusal_number r)
  refused-is = halted d.loop-used.next (answer d) (refusal_number r) (sym (ap step_numbers h) ∙ progress-is d)

  kept : take (from d) d.loop-used.entries ++ (later d ++ drop (length d.loop-used.entries - from d) (drop (from d) d.loop-used.entries)) ≡ d.loop-used.entries
  unfolding one_outcome
  kept = same_back d.loop-used.entries (later d) (from d) (rw refused-is at (later-is d))

-- after a frame
module _ (d : After-read_entry) (s : Advance) (h : d.read_entry.result ≡ Ok s) where
  abbrev state : Due
  state = Minute s.minute s.leap

  went : Advanced d.loop-used.next (answer d) s.length state
  went = advanced d.loop-used.next (answer d) s.length state (sym (ap step_numbers h) ∙ progress-is d)

  free : entry_size ≤ length (part d)
  free = room_of (length (part d)) d.loop-used.next (rest d) went.taken went.is

  entry-is : read_next d.loop-used.next false (rest d) ≡ entry went.taken
  entry-is = sym (yes-5 d.loop-used.next false (length (part d)) (rest d) free) ∙ went.is

  fine : Accepted (rest d) went.taken
  fine = accepted d.loop-used.next false (rest d) went.taken entry-is

  left : d.loop-used.used + went.taken.seconds ≤ length (bits d)
  left = omega (arith, fine.enough-left, length-drop d.loop-used.used (bits d), d.loop-used.invariant.0)

pub shape_of-entries-in-Err : goal.shape_of-entries-in-Err
shape_of-entries-in-Err c =
    ap length (kept (goal.at.shape_of-entries-in-Err c).After-read_entry c.in-Err.refusal c.in-Err.is) ∙ c.loop-used.invariant.2

pub returns-in-Err : goal.returns-in-Err
returns-in-Err c =
    let d = (goal.at.returns-in-Err c).After-read_entry in
    let slots : ℕ = length c.args.entries.now / entry_size - c.loop-used.count in
    let free-slots : length (part d) / entry_size ≡ slots = omega (arith, part_length d, c.loop-used.invariant.1) in
    let some : 0 < length (rest d) = omega (arith, length-drop c.loop-used.used c.args.bits.now) in
    let n : ℕ = refusal_number c.in-Err.refusal in
    stopped c.loop-used.count c.loop-used.used n c.loop-used.entries _ c.loop-used.next _ _ (read_frames slots c.loop-used.next (rest d)) (kept d c.in-Err.refusal c.in-Err.is)
    (rw (← free-slots) (refused-step (length (part d)) c.loop-used.next (rest d) some n (refused-is d c.in-Err.refusal c.in-Err.is)))
    c.loop-used.invariant.3 c.loop-used.invariant.4

pub overflow_add-used : goal.overflow_add-used
overflow_add-used c =
    let d = (goal.at.overflow_add-used c).After-read_entry in
    omega (arith, (went d c.in-Ok.step c.in-Ok.is).bits, left d c.in-Ok.step c.in-Ok.is)

pub loop-used-smaller : goal.loop-used-smaller
loop-used-smaller c =
    let d = (goal.at.loop-used-smaller c).After-read_entry in
    omega (arith, (went d c.in-Ok.step c.in-Ok.is).bits, left d c.in-Ok.step c.in-Ok.is, (fine d c.in-Ok.step c.in-Ok.is).long)

pub loop-used-preserved : goal.loop-used-preserved
unfolding one_outcome
loop-used-preserved c =
    let d = (goal.at.loop-used-preserved c).After-read_entry in
    let s : Advance = c.in-Ok.step in
    let next : Due = state d s c.in-Ok.is in
    let gone = went d s c.in-Ok.is in
    let e : Entry = gone.taken in
    let buffer : List ℕ = c.args.entries.now in
    let slots : ℕ = length buffer / entry_size - c.loop-used.count in
    let fewer : ℕ = length buffer / entry_size - (c.loop-used.count + 1) in
    let some : 0 < length (rest d) = omega (arith, length-drop c.loop-used.used c.args.bits.now) in
    let room : from d + entry_size ≤ length c.loop-used.entries = omega (arith, free d s c.in-Ok.is, part_length d, c.loop-used.invariant.2) in
    let one-slot : slots ≡ suc fewer = omega (arith, room, c.loop-used.invariant.2) in
    let put-is : later d ≡ entry_bytes e ++ drop entry_size (part d) = (rw gone.is at (later-is d)) in
    rw c.from-used.ensures (
      rw gone.bits (left d s c.in-Ok.is),
      omega (arith, room, c.loop-used.invariant.2),
      put-length c.loop-used.entries (later d) (from d) e room put-is ∙ c.loop-used.invariant.2,
      turn fewer c.loop-used.count c.loop-used.used s.length c.loop-used.next next c.args.bits.now c.loop-used.entries (later d) e (read_from c.args.due buffer c.args.bits.now)
          gone.bits gone.next some (entry-is d s c.in-Ok.is) room put-is
          (ap (λ (n : ℕ). resume c.loop-used.count c.loop-used.used c.loop-used.entries (read_frames n c.loop-used.next (rest d))) (sym one-slot) ∙ c.loop-used.invariant.3),
      turn-due fewer c.loop-used.used s.length c.loop-used.next next (due_from c.args.due buffer c.args.bits.now) c.args.bits.now e gone.bits gone.next
          some (entry-is d s c.in-Ok.is) (rw one-slot at c.loop-used.invariant.4),
    )

pub shape_of-entries : goal.shape_of-entries
shape_of-entries c =
    c.loop-used.invariant.2

pub returns : goal.returns
returns c =
    let slots : ℕ = length c.args.entries.now / entry_size - c.loop-used.count in
    let e : drop c.loop-used.used c.args.bits.now ≡ [] = drop_of_length-le c.args.bits.now {i = c.loop-used.used} c.loop-used-test.false in
    stopped c.loop-used.count c.loop-used.used 0 c.loop-used.entries c.loop-used.entries c.loop-used.next _ _ (read_frames slots c.loop-used.next (drop c.loop-used.used c.args.bits.now))
    refl (rw e (ended slots c.loop-used.next)) c.loop-used.invariant.3 c.loop-used.invariant.4
