-- `localtime::local_date` meets its contract: the questions in their order, then the date of the local minute.
-- Assumes nothing.
use Rattle.std.specs.Prelude.{Some, None}
use Prim.Native.Nat.{ℕ, ◌+◌, ◌≤◌}
use mathlib.Core.Path.{◌≡◌, sym, ap, subst, ◌∙◌}
use mathlib.Core.Bool.{true, false}
use native.Mathlib.Omega.{arith}
use lib.IntN.{ℤ, pos, nat_abs, ◌-ℤ◌}
use mir.Facts.{to_z-of_z}
use borrow.Author.Tests.{lt-leb, le-leb}
use Rattle.bits.specs.Bits.{pick}
use Rattle.questions.specs.Questions.{asked}
use Rattle.calendar.specs.Calendar.{max_minute, date_on}
use Rattle.calendar.specs.Answer.{found, date_values}
use Rattle.calendar.specs.declared.Date.{Date}
use Rattle.localtime.specs.Local.{legal_offset, legal_setting, local_questions, local_of}
use Rattle.localtime.proofs.Laws.{legal-offset, legal-hour, setting-parts, setting, unset, given-behind, not_behind, local-found, added-small}
use Rattle.localtime.proofs.local_date.Goals as goal
use Rattle.localtime.proofs.local_date.Goals.{After-minutes_behind, After-is_legal, After-minutes_added-added, Else-not-is_legal}

pub returns-then-minute-ge-MINUTES : goal.returns-then-minute-ge-MINUTES
unfolding local_of local_questions asked
returns-then-minute-ge-MINUTES c = rw (lt-leb c.args.minute max_minute (omega arith))

-- the minutes behind UTC, of the offset that came in
behind : (c : After-minutes_behind) → c.minutes_behind.result ≡ pick (legal_offset c.args.offset) (Some (nat_abs c.args.offset)) None
behind c = subst (λ (z : ℤ). c.minutes_behind.result ≡ pick (legal_offset z) (Some (nat_abs z)) None) (to_z-of_z c.ranges.offset) c.minutes_behind.ensures

pub returns-in_default : goal.returns-in_default
unfolding local_of local_questions asked
returns-in_default c =
    let d = (goal.at.returns-in_default c).After-minutes_behind in
    let l : legal_offset c.args.offset ≡ false = not_behind _ _ (sym c.in_default.is ∙ behind d) in
    rw (le-leb c.args.minute max_minute (omega arith), unset c.args.state c.args.offset c.args.hour l)

-- an offset of the range
offset : (c : After-is_legal) → (legal_offset c.args.offset ≡ true) × (c.in-Some.behind ≡ nat_abs c.args.offset)
offset c = given-behind _ _ _ (sym c.in-Some.is ∙ behind c.before.before)

-- what the second test says of the setting
answer : (c : After-is_legal) → legal_setting c.args.state c.args.offset c.args.hour ≡ c.is_legal.result
answer c = setting c.args.state c.args.offset c.args.hour (offset c).0 ∙ sym c.is_legal.ensures

pub returns-then-not-is_legal : goal.returns-then-not-is_legal
unfolding local_of local_questions asked
returns-then-not-is_legal c =
    rw (le-leb c.args.minute max_minute (omega arith), answer (goal.at.returns-then-not-is_legal c).After-is_legal ∙ c.if-not-is_legal.true)

-- the setting that passed it, and its offset
module _ (c : Else-not-is_legal) where
  accepted : legal_setting c.args.state c.args.offset c.args.hour ≡ true
  accepted = answer c.before ∙ c.if-not-is_legal.false

  limits : (240 ≤ c.in-Some.behind) × (c.in-Some.behind ≤ 600)
  limits =
      let l = legal-offset c.args.offset (offset c.before).0 in
      rw (offset c.before).1 (l.low, l.high)

pub minutes_added-added-requires : goal.minutes_added-added-requires
minutes_added-added-requires c =
    let a = c.args in
    let d = (goal.at.minutes_added-added-requires c).Else-not-is_legal in
    let parts = setting-parts a.state a.offset a.hour (accepted d) in
    let h = legal-hour a.hour parts.2 in
    (parts.0, (limits d).1, h.0, h.1)

few : (c : After-minutes_added-added) → c.minutes_added-added.result ≤ 60
few c = rw c.minutes_added-added.ensures (added-small _ _ _ _)

pub overflow_add-minute : goal.overflow_add-minute
overflow_add-minute c =
    record { fits = omega (arith, few (goal.at.overflow_add-minute c).After-minutes_added-added) }

pub date_before-requires : goal.date_before-requires
date_before-requires c =
    let d = goal.at.date_before-requires c in
    omega (arith, few d.After-minutes_added-added, limits d.Else-not-is_legal)

pub returns : goal.returns
returns c =
    let a = c.args in
    let b = c.in-Some.behind in
    let d = (goal.at.returns c).Else-not-is_legal in
    ap (λ (d : Date). found (date_values d)) c.date_before.ensures
    ∙ ap (λ (n : ℕ). found (date_values (date_on (pos (a.minute + n) -ℤ pos b)))) c.minutes_added-added.ensures
    ∙ sym (local-found a.minute a.state a.offset a.hour b c.if-minute-ge-MINUTES.false (accepted d) (offset d.before).1)
