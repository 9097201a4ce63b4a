-- `frame::read_fields` meets its contract.
-- Assumes nothing.
use Prim.Native.Nat.{ℕ, ◌<◌}
use mathlib.Core.Path.{◌≡◌, sym, ap, ◌∙◌}
use native.Mathlib.Nat.{le_refl}
use Rattle.bits.specs.Bits.{bits, number}
use Rattle.codewords.specs.CodeWords.{illegal, unassigned, state_of, row_of, row_answer}
use Rattle.codewords.proofs.Tables.{state-lt}
use Rattle.codewords.proofs.Answers.{assigned-is, unassigned-is}
use Rattle.codewords.specs.declared.State.{State}
use Rattle.timeword.specs.TimeWord.{reading}
use Rattle.timeword.specs.declared.Corrected.{Corrected}
use Rattle.format.specs.Frame.{min_frame, word_in, state_in}
use Rattle.format.specs.Entry.{Entry}
use Rattle.format.specs.Reading.{entry_of}
use Rattle.format.specs.Questions.{question13}
use Rattle.format.specs.Next.{entry}
use Rattle.frame.specs.Answer.{entry_from}
use Rattle.format.proofs.Legal.{seconds-long}
use Rattle.format.proofs.Words.{notice-bit}
use Rattle.format.proofs.Questions.{entry_at, entry-is, no-10, no-11, no-13, no-14, yes-14}
use Rattle.frame.proofs.read_fields.Goals as goal
use Rattle.frame.proofs.read_fields.Goals.{Start, In-Some, After-decode-time, After-ends_right}

-- the entry of the fields that the code finds
same-entry : (x : ℕ) (t : Corrected) (s : State) (n r b c : ℕ) → n ≡ (entry_at x t s).seconds → r ≡ (entry_at x t s).row → b ≡ (entry_at x t s).notice → c ≡ (entry_at x t s).echo
    → entry_from s (record { minute = t.minute; length = n; row = r; notice = b; place = t.place; echo = c }) ≡ entry_at x t s
same-entry x t s n r b c p q o h = rw (p, q, o, h)

-- the state is legal, and the entry has it
module _ (c : Start) where
  q9 : state_of (number (state_in c.args.frame.now)) < illegal
  q9 = rw (← c.requires.1) (state-lt c.args.state)

  is : entry_of c.args.frame.now ≡ entry_at c.args.word (reading (bits 31 (number (word_in (bits min_frame c.args.word))))) c.args.state
  is = entry-is c.args.frame.now c.args.word c.args.state c.requires.0 c.requires.1

-- the row is that of the entry, whatever its minute, and one of the table
module _ (c : In-Some) (t : Corrected) where
  row-found : (c.in-Some.row ≡ (entry_at c.args.word t c.args.state).row) × (c.in-Some.row < unassigned)
  row-found = assigned-is c.in-Some.row _ _ (ap row_answer (sym c.in-Some.is) ∙ c.read_row.ensures)

  row-ok : (entry_at c.args.word t c.args.state).row < unassigned
  row-ok = rw (← row-found.0) row-found.1

-- the entry with the time as it is decoded
module _ (c : After-decode-time) where
  abbrev e : Entry
  e = entry_at c.args.word c.decode-time.result c.args.state

  e-is : entry_of c.args.frame.now ≡ e
  e-is =
      entry-is c.args.frame.now c.args.word c.args.state c.requires.0 c.requires.1
      ∙ ap (λ (t : Corrected). entry_at c.args.word t c.args.state) (sym (c.decode-time.ensures ∙ ap (λ (n : ℕ). reading (bits 31 n)) c.time_word-received.ensures))

q13 : (c : After-ends_right) → c.ends_right.result ≡ question13 c.args.alone c.args.frame.now (entry_at c.args.word c.decode-time.result c.args.state)
q13 c = rw (← c.length_for-length.ensures) c.ends_right.ensures

pub returns-in_default : goal.returns-in_default
returns-in_default c =
    let a = (goal.at.returns-in_default c).Start in
    let none : row_of _ _ ≡ unassigned = unassigned-is _ _ (ap row_answer (sym c.in_default.is) ∙ c.read_row.ensures) in
    rw (is a) (sym (no-10 c.args.due c.args.alone c.args.frame.now (entry_at c.args.word (reading (bits 31 (number (word_in (bits min_frame c.args.word))))) c.args.state) (q9 a) (rw none (le_refl _))))

pub returns-then-minute-ge-MINUTES : goal.returns-then-minute-ge-MINUTES
returns-then-minute-ge-MINUTES c =
    let d = goal.at.returns-then-minute-ge-MINUTES c in
    let t = d.After-decode-time in
    rw (e-is t) (sym (no-11 c.args.due c.args.alone c.args.frame.now (e t) (q9 d.Start) (row-ok d.In-Some c.decode-time.result) c.if-minute-ge-MINUTES.true))

pub ends_right-requires : goal.ends_right-requires
ends_right-requires c =
    rw c.length_for-length.ensures (seconds-long _ _)

pub returns-then-not-ends_right : goal.returns-then-not-ends_right
returns-then-not-ends_right c =
    let d = goal.at.returns-then-not-ends_right c in
    let t = d.After-decode-time in
    let row = row-ok d.In-Some c.decode-time.result in
    rw (e-is t) (sym (no-13 c.args.due c.args.alone c.args.frame.now (e t) (q9 d.Start) row c.if-minute-ge-MINUTES.false (sym (q13 d.After-ends_right) ∙ c.if-not-ends_right.true)))

pub returns-then-not-is_due : goal.returns-then-not-is_due
returns-then-not-is_due c =
    let d = goal.at.returns-then-not-is_due c in
    let t = d.After-decode-time in
    let row = row-ok d.In-Some c.decode-time.result in
    rw (e-is t) (sym (no-14 c.args.due c.args.alone c.args.frame.now (e t) (q9 d.Start) row c.if-minute-ge-MINUTES.false
    (sym (q13 d.After-ends_right) ∙ c.if-not-ends_right.false) (sym c.is_due.ensures ∙ c.if-not-is_due.true)))

pub returns : goal.returns
returns c =
    let d = goal.at.returns c in
    let t = d.After-decode-time in
    let x = c.args.word in
    let row = row-ok d.In-Some c.decode-time.result in
    rw (e-is t)
    (ap entry
    (same-entry x c.decode-time.result c.args.state c.length_for-length.result c.in-Some.row c.notice_bit-notice.result c.echo_right-echo.result
    c.length_for-length.ensures (row-found d.In-Some c.decode-time.result).0 (c.notice_bit-notice.ensures ∙ notice-bit x) c.echo_right-echo.ensures)
    ∙ sym (yes-14 c.args.due c.args.alone c.args.frame.now (e t) (q9 d.Start) row c.if-minute-ge-MINUTES.false
    (sym (q13 d.After-ends_right) ∙ c.if-not-ends_right.false) (sym c.is_due.ensures ∙ c.if-not-is_due.false)))
