-- `frame::message::read_counted` meets its contract.
-- Assumes nothing.
use Prim.Native.Nat.{ℕ, ◌<◌}
use mathlib.Core.Bool.{true}
use mathlib.Core.List.{List}
use mathlib.Core.Path.{◌≡◌, sym, ap, ◌∙◌}
use lib.ListN.{get_or}
use Rattle.bits.specs.Bits.{number}
use Rattle.calendar.specs.Calendar.{minute_count, last_of_month}
use Rattle.format.specs.Entry.{Entry}
use Rattle.format.specs.Message.{message_entry, data_in}
use Rattle.format.specs.Reading.{seconds_for}
use Rattle.format.specs.Questions.{message_in, question13, question20}
use Rattle.format.specs.Next.{entry}
use Rattle.format.specs.declared.Due.TheVariants.{Minute}
use Rattle.format.proofs.Legal.{seconds-long}
use Rattle.format.proofs.Words.{notice-bit}
use Rattle.format.proofs.Messages.{no-20, no-11, no-13, no-14, yes-14, data_of, notice-of, echo_of}
use Rattle.frame.proofs.message.read_counted.Goals as goal
use Rattle.frame.proofs.message.read_counted.Goals.{Start, Else-not-is_known, Else-minute-ge-MINUTES, After-ends_right, After-from}

-- the entry of the fields that the code finds
same-entry : (m l n b d : ℕ) (f : List ℕ) → n ≡ seconds_for l (last_of_month m) → b ≡ get_or f 49 0 → d ≡ number (data_in f)
    → message_entry m n b d ≡ message_in (Minute m l) f
unfolding message_in
same-entry m l n b d f p q r = rw (p, q, r)

-- what the message says, with the counted minute
module _ (c : Start) where
  abbrev e : Entry
  e = message_in (Minute c.args.minute c.args.leap) c.args.frame.now

q20 : (c : Else-not-is_known) → question20 (Minute c.args.minute c.args.leap) ≡ true
q20 c = sym c.is_known.ensures ∙ c.if-not-is_known.false

q11 : (c : Else-minute-ge-MINUTES) → (message_in (Minute c.args.minute c.args.leap) c.args.frame.now).minute < minute_count
unfolding message_in message_entry
q11 c = c.if-minute-ge-MINUTES.false

q13 : (c : After-ends_right) → c.ends_right.result ≡ question13 c.args.alone c.args.frame.now (message_in (Minute c.args.minute c.args.leap) c.args.frame.now)
unfolding message_in message_entry
q13 c = rw (← c.seconds_for-length.ensures) c.ends_right.ensures

echo-is : (c : After-from) → get_or c.args.frame.now 19 0 ≡ c.echo_bit.result
echo-is c = echo_of c.args.frame.now c.args.word c.requires ∙ sym c.echo_bit.ensures

pub returns-then-not-is_known : goal.returns-then-not-is_known
returns-then-not-is_known c =
    let a = c.args in
    sym (no-20 a.minute a.leap a.alone a.frame.now (e (goal.at.returns-then-not-is_known c).Start) (sym c.is_known.ensures ∙ c.if-not-is_known.true))

pub returns-then-minute-ge-MINUTES : goal.returns-then-minute-ge-MINUTES
unfolding message_in message_entry
returns-then-minute-ge-MINUTES c =
    let a = c.args in
    let d = goal.at.returns-then-minute-ge-MINUTES c in
    sym (no-11 a.minute a.leap a.alone a.frame.now (e d.Start) (q20 d.Else-not-is_known) c.if-minute-ge-MINUTES.true)

pub ends_right-requires : goal.ends_right-requires
ends_right-requires c =
    rw c.seconds_for-length.ensures (seconds-long _ _)

pub returns-then-not-ends_right : goal.returns-then-not-ends_right
returns-then-not-ends_right c =
    let a = c.args in
    let d = goal.at.returns-then-not-ends_right c in
    sym (no-13 a.minute a.leap a.alone a.frame.now (e d.Start) (q20 d.Else-not-is_known) (q11 d.Else-minute-ge-MINUTES) (sym (q13 d.After-ends_right) ∙ c.if-not-ends_right.true))

pub returns-then-echo_bit-from : goal.returns-then-echo_bit-from
unfolding message_in message_entry
returns-then-echo_bit-from c =
    let a = c.args in
    let d = goal.at.returns-then-echo_bit-from c in
    sym (no-14 a.minute a.leap a.alone a.frame.now (e d.Start) (q20 d.Else-not-is_known) (q11 d.Else-minute-ge-MINUTES)
    (sym (q13 d.After-ends_right) ∙ c.if-not-ends_right.false) (λ h. c.if-echo_bit-from.true (sym (echo-is d.After-from) ∙ h ∙ sym c.from.ensures)))

pub returns : goal.returns
unfolding message_in message_entry
returns c =
    let a = c.args in
    let d = goal.at.returns c in
    let w = a.word in
    ap entry
    (same-entry a.minute a.leap _ _ _ a.frame.now
    c.seconds_for-length.ensures
    (c.notice_bit-notice.ensures ∙ notice-bit w ∙ sym (notice-of a.frame.now w c.requires))
    (c.message_data-payload.ensures ∙ sym (data_of a.frame.now w c.requires)))
    ∙ sym (yes-14 a.minute a.leap a.alone a.frame.now (e d.Start) (q20 d.Else-not-is_known) (q11 d.Else-minute-ge-MINUTES)
    (sym (q13 d.After-ends_right) ∙ c.if-not-ends_right.false) (echo-is d.After-from ∙ c.if-echo_bit-from.false ∙ c.from.ensures))
