-- `entries::read_entry` meets its contract.
-- Assumes nothing.
use mathlib.Core.Path.{◌≡◌, sym, ap, ◌∙◌}
use native.Mathlib.Omega.{arith}
use Rattle.std.proofs.Common.{Ok}
use Rattle.format.specs.Entry.{Entry}
use Rattle.format.specs.Message.{message_entry}
use Rattle.format.specs.Next.{entry, read_next}
use Rattle.frame.specs.declared.Told.{Told}
use Rattle.frame.specs.Answer.{entry_from, frame_numbers}
use Rattle.questions.specs.Refusals.{refusal_number}
use Rattle.format.proofs.Accepted.{accepted}
use Rattle.entries.proofs.Progress.{passed-on, no_room, halts, advances}
use Rattle.entries.proofs.Turn.{after-time, after-message}
use Rattle.entries.proofs.read_entry.Goals as goal

pub returns-then-out-lt-ENTRY_SIZE : goal.returns-then-out-lt-ENTRY_SIZE
returns-then-out-lt-ENTRY_SIZE c =
    let a = c.args in
    no_room a.due a.alone a.out.now a.bits.now (omega arith)

pub overflow_add-result : goal.overflow_add-result
overflow_add-result c =
    let e : Entry = entry_from c.in-Time.state c.in-Time.fields in
    let entry-is : read_next c.args.due c.args.alone c.args.bits.now ≡ entry e = sym c.read_next.ensures ∙ ap frame_numbers (c.in_ok-frame.was ∙ ap Ok c.in-Time.is) in
    omega (arith, (accepted c.args.due c.args.alone c.args.bits.now e entry-is).minute-in)

pub overflow_add-result-in-Message : goal.overflow_add-result-in-Message
unfolding message_entry
overflow_add-result-in-Message c =
    let told : Told = c.in-Message.told in
    let em : Entry = message_entry told.minute told.length told.notice told.payload in
    let message-is : read_next c.args.due c.args.alone c.args.bits.now ≡ entry em = sym c.read_next.ensures ∙ ap frame_numbers (c.in_ok-frame.was ∙ ap Ok c.in-Message.is) in
    omega (arith, (accepted c.args.due c.args.alone c.args.bits.now em message-is).minute-in)

pub returns-in_err-frame : goal.returns-in_err-frame
returns-in_err-frame c =
    let a = c.args in
    let x = c.in_err-frame.field-0.0 in
    let g = halts a.due a.alone a.out.now a.bits.now (refusal_number x) c.if-out-lt-ENTRY_SIZE.false (sym c.in_err-frame.ensures) in
    (passed-on _ x c.from_residual.ensures.1 ∙ g.0, g.1)

pub returns-in-Time : goal.returns-in-Time
returns-in-Time c =
    let e : Entry = entry_from c.in-Time.state c.in-Time.fields in
    let entry-is : read_next c.args.due c.args.alone c.args.bits.now ≡ entry e = sym c.read_next.ensures ∙ ap frame_numbers (c.in_ok-frame.was ∙ ap Ok c.in-Time.is) in
    let a = c.args in
    let put = c.put_entry in
    advances a.due a.alone a.out.now a.bits.now e put.new.out _ c.if-out-lt-ENTRY_SIZE.false entry-is put.ensures
    (after-time a.due c.in-Time.state c.in-Time.fields _ c.leap_after_time.ensures)

pub returns-in-Message : goal.returns-in-Message
unfolding message_entry
returns-in-Message c =
    let told : Told = c.in-Message.told in
    let em : Entry = message_entry told.minute told.length told.notice told.payload in
    let message-is : read_next c.args.due c.args.alone c.args.bits.now ≡ entry em = sym c.read_next.ensures ∙ ap frame_numbers (c.in_ok-frame.was ∙ ap Ok c.in-Message.is) in
    let a = c.args in
    let put = c.put_message in
    advances a.due a.alone a.out.now a.bits.now em put.new.out _ c.if-out-lt-ENTRY_SIZE.false message-is put.ensures
    (after-message a.due told _ (c.leap_after.ensures ∙ rw c.leap_read.ensures))
