-- `recording::word_sent` meets its contract.
-- Assumes nothing.
use Prim.Native.Nat.{ℕ, ◌%◌, ◌^◌, ◌/◌, ◌≤◌, ◌<◌}
use mathlib.Core.Bool.{true}
use mathlib.Core.List.{List}
use mathlib.Core.Path.{◌≡◌, refl, sym, ap, ◌∙◌}
use native.Mathlib.Omega.{arith}
use lib.ListN.{length}
use Rattle.bits.specs.Bits.{bits, number}
use Rattle.plan.specs.Plan.{length_at}
use Rattle.plan.specs.declared.Plan.{Plan}
use Rattle.plan.proofs.Rows.{notice-legal}
use Rattle.messages.specs.Message.{legal_messages}
use Rattle.messages.specs.Bytes.{message_size, message_at, messages_in, schedule_of}
use Rattle.messages.proofs.Schedules.{plan-legal, messages-legal}
use Rattle.messages.proofs.Stepping.{index, its-data}
use Rattle.format.specs.Frame.{sent_by, body_of}
use Rattle.format.specs.Message.{frame_of, message_body}
use Rattle.format.proofs.Sending.{body-lt, frame-bits, message-lt, message-bits}
use Rattle.recording.proofs.Turn.{message-sent, time-sent}
use Rattle.recording.proofs.word_sent.Goals as goal

pub payload_at-payload-requires : goal.payload_at-payload-requires
payload_at-payload-requires c =
    let p : Plan = c.args.schedule.plan in
    let s : List ℕ = c.args.schedule.messages.now in
    let m : ℕ = c.args.minute.index in
    let messages-ok : legal_messages (messages_in s) ≡ true = messages-legal (schedule_of p s) c.requires.0 in
    let inside : (e : m ≡ c.args.due) → c.args.k < length s / message_size = λ e. index s messages-ok m c.args.k c.args.due c.requires.1 c.args.minute.within e in
    omega (arith, inside c.if-minute-due.true)

pub message_frame-requires : goal.message_frame-requires
message_frame-requires c =
    let p : Plan = c.args.schedule.plan in
    let s : List ℕ = c.args.schedule.messages.now in
    let m : ℕ = c.args.minute.index in
    let messages-ok : legal_messages (messages_in s) ≡ true = messages-legal (schedule_of p s) c.requires.0 in
    let d : (e : m ≡ c.args.due) → ℕ = λ e. (message_at s c.args.k).payload in
    let small : (e : m ≡ c.args.due) → d e < 2 ^ 42 = λ e. its-data s messages-ok m c.args.k c.args.due c.requires.1 c.args.minute.within e in
    (plan-legal (schedule_of p s) c.requires.0, rw c.payload_at-payload.ensures (small c.if-minute-due.true))

pub returns-then-minute-due : goal.returns-then-minute-due
unfolding sent_by
returns-then-minute-due c =
    let p : Plan = c.args.schedule.plan in
    let s : List ℕ = c.args.schedule.messages.now in
    let m : ℕ = c.args.minute.index in
    let notice : (sent_by p m).notice ≤ 1 = notice-legal p (plan-legal (schedule_of p s) c.requires.0) in
    let d : (e : m ≡ c.args.due) → ℕ = λ e. (message_at s c.args.k).payload in
    let x = sent_by p m in
    let e = c.if-minute-due.true in
    let w : c.message_frame.result ≡ number (message_body (bits 42 (d e)) (x.minute % 2) x.notice) =
    (rw c.payload_at-payload.ensures at c.message_frame.ensures) in (
      rw w (message-lt (d e) (x.minute % 2) x.notice (omega arith) (omega (arith, notice))),
      message-bits x (d e) _ (length_at p m) notice w (refl)
          ∙ ap frame_of (sym (message-sent p s c.requires.0 m c.args.k c.args.due c.requires.1 c.args.minute.within e)),
    )

pub time_frame-requires : goal.time_frame-requires
time_frame-requires c =
    let p : Plan = c.args.schedule.plan in
    let s : List ℕ = c.args.schedule.messages.now in
    (plan-legal (schedule_of p s) c.requires.0, c.args.minute.within, c.requires.2)

pub returns-else-minute-due : goal.returns-else-minute-due
unfolding sent_by
returns-else-minute-due c =
    let p : Plan = c.args.schedule.plan in
    let s : List ℕ = c.args.schedule.messages.now in
    let m : ℕ = c.args.minute.index in
    let notice : (sent_by p m).notice ≤ 1 = notice-legal p (plan-legal (schedule_of p s) c.requires.0) in
    let x = sent_by p m in
    let w : c.time_frame.result ≡ number (body_of x) = c.time_frame.ensures in (
      rw w (body-lt x notice),
      frame-bits x _ (length_at p m) notice w (refl)
          ∙ ap frame_of (sym (time-sent p s c.requires.0 m c.args.k c.args.due c.requires.1 c.if-minute-due.false)),
    )
