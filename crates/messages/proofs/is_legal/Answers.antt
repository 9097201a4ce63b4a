use Prim.Native.Nat.{ℕ, suc, ◌≤◌, ◌<◌}
use mathlib.Core.List.{List, ◌∷◌}
use mathlib.Core.Path.{◌≡◌, sym, ap, ◌∙◌}
use Rattle.std.proofs.Common.{rules, tests}
use native.Mathlib.Omega.{arith}
use native.Mathlib.Numerals.{add-one}
use Rattle.messages.specs.Message.{Message, payload_limit, rising, legal_messages}
use Rattle.messages.specs.Bytes.{message_at, messages_in}
use Rattle.messages.specs.Walk.{all_from}
use Rattle.messages.proofs.Laws.{none_from, some-from, no_bytes, not-whole, all_are, many, few}
use Rattle.messages.proofs.Minutes.{end, none-rise, early, past, large, next}
use Rattle.messages.proofs.is_legal.Goals as goal
use Rattle.messages.proofs.is_legal.Goals.{In-loop-k, then-minute-from-via-then-minute-from, then-minute-from-via-else-minute-from+then-minute-ge-MINUTES, then-minute-from-via-else-minute-from+else-minute-ge-MINUTES+then-payload_at-ge-DATA_END}

module _ (c : In-loop-k) where
  abbrev s : List ℕ
  s = c.args.bytes.now

  abbrev m : Message
  m = message_at s c.loop-k.k

  abbrev rest : List Message
  rest = all_from s (suc c.loop-k.k)

  is : rising c.loop-k.from (m ∷ rest) ≡ legal_messages (messages_in s)
  is = ap (rising c.loop-k.from) (sym (some-from s c.loop-k.k (omega arith))) ∙ c.loop-k.invariant

pub returns-then-is_empty : goal.returns-then-is_empty
returns-then-is_empty c = sym (no_bytes c.args.bytes.now (search (rules, tests)))

pub returns-then-bytes-ne0 : goal.returns-then-bytes-ne0
returns-then-bytes-ne0 c = sym (not-whole c.args.bytes.now (λ e. c.if-bytes-ne0.true (omega arith)))

pub returns-then-count-gt-LIMIT : goal.returns-then-count-gt-LIMIT
returns-then-count-gt-LIMIT c = sym (many c.args.bytes.now c.if-bytes-ne0.false (omega arith))

pub loop-k-init : goal.loop-k-init
loop-k-init c =
    let z = c.args.bytes.now in
    let w = c.if-bytes-ne0.false in
    ap (rising 0) (sym (all_are z w)) ∙ sym (few z w (omega arith))

pub returns-then-minute-from : goal.returns-then-minute-from
returns-then-minute-from c =
    let d = (goal.at.returns-then-minute-from c).In-loop-k in
    let x = c.minute_at-minute.ensures in
    elim c.then-minute-from.branch [
      | then-minute-from-via-then-minute-from w ↦ sym (early c.loop-k.from (m d) (rest d) (omega (arith, x))) ∙ is d
      | then-minute-from-via-else-minute-from+then-minute-ge-MINUTES w ↦ sym (past c.loop-k.from (m d) (rest d) (omega (arith, x))) ∙ is d
      | then-minute-from-via-else-minute-from+else-minute-ge-MINUTES+then-payload_at-ge-DATA_END w ↦
          sym (large c.loop-k.from (m d) (rest d) (omega (arith, w.payload_at.ensures))) ∙ is d
    ]

pub loop-k-preserved : goal.loop-k-preserved
loop-k-preserved c =
    let d = (goal.at.loop-k-preserved c).In-loop-k in
    let x = c.minute_at-minute.ensures in
    let low : c.loop-k.from ≤ (m d).minute = omega arith in
    let high : (m d).minute < end = omega arith in
    let small : (m d).payload < payload_limit = omega (arith, c.payload_at.ensures) in
    rw (x, add-one c.loop-k.k) (sym (next c.loop-k.from (m d) (rest d) low high small) ∙ is d)

pub returns : goal.returns
returns c =
    let e = none_from c.args.bytes.now c.loop-k.k (omega arith) in
    sym (none-rise c.loop-k.from) ∙ ap (rising c.loop-k.from) (sym e) ∙ c.loop-k.invariant
