use Prim.Native.Nat.{ℕ, suc, ◌/◌, ◌≤◌, ◌<◌}
use mathlib.Core.List.{List, ◌∷◌}
use mathlib.Core.Path.{◌≡◌, sym, ap, ◌∙◌}
use native.Mathlib.Numerals.{add-one}
use native.Mathlib.Omega.{arith}
use lib.ListN.{length}
use Rattle.messages.specs.Bytes.{message_size, message_at}
use Rattle.messages.specs.Walk.{remaining, all_from}
use Rattle.messages.proofs.Laws.{all_are, none_from, some-from}
use Rattle.messages.proofs.Minutes.{none-remain, skip, keep}
use Rattle.messages.proofs.first_from.Goals as goal
use Rattle.messages.proofs.first_from.Goals.{In-loop-k}

module _ (c : In-loop-k) where
  abbrev s : List ℕ
  s = c.args.bytes.now

  abbrev t : ℕ
  t = c.args.minute

  some : all_from s c.loop-k.k ≡ message_at s c.loop-k.k ∷ all_from s (suc c.loop-k.k)
  some = some-from s c.loop-k.k (omega arith)

pub loop-k-init : goal.loop-k-init
loop-k-init c =
    let z = c.args in
    ap (remaining z.minute) (sym (all_are z.bytes.now c.requires))

pub returns-then-minute-minute_at : goal.returns-then-minute-minute_at
returns-then-minute-minute_at c =
    let d = (goal.at.returns-then-minute-minute_at c).In-loop-k in
    let h : t d ≤ (message_at (s d) c.loop-k.k).minute = omega (arith, c.minute_at.ensures) in
    let e = keep (t d) (message_at (s d) c.loop-k.k) (all_from (s d) (suc c.loop-k.k)) h in
    (omega arith, some d ∙ sym e ∙ ap (remaining (t d)) (sym (some d)) ∙ c.loop-k.invariant)

pub loop-k-preserved : goal.loop-k-preserved
loop-k-preserved c =
    let d = (goal.at.loop-k-preserved c).In-loop-k in
    let h : (message_at (s d) c.loop-k.k).minute < t d = omega (arith, c.minute_at.ensures) in
    let e = skip (t d) (message_at (s d) c.loop-k.k) (all_from (s d) (suc c.loop-k.k)) h in
    rw (add-one c.loop-k.k) (sym e ∙ ap (remaining (t d)) (sym (some d)) ∙ c.loop-k.invariant)

pub returns : goal.returns
returns c =
    let z = c.args in
    let e = none_from z.bytes.now (length z.bytes.now / message_size) (omega arith) in
    let f = none_from z.bytes.now c.loop-k.k (omega arith) in
    (omega arith, e ∙ sym (none-remain z.minute) ∙ ap (remaining z.minute) (sym f) ∙ c.loop-k.invariant)
