-- Messages are legal exactly if they are few, each in its ranges, and their minutes rise.
-- Assumes nothing.
use Prim.Native.Nat.{ℕ, zero, suc, ◌≤◌, ◌<◌}
use mathlib.Core.Bool.{true}
use mathlib.Core.List.{List, [], ◌∷◌}
use mathlib.Core.Path.{◌≡◌, ◌∙◌}
use native.Mathlib.Omega.{arith}
use lib.Dec.{leb}
use lib.ListN.{length}
use borrow.Author.Tests.{le-leb, leb-true}
use Rattle.bits.proofs.Tests.{and-true, head-true, tail-true}
use Rattle.messages.specs.Message.{Message, message_limit, payload_limit, rising, legal_messages}
use Rattle.messages.specs.Theorems.{nth, MessagesLegal}
use Rattle.messages.proofs.Minutes.{after, end, none-rise, rising-cons, in-range, next}

abbrev EachLegal : List Message → Type 0
EachLegal cs = (k : ℕ) → k < length cs → ((nth cs k).minute < end) × ((nth cs k).payload < payload_limit)

abbrev InOrder : List Message → Type 0
InOrder cs = (j k : ℕ) → j < k → k < length cs → (nth cs j).minute < (nth cs k).minute

each-legal : (b : ℕ) (cs : List Message) → rising b cs ≡ true → EachLegal cs
each-legal b [] h k l = absurd (omega arith)
each-legal b (c ∷ cs) h zero l = (in-range b c cs h, (rising-cons b c cs h).1)
each-legal b (c ∷ cs) h (suc k) l = each-legal (after c) cs (rising-cons b c cs h).2 k (omega arith)

from_on : (b : ℕ) (cs : List Message) → rising b cs ≡ true → (k : ℕ) → k < length cs → b ≤ (nth cs k).minute
from_on b [] h k l = absurd (omega arith)
from_on b (c ∷ cs) h zero l = (rising-cons b c cs h).0
from_on b (c ∷ cs) h (suc k) l =
    let r = rising-cons b c cs h in
    omega (arith, r.0, from_on (after c) cs r.2 k (omega arith))

in_order : (b : ℕ) (cs : List Message) → rising b cs ≡ true → InOrder cs
in_order b [] h j k o l = absurd (omega arith)
in_order b (c ∷ cs) h zero zero o l = absurd (omega arith)
in_order b (c ∷ cs) h zero (suc k) o l = omega (arith, from_on (after c) cs (rising-cons b c cs h).2 k (omega arith))
in_order b (c ∷ cs) h (suc j) zero o l = absurd (omega arith)
in_order b (c ∷ cs) h (suc j) (suc k) o l = in_order (after c) cs (rising-cons b c cs h).2 j k (omega arith) (omega arith)

rise : (b : ℕ) (cs : List Message) → (0 < length cs → b ≤ (nth cs 0).minute) → EachLegal cs → InOrder cs → rising b cs ≡ true
rise b [] f e o = none-rise b
rise b (c ∷ cs) f e o =
    let x = e 0 (omega arith) in
    next b c cs (f (omega arith)) x.0 x.1
    ∙ rise (after c) cs (λ l. omega (arith, o 0 1 (omega arith) (omega arith))) (λ k l. e (suc k) (omega arith)) (λ j k i l. o (suc j) (suc k) (omega arith) (omega arith))

pub messages-legal : MessagesLegal
unfolding legal_messages
messages-legal cs = (
  λ h. (let few = leb (length cs) message_limit in
      let r = tail-true few (rising 0 cs) h in
      (leb-true (length cs) message_limit (head-true few (rising 0 cs) h), each-legal 0 cs r, in_order 0 cs r)),
  λ h. and-true (le-leb (length cs) message_limit h.0) (rise 0 cs (λ l. omega arith) h.1 h.2),
)
