-- What is sent in a minute, by the messages from that minute on.
-- Assumes nothing.
use Prim.Native.Nat.{ℕ, zero, suc, ◌+◌, ◌≤◌, ◌<◌}
use mathlib.Core.Bool.{true}
use mathlib.Core.List.{List, [], ◌∷◌}
use mathlib.Core.Path.{◌≡◌, refl, ◌∙◌}
use native.Mathlib.Decide.{dec_lt}
use native.Mathlib.Omega.{arith}
use borrow.Author.Tests.{eq-eqb, ne_eqb}
use lib.Dec.{leb}
use lib.ListN.{length}
use Rattle.bits.proofs.Tests.{tail-true}
use Rattle.messages.specs.Message.{Message, message_limit, rising, legal_messages}
use Rattle.messages.specs.Theorems.{nth}
use Rattle.messages.specs.Walk.{remaining, next_minute}
use Rattle.messages.proofs.Minutes.{rising-cons, skip, keep}
use Rattle.format.specs.Frame.{Sent, sent_by}
use Rattle.format.specs.Message.{time, message, content_of, content_at}
use Rattle.format.specs.MessageBits.{MessagesSent}

module _ (s : Sent) where
  module _ (c : Message) (cs : List Message) where
    pub here : c.minute ≡ s.minute → content_of (c ∷ cs) s ≡ message s c.payload
    unfolding content_of
    here e = rw (eq-eqb c.minute s.minute e)

    later : (c.minute ≡ s.minute → ⊥) → content_of (c ∷ cs) s ≡ content_of cs s
    unfolding content_of
    later h = rw (ne_eqb c.minute s.minute h)

  -- messages of earlier minutes say nothing of this one
  pub by-remaining : (cs : List Message) → content_of cs s ≡ content_of (remaining s.minute cs) s
  by-remaining [] = unfold remaining in refl
  by-remaining (c ∷ cs) = elim (dec_lt c.minute s.minute) [
    | yes h ↦ later c cs (λ e. omega arith) ∙ by-remaining cs ∙ rw (skip s.minute c cs h)
    | no h ↦ rw (keep s.minute c cs (omega arith))
  ]

  -- nor do those of later ones
  before-all : (b : ℕ) (cs : List Message) → rising b cs ≡ true → s.minute < b → content_of cs s ≡ time s
  before-all b [] h l = unfold content_of in refl
  before-all b (c ∷ cs) h l =
      let r = rising-cons b c cs h in
      later c cs (λ e. omega (arith, r.0)) ∙ before-all (c.minute + 1) cs r.2 (omega (arith, r.0))

  pub none_here : (cs : List Message) → rising s.minute cs ≡ true → (next_minute cs ≡ s.minute → ⊥) → content_of cs s ≡ time s
  unfolding next_minute
  none_here [] h n = unfold content_of in refl
  none_here (c ∷ cs) h n =
      let r = rising-cons s.minute c cs h in
      later c cs n ∙ before-all (c.minute + 1) cs r.2 (omega (arith, r.0))

-- ---- what is sent in a minute, by each message

at_least : (b : ℕ) (cs : List Message) → rising b cs ≡ true → (k : ℕ) → k < length cs → b ≤ (nth cs k).minute
at_least b [] h k l = absurd (omega arith)
at_least b (c ∷ cs) h zero l = (rising-cons b c cs h).0
at_least b (c ∷ cs) h (suc k) l =
    let r = rising-cons b c cs h in
    omega (arith, r.0, at_least (c.minute + 1) cs r.2 k (omega arith))

by-message : (b : ℕ) (cs : List Message) → rising b cs ≡ true → (s : Sent) (k : ℕ) → k < length cs → (nth cs k).minute ≡ s.minute
    → content_of cs s ≡ message s (nth cs k).payload
by-message b [] h s k l e = absurd (omega arith)
by-message b (c ∷ cs) h s zero l e = here s c cs e
by-message b (c ∷ cs) h s (suc k) l e =
    let r = rising-cons b c cs h in
    later s c cs (λ q. omega (arith, at_least (c.minute + 1) cs r.2 k (omega arith)))
    ∙ by-message (c.minute + 1) cs r.2 s k (omega arith) e

by-none : (cs : List Message) (s : Sent) → ((k : ℕ) → k < length cs → (nth cs k).minute ≡ s.minute → ⊥) → content_of cs s ≡ time s
by-none [] s n = unfold content_of in refl
by-none (c ∷ cs) s n = later s c cs (n 0 (omega arith)) ∙ by-none cs s (λ k l. n (suc k) (omega arith))

all-rise : (cs : List Message) → legal_messages cs ≡ true → rising 0 cs ≡ true
unfolding legal_messages
all-rise cs h = tail-true (leb (length cs) message_limit) (rising 0 cs) h

pub messages-sent : MessagesSent
unfolding content_at sent_by
messages-sent =
    record {
      in-minute = λ p m h.
          record {
            of-message = λ k l e. by-message 0 p.messages (all-rise p.messages h) (sent_by p.plan m) k l e;
            of-time = λ n. by-none p.messages (sent_by p.plan m) n;
          };
      without = λ p m. unfold content_of in refl;
    }
