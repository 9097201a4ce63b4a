-- Messages whose minutes rise, and those of them from a minute on.
-- Assumes nothing.
use Prim.Native.Nat.{ℕ, suc, ◌+◌, ◌≤◌, ◌<◌}
use mathlib.Core.Bool.{true, false, and-false, ◌&&◌}
use mathlib.Core.List.{List, [], ◌∷◌}
use mathlib.Core.Path.{◌≡◌, refl, sym, ap, ◌∙◌}
use native.Mathlib.Decide.{dec_lt}
use native.Mathlib.Omega.{arith}
use lib.Dec.{leb, ltb}
use borrow.Author.Tests.{le-leb, lt-leb, lt-ltb, le-ltb, ltb-true, leb-true}
use Rattle.bits.proofs.Tests.{head-true, tail-true}
use Rattle.calendar.specs.Calendar.{minute_count}
use Rattle.messages.specs.Message.{Message, payload_limit, rising}
use Rattle.messages.specs.Walk.{remaining, next_minute}

-- the first minute that the next message may have
abbrev pub after : Message → ℕ
after c = c.minute + 1

-- the end of the minutes that a message may have
abbrev pub end : ℕ
end = minute_count

-- no messages
pub none-rise : (b : ℕ) → rising b [] ≡ true
unfolding rising
none-rise b = refl

pub none-remain : (t : ℕ) → remaining t [] ≡ []
unfolding remaining
none-remain t = refl

module _ (b : ℕ) (c : Message) (cs : List Message) where
  -- a message too early, one past the range, one with too much data, and one that is legal
  pub early : c.minute < b → rising b (c ∷ cs) ≡ false
  unfolding rising
  early h = rw (lt-leb b c.minute h)

  pub past : end ≤ c.minute → rising b (c ∷ cs) ≡ false
  unfolding rising
  past h = rw (le-ltb c.minute end h, and-false (leb b c.minute))

  pub large : payload_limit ≤ c.payload → rising b (c ∷ cs) ≡ false
  unfolding rising
  large h = rw (le-ltb c.payload payload_limit h, and-false (leb b c.minute && ltb c.minute end))

  pub next : b ≤ c.minute → c.minute < end → c.payload < payload_limit → rising b (c ∷ cs) ≡ rising (after c) cs
  unfolding rising
  next l m d = rw (le-leb b c.minute l, lt-ltb c.minute end m, lt-ltb c.payload payload_limit d)

  module _ (h : rising b (c ∷ cs) ≡ true) where
    parts : (leb b c.minute ≡ true) × (ltb c.minute end ≡ true) × (ltb c.payload payload_limit ≡ true) × (rising (after c) cs ≡ true)
    unfolding rising
    parts =
        let l = leb b c.minute in
        let m = ltb c.minute end in
        let d = ltb c.payload payload_limit in
        let r = rising (after c) cs in
        let lmd = head-true (l && m && d) r h in
        let lm = head-true (l && m) d lmd in
        (head-true l m lm, tail-true l m lm, tail-true (l && m) d lmd, tail-true (l && m && d) r h)

    pub rising-cons : (b ≤ c.minute) × (c.payload < payload_limit) × (rising (after c) cs ≡ true)
    rising-cons = (leb-true b c.minute parts.0, ltb-true c.payload payload_limit parts.2, parts.3)

    pub in-range : c.minute < end
    in-range = ltb-true c.minute end parts.1

    -- from another minute on that is not after it
    pub rising-from : (t : ℕ) → t ≤ c.minute → rising t (c ∷ cs) ≡ true
    unfolding rising
    rising-from t k =
        let e : leb t c.minute ≡ leb b c.minute = le-leb t c.minute k ∙ sym parts.0 in
        rw e h

module _ (t : ℕ) (c : Message) (cs : List Message) where
  pub skip : c.minute < t → remaining t (c ∷ cs) ≡ remaining t cs
  unfolding remaining
  skip h = rw (lt-ltb c.minute t h)

  pub keep : t ≤ c.minute → remaining t (c ∷ cs) ≡ c ∷ cs
  unfolding remaining
  keep h = rw (le-ltb c.minute t h)

-- all remain where none is before the minute
all-remain : (b t : ℕ) (cs : List Message) → rising b cs ≡ true → t ≤ b → remaining t cs ≡ cs
all-remain b t [] h k = none-remain t
all-remain b t (c ∷ cs) h k = keep t c cs (omega (arith, (rising-cons b c cs h).0))

-- those that remain rise from the minute on
pub remaining-rise : (b t : ℕ) (cs : List Message) → rising b cs ≡ true → rising t (remaining t cs) ≡ true
remaining-rise b t [] h = rw (none-remain t) (none-rise t)
remaining-rise b t (c ∷ cs) h = elim (dec_lt c.minute t) [
  | yes k ↦ rw (skip t c cs k) (remaining-rise (after c) t cs (rising-cons b c cs h).2)
  | no k ↦ rw (keep t c cs (omega arith)) (rising-from b c cs h t (omega arith))
]

-- where the next message is another minute's, the same remain
pub same-remain : (b t : ℕ) (cs : List Message) → rising b cs ≡ true → (next_minute (remaining t cs) ≡ t → ⊥) → remaining (suc t) cs ≡ remaining t cs
same-remain b t [] h k = none-remain (suc t) ∙ sym (none-remain t)
same-remain b t (c ∷ cs) h k = elim (dec_lt c.minute t) [
  | yes l ↦ skip (suc t) c cs (omega arith) ∙ same-remain (after c) t cs (rising-cons b c cs h).2 (rw (skip t c cs l) at k) ∙ sym (skip t c cs l)
  | no l ↦
      let e = keep t c cs (omega arith) in
      let n : (c.minute ≡ t → ⊥) = λ q. k (ap next_minute e ∙ (unfold next_minute in q)) in
      keep (suc t) c cs (omega arith) ∙ sym e
]

-- where it is this minute's, those after it
pub rest-remain : (b t : ℕ) (cs ds : List Message) (d : Message) → rising b cs ≡ true → remaining t cs ≡ d ∷ ds → d.minute ≡ t → remaining (suc t) cs ≡ ds
rest-remain b t [] ds d h e m = let z = none-remain t in let y : ◌≡◌ {A = ℕ} 0 1 = cc in absurd (omega arith)
rest-remain b t (c ∷ cs) ds d h e m = elim (dec_lt c.minute t) [
  | yes l ↦ skip (suc t) c cs (omega arith) ∙ rest-remain (after c) t cs ds d (rising-cons b c cs h).2 (sym (skip t c cs l) ∙ e) m
  | no l ↦
      let g : c ∷ cs ≡ d ∷ ds = sym (keep t c cs (omega arith)) ∙ e in
      let gc : c ≡ d = cc in
      let gs : cs ≡ ds = cc in
      let m' : c.minute ≡ t = ap (λ (x : Message). x.minute) gc ∙ m in
      skip (suc t) c cs (omega arith) ∙ all-remain (after c) (suc t) cs (rising-cons b c cs h).2 (omega arith) ∙ gs
]
