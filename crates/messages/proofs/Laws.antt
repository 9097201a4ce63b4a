-- Laws of messages as bytes: one message after the other, and question 1 by the number of bytes.
-- Assumes nothing.
use Prim.Native.Nat.{ℕ, zero, suc, ◌+◌, ◌-◌, ◌/◌, ◌%◌, ◌≤◌, ◌<◌}
use mathlib.Core.Bool.{Bool, true, false}
use mathlib.Core.List.{List, [], ◌∷◌}
use mathlib.Core.Path.{◌≡◌, refl, ◌∙◌, ap, sym}
use native.Mathlib.Nat.{sub-zero}
use native.Mathlib.Decide.{dec_lt, dec_le}
use native.Mathlib.Omega.{arith}
use lib.ListN.{length}
use borrow.Author.Tests.{le-leb, lt-leb, eq-eqb, ne_eqb}
use Rattle.messages.specs.Message.{message_limit, rising, legal_messages}
use Rattle.messages.specs.Bytes.{message_size, message_at, messages_from, message_count, messages_in}
use Rattle.messages.specs.Walk.{all_from}

-- ---- one message after the other

pub length_from : (s : List ℕ) (k n : ℕ) → length (messages_from s k n) ≡ n
unfolding messages_from
length_from s k zero = refl
length_from s k (suc n) = ap suc (length_from s (suc k) n)

module _ (s : List ℕ) (k : ℕ) where
  pub none_from : length s / message_size ≤ k → all_from s k ≡ []
  unfolding messages_from
  none_from h =
      let e : length s / message_size - k ≡ 0 = omega arith in
      rw e

  pub some-from : k < length s / message_size → all_from s k ≡ message_at s k ∷ all_from s (suc k)
  unfolding messages_from
  some-from h =
      let e : length s / message_size - k ≡ suc (length s / message_size - suc k) = omega arith in
      rw e

-- ---- question 1, by the number of bytes

pub no_bytes : (s : List ℕ) → length s ≡ 0 → legal_messages (messages_in s) ≡ true
unfolding legal_messages messages_in message_count messages_from rising
no_bytes s h = rw h

module _ (s : List ℕ) where
  pub not-whole : (length s % message_size ≡ 0 → ⊥) → legal_messages (messages_in s) ≡ false
  unfolding legal_messages messages_in message_count
  not-whole h = rw (ne_eqb (length s % message_size) 0 h, length_from s 0 (message_limit + 1))

  module _ (whole : length s % message_size ≡ 0) where
    pub all_are : messages_in s ≡ all_from s 0
    unfolding messages_in message_count
    all_are = rw (eq-eqb (length s % message_size) 0 whole, sub-zero (length s / message_size))

    pub count-is : length (messages_in s) ≡ length s / message_size
    count-is = ap length all_are ∙ length_from s 0 (length s / message_size - 0) ∙ sub-zero (length s / message_size)

    pub many : message_limit < length s / message_size → legal_messages (messages_in s) ≡ false
    unfolding legal_messages
    many h = rw (count-is, lt-leb (length s / message_size) message_limit h)

    pub few : length s / message_size ≤ message_limit → legal_messages (messages_in s) ≡ rising 0 (messages_in s)
    unfolding legal_messages
    few h = rw (count-is, le-leb (length s / message_size) message_limit h)

  -- the bytes of legal messages are whole messages and few, and the minutes rise
  pub legal-parts : legal_messages (messages_in s) ≡ true → (length s % message_size ≡ 0) × (length s / message_size ≤ message_limit) × (rising 0 (messages_in s) ≡ true)
  legal-parts h = elim (dec_lt 0 (length s % message_size)) [
    | yes p ↦ let z : ◌≡◌ {A = Bool} true false = sym h ∙ not-whole (λ e. omega arith) in let y : ◌≡◌ {A = ℕ} 0 1 = cc in absurd (omega arith)
    | no p ↦ let x : length s % message_size ≡ 0 = omega arith in elim (dec_le (length s / message_size) message_limit) [
      | no y ↦ let z : ◌≡◌ {A = Bool} true false = sym h ∙ many x (omega arith) in let w : ◌≡◌ {A = ℕ} 0 1 = cc in absurd (omega arith)
      | yes y ↦ (x, y, sym (few x y) ∙ h)
    ]
  ]
