-- Texts put into a buffer one after the other.
-- Assumes nothing.
use Prim.Native.Nat.{ℕ, ◌+◌, ◌-◌, ◌≤◌}
use mathlib.Core.List.{List, ◌++◌}
use mathlib.Core.Path.{◌≡◌, sym, ap, ap₂, ◌∙◌}
use native.Mathlib.Omega.{arith}
use lib.ListN.{length, take, drop, length-append, length-drop}
use Rattle.sequence.proofs.Sums.{part-more}
use Rattle.sequence.proofs.Tails.{tail, tail-back, length_rest}

-- a text of n bytes stands in front, and after it what stood there before
pub record Put (text before after : List ℕ) (n : ℕ) : Type 0 where
  pub size : length text ≡ n
  pub room : n ≤ length before
  pub is : after ≡ text ++ drop n before

pub put_of : (text before after : List ℕ) (k n : ℕ) → length text ≡ k → k ≤ length before → n ≡ k → after ≡ text ++ drop k before → Put text before after n
put_of text before after k n l h e a = record { size = l ∙ sym e; room = rw e h; is = rw e a }

pub put-length : {text before after : List ℕ} {n : ℕ} → Put text before after n → length after ≡ length before
put-length {text} {before} {after} {n} p = ap length p.is ∙ length_rest text before n p.size p.room

-- the rest of the buffer, which is lent on
pub rest-length : {text before after : List ℕ} {n : ℕ} → Put text before after n → length (take (length after - n) (drop n after)) ≡ length before - n
rest-length {text} {before} {after} {n} p = rw (tail after n) (omega (arith, length-drop n after, put-length p))

-- the next text, put into the rest
pub put-more : {r f before after ys : List ℕ} {at n : ℕ} → Put r before after at → Put f (take (length after - at) (drop at after)) ys n
    → Put (r ++ f) before (take at after ++ (ys ++ drop (length after - at) (drop at after))) (at + n)
put-more {r} {f} {before} {after} {ys} {at} {n} p q =
    record {
      size = length-append r f ∙ ap₂ ◌+◌ p.size q.size;
      room = omega (arith, p.room, q.room, rest-length p);
      is = tail-back after at ys ∙ rw (q.is, tail after at) (part-more r f before after at n p.size p.is);
    }
