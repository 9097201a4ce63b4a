-- Numbers right-aligned in columns: their lengths, their characters, and that each says its number.
-- Assumes nothing.
use Prim.Native.Nat.{ℕ, zero, suc, ◌+◌, ◌-◌, ◌/◌, ◌%◌, ◌^◌, ◌≤◌, ◌<◌}
use mathlib.Core.Bool.{Bool, true}
use mathlib.Core.List.{List, [], ◌∷◌, ◌++◌}
use mathlib.Core.Path.{◌≡◌, refl, sym, ap, ◌∙◌}
use native.Mathlib.Omega.{arith}
use lib.Dec.{leb}
use lib.ListN.{length, replicate, length-append, length-replicate}
use borrow.Author.Tests.{le-leb}
use Rattle.bits.specs.Bits.{all}
use Rattle.bits.proofs.Tests.{and-true}
use Rattle.decimal.specs.Decimal.{width, digits, decimal, value_from, value}
use Rattle.decimal.proofs.Laws.{width_small, width-le, length-decimal}
use Rattle.decimal.proofs.RoundTrip.{all_append, text-says-number}
use Rattle.page_rules.specs.Page.{blanks, aligned}

-- in columns enough it is as long as they are
pub aligned-length : (c n : ℕ) → n < 10 ^ suc c → length (aligned (suc c) n) ≡ suc c
unfolding aligned blanks
aligned-length c n h = let w = width-le c n h in simp (length-append, length-replicate, length-decimal) (omega arith)

-- one digit stands after blanks
pub aligned-small : (c n : ℕ) → n < 10 → aligned (suc c) n ≡ blanks c ++ ((48 + n % 10) ∷ [])
unfolding aligned decimal digits
aligned-small c n h = let e : suc c - 1 ≡ c = omega arith in rw (width_small n h, e)

-- ---- the number that it says: a blank counts as the digit 0

value-blanks : (k : ℕ) (w : List ℕ) → value_from 0 (blanks k ++ w) ≡ value_from 0 w
unfolding blanks value_from
value-blanks zero w = refl
value-blanks (suc k) w = value-blanks k w

value-aligned : (c n : ℕ) → value (aligned c n) ≡ n
unfolding aligned value
value-aligned c n = value-blanks (c - width n) (decimal n) ∙ text-says-number n

-- the same text in as many columns is that of the same number
pub aligned-apart : (c m n : ℕ) → aligned c m ≡ aligned c n → m ≡ n
aligned-apart c m n e = sym (value-aligned c m) ∙ ap value e ∙ value-aligned c n

-- ---- visible characters and blanks

-- no line feed
unfoldable pub is_visible : ℕ → Bool
is_visible b = leb 32 b

pub visible-many : (k b : ℕ) → 32 ≤ b → all is_visible (replicate k b) ≡ true
unfolding is_visible
visible-many zero b h = refl
visible-many (suc k) b h = and-true (le-leb 32 b h) (visible-many k b h)

pub visible-one : (b : ℕ) → 32 ≤ b → all is_visible (b ∷ []) ≡ true
visible-one b h = visible-many 1 b h

pub visible-digits : (k n : ℕ) → all is_visible (digits k n) ≡ true
unfolding digits
visible-digits zero n = refl
visible-digits (suc k) n =
    all_append is_visible (digits k (n / 10)) ((48 + n % 10) ∷ []) (visible-digits k (n / 10)) (visible-one (48 + n % 10) (omega arith))

pub visible-aligned : (c n : ℕ) → all is_visible (aligned c n) ≡ true
unfolding aligned blanks decimal
visible-aligned c n =
    all_append is_visible (replicate (c - width n) 32) (digits (width n) n) (visible-many (c - width n) 32 (omega arith)) (visible-digits (width n) n)
