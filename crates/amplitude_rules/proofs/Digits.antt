-- The digits of fields: within their bits, and back.
-- Assumes nothing.
use Prim.Native.Nat.{ℕ, ◌+◌, ◌*◌, ◌/◌, ◌%◌, ◌≤◌, ◌<◌}
use mathlib.Core.List.{List, [], ◌∷◌}
use mathlib.Core.Path.{◌≡◌, refl, ap₂}
use native.Mathlib.Omega.{arith}
use Rattle.symbols.specs.Symbols.{Within}
use Rattle.amplitude_rules.specs.declared.Fields.{Fields}
use Rattle.amplitude_rules.specs.Amplitude.{table1, digits}
use Rattle.amplitude_rules.specs.Reading.{fields_from}

-- two lists, element by element
pub next : {a b : ℕ} {s t : List ℕ} → a ≡ b → s ≡ t → a ∷ s ≡ b ∷ t
next p q = ap₂ (λ (x : ℕ) (l : List ℕ). x ∷ l) p q

-- numbers that the layout holds
pub record Small (x : Fields) : Type 0 where
  pub minute : x.minute < 60
  pub hour : x.hour < 24
  pub day : x.day < 400
  pub sign : x.sign < 8
  pub tenths : x.tenths ≤ 9
  pub year : x.year < 100
  pub leap : x.leap < 2
  pub warning : x.warning < 2
  pub daylight : x.daylight < 4

pub digits-within : (x : Fields) → Small x → Within table1 (digits x)
unfolding table1 digits
digits-within x h = (
  omega arith,
  (
    omega arith,
    (
      omega arith,
      (
        omega arith,
        (
          omega arith,
          (
            omega arith,
            (
              omega arith,
              (omega arith, (omega arith, (omega arith, (omega arith, (omega arith, (omega arith, (omega arith, refl))))))),
            ),
          ),
        ),
      ),
    ),
  ),
)

tens : (n : ℕ) → n / 10 * 10 + n % 10 ≡ n
tens n = omega arith

hundreds : (n : ℕ) → n / 100 * 100 + n / 10 % 10 * 10 + n % 10 ≡ n
hundreds n = omega arith

pub fields-digits : (x : Fields) → fields_from (digits x) ≡ x
unfolding digits fields_from
fields-digits x = rw (tens x.minute, tens x.hour, hundreds x.day, tens x.year)

module _ (a b : ℕ) (h : b ≤ 9) where
  two-tens : (a * 10 + b) / 10 ≡ a
  two-tens = omega arith

  two-units : (a * 10 + b) % 10 ≡ b
  two-units = omega arith

module _ (a b c : ℕ) (h : b ≤ 9) (k : c ≤ 9) where
  three-hundreds : (a * 100 + b * 10 + c) / 100 ≡ a
  three-hundreds = omega arith

  three-tens : (a * 100 + b * 10 + c) / 10 % 10 ≡ b
  three-tens = let e : (a * 100 + b * 10 + c) / 10 ≡ a * 10 + b = omega arith in rw e (two-units a b h)

  three-units : (a * 100 + b * 10 + c) % 10 ≡ c
  three-units = omega arith

pub digits-fields : (a b c d e f g s t y z l w k : ℕ) → b ≤ 9 → d ≤ 9 → f ≤ 9 → g ≤ 9 → z ≤ 9
    → let v : List ℕ = a ∷ b ∷ c ∷ d ∷ e ∷ f ∷ g ∷ s ∷ t ∷ y ∷ z ∷ l ∷ w ∷ k ∷ [] in digits (fields_from v) ≡ v
unfolding digits fields_from
digits-fields a b c d e f g s t y z l w k hb hd hf hg hz =
    rw (
      two-tens a b hb,
      two-units a b hb,
      two-tens c d hd,
      two-units c d hd,
      three-hundreds e f g hf hg,
      three-tens e f g hf hg,
      three-units e f g hf hg,
      two-tens y z hz,
      two-units y z hz,
    )
