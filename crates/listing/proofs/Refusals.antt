-- The numbers of the refusals: none is 0, and one of them is 4.
-- Assumes nothing.
use Prim.Native.Nat.{◌≤◌}
use mathlib.Core.Bool.{true, false}
use mathlib.Core.Path.{◌≡◌, refl}
use native.Mathlib.Omega.{arith}
use Rattle.questions.specs.declared.Refusal.{Refusal}
use Rattle.questions.specs.declared.Refusal.TheVariants.{IllegalPlan, BadCount, MinuteTooLarge, NoBitSpace, NoEntrySpace, TooShort, NotBits, BadSync, BadState, BadNextChange, BadMinute, BadLength, OutOfOrder, NotADate, BadSetting, BadSymbols, BadValue, FirstMessage, UnknownLength, BadSecond}
use Rattle.questions.specs.contracts.Refusal.{the_type}
use denote.Enum.Bare.{sameb}
use Rattle.questions.specs.Refusals.{refusal_number}

pub refusal_some : (r : Refusal) → 1 ≤ refusal_number r
refusal_some IllegalPlan = omega arith
refusal_some BadCount = omega arith
refusal_some MinuteTooLarge = omega arith
refusal_some NoBitSpace = omega arith
refusal_some NoEntrySpace = omega arith
refusal_some TooShort = omega arith
refusal_some NotBits = omega arith
refusal_some BadSync = omega arith
refusal_some BadState = omega arith
refusal_some BadNextChange = omega arith
refusal_some BadMinute = omega arith
refusal_some BadLength = omega arith
refusal_some OutOfOrder = omega arith
refusal_some NotADate = omega arith
refusal_some BadSetting = omega arith
refusal_some BadSymbols = omega arith
refusal_some BadValue = omega arith
refusal_some FirstMessage = omega arith
refusal_some UnknownLength = omega arith
refusal_some BadSecond = omega arith

-- the refusal that an equality with it tells
pub is-space : (r : Refusal) → sameb the_type r NoBitSpace ≡ true → refusal_number r ≡ 4
is-space IllegalPlan e = cc
is-space BadCount e = cc
is-space MinuteTooLarge e = cc
is-space NoBitSpace e = refl
is-space NoEntrySpace e = cc
is-space TooShort e = cc
is-space NotBits e = cc
is-space BadSync e = cc
is-space BadState e = cc
is-space BadNextChange e = cc
is-space BadMinute e = cc
is-space BadLength e = cc
is-space OutOfOrder e = cc
is-space NotADate e = cc
is-space BadSetting e = cc
is-space BadSymbols e = cc
is-space BadValue e = cc
is-space FirstMessage e = cc
is-space UnknownLength e = cc
is-space BadSecond e = cc

pub not-space : (r : Refusal) → sameb the_type r NoBitSpace ≡ false → refusal_number r ≡ 4 → ⊥
not-space IllegalPlan e k = omega arith
not-space BadCount e k = omega arith
not-space MinuteTooLarge e k = omega arith
not-space NoBitSpace e k = cc
not-space NoEntrySpace e k = omega arith
not-space TooShort e k = omega arith
not-space NotBits e k = omega arith
not-space BadSync e k = omega arith
not-space BadState e k = omega arith
not-space BadNextChange e k = omega arith
not-space BadMinute e k = omega arith
not-space BadLength e k = omega arith
not-space OutOfOrder e k = omega arith
not-space NotADate e k = omega arith
not-space BadSetting e k = omega arith
not-space BadSymbols e k = omega arith
not-space BadValue e k = omega arith
not-space FirstMessage e k = omega arith
not-space UnknownLength e k = omega arith
not-space BadSecond e k = omega arith
