-- A refusal's number is not 0.
-- Assumes nothing.
use Rattle.std.proofs.Common.{◌≡◌, false, eqb, refl}
use Rattle.questions.specs.Refusals.{refusal_number}
use Rattle.questions.specs.declared.Refusal.{Refusal}
use Rattle.questions.specs.declared.Refusal.TheVariants.{IllegalPlan, BadCount, MinuteTooLarge, NoBitSpace, NoEntrySpace, TooShort, NotBits, BadSync, BadState, BadNextChange, BadMinute, BadLength, OutOfOrder, NotADate, BadSetting, BadSymbols, BadValue, FirstMessage, UnknownLength, BadSecond}

pub not_zero : (r : Refusal) → eqb (refusal_number r) 0 ≡ false
not_zero IllegalPlan = refl
not_zero BadCount = refl
not_zero MinuteTooLarge = refl
not_zero NoBitSpace = refl
not_zero NoEntrySpace = refl
not_zero TooShort = refl
not_zero NotBits = refl
not_zero BadSync = refl
not_zero BadState = refl
not_zero BadNextChange = refl
not_zero BadMinute = refl
not_zero BadLength = refl
not_zero OutOfOrder = refl
not_zero NotADate = refl
not_zero BadSetting = refl
not_zero BadSymbols = refl
not_zero BadValue = refl
not_zero FirstMessage = refl
not_zero UnknownLength = refl
not_zero BadSecond = refl
