-- The refusals as numbers (document 01, "Questions in order"; document 02, 1, 5, 7 and 9), and the answer of a call that may refuse.
-- Assumes nothing.
use Rattle.std.specs.Prelude.{ℕ, List, Result, Ok, Err}
use Rattle.bits.specs.Numbers.{Numbers, found, refused}
use Rattle.questions.specs.declared.Refusal.{Refusal}
use Rattle.questions.specs.declared.Refusal.TheVariants.{IllegalPlan, BadCount, MinuteTooLarge, NoBitSpace, NoEntrySpace, TooShort, NotBits, BadSync, BadState, BadNextChange, BadMinute, BadLength, OutOfOrder, NotADate, BadSetting, BadSymbols, BadValue, FirstMessage, UnknownLength, BadSecond}

-- the number of the question that was answered no; 12 is no longer given (document 02, 2)
abbrev pub refusal_number : Refusal → ℕ
refusal_number IllegalPlan = 1
refusal_number BadCount = 2
refusal_number MinuteTooLarge = 3
refusal_number NoBitSpace = 4
refusal_number NoEntrySpace = 5
refusal_number TooShort = 6
refusal_number NotBits = 7
refusal_number BadSync = 8
refusal_number BadState = 9
refusal_number BadNextChange = 10
refusal_number BadMinute = 11
refusal_number BadLength = 13
refusal_number OutOfOrder = 14
refusal_number NotADate = 15
refusal_number BadSetting = 16
refusal_number BadSymbols = 17
refusal_number BadValue = 18
refusal_number FirstMessage = 19
refusal_number UnknownLength = 20
refusal_number BadSecond = 21

-- the numbers of a call's answer: 0 with the values of what it gives, or the refusal's number alone
abbrev pub answer_numbers : {A : Type 0} → (A → List ℕ) → Result A Refusal → Numbers
answer_numbers values (Ok a) = found (values a)
answer_numbers values (Err r) = refused (refusal_number r)
