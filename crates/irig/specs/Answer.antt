-- The answers as the numbers of the papers (document 01, "Where each language form goes"; document 02, 9, "Feeding recorders that take IRIG B").
-- Assumes nothing.
use Rattle.std.specs.Prelude.{ℕ, List, [], ◌∷◌, Result}
use Rattle.bits.specs.Numbers.{Numbers}
use Rattle.questions.specs.Refusals.{answer_numbers}
use Rattle.questions.specs.declared.Refusal.{Refusal}
use Rattle.irig.specs.declared.Seconds.{Seconds}

-- the numbers of the answer to writing: 0 and the number of elements, or the refusal's alone
abbrev pub write_numbers : Result ℕ Refusal → Numbers
write_numbers r = answer_numbers (λ (n : ℕ). n ∷ []) r

-- the day of the year and the second of the day
abbrev pub second_numbers : Seconds → List ℕ
second_numbers s = s.day ∷ s.second ∷ []

-- the numbers of the answer to reading: 0 with those of the second, or the refusal's alone
abbrev pub read_numbers : Result Seconds Refusal → Numbers
read_numbers r = answer_numbers second_numbers r
