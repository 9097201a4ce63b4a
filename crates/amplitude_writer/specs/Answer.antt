-- The answer as the numbers of the papers (document 01, "Where each language form goes"; document 02, 5, "The amplitude code as well").
-- Assumes nothing.
use Rattle.std.specs.Prelude.{ℕ, [], ◌∷◌, Result}
use Rattle.bits.specs.Numbers.{Numbers}
use Rattle.questions.specs.Refusals.{answer_numbers}
use Rattle.questions.specs.declared.Refusal.{Refusal}

-- the numbers of the answer to writing: 0 and the number of symbols, or the refusal's alone
abbrev pub write_numbers : Result ℕ Refusal → Numbers
write_numbers r = answer_numbers (λ (n : ℕ). n ∷ []) r
