-- What is shown of an answer. No section of the papers: the form of stored cases is the test programs' own.
-- Assumes nothing.
use Rattle.std.specs.Prelude.{ℕ, List, [], ◌∷◌, ◌++◌, codes, decimal, flat_map, Result, Option, None, Some}
use Rattle.questions.specs.declared.Refusal.{Refusal}
use Rattle.recording.specs.Answer.{write_numbers}

-- numbers, each after a space
abbrev pub spaced : List ℕ → List ℕ
spaced ns = flat_map (λ n. 32 ∷ decimal n) ns

-- bytes as digits, after a space
abbrev pub in_digits : List ℕ → List ℕ
in_digits s = 32 ∷ flat_map decimal s

-- bytes after a bar, where there are any
abbrev pub barred : List ℕ → List ℕ
barred [] = []
barred (b ∷ s) = codes " |" ++ spaced (b ∷ s)

-- what is shown of an answer, where there is one
abbrev pub shown : Option (Result ℕ Refusal) → List ℕ
shown None = []
shown (Some answer) = 32 ∷ decimal (write_numbers answer).refusal

-- how much was written, where there is an answer
abbrev pub given_back : Option (Result ℕ Refusal) → Option ℕ
given_back None = None
given_back (Some answer) = Some (write_numbers answer).bits
