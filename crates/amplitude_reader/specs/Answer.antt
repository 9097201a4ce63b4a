-- The answer as the numbers of the papers (document 01, "Where each language form goes"; document 02, 5, "The amplitude code as well").
-- Assumes nothing.
use Rattle.std.specs.Prelude.{ℕ, List, [], ◌∷◌, Result, Ok, Err}
use Rattle.questions.specs.Questions.{Question, asked}
use Rattle.questions.specs.Refusals.{refusal_number}
use Rattle.questions.specs.declared.Refusal.{Refusal}
use Rattle.amplitude_rules.specs.declared.Values.{Values}
use Rattle.amplitude_rules.specs.Reading.{Answer, accepted, refused, fields_from, values_of, numbers_fit}

-- the answer to reading: the values, or the refusal's number alone
abbrev pub answer_of : Result Values Refusal → Answer
answer_of (Ok r) = accepted r
answer_of (Err e) = refused (refusal_number e)

-- a step of the code: question 18 alone, of n symbols that have the layout and the numbers v in it
unfoldable pub numbers_questions : List ℕ → ℕ → List Question
numbers_questions v n = (18, numbers_fit v n) ∷ []

unfoldable pub numbers_reading : List ℕ → ℕ → Answer
numbers_reading v n = asked refused (numbers_questions v n) (accepted (values_of (fields_from v) n))
