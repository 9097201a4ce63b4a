-- The cases of the answers of printing as numbers (document 01, "Where each language form goes"; document 02, 8).
-- Assumes nothing.
use Rattle.std.specs.Prelude.{ℕ, List, [], ◌∷◌, eqb, length, Result, Ok, Err}
use Rattle.bits.specs.Bits.{pick}
use Rattle.bits.specs.Numbers.{Numbers, found, refused}
use Rattle.questions.specs.declared.Refusal.{Refusal}
use Rattle.questions.specs.Refusals.{refusal_number, answer_numbers}
use Rattle.sequence.specs.Reading.{Found}
use Rattle.page_rules.specs.Printing.{Printed, unprinted}

-- the number of entries that reading found, or its refusal alone
unfoldable pub counted : Found → Numbers
counted r = pick (eqb r.refusal 0) (found (length r.entries ∷ [])) (refused r.refusal)

-- the numbers of each case of the first pass
abbrev pub count_numbers : Result ℕ Refusal → Numbers
count_numbers r = answer_numbers (λ n. n ∷ []) r

-- the numbers of each case of the answer, with the buffer after the call: 0 and the bytes written, or the refusal
abbrev pub print_outcome : Result ℕ Refusal → List ℕ → Printed
print_outcome (Ok n) buffer = record { refusal = 0; bytes = n; buffer = buffer }
print_outcome (Err r) buffer = unprinted buffer (refusal_number r)
