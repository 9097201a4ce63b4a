-- An answer as the numbers of document 01 ("Questions in order"): 0 with values, or the number of the question that was answered no, alone.
-- Assumes nothing.
use Rattle.std.specs.Prelude.{ℕ, List, []}

-- a number, and the values that go with it
pub record Numbers : Type 0 where
  pub number : ℕ
  pub values : List ℕ

-- 0 with values, and a refusal alone
abbrev pub found : List ℕ → Numbers
found values = record { number = 0; values = values }

abbrev pub refused : ℕ → Numbers
refused n = record { number = n; values = [] }
