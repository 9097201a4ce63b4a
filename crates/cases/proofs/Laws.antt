-- Signed numbers.
-- Assumes nothing.
use Rattle.std.proofs.Common.{◌==◌, ◌≡◌, ℕ, ◌%◌, ◌^◌, ◌<◌, Bool, true, false, List, pos, neg_ℤ, arith, to_z-of_z, w32, SFits, to_z, of_z}
use Rattle.std.specs.List.{list_any}
use Rattle.bits.specs.Bits.{pick}
use Rattle.cases.specs.Cases.{number_at, signed_at}
use Rattle.line.proofs.Signs.{pos-fits, neg_small}

-- it fits 32 bits
pub signed_back : (k : ℕ) (text : List ℕ) → to_z w32 (of_z w32 (signed_at k text)) ≡ signed_at k text
unfolding signed_at
signed_back k text = to_z-of_z (go (list_any (λ b. b == 45) text))
  where
    small : number_at k text % 65536 < 10 ^ 9
    small = omega arith

    go : (b : Bool) → SFits w32 (pick b (neg_ℤ (pos (number_at k text % 65536))) (pos (number_at k text % 65536)))
    go true = neg_small (number_at k text % 65536) small
    go false = pos-fits (number_at k text % 65536) small
