-- The product that takes eight bits apart, tested at each number.
-- Assumes nothing.
use Prim.Native.Nat.{ℕ, ◌+◌, ◌*◌, ◌/◌, ◌%◌, ◌<◌}
use mathlib.Core.Path.{◌≡◌}
use lib.Bits.{bit_and}
use lib.Dec.{T}
use Rattle.bits.specs.Bits.{distance}
use Rattle.bits.specs.Gathered.{low_bytes}
use Rattle.bits.proofs.Distance.{same_words, same-words}
use Rattle.bits.proofs.Tests.{upto}
use Rattle.irig_rules.specs.Irig.{low_bits}

-- bit j comes to place 8 * j of the product
abbrev unpacked : ℕ → ℕ
unpacked v = bit_and ((v % 16 + v / 16 * 0x1_0000_0000) * 0x1020_4081) 0x0101_0101_0101_0101

unpacks-all : T (upto (same_words (λ v. low_bytes 8 (unpacked v)) (low_bits 8)) 256)
unfolding distance low_bytes low_bits
unpacks-all = tt

pub unpacked-low : (v : ℕ) → v < 256 → low_bytes 8 (unpacked v) ≡ low_bits 8 v
unpacked-low = same-words (λ v. low_bytes 8 (unpacked v)) (low_bits 8) 256 unpacks-all
