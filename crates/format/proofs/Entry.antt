-- The bytes of an entry.
-- Assumes nothing.
use Prim.Native.Nat.{ℕ, ◌+◌, ◌*◌, ◌/◌, ◌%◌, ◌^◌, ◌<◌}
use mathlib.Core.Path.{◌≡◌, refl}
use native.Mathlib.Omega.{arith}
use Rattle.messages.specs.Bytes.{big_endian}
use Rattle.format.specs.Entry.{entry_bytes, EntryLaidOut}

four_bytes_lem : (m : ℕ) → m < 2 ^ 32 → (((0 + m / 16777216 % 256) * 256 + m / 65536 % 256) * 256 + m / 256 % 256) * 256 + m % 256 ≡ m
four_bytes_lem m h =
    let a : m / 65536 ≡ m / 256 / 256 = omega arith in
    let b : m / 16777216 ≡ m / 65536 / 256 = omega arith in
    let c : 0 + m / 16777216 % 256 ≡ m / 16777216 = omega arith in
    let d : m / 16777216 * 256 + m / 65536 % 256 ≡ m / 65536 = omega (arith, b) in
    let e : m / 65536 * 256 + m / 256 % 256 ≡ m / 256 = omega (arith, a) in
    let g : m / 256 * 256 + m % 256 ≡ m = omega arith in
    rw (c, d, e) g

six-bytes : (m : ℕ) → m < 2 ^ 48
    → (((((0 + m / 2 ^ 40 % 256) * 256 + m / 2 ^ 32 % 256) * 256 + m / 2 ^ 24 % 256) * 256 + m / 2 ^ 16 % 256) * 256 + m / 2 ^ 8 % 256) * 256 + m % 256 ≡ m
six-bytes m h =
    let a : 0 + m / 2 ^ 40 % 256 ≡ m / 2 ^ 40 = omega arith in
    let b : m / 2 ^ 40 * 256 + m / 2 ^ 32 % 256 ≡ m / 2 ^ 32 = omega arith in
    let c : m / 2 ^ 32 * 256 + m / 2 ^ 24 % 256 ≡ m / 2 ^ 24 = omega arith in
    let d : m / 2 ^ 24 * 256 + m / 2 ^ 16 % 256 ≡ m / 2 ^ 16 = omega arith in
    let e : m / 2 ^ 16 * 256 + m / 2 ^ 8 % 256 ≡ m / 2 ^ 8 = omega arith in
    let g : m / 2 ^ 8 * 256 + m % 256 ≡ m = omega arith in
    rw (a, b, c, d, e) g

pub entry-laid-out : EntryLaidOut
unfolding entry_bytes big_endian
entry-laid-out =
    record {
      size = λ e. refl;
      minute-first = λ e h. four_bytes_lem e.minute h;
      data-last = λ e h. six-bytes e.payload h;
    }
