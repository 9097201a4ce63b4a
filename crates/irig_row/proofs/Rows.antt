-- The elements of a time are those of its lines, with an identifier at 0.
-- Assumes nothing.
use Prim.Native.Nat.{ℕ, ◌+◌, ◌*◌, ◌/◌, ◌%◌, ◌^◌, ◌<◌}
use mathlib.Core.Bool.{true}
use mathlib.Core.List.{List, ◌∷◌, ◌++◌, append_assoc}
use mathlib.Core.Path.{◌≡◌, refl, ap, ◌∙◌}
use native.Mathlib.Omega.{arith}
use lib.ListN.{set}
use lib.Seq.{set-append_left}
use Rattle.bits.specs.Bits.{concat}
use Rattle.irig_rules.specs.declared.Clock.{Clock}
use Rattle.irig_rules.specs.Irig.{identifier, mark, zeros, low_bits, second_of_day, elements_of}
use Rattle.irig_rules.specs.Reading.{real_clock}
use Rattle.irig_row.specs.Row.{line_elements, row_elements, digits_line, lines_of}
use Rattle.irig_rules.proofs.Facts.{real, day-high}
use Rattle.irig_rules.proofs.Low.{low-join, low-more}
use Rattle.irig_row.proofs.Putting.{length-rows}

-- two digits, the tens in n bits; and in m places more
digits_low : (n x : ℕ) → low_bits (5 + n) (digits_line x) ≡ low_bits 4 (x % 10) ++ zeros 1 ++ low_bits n (x / 10)
unfolding digits_line
digits_low n x =
    low-join 5 n (x % 10) (x / 10) (omega arith) ∙ ap (λ (w : List ℕ). w ++ low_bits n (x / 10)) (low-more 4 1 (x % 10) (omega arith))

digits_more : (n m x : ℕ) → x / 10 < 2 ^ n → low_bits (5 + (n + m)) (digits_line x) ≡ low_bits 4 (x % 10) ++ zeros 1 ++ (low_bits n (x / 10) ++ zeros m)
digits_more n m x h =
    digits_low (n + m) x ∙ ap (λ (w : List ℕ). low_bits 4 (x % 10) ++ zeros 1 ++ w) (low-more n m (x / 10) h)

-- a line, and the lines after it
line_on : (x : ℕ) {w s t : List ℕ} → low_bits 9 x ≡ w → s ≡ t → line_elements x ++ s ≡ w ++ (identifier ∷ t)
unfolding line_elements
line_on x {w} {s} {t} p q = rw (p, q) (append_assoc w mark t)

-- the first line: an identifier takes the place of its bit 0
low_twice : (x : ℕ) → low_bits 9 (x * 2) ≡ 0 ∷ low_bits 8 x
unfolding low_bits
low_twice x =
    let e : x * 2 ≡ 0 + x * 2 ^ 1 = omega arith in
    rw e (low-join 1 8 0 x (omega arith))

line_first : (x : ℕ) {w s t : List ℕ} → low_bits 8 x ≡ w → s ≡ t → set (line_elements (x * 2) ++ s) 0 identifier ≡ identifier ∷ (w ++ (identifier ∷ t))
unfolding line_elements
line_first x {w} {s} {t} p q = rw (low_twice x, p, q) (ap (λ (l : List ℕ). identifier ∷ l) (append_assoc w mark t))

pub row_is : (c : Clock) → real_clock c ≡ true → set (row_elements (lines_of c)) 0 identifier ≡ elements_of c
unfolding row_elements lines_of elements_of concat low_bits
row_is c h =
    let r = real c h in
    let d : c.day % 100 / 10 ≡ c.day / 10 % 10 = omega arith in
    let u : c.day % 100 % 10 ≡ c.day % 10 = omega arith in
    line_first (digits_line c.second) (digits_low 3 c.second)
    (line_on (digits_line c.minute) (digits_more 3 1 c.minute (omega (arith, r.minute)))
    (line_on (digits_line c.hour) (digits_more 2 2 c.hour (omega (arith, r.hour)))
    (line_on (digits_line (c.day % 100)) (rw (d, u) at (digits_low 4 (c.day % 100)))
    (line_on (c.day / 100) (low-more 2 7 (c.day / 100) (omega (arith, r.high)))
    (line_on 0 refl
    (line_on 0 refl
    (line_on 0 refl
    (line_on (second_of_day c) refl
    (line_on (second_of_day c / 512) (low-more 8 1 (second_of_day c / 512) (omega (arith, day-high c r)))
    refl)))))))))

-- the identifier stored in the lines, with what follows them
pub row_put : (c : Clock) (s : List ℕ) → real_clock c ≡ true → set (row_elements (lines_of c) ++ s) 0 identifier ≡ elements_of c ++ s
row_put c s h =
    set-append_left (row_elements (lines_of c)) s 0 identifier (unfold lines_of in (omega (arith, length-rows (lines_of c))))
    ∙ ap (λ (w : List ℕ). w ++ s) (row_is c h)
