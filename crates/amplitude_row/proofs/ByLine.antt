-- The layout by lines, each a marker and bits: which numbers of lines have it, the numbers in them, and the row of numbers as lines.
-- Assumes nothing.
use Prim.Native.Nat.{ℕ, zero, suc, ◌+◌, ◌-◌, ◌*◌, ◌/◌, ◌%◌, ◌^◌, ◌≤◌, ◌<◌}
use mathlib.Core.Bool.{Bool, true, false, ◌&&◌, false≢true}
use mathlib.Core.List.{List, [], ◌∷◌, ◌++◌}
use mathlib.Core.Path.{◌≡◌, refl, sym, ap, ◌∙◌}
use native.Mathlib.Omega.{arith}
use lib.Dec.{T, eqb}
use lib.ListN.{length, take, drop, get_or, length-drop, drop_of_length-le}
use Rattle.std.specs.Prelude.{Option, Some, None}
use Rattle.std.proofs.Common.{take_all}
use Rattle.std.specs.Option.{unwrap_or}
use lib.Seq.{length-take-le, drop-drop}
use borrow.Author.Tests.{eq-eqb, ne_eqb, eqb-true}
use Rattle.bits.specs.Bits.{pick, bit, bits, number, is_bit, all}
use Rattle.bits.specs.Gathered.{gathered}
use Rattle.bits.proofs.Bits.{number_lt}
use Rattle.bits.proofs.Parts.{bits-take, part-take, length_part}
use Rattle.bits.proofs.Tests.{and_left, and_right, upto, upto-at, binary, all-binary, same_test, same_test_lem}
use Rattle.timeword.specs.TimeWord.{same}
use Rattle.timeword.proofs.Invert.{same→eq}
use Rattle.plan.specs.Plan.{min_frame}
use Rattle.symbols.specs.Symbols.{Part, mark, blank, high, fill, fits, numbers, Within}
use Rattle.symbols.proofs.Laws.{read-fills}
use Rattle.symbols.proofs.Joined.{width, fits-append, numbers-append, Plain, plain-binary}
use Rattle.amplitude_rules.specs.Amplitude.{table1, digits}
use Rattle.amplitude_rules.specs.Reading.{is_mark, numbers_in}
use Rattle.amplitude_rules.specs.declared.Fields.{Fields}
use Rattle.amplitude_rules.proofs.Digits.{next}
use Rattle.amplitude_row.specs.declared.Lines.{Lines}
use Rattle.amplitude_row.specs.Row.{lines_of, line_symbols, line_number, six_lines, lines_in, blanks_of, numbers_of_lines}

-- ---- a line's number, where it has one, or nine ones, which no line of the layout has

abbrev no_line : ℕ
no_line = 0b111111111

-- the number, or nine ones
abbrev number_or : Option ℕ → ℕ
number_or o = unwrap_or o no_line

-- ---- a line by its number, tested at every number

-- the bits of n fit the parts exactly when its blanks are 0, and have these numbers
right : List Part → (ℕ → ℕ) → (ℕ → List ℕ) → ℕ → Bool
right ps f v n = let w = bits (width ps) n in same_test (fits ps w) (eqb (f n) 0) && same (numbers ps w) (v n)

-- symbols that fit parts exactly when blanks are 0, and then have these numbers
abbrev Reads : List Part → List ℕ → ℕ → List ℕ → Type 0
Reads ps s x v = (fits ps s ≡ eqb x 0) × (x ≡ 0 → numbers ps s ≡ v)

right-reads : (ps : List Part) (f : ℕ → ℕ) (v : ℕ → List ℕ) (n : ℕ) → T (right ps f v n) → Reads ps (bits (width ps) n) (f n) (v n)
unfolding right
right-reads ps f v n t =
    let w = bits (width ps) n in
    let a = same_test (fits ps w) (eqb (f n) 0) in
    let b = same (numbers ps w) (v n) in
    (same_test_lem (fits ps w) (eqb (f n) 0) (and_left a b t), λ z. same→eq (numbers ps w) (v n) (and_right a b t))

-- a line: its parts after the marker, and of its number the bits that are always 0, and the numbers in it
record Line : Type 0 where
  parts : List Part
  blanks : ℕ → ℕ
  values : ℕ → List ℕ
  plain : Plain parts
  small : 2 ^ width parts ≤ 512
  none : eqb (blanks no_line) 0 ≡ false
  tested : T (upto (right parts blanks values) 512)

module _ (l : Line) (w : List ℕ) (k : length (drop 1 w) ≡ width l.parts) where
  bits-read : all is_bit (drop 1 w) ≡ true → let n = number (drop 1 w) in Reads l.parts (drop 1 w) (l.blanks n) (l.values n)
  bits-read q =
      let b = binary (drop 1 w) q in
      let n = number (drop 1 w) in
      let t = upto-at (right l.parts l.blanks l.values) 512 l.tested n (omega (arith, rw k at (number_lt (drop 1 w) b), l.small)) in
      rw (bits-take (drop 1 w) (width l.parts) b k) at (right-reads l.parts l.blanks l.values n t)

  no-bits-read : all is_bit (drop 1 w) ≡ false → fits l.parts (drop 1 w) ≡ false
  no-bits-read q = go (fits l.parts (drop 1 w)) refl
    where
      go : (b : Bool) → fits l.parts (drop 1 w) ≡ b → b ≡ false
      go true e = sym (all-binary (drop 1 w) (plain-binary l.parts (drop 1 w) l.plain e)) ∙ q
      go false e = refl

  line_reads : Reads (mark ∷ l.parts) w (l.blanks (number_or (line_number w))) (l.values (number_or (line_number w)))
  unfolding fits numbers line_number gathered
  line_reads = go (is_mark (get_or w 0 0)) (all is_bit (drop 1 w)) refl
    where
      not_none : {A : Type 0} → l.blanks no_line ≡ 0 → A
      not_none z = absurd (false≢true (sym l.none ∙ eq-eqb (l.blanks no_line) 0 z))

      go : (a b : Bool) → all is_bit (drop 1 w) ≡ b → let n = number_or (pick a (pick b (Some (number (drop 1 w))) None) None) in
          ((a && fits l.parts (drop 1 w)) ≡ eqb (l.blanks n) 0) × (l.blanks n ≡ 0 → numbers l.parts (drop 1 w) ≡ l.values n)
      go true true q = bits-read q
      go true false q = (no-bits-read q ∙ sym l.none, not_none)
      go false b q = (sym l.none, not_none)

-- ---- the number of a line, of what its marker's place and the gathered bits show

module _ (w : List ℕ) where
  pub no-mark : (get_or w 0 0 ≡ 2 → ⊥) → None ≡ line_number w
  unfolding line_number
  no-mark h = rw (ne_eqb (get_or w 0 0) 2 h)

  pub bits-after : (o : Option ℕ) → 0 < length w → get_or w 0 0 ≡ 2 → o ≡ gathered (take (length w - 1) (drop 1 w)) → o ≡ line_number w
  unfolding line_number
  bits-after o l h e =
      let a : take (length w - 1) (drop 1 w) ≡ drop 1 w = take_all (length w - 1) (drop 1 w) (omega (arith, length-drop 1 w)) in
      e ∙ rw (eq-eqb (get_or w 0 0) 2 h, a)

-- ---- line after line

joined : (x y : ℕ) → (eqb x 0 && eqb y 0) ≡ eqb (x + y) 0
joined zero y = let e : zero + y ≡ y = omega arith in rw e
joined (suc x) y = rw (ne_eqb (suc x) 0 (omega arith), ne_eqb (suc x + y) 0 (omega arith))

module _ (s : List ℕ) (h : min_frame ≤ length s) where
  -- the row from a second on
  From : ℕ → List Part → ℕ → List ℕ → Type 0
  From a qs y v = Reads qs (drop a (take min_frame s)) y v

  line-from : (l : Line) (a : ℕ) (qs : List Part) (y : ℕ) (v : List ℕ) → let w = suc (width l.parts) in let n = number_or (line_number (take w (drop a s))) in
      a + w ≤ min_frame → From (a + w) qs y v → From a (mark ∷ (l.parts ++ qs)) (l.blanks n + y) (l.values n ++ v)
  unfolding From
  line-from l a qs y v inside r =
      let w = suc (width l.parts) in
      let t = drop a (take min_frame s) in
      let p = take w (drop a s) in
      let x = l.blanks (number_or (line_number p)) in
      let k : w ≤ length t = rw (length-drop a (take min_frame s), length-take-le min_frame s h) (omega arith) in
      let f : take w t ≡ p = part-take min_frame a w s inside in
      let d : drop w t ≡ drop (a + w) (take min_frame s) = drop-drop w a (take min_frame s) in
      let g : Reads (mark ∷ l.parts) p x (l.values (number_or (line_number p))) =
      line_reads l p (rw (length-drop 1 p, length_part s a w (omega arith)) (omega arith)) in (
        rw (f, d, g.0, r.0) at (fits-append (mark ∷ l.parts) qs t k) ∙ joined x y,
        λ z. rw (f, d, g.1 (omega arith), r.1 (omega arith)) at (numbers-append (mark ∷ l.parts) qs t k),
      )

-- ---- the six lines; the hour and the day of the year are alike

abbrev a-line : (ps : List Part) (f : ℕ → ℕ) (v : ℕ → List ℕ) → Plain ps → 2 ^ width ps ≤ 512 → eqb (f no_line) 0 ≡ false → T (upto (right ps f v) 512) → Line
a-line ps f v p s n t = record { parts = ps; blanks = f; values = v; plain = p; small = s; none = n; tested = t }

abbrev minute-line : Line
minute-line =
    a-line (high 3 ∷ blank ∷ high 4 ∷ []) (λ n. n / 16 % 2) (λ n. n / 32 % 8 ∷ n % 16 ∷ []) tt (omega arith) refl
    (unfold right same_test same fits numbers number bits bit in tt)

abbrev hour-line : Line
hour-line =
    a-line (blank ∷ blank ∷ high 2 ∷ blank ∷ high 4 ∷ []) (λ n. n / 128 % 4 + n / 16 % 2) (λ n. n / 32 % 4 ∷ n % 16 ∷ []) tt (omega arith) refl
    (unfold right same_test same fits numbers number bits bit in tt)

abbrev sign_line : Line
sign_line =
    a-line (high 4 ∷ blank ∷ blank ∷ high 3 ∷ []) (λ n. n / 8 % 4) (λ n. n / 32 % 16 ∷ n % 8 ∷ []) tt (omega arith) refl
    (unfold right same_test same fits numbers number bits bit in tt)

abbrev tenths-line : Line
tenths-line =
    a-line (high 4 ∷ blank ∷ high 4 ∷ []) (λ n. n / 16 % 2) (λ n. n / 32 % 16 ∷ n % 16 ∷ []) tt (omega arith) refl
    (unfold right same_test same fits numbers number bits bit in tt)

abbrev flags-line : Line
flags-line =
    a-line (high 4 ∷ blank ∷ high 1 ∷ high 1 ∷ high 2 ∷ []) (λ n. n / 16 % 2) (λ n. n / 32 % 16 ∷ n / 8 % 2 ∷ n / 4 % 2 ∷ (n / 2 % 2 * 2 + n % 2) ∷ []) tt (omega arith) refl
    (unfold right same_test same fits numbers number bits bit in tt)

-- ---- the row of numbers, by lines

-- the bits of a line's number are the row of the numbers in it
line-fills : (l : Line) (n : ℕ) (v : List ℕ) → n < 512 → l.blanks n ≡ 0 → l.values n ≡ v → bits (width l.parts) n ≡ fill l.parts v
line-fills l n v h z e =
    let w = bits (width l.parts) n in
    let r = right-reads l.parts l.blanks l.values n (upto-at (right l.parts l.blanks l.values) 512 l.tested n h) in
    sym (read-fills l.parts w (r.0 ∙ eq-eqb (l.blanks n) 0 z)).1 ∙ ap (fill l.parts) (r.1 z ∙ e)

module _ (a b : ℕ) (small : b < 16) where
  minute-fills : a < 8 → bits 8 (a * 32 + b) ≡ fill minute-line.parts (a ∷ b ∷ [])
  minute-fills h = line-fills minute-line (a * 32 + b) (a ∷ b ∷ []) (omega arith) (omega arith) (next (omega arith) (next (omega arith) refl))

  hour-fills : a < 4 → bits 9 (a * 32 + b) ≡ fill hour-line.parts (a ∷ b ∷ [])
  hour-fills h = line-fills hour-line (a * 32 + b) (a ∷ b ∷ []) (omega arith) (omega arith) (next (omega arith) (next (omega arith) refl))

  tenths-fills : a < 16 → bits 9 (a * 32 + b) ≡ fill tenths-line.parts (a ∷ b ∷ [])
  tenths-fills h = line-fills tenths-line (a * 32 + b) (a ∷ b ∷ []) (omega arith) (omega arith) (next (omega arith) (next (omega arith) refl))

sign-fills : (a b : ℕ) → a < 16 → b < 8 → bits 9 (a * 32 + b) ≡ fill sign_line.parts (a ∷ b ∷ [])
sign-fills a b h k = line-fills sign_line (a * 32 + b) (a ∷ b ∷ []) (omega arith) (omega arith) (next (omega arith) (next (omega arith) refl))

flags-fills : (a b c d : ℕ) → a < 16 → b < 2 → c < 2 → d < 4 → bits 9 (a * 32 + (b * 8 + c * 4 + d)) ≡ fill flags-line.parts (a ∷ b ∷ c ∷ d ∷ [])
flags-fills a b c d h k l m =
    line-fills flags-line (a * 32 + (b * 8 + c * 4 + d)) (a ∷ b ∷ c ∷ d ∷ []) (omega arith) (omega arith)
    (next (omega arith) (next (omega arith) (next (omega arith) (next (omega arith) refl))))

module _ (x : Fields) (h : Within table1 (digits x)) where
  pub flags-small : (x.leap < 2) × (x.warning < 2) × (x.daylight < 4)
  unfolding table1 digits
  flags-small = let f = h.1.1.1.1.1.1.1.1.1.1.1 in (f.0, f.1.0, f.1.1.0)

  pub lines-fill : line_symbols (lines_of (digits x)) ≡ fill table1 (digits x)
  unfolding line_symbols lines_of table1 digits
  lines-fill =
      let hour = h.1.1 in
      let days = hour.1.1 in
      let sign = days.1.1 in
      let tenths = sign.1.1 in
      let flags = tenths.1.1 in
      rw (
        minute-fills (x.minute / 10) (x.minute % 10) h.1.0 h.0,
        hour-fills (x.hour / 10) (x.hour % 10) hour.1.0 hour.0,
        hour-fills (x.day / 100) (x.day / 10 % 10) days.1.0 days.0,
        sign-fills (x.day % 10) x.sign sign.0 sign.1.0,
        tenths-fills x.tenths (x.year / 10) tenths.1.0 tenths.0,
        flags-fills (x.year % 10) x.leap x.warning x.daylight flags.0 flags.1.0 flags.1.1.0 flags.1.1.1.0,
      )
      (unfold fill bits in refl)

-- ---- the layout

sum : (a b c d e f : ℕ) → a + (b + (c + (d + (e + (f + 0))))) ≡ a + b + c + d + e + f
sum a b c d e f = omega arith

abbrev lines_of_options : (a b c d e f : Option ℕ) → Lines
lines_of_options a b c d e f =
    record { minute = number_or a; hour = number_or b; days = number_or c; sign = number_or d; tenths = number_or e; flags = number_or f }

all-there : (a b c d e f : Option ℕ) (l : Lines) → six_lines a b c d e f ≡ Some l → lines_of_options a b c d e f ≡ l
all-there (Some a) (Some b) (Some c) (Some d) (Some e) (Some f) l q = cc
all-there None b c d e f l q = cc
all-there (Some a) None c d e f l q = cc
all-there (Some a) (Some b) None d e f l q = cc
all-there (Some a) (Some b) (Some c) None e f l q = cc
all-there (Some a) (Some b) (Some c) (Some d) None f l q = cc
all-there (Some a) (Some b) (Some c) (Some d) (Some e) None l q = cc

some-blank : (a b c d e f : Option ℕ) → six_lines a b c d e f ≡ None → blanks_of (lines_of_options a b c d e f) ≡ 0 → ⊥
some-blank (Some a) (Some b) (Some c) (Some d) (Some e) (Some f) q z = cc
some-blank None b c d e f q z = omega arith
some-blank (Some a) None c d e f q z = omega arith
some-blank (Some a) (Some b) None d e f q z = omega arith
some-blank (Some a) (Some b) (Some c) None e f q z = omega arith
some-blank (Some a) (Some b) (Some c) (Some d) None f q z = omega arith
some-blank (Some a) (Some b) (Some c) (Some d) (Some e) None q z = omega arith

module _ (s : List ℕ) (h : min_frame ≤ length s) where
  row-end : From s h min_frame [] 0 []
  unfolding From fits numbers
  row-end = (ap (λ (t : List ℕ). eqb (length t) 0) (drop_of_length-le (take min_frame s) {i = min_frame} (omega (arith, length-take-le min_frame s h))), λ z. refl)

  -- the lines, with nine ones where there is none
  lines_or : Lines
  lines_or =
      lines_of_options (line_number (take 9 s)) (line_number (take 10 (drop 9 s))) (line_number (take 10 (drop 19 s)))
      (line_number (take 10 (drop 29 s))) (line_number (take 10 (drop 39 s))) (line_number (take 10 (drop 49 s)))

  six-lines : From s h 0 table1 (blanks_of lines_or) (numbers_of_lines lines_or)
  unfolding table1 lines_or
  six-lines =
      rw (sum _ _ _ _ _ _) at
      (line-from s h minute-line 0 _ _ _ (omega arith)
      (line-from s h hour-line 9 _ _ _ (omega arith)
      (line-from s h hour-line 19 _ _ _ (omega arith)
      (line-from s h sign_line 29 _ _ _ (omega arith)
      (line-from s h tenths-line 39 _ _ _ (omega arith)
      (line-from s h flags-line 49 _ _ _ (omega arith) row-end))))))

  -- where a line has no number, the row doesn't fit
  pub no_lines : lines_in s ≡ None → fits table1 (take min_frame s) ≡ false
  unfolding From lines_in lines_or
  no_lines q =
      six-lines.0
      ∙ ne_eqb _ 0 (some-blank (line_number (take 9 s)) (line_number (take 10 (drop 9 s))) (line_number (take 10 (drop 19 s)))
      (line_number (take 10 (drop 29 s))) (line_number (take 10 (drop 39 s))) (line_number (take 10 (drop 49 s))) q)

  -- the row by its lines
  module _ (l : Lines) (q : lines_in s ≡ Some l) where
    lines-are : lines_or ≡ l
    unfolding lines_in lines_or
    lines-are = all-there _ _ _ _ _ _ l q

    row_reads : Reads table1 (take min_frame s) (blanks_of l) (numbers_of_lines l)
    unfolding From
    row_reads = rw lines-are at six-lines

    pub row_fits_lem : fits table1 (take min_frame s) ≡ eqb (blanks_of l) 0
    row_fits_lem = row_reads.0

    pub row-numbers : eqb (blanks_of l) 0 ≡ true → numbers_in s ≡ numbers_of_lines l
    unfolding numbers_in
    row-numbers t = row_reads.1 (eqb-true (blanks_of l) 0 t)
