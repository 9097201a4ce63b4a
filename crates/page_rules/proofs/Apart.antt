-- The entries can be read back from the pages: equal pages have equal lines, and equal lines show the same.
-- Assumes nothing.
use Prim.Native.Nat.{ℕ, zero, suc, ◌+◌, ◌-◌, ◌*◌, ◌/◌, ◌%◌, ◌≤◌, ◌<◌}
use mathlib.Core.Bool.{Bool, true, false}
use mathlib.Core.List.{List, [], ◌∷◌, ◌++◌, map}
use mathlib.Core.Logic.{◌≢◌}
use mathlib.Core.Path.{◌≡◌, refl, sym, ap, ◌∙◌}
use native.Mathlib.Omega.{arith}
use lib.Dec.{eqb}
use lib.ListN.{length, get_or, take, drop, replicate, length-append, length-drop, length-map, take-append-drop}
use lib.Seq.{take_at, drop_at, get_or-append-add}
use Rattle.bits.specs.Bits.{pick, bits, bit, concat, first}
use Rattle.decimal.specs.Decimal.{digits}
use Rattle.calendar.specs.Calendar.{minute_count}
use Rattle.format.specs.Entry.{Entry}
use Rattle.page_rules.specs.Page.{lines_per_page, blanks, aligned, date_text, bits_text, leap_text, time_columns, message_columns, columns_of, spaced}
use Rattle.page_rules.specs.Page.{line, page_lines, feed, page_count, pages}
use Rattle.page_rules.specs.Printing.{entries_of}
use Rattle.page_rules.specs.Theorems.{Each, Fits, EntriesFit, shown, PagesApart}
use Rattle.page_rules.proofs.Cells.{aligned-length, aligned-apart}
use Rattle.page_rules.proofs.Lines.{Every, every_take, every_drop, every-line, column-widths, Line, Lines, line-entry, text, length-feed, length-text}
use Rattle.page_rules.proofs.Pages.{count-page, take-few, lines_from, pages-text, lines-from, count-from, few-pages}

-- ---- lists cut at equal lengths

module _ {A : Type 0} where
  cut : (a b c d : List A) → length a ≡ length b → a ++ c ≡ b ++ d → (a ≡ b) × (c ≡ d)
  cut a b c d h e = (
    sym (take_at a c (length b) h) ∙ ap (take (length b)) e ∙ take_at b d (length b) refl,
    sym (drop_at a c (length b) h) ∙ ap (drop (length b)) e ∙ drop_at b d (length b) refl,
  )

-- columns of equal widths, from their line
spaced-apart : (cs ds : List (List ℕ)) → map length cs ≡ map length ds → spaced cs ≡ spaced ds → cs ≡ ds
unfolding spaced
spaced-apart [] [] h e = refl
spaced-apart [] (d ∷ ds) h e = cc
spaced-apart (c ∷ cs) [] h e = cc
spaced-apart (c ∷ []) (d ∷ []) h e = ap (λ (l : List ℕ). l ∷ []) e
spaced-apart (c ∷ []) (d ∷ d' ∷ ds) h e = cc
spaced-apart (c ∷ c' ∷ cs) (d ∷ []) h e = cc
spaced-apart (c ∷ c' ∷ cs) (d ∷ d' ∷ ds) h e =
    let n : length c ≡ length d = cc in
    let m : length (c ++ (32 ∷ [])) ≡ length (d ++ (32 ∷ [])) = omega (arith, length-append c (32 ∷ []), length-append d (32 ∷ [])) in
    let r : map length (c' ∷ cs) ≡ map length (d' ∷ ds) = cc in
    let k = cut (c ++ (32 ∷ [])) (d ++ (32 ∷ [])) (spaced (c' ∷ cs)) (spaced (d' ∷ ds)) m e in
    let a = cut c d (32 ∷ []) (32 ∷ []) n k.0 in
    let b = spaced-apart (c' ∷ cs) (d' ∷ ds) r k.1 in
    cc

-- lines, from their text
text-apart : (a b : List (List ℕ)) → Lines a → Lines b → text a ≡ text b → a ≡ b
unfolding concat feed
text-apart [] [] h k e = refl
text-apart [] (l ∷ b) h k e = absurd (omega (arith, length-text (l ∷ b) k, ap length e))
text-apart (l ∷ a) [] h k e = absurd (omega (arith, length-text (l ∷ a) h, ap length e))
text-apart (l ∷ a) (m ∷ b) h k e =
    let c = cut (feed l) (feed m) (text a) (text b) (length-feed l h.0 ∙ sym (length-feed m k.0)) e in
    let d = cut l m (10 ∷ []) (10 ∷ []) (h.0.size ∙ sym k.0.size) c.0 in
    let r = text-apart a b h.1 k.1 c.1 in
    cc

-- ---- lines that are not blank, from their pages

-- a line with a character
abbrev Marked : List ℕ → Type 0
Marked l = l ≢ blanks 41

-- blank lines do not begin with one
no-blank : (i : ℕ) (l : List ℕ) (ls : List (List ℕ)) → Marked l → replicate i (blanks 41) ≡ l ∷ ls → ⊥
no-blank zero l ls h e = let z : ◌≡◌ {A = ℕ} 0 1 = cc in omega arith
no-blank (suc i) l ls h e = h (cc)

-- before blank lines
filled_apart : (a b : List (List ℕ)) (i j : ℕ) → Every Marked a → Every Marked b → a ++ replicate i (blanks 41) ≡ b ++ replicate j (blanks 41) → a ≡ b
filled_apart [] [] i j h k e = refl
filled_apart [] (m ∷ b) i j h k e = absurd (no-blank i m (b ++ replicate j (blanks 41)) k.0 e)
filled_apart (l ∷ a) [] i j h k e = absurd (no-blank j l (a ++ replicate i (blanks 41)) h.0 (sym e))
filled_apart (l ∷ a) (m ∷ b) i j h k e =
    let n : a ++ replicate i (blanks 41) ≡ b ++ replicate j (blanks 41) = cc in
    let r = filled_apart a b i j h.1 k.1 n in
    cc

-- in one page, before others
page-apart : (number : ℕ) (a b c d : List (List ℕ)) → length a ≤ lines_per_page → length b ≤ lines_per_page → Every Marked a → Every Marked b
    → page_lines number a ++ c ≡ page_lines number b ++ d → (a ≡ b) × (c ≡ d)
unfolding page_lines
page-apart number a b c d p q h k e =
    let s = cut (page_lines number a) (page_lines number b) c d (count-page number a p ∙ sym (count-page number b q)) e in
    (filled_apart a b (lines_per_page - length a) (lines_per_page - length b) h k (ap (drop 2) s.0), s.1)

-- in pages enough
lines-apart : (n number : ℕ) (a b : List (List ℕ)) → length a ≤ lines_per_page * n → length b ≤ lines_per_page * n → Every Marked a → Every Marked b
    → lines_from n number a ≡ lines_from n number b → a ≡ b
unfolding lines_from
lines-apart zero number [] [] p q h k e = refl
lines-apart zero number [] (m ∷ b) p q h k e = absurd (omega arith)
lines-apart zero number (l ∷ a) b p q h k e = absurd (omega arith)
lines-apart (suc n) number a b p q h k e = joined (lines-apart n (suc number) a₂ b₂)
  where
    a₁ : List (List ℕ)
    a₁ = take lines_per_page a

    a₂ : List (List ℕ)
    a₂ = drop lines_per_page a

    b₁ : List (List ℕ)
    b₁ = take lines_per_page b

    b₂ : List (List ℕ)
    b₂ = drop lines_per_page b

    parts : (a₁ ≡ b₁) × (lines_from n (suc number) a₂ ≡ lines_from n (suc number) b₂)
    parts =
        page-apart number a₁ b₁ (lines_from n (suc number) a₂) (lines_from n (suc number) b₂) (take-few lines_per_page a) (take-few lines_per_page b)
        (every_take Marked lines_per_page a h) (every_take Marked lines_per_page b k) e

    joined : (length a₂ ≤ lines_per_page * n → length b₂ ≤ lines_per_page * n → Every Marked a₂ → Every Marked b₂
        → lines_from n (suc number) a₂ ≡ lines_from n (suc number) b₂ → a₂ ≡ b₂) → a ≡ b
    joined r =
        let u : length a₂ ≤ lines_per_page * n = omega (arith, length-drop lines_per_page a) in
        let v : length b₂ ≤ lines_per_page * n = omega (arith, length-drop lines_per_page b) in
        let s : a₂ ≡ b₂ = r u v (every_drop Marked lines_per_page a h) (every_drop Marked lines_per_page b k) parts.1 in
        sym (take-append-drop lines_per_page a) ∙ rw (parts.0, s) (take-append-drop lines_per_page b)

-- ---- what an entry shows, from its line

-- the fifth character of the date is a dash: no line is blank
fifth-blank : (c d : List ℕ) → length c ≡ 9 → c ++ d ≡ blanks 41 → get_or d 4 0 ≡ 32
unfolding blanks
fifth-blank c d n e = sym (get_or-append-add c d 4 0) ∙ rw (e, n)

line_marked : (e : Entry) → Fits e → Marked (line e)
unfolding line columns_of spaced date_text digits
line_marked e h k =
    let m = aligned 8 e.minute in
    let n : length (m ++ (32 ∷ [])) ≡ 9 = omega (arith, aligned-length 7 e.minute (omega (arith, h.minute)), length-append m (32 ∷ [])) in
    let z : ◌≡◌ {A = ℕ} 45 32 = fifth-blank (m ++ (32 ∷ [])) _ n k in
    omega arith

-- the two bits, from their text
bits_in : List ℕ → ℕ
bits_in l = 2 * (get_or l 0 0 - 48) + (get_or l 1 0 - 48)

bits_in_lem : (n : ℕ) → n < 4 → bits_in (bits_text n) ≡ n
unfolding bits_in bits_text bits bit
bits_in_lem n h =
    let a : n / 2 % 2 ≡ n / 2 = omega arith in
    let b : n / 1 ≡ n = omega arith in
    rw (a, b) (omega arith)

bits-apart : (m n : ℕ) → m < 4 → n < 4 → bits_text m ≡ bits_text n → m ≡ n
bits-apart m n h k e = sym (bits_in_lem m h) ∙ ap bits_in e ∙ bits_in_lem n k

bits-shown : (n : ℕ) → bits_text n ≢ blanks 2
unfolding bits_text bits blanks
bits-shown n e = let z : 48 + bit n 1 ≡ 32 = ap (λ (l : List ℕ). get_or l 0 0) e in omega arith

-- the leap, from its sign: the first that shows it
leap_in : List ℕ → ℕ
leap_in l = first (λ n. eqb (get_or (leap_text n) 0 0) (get_or l 0 0)) 0 3

leap-in : (n : ℕ) → n < 3 → leap_in (leap_text n) ≡ n
unfolding leap_in first leap_text
leap-in zero h = refl
leap-in (suc zero) h = refl
leap-in (suc (suc n)) h = omega arith

leap-apart : (m n : ℕ) → m < 3 → n < 3 → leap_text m ≡ leap_text n → m ≡ n
leap-apart m n h k e = sym (leap-in m h) ∙ ap leap_in e ∙ leap-in n k

columns-apart : (d e : Entry) → Fits d → Fits e → columns_of d ≡ columns_of e → shown d ≡ shown e
unfolding columns_of time_columns message_columns shown
columns-apart d e h k c = go (eqb d.message 0) (eqb e.message 0) (ap (drop 4) c)
  where
    minute : d.minute ≡ e.minute
    minute = aligned-apart 8 _ _ (ap (λ (cs : List (List ℕ)). get_or cs 0 []) c)

    seconds : d.seconds ≡ e.seconds
    seconds = aligned-apart 2 _ _ (ap (λ (cs : List (List ℕ)). get_or cs 3 []) c)

    go : (t u : Bool) → pick t (time_columns d) message_columns ≡ pick u (time_columns e) message_columns
        → d.minute ∷ d.seconds ∷ pick t (d.daylight ∷ d.leap ∷ d.row ∷ d.place ∷ d.echo ∷ []) []
        ≡ e.minute ∷ e.seconds ∷ pick u (e.daylight ∷ e.leap ∷ e.row ∷ e.place ∷ e.echo ∷ []) []
    go true true q =
        let daylight : d.daylight ≡ e.daylight = bits-apart _ _ h.daylight k.daylight (cc) in
        let leap : d.leap ≡ e.leap = leap-apart _ _ h.leap k.leap (cc) in
        let row : d.row ≡ e.row = aligned-apart 2 _ _ (cc) in
        let place : d.place ≡ e.place = aligned-apart 2 _ _ (cc) in
        let echo : d.echo ≡ e.echo = aligned-apart 1 _ _ (cc) in
        rw (minute, seconds, daylight, leap, row, place, echo)
    go true false q = absurd (bits-shown d.daylight (cc))
    go false true q = absurd (bits-shown e.daylight (cc))
    go false false q = rw (minute, seconds)

line-apart : (d e : Entry) → Fits d → Fits e → line d ≡ line e → shown d ≡ shown e
unfolding line
line-apart d e h k l = columns-apart d e h k (spaced-apart (columns_of d) (columns_of e) (column-widths d h ∙ sym (column-widths e k)) l)

-- ---- the entries of two recordings

entries-apart : (ds es : List Entry) → Each Fits ds → Each Fits es → map line ds ≡ map line es → map shown ds ≡ map shown es
entries-apart [] [] h k q = refl
entries-apart [] (e ∷ es) h k q = cc
entries-apart (d ∷ ds) [] h k q = cc
entries-apart (d ∷ ds) (e ∷ es) h k q =
    let a : line d ≡ line e = cc in
    let b : map line ds ≡ map line es = cc in
    let x = line-apart d e h.0 k.0 a in
    let y = entries-apart ds es h.1 k.1 b in
    cc

pages-of-apart : (ds es : List Entry) → Each Fits ds → Each Fits es → length ds ≤ minute_count → length es ≤ minute_count
    → pages ds ≡ pages es → map shown ds ≡ map shown es
unfolding pages
pages-of-apart ds es h k p q e =
    let a = map line ds in
    let b = map line es in
    let n = page_count (length ds) in
    let m = page_count (length es) in
    let u : Lines (lines_from n 1 a) = lines-from n 1 a (few-pages (length ds) p) (every-line Line line-entry ds h) in
    let v : Lines (lines_from m 1 b) = lines-from m 1 b (few-pages (length es) q) (every-line Line line-entry es k) in
    let t : text (lines_from n 1 a) ≡ text (lines_from m 1 b) = sym (pages-text n 1 a) ∙ e ∙ pages-text m 1 b in
    let l : lines_from n 1 a ≡ lines_from m 1 b = text-apart (lines_from n 1 a) (lines_from m 1 b) u v t in
    let c : m ≡ n = omega (arith, count-from n 1 a, count-from m 1 b, ap length l) in
    let r : lines_from n 1 a ≡ lines_from n 1 b = l ∙ ap (λ (i : ℕ). lines_from i 1 b) c in
    let x : length a ≤ lines_per_page * n = omega (arith, length-map ds line) in
    let y : length b ≤ lines_per_page * n = omega (arith, length-map es line) in
    entries-apart ds es h k (lines-apart n 1 a b x y (every-line Marked line_marked ds h) (every-line Marked line_marked es k) r)

pub pages-apart : EntriesFit → PagesApart
pages-apart r f g e = pages-of-apart (entries_of f) (entries_of g) (r.fit f) (r.fit g) (r.few f) (r.few g) e
