-- Lines put one after the other, from the bytes of their entries.
-- Assumes nothing.
use Prim.Native.Nat.{ℕ, zero, suc, ◌+◌, ◌-◌, ◌*◌, ◌/◌, ◌%◌, ◌^◌, ◌≤◌, ◌<◌}
use mathlib.Core.List.{List, [], ◌∷◌, ◌++◌, map, append-nil, append_assoc}
use mathlib.Core.Path.{◌≡◌, refl, sym, ap, ap₂, ◌∙◌}
use native.Mathlib.Nat.{zero-add, suc-add}
use native.Mathlib.Numerals.{add-one}
use native.Mathlib.Omega.{arith}
use lib.ListN.{length, get_or, take, drop, replicate, length-append, length-replicate, length-take, length-drop, length-map}
use lib.Seq.{take-suc, drop-drop, drop-nil, take_all}
use Rattle.bits.specs.Bits.{concat}
use Rattle.format.specs.Entry.{Entry, entry_size}
use Rattle.sequence.proofs.Putting.{Put, put_of, put-more, rest-length}
use Rattle.page_rules.specs.Page.{blanks, aligned, line, page_lines, feed, page}
use Rattle.page_rules.specs.Theorems.{Each, Fits}
use Rattle.page_rules.proofs.Lines.{every_append, every-many, every_take, every-line, Line, Lines, line-entry, line-many, text, length-text, get_or-filled}
use Rattle.page_rules.proofs.Pages.{fitting, text-append}
use Rattle.page_columns.specs.Bytes.{entry_in}
use Rattle.page.specs.Bytes.{entries_from, entries_in, line_at, lines_text}

-- ---- the entries in bytes

-- the bytes of entry i
abbrev pub entry_at : ℕ → List ℕ → List ℕ
entry_at i s = take entry_size (drop (entry_size * i) s)

-- the part that is lent for it
pub entry-part : (i : ℕ) (s : List ℕ) → take (i * 18 + 18 - i * 18) (drop (i * 18) s) ≡ entry_at i s
entry-part i s =
    let a : i * 18 + 18 - i * 18 ≡ entry_size = omega arith in
    let b : i * 18 ≡ entry_size * i = omega arith in
    rw (a, b)

next-entry : (i : ℕ) (s : List ℕ) → entry_at i (drop entry_size s) ≡ entry_at (suc i) s
next-entry i s =
    let e : entry_size + entry_size * i ≡ entry_size * suc i = omega arith in
    ap (take entry_size) (drop-drop (entry_size * i) entry_size s ∙ ap (λ (k : ℕ). drop k s) e)

fits-at : (n i : ℕ) (s : List ℕ) → i < n → Each Fits (entries_from n s) → Fits (entry_in (entry_at i s))
unfolding entries_from
fits-at zero i s h f = absurd (omega arith)
fits-at (suc n) zero s h f = f.0
fits-at (suc n) (suc i) s h f = rw (← next-entry i s) (fits-at n i (drop entry_size s) (omega arith) f.1)

line-from : (n i : ℕ) (s d : List ℕ) → i < n → get_or (map line (entries_from n s)) i d ≡ line (entry_in (entry_at i s))
unfolding entries_from
line-from zero i s d h = absurd (omega arith)
line-from (suc n) zero s d h = refl
line-from (suc n) (suc i) s d h = line-from n i (drop entry_size s) d (omega arith) ∙ ap (λ (w : List ℕ). line (entry_in w)) (next-entry i s)

count-from : (n : ℕ) (s : List ℕ) → length (entries_from n s) ≡ n
unfolding entries_from
count-from zero s = refl
count-from (suc n) s = ap suc (count-from n (drop entry_size s))

-- ---- line i

none-at : (ls : List (List ℕ)) (i : ℕ) (d : List ℕ) → length ls ≤ i → get_or ls i d ≡ d
none-at [] i d h = refl
none-at (l ∷ ls) zero d h = absurd (omega arith)
none-at (l ∷ ls) (suc i) d h = none-at ls i d (omega arith)

module _ (i : ℕ) (s : List ℕ) (whole : length s % entry_size ≡ 0) (f : Each Fits (entries_in s)) where
  count : length (map line (entries_in s)) ≡ length s / entry_size
  unfolding entries_in
  count = length-map (entries_in s) line ∙ count-from (length s / entry_size) s

  pub entry-line : entry_size * i < length s → line_at i (entries_in s) ≡ line (entry_in (entry_at i s))
  unfolding line_at entries_in
  entry-line h = line-from (length s / entry_size) i s (blanks 41) (omega arith)

  pub blank-line : length s ≤ entry_size * i → line_at i (entries_in s) ≡ blanks 41
  unfolding line_at
  blank-line h = none-at (map line (entries_in s)) i (blanks 41) (omega (arith, count))

  pub entry-fit : entry_size * i < length s → Fits (entry_in (entry_at i s))
  unfolding entries_in
  entry-fit h = fits-at (length s / entry_size) i s (omega arith) f

  pub entry_whole : entry_size * i < length s → length (entry_at i s) ≡ entry_size
  entry_whole h = omega (arith, length-take entry_size (drop (entry_size * i) s), length-drop (entry_size * i) s)

-- ---- n lines

-- those of entries, and blank ones after them
abbrev lines : ℕ → List Entry → List (List ℕ)
lines n es = map line es ++ replicate (n - length (map line es)) (blanks 41)

-- one line more
text-one : (ls : List (List ℕ)) (k : ℕ) → k < length ls → text (take (suc k) ls) ≡ text (take k ls) ++ feed (get_or ls k [])
text-one ls k h =
    ap text (take-suc ls k [] h)
    ∙ text-append (take k ls) (get_or ls k [] ∷ [])
    ∙ (unfold concat in ap (λ (w : List ℕ). text (take k ls) ++ w) (append-nil (feed (get_or ls k []))))

-- the text of the first i
unfoldable pub up_to : ℕ → List Entry → ℕ → List ℕ
up_to n es i = text (take i (lines n es))

pub put-none : (n : ℕ) (es : List Entry) (out : List ℕ) → Put (up_to n es 0) out out 0
unfolding up_to concat
put-none n es out = record { size = refl; room = omega arith; is = refl }

module _ (n : ℕ) (es : List Entry) (few : length es ≤ n) (f : Each Fits es) where
  good : Lines (lines n es)
  unfolding blanks
  good = every_append Line (map line es) _ (every-line Line line-entry es f) (every-many Line (n - length (map line es)) (blanks 41) (line-many 32 (omega arith)))

  all_lines : length (lines n es) ≡ n
  all_lines =
      omega (
        arith,
        length-append (map line es) (replicate (n - length (map line es)) (blanks 41)),
        length-replicate (n - length (map line es)) (blanks 41),
        length-map es line,
      )

  up-to-length : (i : ℕ) → i ≤ n → length (up_to n es i) ≡ 42 * i
  unfolding up_to
  up-to-length i h = length-text (take i (lines n es)) (every_take Line i (lines n es) good) ∙ omega (arith, length-take i (lines n es), all_lines)

  line-more : (i : ℕ) → i < n → up_to n es (suc i) ≡ up_to n es i ++ feed (line_at i es)
  unfolding line_at up_to
  line-more i h =
      text-one (lines n es) i (omega (arith, all_lines))
      ∙ ap (λ (l : List ℕ). text (take i (lines n es)) ++ feed l) (get_or-filled (map line es) (n - length (map line es)) i (blanks 41) (omega (arith, length-map es line)))

  line-length : (i : ℕ) → i < n → length (feed (line_at i es)) ≡ 42
  line-length i h =
      omega (arith, up-to-length i (omega arith), up-to-length (suc i) h, ap length (line-more i h), length-append (up_to n es i) (feed (line_at i es)))

  -- line i put after those before it
  pub put_next : (i : ℕ) (out₀ out ys : List ℕ) → i < n → Put (up_to n es i) out₀ out (i * 42) → 42 ≤ length (take (length out - i * 42) (drop (i * 42) out))
      → ys ≡ feed (line_at i es) ++ drop 42 (take (length out - i * 42) (drop (i * 42) out))
      → Put (up_to n es (i + 1)) out₀ (take (i * 42) out ++ (ys ++ drop (length out - i * 42) (drop (i * 42) out))) ((i + 1) * 42)
  put_next i out₀ out ys h p room y =
      let q = put-more p (put_of (feed (line_at i es)) _ ys 42 42 (line-length i h) room refl y) in
      let e : up_to n es i ++ feed (line_at i es) ≡ up_to n es (i + 1) = rw (add-one i) (sym (line-more i h)) in
      let k : i * 42 + 42 ≡ (i + 1) * 42 = omega arith in
      rw (e, k) at q

  pub lines-whole : up_to n es n ≡ lines_text n es
  unfolding lines_text up_to
  lines-whole = ap text (take_all n (lines n es) (omega (arith, all_lines)))

  pub lines-length : length (lines_text n es) ≡ 42 * n
  lines-length = ap length (sym lines-whole) ∙ up-to-length n (omega arith)

-- ---- lines in two parts

-- n lines, filled up with blank ones
unfoldable fill : ℕ → List (List ℕ) → List (List ℕ)
fill zero ls = []
fill (suc n) [] = blanks 41 ∷ fill n []
fill (suc n) (l ∷ ls) = l ∷ fill n ls

fill-parts : (m n : ℕ) (ls : List (List ℕ)) → fill (m + n) ls ≡ fill m ls ++ fill n (drop m ls)
unfolding fill
fill-parts zero n ls = rw (zero-add n)
fill-parts (suc m) n [] =
    rw (suc-add m n) (ap (λ (w : List (List ℕ)). blanks 41 ∷ w) (fill-parts m n [] ∙ ap (λ (w : List (List ℕ)). fill m [] ++ fill n w) (drop-nil m)))
fill-parts (suc m) n (l ∷ ls) = rw (suc-add m n) (ap (λ (w : List (List ℕ)). l ∷ w) (fill-parts m n ls))

fill-take : (n : ℕ) (ls : List (List ℕ)) → fill n (take n ls) ≡ fill n ls
unfolding fill
fill-take zero ls = refl
fill-take (suc n) [] = refl
fill-take (suc n) (l ∷ ls) = ap (λ (w : List (List ℕ)). l ∷ w) (fill-take n ls)

filled : (n : ℕ) (ls : List (List ℕ)) → length ls ≤ n → ls ++ replicate (n - length ls) (blanks 41) ≡ fill n ls
unfolding fill
filled zero [] h = refl
filled zero (l ∷ ls) h = absurd (omega arith)
filled (suc n) [] h = let e : suc n - 0 ≡ suc (n - 0) = omega arith in rw e (ap (λ (w : List (List ℕ)). blanks 41 ∷ w) (filled n [] (omega arith)))
filled (suc n) (l ∷ ls) h = let e : suc n - suc (length ls) ≡ n - length ls = omega arith in rw e (ap (λ (w : List (List ℕ)). l ∷ w) (filled n ls (omega arith)))

lines-filled : (n : ℕ) (es : List Entry) → length es ≤ n → lines_text n es ≡ text (fill n (map line es))
unfolding lines_text
lines-filled n es h = ap text (filled n (map line es) (omega (arith, length-map es line)))

pub map-take : (n : ℕ) (es : List Entry) → map line (take n es) ≡ take n (map line es)
map-take zero es = refl
map-take (suc n) [] = refl
map-take (suc n) (e ∷ es) = ap (λ (ls : List (List ℕ)). line e ∷ ls) (map-take n es)

pub map-drop : (n : ℕ) (es : List Entry) → map line (drop n es) ≡ drop n (map line es)
map-drop zero es = refl
map-drop (suc n) [] = refl
map-drop (suc n) (e ∷ es) = map-drop n es

lines-taken : (n : ℕ) (es : List Entry) → lines_text n (take n es) ≡ text (fill n (map line es))
lines-taken n es =
    lines-filled n (take n es) (omega (arith, length-take n es))
    ∙ ap (λ (ls : List (List ℕ)). text (fill n ls)) (map-take n es)
    ∙ ap text (fill-take n (map line es))

-- the first m lines of entries, and the n after them
pub lines-parts : (m n : ℕ) (es : List Entry) → lines_text m (take m es) ++ lines_text n (take n (drop m es)) ≡ lines_text (m + n) (take (m + n) es)
lines-parts m n es =
    ap₂ (λ (a b : List ℕ). a ++ b) (lines-taken m es) (lines-taken n (drop m es) ∙ ap (λ (ls : List (List ℕ)). text (fill n ls)) (map-drop m es))
    ∙ sym (text-append (fill m (map line es)) (fill n (drop m (map line es))))
    ∙ ap text (sym (fill-parts m n (map line es)))
    ∙ sym (lines-taken (m + n) es)

pub lines-zero : (es : List Entry) → lines_text 0 (take 0 es) ≡ []
unfolding lines_text concat
lines-zero es = refl

-- ---- a page

-- the head and the lines are the page
page-made : (number : ℕ) (es : List Entry) → (feed (aligned 41 number) ++ feed (replicate 41 45)) ++ lines_text 50 es ≡ page number (map line es)
unfolding page page_lines lines_text concat
page-made number es = append_assoc (feed (aligned 41 number)) (feed (replicate 41 45)) (lines_text 50 es)

-- the entries in bytes are at most as many as their space has
pub count-few : (s : List ℕ) → length s ≤ 180 → length (entries_in s) ≤ 10
unfolding entries_in
count-few s h = omega (arith, count-from (length s / entry_size) s)

head-length : (number : ℕ) → number < 2 ^ 32 → length (feed (aligned 41 number) ++ feed (replicate 41 45)) ≡ 84
unfolding feed
head-length number h =
    omega (arith, length-append (feed (aligned 41 number)) (feed (replicate 41 45)), length-append (aligned 41 number) (10 ∷ []), (fitting number h).size)

-- the head is put, and the lines after it
pub put-page-made : (number : ℕ) (es : List Entry) (out first ys : List ℕ) → number < 2 ^ 32 → length es ≤ 50 → Each Fits es → 2184 ≤ length out
    → first ≡ feed (aligned 41 number) ++ feed (replicate 41 45) ++ drop 84 out → ys ≡ lines_text 50 es ++ drop 2100 (take (length first - 84) (drop 84 first))
    → take 84 first ++ (ys ++ drop (length first - 84) (drop 84 first)) ≡ page number (map line es) ++ drop 2184 out
put-page-made number es out first ys h few fit room e y =
    let head : Put (feed (aligned 41 number) ++ feed (replicate 41 45)) out first 84 =
    put_of _ out first 84 84 (head-length number h) (omega arith) refl e in
    let q = put-more head (put_of (lines_text 50 es) _ ys 2100 2100 (lines-length 50 es few fit) (omega (arith, rest-length head)) refl y) in
    q.is ∙ ap (λ (w : List ℕ). w ++ drop 2184 out) (page-made number es)
