-- Where the lines for entries stand in the pages.
-- Assumes nothing.
use Prim.Native.Nat.{ℕ, zero, suc, ◌+◌, ◌-◌, ◌*◌, ◌/◌, ◌%◌, ◌≤◌, ◌<◌}
use mathlib.Core.Bool.{Bool, true, false}
use mathlib.Core.List.{List, [], ◌∷◌, ◌++◌, map, append_assoc}
use mathlib.Core.Path.{◌≡◌, refl, ap, ◌∙◌}
use native.Mathlib.Omega.{arith}
use lib.Dec.{ltb}
use lib.ListN.{length, get_or, take, drop, length-take, get_or-append}
use lib.Seq.{drop-append-add, take_at, get_or-append-add, get_or-drop, get_or-take}
use borrow.Author.Tests.{ltb-true, ltb-false}
use Rattle.bits.specs.Bits.{concat}
use Rattle.calendar.specs.Calendar.{minute_count}
use Rattle.format.specs.Entry.{Entry}
use Rattle.page_rules.specs.Page.{lines_per_page, blanks, line, page_lines, feed, page_count, pages}
use Rattle.page_rules.specs.Printing.{entries_of}
use Rattle.page_rules.specs.Theorems.{Each, Fits, EntriesFit, EntryLines}
use Rattle.page_rules.proofs.Lines.{every-line, Line, Lines, line-entry, text, length-feed, get_or-filled}
use Rattle.page_rules.proofs.Pages.{count-page, take-few, lines_from, pages-text, lines-from, count-from, few-pages}

fed : (l w : List ℕ) → feed l ++ w ≡ l ++ (10 ∷ w)
unfolding feed
fed l w = append_assoc l (10 ∷ []) w

-- line j of a text
line_at : (ls : List (List ℕ)) (j : ℕ) → Lines ls → j < length ls → take 41 (drop (42 * j) (text ls)) ≡ get_or ls j []
unfolding concat
line_at [] j h k = absurd (omega arith)
line_at (l ∷ ls) zero h k = ap (take 41) (fed l (text ls)) ∙ take_at l (10 ∷ text ls) 41 h.0.size
line_at (l ∷ ls) (suc j) h k =
    let n : 42 * suc j ≡ length (feed l) + 42 * j = omega (arith, length-feed l h.0) in
    let d : drop (42 * suc j) (feed l ++ text ls) ≡ drop (42 * j) (text ls) = rw n (drop-append-add (feed l) (text ls) (42 * j)) in
    ap (take 41) d ∙ line_at ls j h.1 (omega arith)

-- the place of line i among the lines of pages
abbrev place : ℕ → ℕ
place i = 52 * (i / lines_per_page) + (i % lines_per_page + 2)

line-in : (number : ℕ) (ls : List (List ℕ)) (i : ℕ) → i < lines_per_page
    → get_or (page_lines number (take lines_per_page ls)) (suc (suc i)) [] ≡ get_or ls i (blanks 41)
unfolding page_lines
line-in number ls i k =
    get_or-filled (take lines_per_page ls) (lines_per_page - length (take lines_per_page ls)) i (blanks 41) (omega (arith, length-take lines_per_page ls))
    ∙ get_or-take lines_per_page ls i (blanks 41) k

-- line i of those on pages stands after two of each page up to its own
place_at : (n number : ℕ) (ls : List (List ℕ)) (i : ℕ) → i < lines_per_page * n → get_or (lines_from n number ls) (place i) [] ≡ get_or ls i (blanks 41)
unfolding lines_from
place_at zero number ls i h = absurd (omega arith)
place_at (suc n) number ls i h = go (ltb i lines_per_page) refl (place_at n (suc number) (drop lines_per_page ls) (i - lines_per_page))
  where
    first : List (List ℕ)
    first = page_lines number (take lines_per_page ls)

    rest : List (List ℕ)
    rest = lines_from n (suc number) (drop lines_per_page ls)

    count : length first ≡ 52
    count = count-page number (take lines_per_page ls) (take-few lines_per_page ls)

    go : (t : Bool) → ltb i lines_per_page ≡ t
        → (i - lines_per_page < lines_per_page * n → get_or rest (place (i - lines_per_page)) [] ≡ get_or (drop lines_per_page ls) (i - lines_per_page) (blanks 41))
        → get_or (first ++ rest) (place i) [] ≡ get_or ls i (blanks 41)
    go true e r =
        let b : i < lines_per_page = ltb-true i lines_per_page e in
        let p : place i ≡ suc (suc i) = omega arith in
        rw (p, get_or-append first rest [] (suc (suc i)) (omega (arith, count))) (line-in number ls i b)
    go false e r =
        let b : lines_per_page ≤ i = ltb-false i lines_per_page e in
        let q : i / lines_per_page ≡ (i - lines_per_page) / lines_per_page + 1 = omega arith in
        let m : i % lines_per_page ≡ (i - lines_per_page) % lines_per_page = omega arith in
        let p : place i ≡ length first + place (i - lines_per_page) = omega (arith, count) in
        let s : lines_per_page + (i - lines_per_page) ≡ i = omega arith in
        rw (p, get_or-append-add first rest (place (i - lines_per_page)) [], r (omega arith), get_or-drop lines_per_page ls (i - lines_per_page) (blanks 41), s)

same-part : (size i j : ℕ) (w v : List ℕ) → i ≡ j → w ≡ v → take size (drop i w) ≡ take size (drop j v)
same-part size i j w v e t = rw (e, t)

-- line i of those for entries, counted from 0
line_of : (es : List Entry) → Each Fits es → length es ≤ minute_count → (i : ℕ) → i < lines_per_page * page_count (length es)
    → take 41 (drop (2184 * (i / lines_per_page) + 42 * (i % lines_per_page + 2)) (pages es)) ≡ get_or (map line es) i (blanks 41)
unfolding pages
line_of es h k i l =
    same-part 41 (2184 * (i / lines_per_page) + 42 * (i % lines_per_page + 2)) (42 * place i) (pages es) (text ls) (omega arith) (pages-text n 1 (map line es))
    ∙ line_at ls (place i) (lines-from n 1 (map line es) (few-pages (length es) k) (every-line Line line-entry es h)) (omega (arith, count-from n 1 (map line es)))
    ∙ place_at n 1 (map line es) i l
  where
    n : ℕ
    n = page_count (length es)

    ls : List (List ℕ)
    ls = lines_from n 1 (map line es)

pub entry-lines : EntriesFit → EntryLines
entry-lines r f i l = line_of (entries_of f) (r.fit f) (r.few f) i l
