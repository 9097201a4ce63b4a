-- Pages are lines: their number and length, where each page stands, and where the line feeds stand.
-- Assumes nothing.
use Prim.Native.Nat.{ℕ, zero, suc, ◌+◌, ◌-◌, ◌*◌, ◌%◌, ◌^◌, ◌≤◌, ◌<◌}
use mathlib.Core.List.{List, [], ◌∷◌, ◌++◌, map, append_assoc, append-nil}
use mathlib.Core.Logic.{◌↔◌}
use mathlib.Core.Path.{◌≡◌, refl, sym, ap, ◌∙◌}
use native.Mathlib.Bridge.{le_by_compare, IsLe}
use native.Mathlib.Nat.{le_trans, zero-add, add-zero, suc-add}
use native.Mathlib.Numerals.{add-one}
use native.Mathlib.Omega.{arith}
use lib.ListN.{length, get_or, take, drop, replicate, length-append, length-map, length-replicate, length-take}
use lib.Seq.{drop-drop, take-take, take_at, drop_at}
use Rattle.bits.specs.Bits.{concat}
use Rattle.calendar.specs.Calendar.{minute_count}
use Rattle.format.specs.Entry.{Entry}
use Rattle.page_rules.specs.Page.{lines_per_page, blanks, aligned, line, page_lines, feed, page, pages_from, page_count, pages}
use Rattle.page_rules.specs.Printing.{entries_of, pages_of}
use Rattle.page_rules.specs.Theorems.{Each, Fits, EntriesFit, PagesLaidOut}
use Rattle.page_rules.proofs.Lines.{every_append, every-many, every_take, every_drop, every-line, Line, Lines, line-entry, line-many, line-number}
use Rattle.page_rules.proofs.Lines.{text, length-feed, length-text, text-feeds}

-- ---- pages one after the other

-- some pages, and those after them
pages_split : (k j number : ℕ) (ls : List (List ℕ))
    → pages_from (k + j) number ls ≡ pages_from k number ls ++ pages_from j (number + k) (drop (lines_per_page * k) ls)
unfolding pages_from
pages_split zero j number ls = rw (zero-add j, add-zero number)
pages_split (suc k) j number ls = rw (suc-add k j, split (pages_split k j (suc number) (drop lines_per_page ls))) (sym (append_assoc p first last))
  where
    p : List ℕ
    p = page number (take lines_per_page ls)

    first : List ℕ
    first = pages_from k (suc number) (drop lines_per_page ls)

    last : List ℕ
    last = pages_from j (number + suc k) (drop (lines_per_page * suc k) ls)

    dropped : drop (lines_per_page * k) (drop lines_per_page ls) ≡ drop (lines_per_page * suc k) ls
    dropped =
        let n : lines_per_page + lines_per_page * k ≡ lines_per_page * suc k = omega arith in
        drop-drop (lines_per_page * k) lines_per_page ls ∙ ap (λ (i : ℕ). drop i ls) n

    split : {w : List ℕ} → w ≡ first ++ pages_from j (suc number + k) (drop (lines_per_page * k) (drop lines_per_page ls)) → w ≡ first ++ last
    split e = let n : suc number + k ≡ number + suc k = omega arith in rw (n, dropped) at e

-- a page and no more
one-page : (number : ℕ) (ls : List (List ℕ)) → pages_from 1 number ls ≡ page number (take lines_per_page ls)
unfolding pages_from
one-page number ls = append-nil (page number (take lines_per_page ls))

-- one page more
pub pages-step : (k number : ℕ) (ls : List (List ℕ))
    → pages_from (suc k) number ls ≡ pages_from k number ls ++ page (number + k) (take lines_per_page (drop (lines_per_page * k) ls))
pages-step k number ls = rw (← add-one k, pages_split k 1 number ls, one-page (number + k) (drop (lines_per_page * k) ls))

-- ---- the lines of pages

-- those of n pages
unfoldable pub lines_from : ℕ → ℕ → List (List ℕ) → List (List ℕ)
lines_from zero number ls = []
lines_from (suc n) number ls = page_lines number (take lines_per_page ls) ++ lines_from n (suc number) (drop lines_per_page ls)

pub text-append : (a b : List (List ℕ)) → text (a ++ b) ≡ text a ++ text b
unfolding concat
text-append [] b = refl
text-append (l ∷ a) b = ap (λ (w : List ℕ). feed l ++ w) (text-append a b) ∙ sym (append_assoc (feed l) (text a) (text b))

pub pages-text : (n number : ℕ) (ls : List (List ℕ)) → pages_from n number ls ≡ text (lines_from n number ls)
unfolding pages_from page lines_from concat
pages-text zero number ls = refl
pages-text (suc n) number ls =
    ap (λ (w : List ℕ). page number (take lines_per_page ls) ++ w) (pages-text n (suc number) (drop lines_per_page ls))
    ∙ sym (text-append (page_lines number (take lines_per_page ls)) (lines_from n (suc number) (drop lines_per_page ls)))

lines-page : (number : ℕ) (ls : List (List ℕ)) → Line (aligned 41 number) → Lines ls → Lines (page_lines number ls)
unfolding page_lines blanks
lines-page number ls n h =
    let rest : Lines (replicate (lines_per_page - length ls) (blanks 41)) = every-many Line (lines_per_page - length ls) (blanks 41) (line-many 32 (omega arith)) in
    (n, (line-many 45 (omega arith), every_append Line ls (replicate (lines_per_page - length ls) (blanks 41)) h rest))

pub count-page : (number : ℕ) (ls : List (List ℕ)) → length ls ≤ lines_per_page → length (page_lines number ls) ≡ 52
unfolding page_lines
count-page number ls h =
    omega (arith, length-append ls (replicate (lines_per_page - length ls) (blanks 41)), length-replicate (lines_per_page - length ls) (blanks 41))

page-length : (number : ℕ) (ls : List (List ℕ)) → Line (aligned 41 number) → Lines ls → length ls ≤ lines_per_page → length (page number ls) ≡ 2184
unfolding page
page-length number ls n h k = length-text (page_lines number ls) (lines-page number ls n h) ∙ ap (λ (c : ℕ). 42 * c) (count-page number ls k)

pub take-few : (n : ℕ) (ls : List (List ℕ)) → length (take n ls) ≤ n
take-few n ls = omega (arith, length-take n ls)

-- a page number that fits its line: there are never as many pages
pub fitting : (n : ℕ) → n < 2 ^ 32 → Line (aligned 41 n)
unfolding IsLe
fitting n h = line-number n (le_trans h (le_by_compare (2 ^ 32) (10 ^ 41) tt))

pub page-size : (number : ℕ) (es : List Entry) → number < 2 ^ 32 → Each Fits es → length es ≤ 50 → length (page number (map line es)) ≡ 2184
page-size number es n h k = page-length number (map line es) (fitting number n) (every-line Line line-entry es h) (rw (length-map es line) k)

pub lines-from : (n number : ℕ) (ls : List (List ℕ)) → number + n ≤ 10 ^ 8 → Lines ls → Lines (lines_from n number ls)
unfolding lines_from
lines-from zero number ls b h = tt
lines-from (suc n) number ls b h =
    let first = lines-page number (take lines_per_page ls) (fitting number (omega arith)) (every_take Line lines_per_page ls h) in
    let rest = lines-from n (suc number) (drop lines_per_page ls) (omega arith) (every_drop Line lines_per_page ls h) in
    every_append Line (page_lines number (take lines_per_page ls)) (lines_from n (suc number) (drop lines_per_page ls)) first rest

pub count-from : (n number : ℕ) (ls : List (List ℕ)) → length (lines_from n number ls) ≡ 52 * n
unfolding lines_from
count-from zero number ls = refl
count-from (suc n) number ls =
    omega (
      arith,
      length-append (page_lines number (take lines_per_page ls)) (lines_from n (suc number) (drop lines_per_page ls)),
      count-page number (take lines_per_page ls) (take-few lines_per_page ls),
      count-from n (suc number) (drop lines_per_page ls),
    )

length_from : (n number : ℕ) (ls : List (List ℕ)) → number + n ≤ 10 ^ 8 → Lines ls → length (pages_from n number ls) ≡ 2184 * n
length_from n number ls b h =
    rw (pages-text n number ls) (omega (arith, length-text (lines_from n number ls) (lines-from n number ls b h), count-from n number ls))

feeds-from : (n number : ℕ) (ls : List (List ℕ)) → number + n ≤ 10 ^ 8 → Lines ls → (i : ℕ) → i < length (pages_from n number ls)
    → get_or (pages_from n number ls) i 0 ≡ 10 ↔ (i % 42 ≡ 41)
feeds-from n number ls b h i l =
    let t = pages-text n number ls in
    rw t (text-feeds (lines_from n number ls) i (lines-from n number ls b h) (rw t at l))

-- a part of a text between two others
part_of : (size at : ℕ) (whole before part after : List ℕ) → whole ≡ before ++ (part ++ after) → length before ≡ at → length part ≡ size
    → take size (drop at whole) ≡ part
part_of size at whole before part after e h k = rw (e, drop_at before (part ++ after) at h, take_at part after size k)

-- page k, which has the number m
page-from : (n number k m : ℕ) (ls : List (List ℕ)) → number + n ≤ 10 ^ 8 → Lines ls → k < n → number + k ≡ m
    → take 2184 (drop (2184 * k) (pages_from n number ls)) ≡ page m (take lines_per_page (drop (lines_per_page * k) ls))
page-from n number k m ls b h l e =
    part_of 2184 (2184 * k) (pages_from n number ls) (pages_from k number ls) part after split (length_from k number ls (omega arith) h) size
  where
    rest : List (List ℕ)
    rest = drop (lines_per_page * k) ls

    part : List ℕ
    part = page m (take lines_per_page rest)

    after : List ℕ
    after = pages_from (n - suc k) (suc m) (drop lines_per_page rest)

    size : length part ≡ 2184
    size =
        let some : Lines (take lines_per_page rest) = every_take Line lines_per_page rest (every_drop Line (lines_per_page * k) ls h) in
        page-length m (take lines_per_page rest) (fitting m (omega arith)) some (take-few lines_per_page rest)

    split : pages_from n number ls ≡ pages_from k number ls ++ (part ++ after)
    split =
        let c : n ≡ k + suc (n - suc k) = omega arith in
        let s : pages_from (suc (n - suc k)) m rest ≡ part ++ after = unfold pages_from in refl in
        ap (λ (i : ℕ). pages_from i number ls) c ∙ pages_split k (suc (n - suc k)) number ls ∙ rw (e, s)

-- ---- the pages of entries

-- no more entries than there are minutes in the range
pub few-pages : (n : ℕ) → n ≤ minute_count → 1 + page_count n ≤ 10 ^ 8
few-pages n h = omega arith

pub pages-length : (es : List Entry) → Each Fits es → length es ≤ minute_count → length (pages es) ≡ 2184 * page_count (length es)
unfolding pages
pages-length es h k = let b = few-pages (length es) k in length_from _ _ _ (omega arith) (every-line Line line-entry es h)

-- the first two lines of a page
page-head : (number : ℕ) (ls : List (List ℕ)) → number < 2 ^ 32 → take 84 (page number ls) ≡ feed (aligned 41 number) ++ feed (replicate 41 45)
unfolding page page_lines concat
page-head number ls h =
    let a = feed (aligned 41 number) in
    let b = feed (replicate 41 45) in
    ap (take 84) (sym (append_assoc a b (text (ls ++ replicate (lines_per_page - length ls) (blanks 41)))))
    ∙ take_at (a ++ b) _ 84 (omega (arith, length-append a b, length-feed (aligned 41 number) (fitting number h), length-feed (replicate 41 45) (line-many 45 (omega arith))))

pub pages-laid-out : EntriesFit → PagesLaidOut
unfolding pages
pages-laid-out r f =
    let b = few-pages (length (entries_of f)) (r.few f) in
    let h : Lines (map line (entries_of f)) = every-line Line line-entry (entries_of f) (r.fit f) in
    record {
      size = pages-length (entries_of f) (r.fit f) (r.few f);
      head_at = λ k l.
          sym (take-take 84 2184 (drop (2184 * k) (pages_of f)) (omega arith))
          ∙ ap (take 84) (page-from _ _ k _ _ (omega arith) h l (omega arith))
          ∙ page-head (k + 1) _ (omega arith);
      page-at = λ k l. page-from _ _ k _ _ (omega arith) h l (omega arith);
      line-feeds = feeds-from _ _ _ (omega arith) h;
    }
