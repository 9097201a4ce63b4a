-- The line of an entry whose numbers fit has 41 characters, and no line feed among them; the text of lines, each with its line feed.
-- Assumes nothing.
use Prim.Native.Nat.{ℕ, zero, suc, ◌+◌, ◌-◌, ◌*◌, ◌%◌, ◌^◌, ◌≤◌, ◌<◌}
use mathlib.Core.Bool.{Bool, true, false}
use mathlib.Core.List.{List, [], ◌∷◌, ◌++◌, map}
use mathlib.Core.Logic.{◌↔◌}
use mathlib.Core.Path.{◌≡◌, refl, ap, ◌∙◌}
use native.Mathlib.Omega.{arith}
use lib.Dec.{eqb, ltb}
use lib.ListN.{length, get_or, take, drop, replicate, length-append, length-replicate, get_or-append}
use lib.Seq.{get_or-append-add, get_or_at}
use borrow.Author.Tests.{leb-true, ltb-true, ltb-false}
use Rattle.bits.specs.Bits.{pick, bits, all, concat}
use Rattle.bits.proofs.Tests.{all-at}
use Rattle.decimal.proofs.RoundTrip.{all_append}
use Rattle.decimal.specs.Decimal.{digits}
use Rattle.calendar.specs.declared.Date.{Date}
use Rattle.format.specs.Entry.{Entry}
use Rattle.page_rules.specs.Page.{line_width, blanks, aligned, date_text, time_text, bits_text, leap_text, time_columns, message_columns, columns_of, spaced}
use Rattle.page_rules.specs.Page.{line, feed}
use Rattle.page_rules.specs.Printing.{entries_of}
use Rattle.page_rules.specs.Theorems.{Each, Fits, EntriesFit, LineSize}
use Rattle.page_rules.proofs.Cells.{aligned-length, is_visible, visible-one, visible-many, visible-digits, visible-aligned}

-- ---- lists of texts, each of which is so

abbrev pub Every : (List ℕ → Type 0) → List (List ℕ) → Type 0
Every P [] = Unit {0}
Every P (l ∷ ls) = P l × Every P ls

module _ (P : List ℕ → Type 0) where
  pub every_append : (a b : List (List ℕ)) → Every P a → Every P b → Every P (a ++ b)
  every_append [] b h k = k
  every_append (l ∷ a) b h k = (h.0, every_append a b h.1 k)

  pub every-many : (n : ℕ) (l : List ℕ) → P l → Every P (replicate n l)
  every-many zero l h = tt
  every-many (suc n) l h = (h, every-many n l h)

  pub every_take : (n : ℕ) (ls : List (List ℕ)) → Every P ls → Every P (take n ls)
  every_take zero ls h = tt
  every_take (suc n) [] h = tt
  every_take (suc n) (l ∷ ls) h = (h.0, every_take n ls h.1)

  pub every_drop : (n : ℕ) (ls : List (List ℕ)) → Every P ls → Every P (drop n ls)
  every_drop zero ls h = h
  every_drop (suc n) [] h = tt
  every_drop (suc n) (l ∷ ls) h = every_drop n ls h.1

  -- the lines of entries that fit
  pub every-line : ((e : Entry) → Fits e → P (line e)) → (es : List Entry) → Each Fits es → Every P (map line es)
  every-line f [] h = tt
  every-line f (e ∷ es) h = (f e h.0, every-line f es h.1)

-- ---- the columns of a line: their widths

leap-length : (n : ℕ) → length (leap_text n) ≡ 1
unfolding leap_text
leap-length zero = refl
leap-length (suc zero) = refl
leap-length (suc (suc n)) = refl

abbrev widths : List ℕ
widths = 8 ∷ 10 ∷ 5 ∷ 2 ∷ 2 ∷ 1 ∷ 2 ∷ 2 ∷ 1 ∷ []

pub column-widths : (e : Entry) → Fits e → map length (columns_of e) ≡ widths
unfolding columns_of time_columns message_columns date_text time_text bits_text bits digits blanks
column-widths e h = go (eqb e.message 0)
  where
    minute : length (aligned 8 e.minute) ≡ 8
    minute = aligned-length 7 e.minute (omega (arith, h.minute))

    seconds : length (aligned 2 e.seconds) ≡ 2
    seconds = aligned-length 1 e.seconds h.seconds

    go : (t : Bool)
        → length (aligned 8 e.minute) ∷ 10 ∷ 5 ∷ length (aligned 2 e.seconds) ∷ map length (pick t (time_columns e) message_columns) ≡ widths
    go true =
        rw (
          minute,
          seconds,
          leap-length e.leap,
          aligned-length 1 e.row h.row,
          aligned-length 1 e.place h.place,
          aligned-length 0 e.echo h.echo,
        )
    go false = rw (minute, seconds)

-- the length of columns with one space between, by their widths
unfoldable spaced_size : List ℕ → ℕ
spaced_size [] = 0
spaced_size (w ∷ []) = w
spaced_size (w ∷ v ∷ ws) = w + 1 + spaced_size (v ∷ ws)

length-spaced : (cs : List (List ℕ)) → length (spaced cs) ≡ spaced_size (map length cs)
unfolding spaced spaced_size
length-spaced [] = refl
length-spaced (c ∷ []) = refl
length-spaced (c ∷ d ∷ cs) =
    omega (arith, length-append (c ++ (32 ∷ [])) (spaced (d ∷ cs)), length-append c (32 ∷ []), length-spaced (d ∷ cs))

pub fits_line : (e : Entry) → Fits e → length (line e) ≡ 41
unfolding line spaced_size
fits_line e h = length-spaced (columns_of e) ∙ ap spaced_size (column-widths e h)

pub line-size : EntriesFit → LineSize
line-size r f = each (entries_of f) (r.fit f)
  where
    each : (es : List Entry) → Each Fits es → Each (λ e. length (line e) ≡ line_width) es
    each [] h = tt
    each (e ∷ es) h = (fits_line e h.0, each es h.1)

-- ---- the columns of a line: their characters

abbrev Visible : List ℕ → Type 0
Visible l = all is_visible l ≡ true

date-visible : (d : Date) → Visible (date_text d)
unfolding date_text
date-visible d = let dash : Visible (45 ∷ []) = visible-one 45 (omega arith) in search (all_append is_visible, visible-digits)

time-visible : (d : Date) → Visible (time_text d)
unfolding time_text
time-visible d = let colon : Visible (58 ∷ []) = visible-one 58 (omega arith) in search (all_append is_visible, visible-digits)

bits-visible : (n : ℕ) → Visible (bits_text n)
unfolding bits_text bits
bits-visible n = all_append is_visible (_ ∷ []) (_ ∷ []) (visible-one _ (omega arith)) (visible-one _ (omega arith))

leap-visible : (n : ℕ) → Visible (leap_text n)
unfolding leap_text
leap-visible zero = visible-one _ (omega arith)
leap-visible (suc zero) = visible-one _ (omega arith)
leap-visible (suc (suc n)) = visible-one _ (omega arith)

spaced-visible : (cs : List (List ℕ)) → Every Visible cs → Visible (spaced cs)
unfolding spaced
spaced-visible [] h = refl
spaced-visible (c ∷ []) h = h.0
spaced-visible (c ∷ d ∷ cs) h =
    let blank : Visible (32 ∷ []) = visible-one 32 (omega arith) in
    all_append is_visible (c ++ (32 ∷ [])) (spaced (d ∷ cs)) (all_append is_visible c (32 ∷ []) h.0 blank) (spaced-visible (d ∷ cs) h.1)

line-visible : (e : Entry) → Visible (line e)
unfolding line columns_of time_columns message_columns blanks
line-visible e = spaced-visible (columns_of e) all-visible
  where
    rest : (t : Bool) → Every Visible (pick t (time_columns e) message_columns)
    rest true = (bits-visible _, (leap-visible _, (visible-aligned 2 _, (visible-aligned 2 _, (visible-aligned 1 _, tt)))))
    rest false =
        let two : Visible (replicate 2 32) = visible-many 2 32 (omega arith) in
        (two, (visible-one _ (omega arith), (two, (two, (visible-one _ (omega arith), tt)))))

    all-visible : Every Visible (columns_of e)
    all-visible = (visible-aligned 8 _, (date-visible _, (time-visible _, (visible-aligned 2 _, rest (eqb e.message 0)))))

-- ---- lines

-- 41 visible characters or blanks
pub record Line (l : List ℕ) : Type 0 where
  pub size : length l ≡ 41
  pub visible : Visible l

abbrev pub Lines : List (List ℕ) → Type 0
Lines ls = Every Line ls

pub line-entry : (e : Entry) → Fits e → Line (line e)
line-entry e h = record { size = fits_line e h; visible = line-visible e }

pub line-many : (b : ℕ) → 32 ≤ b → Line (replicate 41 b)
line-many b h = record { size = length-replicate 41 b; visible = visible-many 41 b h }

pub line-number : (n : ℕ) → n < 10 ^ 41 → Line (aligned 41 n)
line-number n h = record { size = aligned-length 40 n h; visible = visible-aligned 41 n }

-- ---- the text of lines, each with its line feed

abbrev pub text : List (List ℕ) → List ℕ
text ls = concat (map feed ls)

pub length-feed : (l : List ℕ) → Line l → length (feed l) ≡ 42
unfolding feed
length-feed l h = omega (arith, length-append l (10 ∷ []), h.size)

pub length-text : (ls : List (List ℕ)) → Lines ls → length (text ls) ≡ 42 * length ls
unfolding concat
length-text [] h = refl
length-text (l ∷ ls) h = omega (arith, length-append (feed l) (text ls), length-feed l h.0, length-text ls h.1)

-- a line feed stands after the 41 characters, and nowhere else in a line
feed-at : (l : List ℕ) (i : ℕ) → Line l → i < 42 → get_or (feed l) i 0 ≡ 10 ↔ (i % 42 ≡ 41)
unfolding feed is_visible
feed-at l i h k = go (ltb i 41) refl
  where
    go : (t : Bool) → ltb i 41 ≡ t → get_or (l ++ (10 ∷ [])) i 0 ≡ 10 ↔ (i % 42 ≡ 41)
    go true e =
        let b : i < 41 = ltb-true i 41 e in
        let n : i < length l = omega (arith, h.size) in
        let v : 32 ≤ get_or l i 0 = leb-true 32 (get_or l i 0) (all-at is_visible l h.visible i n) in
        omega (arith, get_or-append l (10 ∷ []) 0 i n)
    go false e =
        let b : 41 ≤ i = ltb-false i 41 e in
        omega (arith, get_or_at l 10 [] 0 i (omega (arith, h.size)))

abbrev FeedAt : List ℕ → ℕ → Type 0
FeedAt w i = get_or w i 0 ≡ 10 ↔ (i % 42 ≡ 41)

pub text-feeds : (ls : List (List ℕ)) (i : ℕ) → Lines ls → i < length (text ls) → get_or (text ls) i 0 ≡ 10 ↔ (i % 42 ≡ 41)
unfolding concat
text-feeds [] i h k = omega arith
text-feeds (l ∷ ls) i h k = go (ltb i 42) refl (λ j b. text-feeds ls j h.1 b)
  where
    size : length (feed l) ≡ 42
    size = length-feed l h.0

    after : i ≡ length (feed l) + (i - 42) → get_or (feed l ++ text ls) i 0 ≡ get_or (text ls) (i - 42) 0
    after n = ap (λ (j : ℕ). get_or (feed l ++ text ls) j 0) n ∙ get_or-append-add (feed l) (text ls) (i - 42) 0

    go : (t : Bool) → ltb i 42 ≡ t → ((j : ℕ) → j < length (text ls) → FeedAt (text ls) j) → FeedAt (feed l ++ text ls) i
    go true e r =
        let b : i < 42 = ltb-true i 42 e in
        rw (get_or-append (feed l) (text ls) 0 i (omega (arith, size))) (feed-at l i h.0 b)
    go false e r =
        let b : 42 ≤ i = ltb-false i 42 e in
        let m : i % 42 ≡ (i - 42) % 42 = omega arith in
        rw (after (omega (arith, size)), m) (r (i - 42) (omega (arith, size, length-append (feed l) (text ls))))

-- ---- lines, filled up with others

pub get_or-filled : (ls : List (List ℕ)) (n i : ℕ) (d : List ℕ) → i < length ls + n → get_or (ls ++ replicate n d) i [] ≡ get_or ls i d
get_or-filled [] zero i d h = absurd (omega arith)
get_or-filled [] (suc n) zero d h = refl
get_or-filled [] (suc n) (suc i) d h = get_or-filled [] n i d (omega arith)
get_or-filled (l ∷ ls) n zero d h = refl
get_or-filled (l ∷ ls) n (suc i) d h = get_or-filled ls n i d (omega arith)
