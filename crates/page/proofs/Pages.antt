-- Pages put one after the other, each in parts of ten entries.
-- Assumes nothing.
use Prim.Native.Nat.{ℕ, suc, ◌+◌, ◌-◌, ◌*◌, ◌/◌, ◌^◌, ◌≤◌, ◌<◌}
use mathlib.Core.List.{List, [], ◌∷◌, ◌++◌, map, append-nil}
use mathlib.Core.Path.{◌≡◌, refl, sym, ap, ap₂, subst, ◌∙◌}
use native.Mathlib.Decide.{dec_lt}
use native.Mathlib.Omega.{arith}
use lib.ListN.{length, take, drop, replicate, length-drop, drop_of_length-le}
use lib.Seq.{take_all, take_at, take-add, drop_at, drop-drop}
use Rattle.bits.specs.Bits.{concat}
use Rattle.format.specs.Entry.{Entry, entry_size, entry_bytes}
use Rattle.format.specs.Questions.{start, after}
use Rattle.format.specs.declared.Due.{Due}
use Rattle.sequence.specs.Reading.{Found, stop, read_frames, seconds_of, bytes_of, due_after}
use Rattle.sequence.proofs.Kept.{sums}
use Rattle.sequence.proofs.Resume.{length-bytes}
use Rattle.sequence.proofs.Putting.{Put, put_of, rest-length, put-more}
use Rattle.entries.specs.declared.Summary.{Summary}
use Rattle.page_rules.specs.Page.{blanks, line, feed, page, pages_from, page_count, pages}
use Rattle.page_rules.specs.Printing.{read_on, read_all, entries_of, pages_of}
use Rattle.page_rules.specs.Theorems.{Each, Fits}
use Rattle.page_rules.proofs.Reading.{sized, PartOf, part_of, on-end}
use Rattle.page_rules.proofs.Entries.{each_fits, entries_fit}
use Rattle.page_rules.proofs.Pages.{pages-step, page-size, pages-length}
use Rattle.page_columns.proofs.Entries.{line_kept, fits_kept}
use Rattle.page.specs.Bytes.{entries_from, entries_in, lines_text}
use Rattle.page.specs.Rest.{page_entries, rest_after}
use Rattle.page.specs.declared.Rest.{Rest}
use Rattle.page.proofs.Lines.{map-take, map-drop, lines-length, lines-parts}
use Rattle.page.proofs.Parts.{part, Part}

-- ---- entries from their own bytes

first_entry : (e : Entry) (w : List ℕ) → (take entry_size (entry_bytes e ++ w) ≡ entry_bytes e) × (drop entry_size (entry_bytes e ++ w) ≡ w)
unfolding entry_bytes
first_entry e w = (refl, refl)

lines-from : (es : List Entry) → Each Fits es → map line (entries_from (length es) (bytes_of es)) ≡ map line es
unfolding entries_from bytes_of concat
lines-from [] h = refl
lines-from (e ∷ es) h =
    let s = first_entry e (bytes_of es) in
    rw (s.0, s.1, line_kept e (omega (arith, h.0.minute))) (ap (λ (ls : List (List ℕ)). line e ∷ ls) (lines-from es h.1))

fits-from : (es : List Entry) → Each Fits es → Each Fits (entries_from (length es) (bytes_of es))
unfolding entries_from bytes_of concat
fits-from [] h = tt
fits-from (e ∷ es) h = let s = first_entry e (bytes_of es) in rw (s.0, s.1) (fits_kept e h.0, fits-from es h.1)

module _ (es : List Entry) (s : List ℕ) (is : s ≡ bytes_of es) where
  count : length s / entry_size ≡ length es
  count = omega (arith, ap length is, length-bytes es)

  pub lines-in : Each Fits es → map line (entries_in s) ≡ map line es
  unfolding entries_in
  lines-in h = rw (count, is) (lines-from es h)

  pub fits_in : Each Fits es → Each Fits (entries_in s)
  unfolding entries_in
  fits_in h = rw (count, is) (fits-from es h)

-- lines that are alike have the same text
lines_same : (n : ℕ) (a b : List Entry) → map line a ≡ map line b → lines_text n a ≡ lines_text n b
unfolding lines_text
lines_same n a b e = ap (λ (ls : List (List ℕ)). concat (map feed (ls ++ replicate (n - length ls) (blanks 41)))) e

pub ten : (i : ℕ) → i * 10 + 10 ≡ (i + 1) * 10
ten i = omega arith

-- ---- the next n entries

-- reading from a state on finds the entries es from entry k on, and accepts them
pub record Going (k : ℕ) (due : Due) (f : List ℕ) (es : List Entry) : Type 0 where
  pub rest : (read_on due f).entries ≡ drop k es
  pub accepted : (read_on due f).refusal ≡ 0

module _ (n k : ℕ) (d : Due) (f : List ℕ) (es : List Entry) (p : Going k d f es) where
  abbrev r : Found
  r = read_frames n d f

  abbrev later : List Entry
  later = (read_on r.due (drop r.used f)).entries

  parts : PartOf n d f r
  parts = part_of n d f p.accepted

  -- where no bits are left there is no other entry
  nothing_left : r.used ≡ length f → later ≡ []
  unfolding stop
  nothing_left h =
      let e : drop r.used f ≡ [] = drop_of_length-le f {i = r.used} (omega arith) in
      ap (λ (g : List ℕ). (read_on r.due g).entries) e ∙ ap (λ (x : Found). x.entries) (on-end r.due)

  split : drop k es ≡ r.entries ++ later
  split = sym p.rest ∙ parts.split

  -- the entries that are read are the next n, and those after them are left
  cut : (take n (drop k es) ≡ r.entries) × (drop n (drop k es) ≡ later)
  cut = elim (dec_lt r.used (length f)) [
    | yes h ↦ (
      ap (take n) split ∙ take_at r.entries later n (parts.full-part h),
      ap (drop n) split ∙ drop_at r.entries later n (parts.full-part h),
    )
    | no h ↦
        let z = nothing_left (omega (arith, (sized n d f).within)) in
        let e : drop k es ≡ r.entries = split ∙ rw z (append-nil r.entries) in (
          ap (take n) e ∙ take_all n r.entries (sized n d f).slots,
          ap (drop n) e ∙ drop_of_length-le r.entries {i = n} (sized n d f).slots ∙ sym z,
        )
  ]

  -- where bits are left a frame is taken
  used-some : 0 < n → 0 < length f → 0 < r.used
  used-some slots some = elim (dec_lt 0 r.used) [
    | yes h ↦ h
    | no h ↦ absurd (omega (arith, parts.full-part (omega arith), (sized n d f).long))
  ]

  -- the bits that are used are those of the next n entries, and the state is that after them
  next-sums : (r.used ≡ seconds_of (take n (drop k es))) × (r.due ≡ due_after d (take n (drop k es)))
  next-sums =
      let s = sums n d f in
      (s.0 ∙ ap seconds_of (sym cut.0), s.1 ∙ ap (due_after d) (sym cut.0))

-- ---- what is left after the first k entries

-- the bits of entries and of others after them, and the state after both
seconds-append : (a b : List Entry) → seconds_of (a ++ b) ≡ seconds_of a + seconds_of b
unfolding seconds_of
seconds-append [] b = omega arith
seconds-append (e ∷ a) b = omega (arith, seconds-append a b)

due-append : (d : Due) (a b : List Entry) → due_after d (a ++ b) ≡ due_after (due_after d a) b
unfolding due_after
due-append d [] b = refl
due-append d (e ∷ a) b = due-append (after d e) a b

-- so many bits are used, and this is the state
abbrev pub rest : ℕ → Due → Rest
rest used due = record { used = used; due = due }

-- the bits of the first k entries are used, and the state is that after them
abbrev pub rest_from : ℕ → Due → List ℕ → Rest
rest_from k d f = rest (seconds_of (take k (read_on d f).entries)) (due_after d (take k (read_on d f).entries))

-- where r is left after k entries: its bits and its state give the other entries
pub record RestAfter (k : ℕ) (d : Due) (f : List ℕ) (r : Rest) : Type 0 where
  pub within : r.used ≤ length f
  pub some : 0 < k → 0 < length f → 0 < r.used
  pub going : Going k r.due (drop r.used f) (read_on d f).entries

module _ (k : ℕ) (d : Due) (f : List ℕ) (z : (read_on d f).refusal ≡ 0) where
  abbrev whole : List Entry
  whole = (read_on d f).entries

  none_read : Going 0 d f whole
  none_read = record { rest = refl; accepted = z }

  -- the first k entries are those that are read with space for k
  read_first : take k whole ≡ (read_frames k d f).entries
  read_first = (cut k 0 d f whole none_read).0

  pub rest_from_lem : RestAfter k d f (rest_from k d f)
  rest_from_lem =
      let q = next-sums k 0 d f whole none_read in
      subst (RestAfter k d f) (ap₂ rest q.0 q.1)
      (record {
        within = (sized k d f).within;
        some = used-some k 0 d f whole none_read;
        going = record { rest = sym (cut k 0 d f whole none_read).1; accepted = (parts k 0 d f whole none_read).accepted-on };
      })

  -- n entries more, whose bits and state come from the call
  pub rest_more : (n used later : ℕ) (due next : Due) → rest used due ≡ rest_from k d f
      → later ≡ (read_frames n due (drop used f)).used → next ≡ (read_frames n due (drop used f)).due
      → rest (used + later) next ≡ rest_from (k + n) d f
  rest_more n used later due next e hu hd =
      let q = next-sums n k due (drop used f) whole (subst (RestAfter k d f) (sym e) rest_from_lem).going in
      let t = sym (take-add k n whole) in
      let u : used + later ≡ seconds_of (take k whole) + seconds_of (take n (drop k whole)) =
      ap₂ (λ (a b : ℕ). a + b) (ap (λ (r : Rest). r.used) e) (hu ∙ q.0) in
      let s : next ≡ due_after (due_after d (take k whole)) (take n (drop k whole)) =
      hd ∙ q.1 ∙ ap (λ (r : Rest). due_after r.due (take n (drop k whole))) e in
      ap₂ rest (u ∙ sym (seconds-append (take k whole) (take n (drop k whole))) ∙ ap seconds_of t)
      (s ∙ sym (due-append d (take k whole) (take n (drop k whole))) ∙ ap (due_after d) t)

-- ---- a part of ten entries

module _ (k : ℕ) (d : Due) (f : List ℕ) (es : List Entry) (p : Going k d f es) where
  fit : Each Fits (part d f).entries
  fit = each_fits 10 d f

  -- its lines, after those of the parts before it
  part-lines : (i : ℕ) → k ≡ i * 10
      → lines_text (i * 10) (take (i * 10) es) ++ lines_text 10 (part d f).entries ≡ lines_text ((i + 1) * 10) (take ((i + 1) * 10) es)
  part-lines i hk =
      ap (λ (w : List Entry). lines_text (i * 10) (take (i * 10) es) ++ lines_text 10 w)
      (sym (cut 10 k d f es p).0 ∙ ap (λ (j : ℕ). take 10 (drop j es)) hk)
      ∙ lines-parts (i * 10) 10 es
      ∙ ap (λ (j : ℕ). lines_text j (take j es)) (ten i)

  -- the lines of the part put after those of the parts before it, from the bytes s of its entries
  pub put-next-part : (i : ℕ) (s out₀ out ys : List ℕ) → k ≡ i * 10 → s ≡ bytes_of (part d f).entries
      → Put (lines_text (i * 10) (take (i * 10) es)) out₀ out (i * 420)
      → 420 ≤ length (take (length out - i * 420) (drop (i * 420) out))
      → ys ≡ lines_text 10 (entries_in s) ++ drop 420 (take (length out - i * 420) (drop (i * 420) out))
      → Put (lines_text ((i + 1) * 10) (take ((i + 1) * 10) es)) out₀
      (take (i * 420) out ++ (ys ++ drop (length out - i * 420) (drop (i * 420) out))) ((i + 1) * 420)
  put-next-part i s out₀ out ys hk is q room y =
      let new = (part d f).entries in
      let size : length (lines_text 10 new) ≡ 420 = lines-length 10 new (sized 10 d f).slots fit in
      let z = y ∙ ap (λ (w : List ℕ). w ++ drop 420 (take (length out - i * 420) (drop (i * 420) out)))
      (lines_same 10 (entries_in s) new (lines-in new s is fit)) in
      let n : i * 420 + 420 ≡ (i + 1) * 420 = omega arith in
      let m = put-more q (put_of (lines_text 10 new) _ ys 420 420 size room refl z) in
      rw (part-lines i hk, n) at m

-- the bytes of a part's entries, at the front of the space
pub prefix-bytes : (d : Due) (f first later : List ℕ) (s : Summary) → Part d f first later s
    → (take (s.entries * 18) later ≡ bytes_of (part d f).entries) × (s.entries * 18 ≤ 180)
prefix-bytes d f first later s p =
    let es = (part d f).entries in
    let l : length (bytes_of es) ≡ s.entries * 18 = omega (arith, length-bytes es, p.entries) in (
      ap (take (s.entries * 18)) p.space ∙ take_at (bytes_of es) _ (s.entries * 18) l,
      omega (arith, p.entries, (sized 10 d f).slots),
    )

-- ---- pages

-- a page has at most 50 entries, whose numbers fit
pub page-entries : (d : Due) (f : List ℕ) → (read_on d f).refusal ≡ 0 → (length (page_entries d f) ≤ 50) × Each Fits (page_entries d f)
unfolding page_entries
page-entries d f z =
    subst (λ (es : List Entry). (length es ≤ 50) × Each Fits es) (sym (read_first 50 d f z)) ((sized 50 d f).slots, each_fits 50 d f)

-- what is left after a page gives the other entries
pub rest-after : (d : Due) (f : List ℕ) → (read_on d f).refusal ≡ 0 → RestAfter 50 d f (rest_after d f)
unfolding page_entries rest_after
rest-after d f z = rest_from_lem 50 d f z

-- k pages of the entries es are printed, and reading on finds the rest of them
pub record Printing (k : ℕ) (due : Due) (f : List ℕ) (es : List Entry) : Type 0 where
  pub going : Going (50 * k) due f es
  pub within : k ≤ page_count (length es)

pub printing-none : (f : List ℕ) → (read_all f).refusal ≡ 0 → Printing 0 start f (entries_of f)
unfolding read_all
printing-none f z = record { going = record { rest = refl; accepted = z }; within = omega arith }

pub printed-all : (k : ℕ) (due : Due) (f : List ℕ) (es : List Entry) → f ≡ [] → Printing k due f es → pages_from k 1 (map line es) ≡ pages es
unfolding pages stop
printed-all k due f es e p =
    let n : read_on due f ≡ stop due 0 = ap (read_on due) e ∙ on-end due in
    let l : length es ≤ 50 * k = omega (arith, ap (λ (r : Found). length r.entries) n, ap length p.going.rest, length-drop (50 * k) es) in
    let c : k ≡ page_count (length es) = omega (arith, p.within) in
    ap (λ (j : ℕ). pages_from j 1 (map line es)) c

-- an accepted reading of some bits has an entry
some-entry : (d : Due) (f : List ℕ) → (read_on d f).refusal ≡ 0 → 0 < length f → 0 < length (read_on d f).entries
unfolding read_on
some-entry d f z h =
    let s = sized (length f) d f in
    elim (dec_lt 0 (length (read_frames (length f) d f).entries)) [
      | yes l ↦ l
      | no l ↦ absurd (omega (arith, s.none (omega arith), s.whole z))
    ]

module _ (k : ℕ) (d : Due) (f : List ℕ) (es : List Entry) (p : Printing k d f es) (some : 0 < length f) where
  pub page-within : k + 1 ≤ page_count (length es)
  page-within = omega (arith, some-entry d f p.going.accepted some, ap length p.going.rest, length-drop (50 * k) es)

  -- the page of the next entries is the next page
  next-page : pages_from k 1 (map line es) ++ page (k + 1) (map line (page_entries d f)) ≡ pages_from (k + 1) 1 (map line es)
  unfolding page_entries
  next-page =
      let m : map line (take 50 (read_on d f).entries) ≡ take 50 (drop (50 * k) (map line es)) =
      map-take 50 (read_on d f).entries ∙ ap (take 50) (ap (map line) p.going.rest ∙ map-drop (50 * k) es) in
      let a : suc k ≡ k + 1 = omega arith in
      let b : 1 + k ≡ k + 1 = omega arith in
      rw m (sym (rw (b, a) at (pages-step k 1 (map line es))))

  pub printing-next : (r : Rest) (g : List ℕ) → RestAfter 50 d f r → g ≡ drop r.used f → Printing (k + 1) r.due g es
  printing-next r g a e =
      let m : 50 * k + 50 ≡ 50 * (k + 1) = omega arith in
      let h : (read_on r.due (drop r.used f)).entries ≡ drop (50 * (k + 1)) es =
      a.going.rest ∙ ap (drop 50) p.going.rest ∙ drop-drop 50 (50 * k) es ∙ ap (λ (j : ℕ). drop j es) m in
      rw e (record { going = record { rest = h; accepted = a.going.accepted }; within = page-within })

  -- page k + 1 put after those before it
  pub put-next-page : (number at : ℕ) (out₀ out ys : List ℕ) → number ≡ k + 1 → number < 2 ^ 32 → Put (pages_from k 1 (map line es)) out₀ out at
      → 2184 ≤ length (take (length out - at) (drop at out)) → ys ≡ page number (map line (page_entries d f)) ++ drop 2184 (take (length out - at) (drop at out))
      → Put (pages_from (k + 1) 1 (map line es)) out₀ (take at out ++ (ys ++ drop (length out - at) (drop at out))) (at + 2184)
  put-next-page number at out₀ out ys e small q room y =
      let t = page-entries d f p.going.accepted in
      let size : length (page number (map line (page_entries d f))) ≡ 2184 = page-size number (page_entries d f) small t.1 t.0 in
      let z : pages_from k 1 (map line es) ++ page number (map line (page_entries d f)) ≡ pages_from (k + 1) 1 (map line es) = rw e next-page in
      subst (λ (w : List ℕ). Put w out₀ (take at out ++ (ys ++ drop (length out - at) (drop at out))) (at + 2184)) z
      (put-more q (put_of (page number (map line (page_entries d f))) _ ys 2184 2184 size room refl y))

-- there is room for the next page
pub next-room : (k at : ℕ) (f out₀ out : List ℕ) → length (pages_of f) ≤ length out₀ → k + 1 ≤ page_count (length (entries_of f)) → at ≡ 2184 * k
    → Put (pages_from k 1 (map line (entries_of f))) out₀ out at → 2184 ≤ length (take (length out - at) (drop at out))
next-room k at f out₀ out h w e p =
    omega (arith, rest-length p, pages-length (entries_of f) (entries_fit.fit f) (entries_fit.few f))

pub number_small : (k : ℕ) (f : List ℕ) → k ≤ page_count (length (entries_of f)) → k < 2 ^ 31
number_small k f h = omega (arith, entries_fit.few f)
