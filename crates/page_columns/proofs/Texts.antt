-- The columns of a line, character by character.
-- Assumes nothing.
use Prim.Native.Nat.{ℕ, zero, suc, ◌+◌, ◌-◌, ◌/◌, ◌%◌, ◌≤◌, ◌<◌}
use mathlib.Core.Bool.{Bool, true, false}
use mathlib.Core.List.{List, [], ◌∷◌, ◌++◌, append_assoc}
use mathlib.Core.Path.{◌≡◌, refl, sym}
use native.Mathlib.Nat.{div-div-eq-div-mul}
use native.Mathlib.Omega.{arith}
use lib.Dec.{eqb}
use lib.ListN.{replicate, replicate-append-replicate}
use Rattle.bits.specs.Bits.{pick, bit, bits}
use Rattle.decimal.specs.Decimal.{width, digits, decimal}
use Rattle.decimal.proofs.Laws.{width-le}
use Rattle.calendar.specs.Calendar.{date_at}
use Rattle.calendar.specs.declared.Date.{Date}
use Rattle.format.specs.Entry.{Entry}
use Rattle.page_rules.specs.Page.{blanks, aligned, date_text, time_text, bits_text, leap_text, time_columns, message_columns, columns_of, spaced, line, feed}
use Rattle.page_rules.specs.Theorems.{Fits}
use Rattle.page_columns.proofs.Cells.{blank_digits, aligned-cells}

-- a list by its elements
pub next : {a b : ℕ} {s t : List ℕ} → a ≡ b → s ≡ t → a ∷ s ≡ b ∷ t
next p q = cc

-- ---- columns

-- the last digit of what is left of a number, or a blank
abbrev cell : ℕ → ℕ
cell left = pick (eqb left 0) 32 (48 + left % 10)

pub aligned-2 : (n : ℕ) → n < 100 → aligned 2 n ≡ cell (n / 10) ∷ (48 + n % 10) ∷ []
unfolding blank_digits
aligned-2 n h = aligned-cells 1 n h

-- more columns on the left
aligned-wider : (c d n : ℕ) → width n ≤ d → aligned (c + d) n ≡ blanks c ++ aligned d n
unfolding aligned blanks
aligned-wider c d n h =
    let e : c + d - width n ≡ c + (d - width n) = omega arith in
    rw (e, ← replicate-append-replicate {A = ℕ} c (d - width n) 32) (append_assoc (replicate c 32) (replicate (d - width n) 32) (decimal n))

digits_2 : (n : ℕ) → digits 2 n ≡ (48 + n / 10 % 10) ∷ (48 + n % 10) ∷ []
unfolding digits
digits_2 n = refl

digits_4 : (n : ℕ) → digits 4 n ≡ (48 + n / 1000 % 10) ∷ (48 + n / 100 % 10) ∷ (48 + n / 10 % 10) ∷ (48 + n % 10) ∷ []
unfolding digits
digits_4 n = simp div-div-eq-div-mul

pub moment-is : (d : Date)
    → (48 + d.year / 1000 % 10) ∷ (48 + d.year / 100 % 10) ∷ (48 + d.year / 10 % 10) ∷ (48 + d.year % 10) ∷ 45
    ∷ (48 + d.month / 10 % 10) ∷ (48 + d.month % 10) ∷ 45 ∷ (48 + d.day / 10 % 10) ∷ (48 + d.day % 10) ∷ 32
    ∷ (48 + d.hour / 10 % 10) ∷ (48 + d.hour % 10) ∷ 58 ∷ (48 + d.minute / 10 % 10) ∷ (48 + d.minute % 10) ∷ 32 ∷ []
    ≡ date_text d ++ (32 ∷ []) ++ time_text d ++ (32 ∷ [])
unfolding date_text time_text
moment-is d = rw (digits_4 d.year, digits_2 d.month, digits_2 d.day, digits_2 d.hour, digits_2 d.minute)

bits_is : (n : ℕ) → bits_text n ≡ (48 + n / 2 % 2) ∷ (48 + n % 2) ∷ []
unfolding bits_text bits bit
bits_is n = let z : n / 1 ≡ n = omega arith in rw z

echo-is : (n : ℕ) → n < 10 → aligned 1 n ≡ (48 + n % 10) ∷ []
unfolding blank_digits
echo-is n h = aligned-cells 0 n h

-- the sign of a leap state above 1
pub plus-is : (n : ℕ) → (n ≡ 0 → ⊥) → (n ≡ 1 → ⊥) → 43 ∷ [] ≡ leap_text n
unfolding leap_text
plus-is zero h k = absurd (h refl)
plus-is (suc zero) h k = absurd (k refl)
plus-is (suc (suc n)) h k = refl

-- ---- the columns after the length

pub time-is : (e : Entry) (sign row place echo : ℕ) → Fits e → sign ∷ [] ≡ leap_text e.leap → row ≡ e.row → place ≡ e.place → echo ≡ e.echo
    → (48 + e.daylight / 2 % 2) ∷ (48 + e.daylight % 2) ∷ 32 ∷ sign ∷ 32 ∷ cell (row / 10) ∷ (48 + row % 10)
    ∷ 32 ∷ cell (place / 10) ∷ (48 + place % 10) ∷ 32 ∷ (48 + echo % 10) ∷ 10 ∷ []
    ≡ feed (spaced (time_columns e))
unfolding feed spaced time_columns
time-is e sign row place echo f s er ep ee =
    rw (er, ep, ee, bits_is e.daylight, ← s, aligned-2 e.row f.row, aligned-2 e.place f.place, echo-is e.echo f.echo)

pub message-is : feed (spaced message_columns) ≡ 32 ∷ 32 ∷ 32 ∷ 77 ∷ 32 ∷ 32 ∷ 32 ∷ 32 ∷ 32 ∷ 32 ∷ 32 ∷ 32 ∷ 10 ∷ []
unfolding feed spaced message_columns blanks
message-is = refl

-- ---- the line

abbrev pub last_of : Entry → List ℕ
last_of e = feed (spaced (pick (eqb e.message 0) (time_columns e) message_columns))

pub line-is : (e : Entry) → feed (line e)
    ≡ aligned 8 e.minute ++ (32 ∷ []) ++ (date_text (date_at e.minute) ++ (32 ∷ []) ++ time_text (date_at e.minute) ++ (32 ∷ []))
    ++ (aligned 2 e.seconds ++ (32 ∷ [])) ++ last_of e
unfolding feed line columns_of spaced time_columns message_columns
line-is e = go (eqb e.message 0)
  where
    go : (b : Bool) → feed (spaced (aligned 8 e.minute ∷ date_text (date_at e.minute) ∷ time_text (date_at e.minute) ∷ aligned 2 e.seconds
        ∷ pick b (time_columns e) message_columns))
        ≡ aligned 8 e.minute ++ (32 ∷ []) ++ (date_text (date_at e.minute) ++ (32 ∷ []) ++ time_text (date_at e.minute) ++ (32 ∷ []))
        ++ (aligned 2 e.seconds ++ (32 ∷ [])) ++ feed (spaced (pick b (time_columns e) message_columns))
    go true = simp append_assoc
    go false = simp append_assoc

pub line_made : (e : Entry) (n seconds : ℕ) (t : Date) (a b c d : List ℕ) → n ≡ e.minute → t ≡ date_at n → seconds ≡ e.seconds
    → a ≡ aligned 8 n ++ (32 ∷ []) → b ≡ date_text t ++ (32 ∷ []) ++ time_text t ++ (32 ∷ []) → c ≡ aligned 2 seconds ++ (32 ∷ []) → d ≡ last_of e
    → a ++ b ++ c ++ d ≡ feed (line e)
line_made e n seconds t a b c d en et es p q r s = rw (p, q, r, s, et, en, es) (sym (line-is e))

-- ---- the head of a page

pub head-made : (n : ℕ) (a b c : List ℕ) → n < 10000000000 → a ≡ blanks 31 → b ≡ feed (aligned 10 n) → c ≡ feed (replicate 41 45)
    → a ++ b ++ c ≡ feed (aligned 41 n) ++ feed (replicate 41 45)
unfolding feed
head-made n a b c h p q r =
    rw (p, q, r, aligned-wider 31 10 n (width-le 9 n h), append_assoc (blanks 31) (aligned 10 n) (10 ∷ []))
