-- A frame as sent with any 31 bits in place of its code word, and with any state word: how it is read.
-- Assumes nothing.
use Prim.Native.Nat.{ℕ, zero, suc, ◌+◌, ◌-◌, ◌*◌, ◌/◌, ◌%◌, ◌≤◌, ◌<◌}
use mathlib.Core.Bool.{Bool, true, false}
use mathlib.Core.List.{List, [], ◌++◌, append-nil}
use mathlib.Core.Path.{◌≡◌, refl, ◌∙◌}
use native.Mathlib.Nat.{mod-eq_of_lt}
use native.Mathlib.Omega.{arith}
use lib.Dec.{eqb}
use lib.ListN.{length, take, drop, get_or, replicate, length-replicate}
use borrow.Author.Tests.{le-leb, eq-eqb}
use Rattle.bits.specs.Bits.{pick, bit, bits, number, is_bit, all}
use Rattle.bits.proofs.Bits.{number-bits, bit-lt}
use Rattle.bits.proofs.Parts.{bits-take}
use Rattle.bits.proofs.Tests.{and-true}
use Rattle.calendar.specs.Calendar.{minute_count, last_of_month}
use Rattle.timeword.specs.TimeWord.{Received, code_word, reading}
use Rattle.timeword.proofs.Correct.{received-code_word}
use Rattle.codewords.specs.CodeWords.{illegal, state_words, state_of, next_words}
use Rattle.codewords.proofs.RowList.{row_back}
use Rattle.codewords.proofs.Tables.{row_small, next-word-lt}
use Rattle.format.specs.Frame.{min_frame, usual_frame, sync_word, Sent, sync, body, word_in, state_in, next_in}
use Rattle.format.specs.Entry.{Entry, sent_entry}
use Rattle.format.specs.Received.{with_echo}
use Rattle.format.specs.Reading.{seconds_for, entry_of}
use Rattle.format.specs.Questions.{follows, enough}
use Rattle.format.specs.Next.{refused, entry, read_next}
use Rattle.format.specs.TwoErrors.{with_minute}
use Rattle.format.specs.declared.Due.{Due}
use Rattle.format.proofs.Legal.{Legal, long}
use Rattle.format.proofs.RoundTrip.{zeros-pass, state-read}
use Rattle.format.proofs.Questions.{yes-8, no_9, yes-14}

-- s as sent, with the bits w for its code word and v for its state word
unfoldable pub with_words : List ℕ → List ℕ → Sent → List ℕ
with_words w v s = body w (s.minute % 2) v s.notice (bits 6 (get_or next_words s.row 0)) ++ replicate (s.seconds - min_frame) 0

-- the bits of the state word sent
abbrev pub state_sent : Sent → List ℕ
state_sent s = bits 5 (get_or state_words (4 * s.leap + s.daylight) 0)

bit_is : (x i : ℕ) → is_bit (bit x i) ≡ true
bit_is x i = le-leb (bit x i) 1 (omega (arith, bit-lt x i))

enough-all : (one : Bool) (n l : ℕ) → n ≡ l → enough one n l ≡ true
unfolding enough
enough-all true n l e = eq-eqb n l e
enough-all false n l e = le-leb n l (omega arith)

module _ (x y : ℕ) (s : Sent) where
  heard : List ℕ
  unfolding with_words body sync bits
  heard = with_words (bits 31 x) (bits 5 y) s

  heard-is : with_words (bits 31 x) (bits 5 y) s ≡ heard
  unfolding heard
  heard-is = refl

  word-heard : word_in heard ≡ bits 31 x
  unfolding heard word_in
  word-heard = refl

  state-heard : state_in heard ≡ bits 5 y
  unfolding heard state_in
  state-heard = refl

  next-heard : next_in heard ≡ bits 6 (get_or next_words s.row 0)
  unfolding heard next_in
  next-heard = refl

  echo-heard : get_or heard 19 0 ≡ s.minute % 2
  unfolding heard
  echo-heard = refl

  notice-heard : get_or heard 49 0 ≡ s.notice
  unfolding heard
  notice-heard = refl

  sync-heard : number (take 13 heard) ≡ sync_word
  unfolding heard number bit
  sync-heard = refl

  behind-heard : drop min_frame heard ≡ replicate (s.seconds - min_frame) 0
  unfolding heard
  behind-heard = refl

  length-heard : length heard ≡ min_frame + (s.seconds - min_frame)
  unfolding heard
  length-heard = omega (arith, length-replicate {A = ℕ} (s.seconds - min_frame) 0)

  bits-heard : s.notice ≤ 1 → all is_bit (take min_frame heard) ≡ true
  bits-heard h = go
    where
      e-is : is_bit (s.minute % 2) ≡ true
      e-is = le-leb (s.minute % 2) 1 (omega arith)

      n-is : is_bit s.notice ≡ true
      n-is = le-leb s.notice 1 h

      z-is : is_bit 0 ≡ true
      z-is = refl

      go : all is_bit (take min_frame heard) ≡ true
      go = unfold heard in simp (bit_is, e-is, n-is, z-is)

  -- an illegal state word
  illegal-heard : Legal s → (due : Due) (one : Bool) → state_of (number (bits 5 y)) ≡ illegal → read_next due one heard ≡ refused 9
  illegal-heard l due one h =
      yes-8 due one heard (omega (arith, length-heard)) (bits-heard l.notice-ok) sync-heard
      ∙ no_9 due one heard (entry_of heard) (rw state-heard h)

-- the entry with minute m and place i that the frame then gives
abbrev pub word_entry : Sent → ℕ → ℕ → Entry
word_entry s m i = with_echo (pick (eqb (s.minute % 2) (m % 2)) 1 0) (sent_entry (with_minute m s) i)

module _ (x : ℕ) (s : Sent) (l : Legal s) (m i : ℕ) (r : reading (bits 31 x) ≡ record { minute = m; place = i }) (range : m < minute_count)
    (secs : seconds_for s.leap (last_of_month m) ≡ s.seconds) where
  abbrev y : ℕ
  y = get_or state_words (4 * s.leap + s.daylight) 0

  state-is : state_of (number (state_in (heard x y s))) ≡ 4 * s.leap + s.daylight
  state-is = rw (state-heard x y s) (state-read s l)

  next-is : number (next_in (heard x y s)) ≡ get_or next_words s.row 0
  next-is =
      let f = row_small s.daylight s.row l.row_ok in
      rw (next-heard x y s, number-bits 6 (get_or next_words s.row 0)) (mod-eq_of_lt (next-word-lt s.row f.0 f.1))

  entry-heard : entry_of (heard x y s) ≡ word_entry s m i
  unfolding entry_of with_echo sent_entry with_minute
  entry-heard =
      let k = 4 * s.leap + s.daylight in
      let q : k / 4 ≡ s.leap = omega (arith, l.daylight-ok) in
      let d : k % 4 ≡ s.daylight = omega (arith, l.daylight-ok) in
      rw (
        word-heard x y s,
        r,
        state-is,
        next-is,
        echo-heard x y s,
        notice-heard x y s,
        q,
        d,
        row_back s.daylight s.row l.row_ok,
        secs,
      )

  heard-read : (due : Due) (one : Bool) → follows due m ≡ true → read_next due one (heard x y s) ≡ entry (word_entry s m i)
  unfolding with_echo sent_entry with_minute
  heard-read due one turn =
      let k : state_of (number (state_in (heard x y s))) < illegal = rw state-is (omega (arith, l.leap-ok, l.daylight-ok)) in
      let fits : enough one s.seconds (length (heard x y s)) ≡ true = enough-all one _ _ (omega (arith, length-heard x y s, long s l)) in
      yes-8 due one (heard x y s) (omega (arith, length-heard x y s)) (bits-heard x y s l.notice-ok) (sync-heard x y s)
      ∙ rw entry-heard
      (yes-14 due one (heard x y s) (word_entry s m i) k (row_small s.daylight s.row l.row_ok).1 range
      (and-true fits (rw (behind-heard x y s, ← append-nil {A = ℕ} (replicate (s.seconds - min_frame) 0)) (zeros-pass (s.seconds - min_frame) []))) turn)

-- any 31 bits that are read as a minute of the range, which calls for the length sent
pub any-word-read : (w : List ℕ) → Received w → (s : Sent) → Legal s → (m i : ℕ) → reading w ≡ record { minute = m; place = i } → m < minute_count
    → seconds_for s.leap (last_of_month m) ≡ s.seconds → (due : Due) (one : Bool) → follows due m ≡ true
    → read_next due one (with_words w (state_sent s) s) ≡ entry (word_entry s m i)
any-word-read w h s l m i r range secs due one turn =
    let e : bits 31 (number w) ≡ w = bits-take w 31 h.1 h.0 in
    rw (← e, heard-is (number w) (get_or state_words (4 * s.leap + s.daylight) 0) s)
    (heard-read (number w) s l m i (rw e r) range secs due one turn)

-- the frame with an illegal state word
pub illegal-state-read : (s : Sent) → Legal s → (y : ℕ) → state_of (number (bits 5 y)) ≡ illegal → (due : Due) (one : Bool)
    → read_next due one (with_words (code_word s.minute) (bits 5 y) s) ≡ refused 9
illegal-state-read s l y h due one =
    let w = code_word s.minute in
    let e : bits 31 (number w) ≡ w = bits-take w 31 (received-code_word s.minute).1 (received-code_word s.minute).0 in
    rw (← e, heard-is (number w) y s) (illegal-heard (number w) y s l due one h)

-- the length called for where the minute is not the last of its month
pub seconds-usual : (l : ℕ) → seconds_for l false ≡ usual_frame
unfolding seconds_for
seconds-usual zero = refl
seconds-usual (suc l) = refl
