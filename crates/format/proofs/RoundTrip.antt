-- Reading a frame as received: one place inverted or none, any bits at 19, 29 and 39, and anything after it.
-- Assumes nothing.
use Prim.Native.Nat.{ℕ, zero, suc, ◌+◌, ◌-◌, ◌*◌, ◌/◌, ◌%◌, ◌≤◌, ◌<◌}
use mathlib.Core.Bool.{Bool, true, false}
use mathlib.Core.List.{List, [], ◌∷◌, ◌++◌, append-nil}
use mathlib.Core.Path.{◌≡◌, refl, ◌∙◌}
use native.Mathlib.Nat.{mod-eq_of_lt}
use native.Mathlib.Omega.{arith}
use lib.Dec.{leb}
use lib.ListN.{length, take, drop, get_or, set, replicate, length-append, length-replicate, length-set}
use borrow.Author.Tests.{le-leb, leb-true, eq-eqb}
use Rattle.bits.specs.Bits.{bit, bits, number, is_bit, is_zero, all}
use Rattle.bits.proofs.Bits.{number-bits}
use Rattle.bits.proofs.Tests.{all-binary, and-true, head-true, tail-true}
use Rattle.timeword.specs.TimeWord.{code_word, parities, reading}
use Rattle.codewords.specs.CodeWords.{illegal, state_words, state_of, next_words}
use Rattle.codewords.proofs.RowList.{row_back}
use Rattle.codewords.proofs.Tables.{state-back, state-word-lt, row_small, next-word-lt}
use Rattle.format.specs.Frame.{min_frame, sync_word, Sent, sync, body, body_of, frame, word_in, state_in, next_in}
use Rattle.format.specs.Inverting.{flip, invert_at, from, time_numbers, time_bits, frame_places, inverted, with_unread}
use Rattle.format.specs.Reading.{entry_of}
use Rattle.format.specs.Questions.{start, follows, enough}
use Rattle.format.specs.Next.{entry, read_next}
use Rattle.format.specs.declared.Due.{Due}
use Rattle.format.specs.Entry.{sent_entry}
use Rattle.format.specs.Received.{Reception, is_reception, received, with_echo, received_entry, only_place}
use Rattle.format.proofs.Legal.{Legal, long}
use Rattle.format.proofs.Sending.{body_of-binary}
use Rattle.format.proofs.Inverting.{read-inverted, bits-invert, length-invert}
use Rattle.format.proofs.Questions.{yes-8, yes-14}

-- the time-word bits of a frame as sent, by their numbers
pub time-bits-sent : (s : Sent) → time_bits (frame s) ≡ code_word s.minute
unfolding time_bits time_numbers from frame body_of body sync code_word parities bits
time-bits-sent s = refl

pub zeros-pass : (n : ℕ) (rest : List ℕ) → all is_zero (take n (replicate n 0 ++ rest)) ≡ true
zeros-pass zero rest = refl
zeros-pass (suc n) rest = zeros-pass n rest

-- a bit that is put in keeps bits
bits-set : (l : List ℕ) (k b : ℕ) → all is_bit l ≡ true → is_bit b ≡ true → all is_bit (set l k b) ≡ true
bits-set [] k b h g = h
bits-set (x ∷ l) zero b h g = and-true g (tail-true (is_bit x) (all is_bit l) h)
bits-set (x ∷ l) (suc k) b h g = and-true (head-true (is_bit x) (all is_bit l) h) (bits-set l k b (tail-true (is_bit x) (all is_bit l) h) g)

-- a reception by its parts
pub record Bits (r : Reception) : Type 0 where
  pub place_ok : r.place ≤ 31
  pub bit19-ok : is_bit r.bit19 ≡ true
  pub bit29-ok : is_bit r.bit29 ≡ true
  pub bit39-ok : is_bit r.bit39 ≡ true

pub reception-bits : (r : Reception) → is_reception r ≡ true → Bits r
unfolding is_reception
reception-bits r h =
    let a = tail-true (leb r.place 31) _ h in
    let b = tail-true (is_bit r.bit19) _ a in
    record {
      place_ok = leb-true r.place 31 (head-true (leb r.place 31) _ h);
      bit19-ok = head-true (is_bit r.bit19) _ a;
      bit29-ok = head-true (is_bit r.bit29) (is_bit r.bit39) b;
      bit39-ok = tail-true (is_bit r.bit29) (is_bit r.bit39) b;
    }

-- the state word sent is read as the state
pub state-read : (s : Sent) → Legal s → state_of (number (bits 5 (get_or state_words (4 * s.leap + s.daylight) 0))) ≡ 4 * s.leap + s.daylight
state-read s l =
    let k : 4 * s.leap + s.daylight < illegal = omega (arith, l.leap-ok, l.daylight-ok) in
    rw (number-bits 5 (get_or state_words (4 * s.leap + s.daylight) 0), mod-eq_of_lt (state-word-lt (4 * s.leap + s.daylight) k)) (state-back (4 * s.leap + s.daylight) k)

module _ (s : Sent) (r : Reception) (rest : List ℕ) where
  pub heard : List ℕ
  unfolding received with_unread inverted frame body_of body sync frame_places invert_at flip from code_word parities bits
  heard = received r (frame s) ++ rest

  pub heard-is : received r (frame s) ++ rest ≡ heard
  unfolding heard
  heard-is = refl

  pub word-heard : word_in heard ≡ invert_at r.place (from 1 31) (code_word s.minute)
  unfolding heard word_in
  word-heard = refl

  state-heard : state_in heard ≡ bits 5 (get_or state_words (4 * s.leap + s.daylight) 0)
  unfolding heard state_in
  state-heard = refl

  next-heard : next_in heard ≡ bits 6 (get_or next_words s.row 0)
  unfolding heard next_in
  next-heard = refl

  echo-heard : get_or heard 19 0 ≡ r.bit19
  unfolding heard
  echo-heard = refl

  notice-heard : get_or heard 49 0 ≡ s.notice
  unfolding heard
  notice-heard = refl

  sync-heard : number (take 13 heard) ≡ sync_word
  unfolding heard number bit
  sync-heard = refl

  behind-heard : drop min_frame heard ≡ replicate (s.seconds - min_frame) 0 ++ rest
  unfolding heard
  behind-heard = refl

  head-heard : take min_frame heard ≡ received r (body_of s)
  unfolding heard
  head-heard = refl

  bits-heard : Bits r → s.notice ≤ 1 → all is_bit (take min_frame heard) ≡ true
  unfolding received with_unread inverted
  bits-heard b h =
      let sent = bits-invert r.place frame_places (body_of s) (all-binary (body_of s) (body_of-binary s h)) in
      rw head-heard (bits-set (set (set (invert_at r.place frame_places (body_of s)) 19 r.bit19) 29 r.bit29) 39 r.bit39 (bits-set (set (invert_at r.place frame_places (body_of s)) 19 r.bit19) 29 r.bit29 (bits-set (invert_at r.place frame_places (body_of s)) 19 r.bit19 sent b.bit19-ok) b.bit29-ok) b.bit39-ok)

  length-heard : length heard ≡ min_frame + (s.seconds - min_frame + length rest)
  unfolding heard
  length-heard = omega (arith, length-append {A = ℕ} (replicate (s.seconds - min_frame) 0) rest, length-replicate {A = ℕ} (s.seconds - min_frame) 0)

  module _ (l : Legal s) where
    state-is : state_of (number (state_in heard)) ≡ 4 * s.leap + s.daylight
    state-is = rw state-heard (state-read s l)

    next-is : number (next_in heard) ≡ get_or next_words s.row 0
    next-is =
        let r = row_small s.daylight s.row l.row_ok in
        rw (next-heard, number-bits 6 (get_or next_words s.row 0)) (mod-eq_of_lt (next-word-lt s.row r.0 r.1))

    entry-heard : Bits r → entry_of heard ≡ received_entry s r
    unfolding entry_of received_entry with_echo sent_entry
    entry-heard b =
        let k = 4 * s.leap + s.daylight in
        let w : reading (word_in heard) ≡ record { minute = s.minute; place = r.place } =
        rw word-heard (read-inverted s.minute r.place (omega (arith, l.minute-ok)) b.place_ok) in
        let q : k / 4 ≡ s.leap = omega (arith, l.daylight-ok) in
        let d : k % 4 ≡ s.daylight = omega (arith, l.daylight-ok) in
        rw (
          w,
          state-is,
          next-is,
          echo-heard,
          notice-heard,
          q,
          d,
          row_back s.daylight s.row l.row_ok,
          ← l.seconds-ok,
        )

    trip : (due : Due) (one : Bool) → follows due s.minute ≡ true → Bits r → enough one s.seconds (length heard) ≡ true
        → read_next due one heard ≡ entry (received_entry s r)
    unfolding received_entry with_echo sent_entry
    trip due one turn b fits =
        let k : state_of (number (state_in heard)) < illegal = rw state-is (omega (arith, l.leap-ok, l.daylight-ok)) in
        yes-8 due one heard (omega (arith, length-heard)) (bits-heard b l.notice-ok) sync-heard
        ∙ rw (entry-heard b)
        (yes-14 due one heard (received_entry s r) k (row_small s.daylight s.row l.row_ok).1 l.minute-ok
        (and-true fits (rw behind-heard (zeros-pass (s.seconds - min_frame) rest))) turn)

-- receiving keeps the length
pub length-received : (r : Reception) (f : List ℕ) → length (received r f) ≡ length f
unfolding received with_unread inverted
length-received r f = simp (length-set, length-invert r.place frame_places f)

-- ---- with nothing changed but a place

-- the minute's frame is received as inverted
pub only-place : (s : Sent) (i : ℕ) → received (only_place s.minute i) (frame s) ≡ inverted i (frame s)
unfolding received with_unread only_place inverted frame body_of body sync frame_places invert_at flip from code_word parities bits
only-place s i = refl

pub only-place-entry : (s : Sent) (i : ℕ) → received_entry s (only_place s.minute i) ≡ sent_entry s i
unfolding received_entry with_echo only_place sent_entry
only-place-entry s i = rw (eq-eqb (s.minute % 2) (s.minute % 2) refl)

pub only-place-bits : (m i : ℕ) → i ≤ 31 → Bits (only_place m i)
unfolding only_place
only-place-bits m i h = record { place_ok = h; bit19-ok = le-leb (m % 2) 1 (omega arith); bit29-ok = refl; bit39-ok = refl }

pub only-place-reception : (m i : ℕ) → leb i 31 ≡ true → is_reception (only_place m i) ≡ true
unfolding is_reception only_place
only-place-reception m i h = and-true h (and-true (le-leb (m % 2) 1 (omega arith)) refl)

module _ (s : Sent) (i : ℕ) (rest : List ℕ) where
  pub length-inverted : min_frame ≤ s.seconds → length (inverted i (frame s)) ≡ s.seconds
  unfolding inverted frame body_of body sync frame_places invert_at flip from code_word parities bits
  length-inverted h = omega (arith, length-replicate {A = ℕ} (s.seconds - min_frame) 0)

-- ---- in the reader's state

module _ (s : Sent) (l : Legal s) (r : Reception) (b : Bits r) (due : Due) (turn : follows due s.minute ≡ true) where
  -- the next frame of a recording, with anything after it
  pub frame-next : (rest : List ℕ) → read_next due false (received r (frame s) ++ rest) ≡ entry (received_entry s r)
  unfolding enough
  frame-next rest =
      rw (heard-is s r rest)
      (trip s r rest l due false turn b (le-leb s.seconds (length (heard s r rest)) (omega (arith, length-heard s r rest, long s l))))

  -- a frame alone
  pub single-next : read_next due true (received r (frame s)) ≡ entry (received_entry s r)
  unfolding enough
  single-next =
      rw (← append-nil (received r (frame s)), heard-is s r [])
      (trip s r [] l due true turn b (eq-eqb s.seconds (length (heard s r [])) (omega (arith, length-heard s r [], long s l))))

-- with one place inverted, or none
pub single-round-trip : (s : Sent) → Legal s → (i : ℕ) → i ≤ 31 → read_next start true (inverted i (frame s)) ≡ entry (sent_entry s i)
unfolding follows
single-round-trip s l i h =
    rw (← only-place s i, ← only-place-entry s i) (single-next s l (only_place s.minute i) (only-place-bits s.minute i h) start refl)
