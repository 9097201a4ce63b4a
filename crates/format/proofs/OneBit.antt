-- A frame with any one bit inverted, read alone.
-- Assumes nothing.
use Prim.Native.Nat.{ℕ, zero, suc, ◌+◌, ◌-◌, ◌*◌, ◌%◌, ◌≤◌, ◌<◌}
use mathlib.Core.Bool.{Bool, true, false, not, ◌||◌, ◌&&◌, and-false}
use mathlib.Core.List.{List}
use mathlib.Core.Logic.{◌≢◌}
use mathlib.Core.Path.{◌≡◌, refl, sym, ap, ◌∙◌}
use native.Mathlib.Decide.{dec_lt}
use native.Mathlib.Omega.{arith}
use lib.Dec.{T, ltb, eqb, T_not, eqb→eq, ltb→lt}
use lib.ListN.{length, take, drop, get_or, replicate, length-append, length-replicate}
use lib.Seq.{take_all}
use borrow.Author.Tests.{ltb-true, ltb-false, eqb-true, eqb-false, le-leb, eq-eqb, ne_eqb}
use Rattle.bits.specs.Bits.{bit, bits, number, Binary, is_bit, is_zero, all, invert_bit}
use Rattle.bits.proofs.Parts.{length_part, binary-append, binary-take}
use Rattle.bits.proofs.Tests.{upto, upto-at, and_left, and_right, picked, all-binary}
use Rattle.bits.proofs.Distance.{binary-inverted, length-inverted}
use Rattle.bits.proofs.Inverted.{part-before, part-within, part-behind, inverted-left, inverted-right}
use Rattle.timeword.specs.TimeWord.{code_word, parities}
use Rattle.codewords.specs.CodeWords.{illegal, unassigned, state_words, state_of, next_words, row_of}
use Rattle.codewords.proofs.Apart.{state-inverted, row-inverted}
use Rattle.codewords.proofs.Tables.{row_small}
use Rattle.format.specs.Frame.{min_frame, sync_word, Sent, sent_by, sync, body, body_of, frame, state_in, next_in}
use Rattle.format.specs.Entry.{sent_entry}
use Rattle.format.specs.Inverting.{time_numbers, frame_places, from, flip, invert_at, inverted, with_unread}
use Rattle.format.specs.Received.{Reception, received, with_echo, received_entry}
use Rattle.format.specs.Reading.{entry_of}
use Rattle.format.specs.Message.{message_sync_word, is_message}
use Rattle.format.specs.Questions.{start, follows, enough}
use Rattle.format.specs.Next.{refused, entry, read_next, read_one}
use Rattle.format.specs.OneBit.{with_notice, one_bit_answer, AnyBitInverted}
use Rattle.format.proofs.Legal.{Legal, legal-sent}
use Rattle.format.proofs.Accepted.{entry-only, entry-time}
use Rattle.format.proofs.Inverting.{inverts-one-bit}
use Rattle.format.proofs.RoundTrip.{state-read, single-next, single-round-trip}
use Rattle.format.proofs.Sending.{body_of-length, body_of-binary}
use Rattle.format.proofs.Questions.{no-8, yes-8, no_9, no-10, no-13}
use Rattle.format.proofs.One.{yes-5}
use Rattle.format.proofs.Unread.{entry-front}

-- ---- a frame as sent, field by field

module _ (s : Sent) where
  front-sent : take 13 (frame s) ≡ sync
  unfolding frame body_of body sync bits
  front-sent = refl

  frame-kind : is_message (frame s) ≡ false
  unfolding frame body_of body sync bits bit is_message number
  frame-kind = refl

  state-sent : state_in (frame s) ≡ bits 5 (get_or state_words (4 * s.leap + s.daylight) 0)
  unfolding frame body_of body sync code_word parities bits state_in
  state-sent = refl

  next-sent : next_in (frame s) ≡ bits 6 (get_or next_words s.row 0)
  unfolding frame body_of body sync code_word parities bits next_in
  next-sent = refl

  behind-sent : drop min_frame (frame s) ≡ replicate (s.seconds - min_frame) 0
  unfolding frame body_of body sync code_word parities bits
  behind-sent = refl

  length-sent : length (frame s) ≡ min_frame + (s.seconds - min_frame)
  unfolding frame
  length-sent = omega (arith, length-append (body_of s) (replicate (s.seconds - min_frame) 0), body_of-length s, length-replicate {A = ℕ} (s.seconds - min_frame) 0)

zeros-binary : (n : ℕ) → Binary (replicate n 0)
zeros-binary zero = tt
zeros-binary (suc n) = (omega arith, zeros-binary n)

frame-binary : (s : Sent) → Legal s → Binary (frame s)
unfolding frame
frame-binary s l = binary-append (body_of s) (replicate (s.seconds - min_frame) 0) (body_of-binary s l.notice-ok) (zeros-binary (s.seconds - min_frame))

-- ---- one inverted bit of a list, in each field

-- the sync word with a bit inverted is another, and not a message's: a test of 13 bits
other_sync : ℕ → Bool
other_sync k = not (eqb (number (invert_bit k sync)) sync_word) && not (eqb (number (invert_bit k sync)) message_sync_word)

sync-pass : T (upto other_sync 13)
unfolding other_sync invert_bit sync number bits bit
sync-pass = tt

module _ (k : ℕ) (h : k < 13) where
  abbrev not-time : Bool
  not-time = not (eqb (number (invert_bit k sync)) sync_word)

  abbrev not-message : Bool
  not-message = not (eqb (number (invert_bit k sync)) message_sync_word)

  sync-inverted : number (invert_bit k sync) ≢ sync_word
  unfolding other_sync
  sync-inverted e = T_not (eqb (number (invert_bit k sync)) sync_word) (and_left not-time not-message (upto-at other_sync 13 sync-pass k h)) (rw e tt)

  sync-no-message : number (invert_bit k sync) ≢ message_sync_word
  unfolding other_sync
  sync-no-message e =
      T_not (eqb (number (invert_bit k sync)) message_sync_word) (and_right not-time not-message (upto-at other_sync 13 sync-pass k h)) (rw e tt)

module _ (f : List ℕ) (k : ℕ) (h : min_frame ≤ length f) where
  state-inside : 47 ≤ k → k < 53 → k ≢ 49 → (i : ℕ) × (i < 5) × (state_in (invert_bit k f) ≡ invert_bit i (state_in f))
  unfolding state_in
  state-inside lo hi ne =
      let a = take 2 (drop 47 f) in
      let b = take 3 (drop 50 f) in
      let n : length a ≡ 2 = length_part f 47 2 (omega arith) in
      elim (dec_lt k 49) [
        | yes l ↦ (k - 47, omega arith, rw (part-within 47 2 k f (k - 47) (omega arith) (omega arith), part-before 50 3 k f (omega arith)) (sym (inverted-left a b (k - 47) (omega arith))))
        | no l ↦ (
          2 + (k - 50),
          omega arith,
          rw (part-behind 47 2 k f (omega arith), part-within 50 3 k f (k - 50) (omega arith) (omega arith)) (sym (inverted-right a b 2 (k - 50) n)),
        )
      ]

  state-outside : 53 ≤ k → state_in (invert_bit k f) ≡ state_in f
  unfolding state_in
  state-outside l = rw (part-behind 47 2 k f (omega arith), part-behind 50 3 k f (omega arith))

  next-inside : 53 ≤ k → k < min_frame → next_in (invert_bit k f) ≡ invert_bit (k - 53) (next_in f)
  unfolding next_in
  next-inside lo hi = part-within 53 6 k f (k - 53) (omega arith) (omega arith)

not_zeros : (n k : ℕ) → k < n → all is_zero (invert_bit k (replicate n 0)) ≡ false
unfolding invert_bit
not_zeros zero k h = absurd (omega arith)
not_zeros (suc n) zero h = refl
not_zeros (suc n) (suc k) h = not_zeros n k (omega arith)

-- ---- the frames that are read as sent, or nearly

sent-entry : (s : Sent) → Legal s → read_next start true (frame s) ≡ entry (sent_entry s 0)
sent-entry s l = rw (inverts-one-bit.nothing (frame s)) at (single-round-trip s l 0 (omega arith))

sent_is : (s : Sent) → Legal s → entry_of (frame s) ≡ sent_entry s 0
sent_is s l = sym (entry-time start (frame s) (frame-kind s)) ∙ sym (entry-only start true (frame s) (sent_entry s 0) (sent-entry s l))

-- with no place inverted, and a, b and c received at 19, 29 and 39
abbrev free : ℕ → ℕ → ℕ → Reception
free a b c = record { place = 0; bit19 = a; bit29 = b; bit39 = c }

free-read : (s : Sent) → Legal s → (a b c : ℕ) → a ≤ 1 → b ≤ 1 → c ≤ 1
    → read_next start true (received (free a b c) (frame s)) ≡ entry (received_entry s (free a b c))
unfolding follows
free-read s l a b c ha hb hc =
    single-next s l (free a b c) (record { place_ok = omega arith; bit19-ok = le-leb a 1 ha; bit29-ok = le-leb b 1 hb; bit39-ok = le-leb c 1 hc }) start refl

-- the frame of the other notice
abbrev other_notice : Sent → Sent
other_notice s =
    record {
      minute = s.minute;
      daylight = s.daylight;
      leap = s.leap;
      row = s.row;
      seconds = s.seconds;
      notice = 1 - s.notice;
    }

module _ (s : Sent) where
  echo-inverted : invert_bit 19 (frame s) ≡ received (free (1 - s.minute % 2) 0 0) (frame s)
  unfolding invert_bit received with_unread inverted frame body_of body sync frame_places invert_at flip from code_word parities bits
  echo-inverted = refl

  unread-inverted : (invert_bit 29 (frame s) ≡ received (free (s.minute % 2) 1 0) (frame s)) × (invert_bit 39 (frame s) ≡ received (free (s.minute % 2) 0 1) (frame s))
  unfolding invert_bit received with_unread inverted frame body_of body sync frame_places invert_at flip from code_word parities bits
  unread-inverted = (refl, refl)

  notice-inverted : invert_bit 49 (frame s) ≡ frame (other_notice s)
  unfolding invert_bit frame body_of body sync code_word parities bits
  notice-inverted = refl

module _ (s : Sent) (l : Legal s) where
  at-19 : read_next start true (invert_bit 19 (frame s)) ≡ entry (with_echo 0 (sent_entry s 0))
  unfolding received_entry
  at-19 =
      let e : eqb (1 - s.minute % 2) (s.minute % 2) ≡ false = ne_eqb (1 - s.minute % 2) (s.minute % 2) (λ e. omega arith) in
      rw (echo-inverted s) (free-read s l (1 - s.minute % 2) 0 0 (omega arith) (omega arith) (omega arith) ∙ rw e)

  -- at 29 or 39
  unread : (b c : ℕ) → b ≤ 1 → c ≤ 1 → read_next start true (received (free (s.minute % 2) b c) (frame s)) ≡ entry (sent_entry s 0)
  unfolding received_entry with_echo sent_entry
  unread b c hb hc = free-read s l (s.minute % 2) b c (omega arith) hb hc ∙ rw (eq-eqb (s.minute % 2) (s.minute % 2) refl)

  at-49 : read_next start true (invert_bit 49 (frame s)) ≡ entry (with_notice (1 - s.notice) (sent_entry s 0))
  unfolding with_notice sent_entry
  at-49 =
      rw (notice-inverted s)
      (sent-entry (other_notice s)
      (record { minute-ok = l.minute-ok; daylight-ok = l.daylight-ok; leap-ok = l.leap-ok; row_ok = l.row_ok; seconds-ok = l.seconds-ok; notice-ok = omega arith }))

-- ---- in the 31 bits, and at 29 and 39

-- bit k has place i, and i is a place
has_place : ℕ → ℕ → Bool
has_place k zero = false
has_place k (suc i) = ltb i 31 && eqb (get_or time_numbers i 0) k

-- the bits after the sync word and up to 46 have places, but for 19, 29 and 39: a test of 47 bits
place_test : ℕ → Bool
place_test k = ltb k 13 || (eqb k 19 || (eqb k 29 || (eqb k 39 || has_place k (get_or frame_places k 0))))

places-pass : T (upto place_test 47)
unfolding place_test has_place time_numbers frame_places from
places-pass = tt

at_place : (s : Sent) → Legal s → (k i : ℕ) → T (has_place k i) → read_next start true (invert_bit k (frame s)) ≡ entry (sent_entry s i)
unfolding has_place invert_bit
at_place s l k zero t = absurd t
at_place s l k (suc i) t =
    let h : i < 31 = ltb→lt i 31 (and_left (ltb i 31) (eqb (get_or time_numbers i 0) k) t) in
    let e : get_or time_numbers i 0 ≡ k = eqb→eq (get_or time_numbers i 0) k (and_right (ltb i 31) (eqb (get_or time_numbers i 0) k) t) in
    rw (← e, ← inverts-one-bit.one_bit i h (frame s)) (single-round-trip s l (suc i) (omega arith))

in-time : (s : Sent) → Legal s → (k : ℕ) → k < 47 → 13 ≤ k → k ≢ 19 → read_next start true (invert_bit k (frame s)) ≡ entry (sent_entry s (get_or frame_places k 0))
unfolding place_test frame_places from
in-time s l k hi lo ne = go (ltb k 13) (eqb k 19) (eqb k 29) (eqb k 39) refl refl refl refl (upto-at place_test 47 places-pass k hi)
  where
    go : (a b c d : Bool) → ltb k 13 ≡ a → eqb k 19 ≡ b → eqb k 29 ≡ c → eqb k 39 ≡ d → T (a || (b || (c || (d || has_place k (get_or frame_places k 0)))))
        → read_next start true (invert_bit k (frame s)) ≡ entry (sent_entry s (get_or frame_places k 0))
    go true b c d p q r u t = absurd (omega (arith, ltb-true k 13 p))
    go false true c d p q r u t = absurd (ne (eqb-true k 19 q))
    go false false true d p q r u t = rw (eqb-true k 29 r, (unread-inverted s).0) (unread s l 1 0 (omega arith) (omega arith))
    go false false false true p q r u t = rw (eqb-true k 39 u, (unread-inverted s).1) (unread s l 0 1 (omega arith) (omega arith))
    go false false false false p q r u t = at_place s l k (get_or frame_places k 0) t

-- ---- the frames that are refused

module _ (s : Sent) (l : Legal s) (k : ℕ) where
  abbrev g : List ℕ
  g = invert_bit k (frame s)

  q6 : min_frame ≤ length g
  q6 = omega (arith, length-inverted k (frame s), length-sent s)

  q7 : all is_bit (take min_frame g) ≡ true
  q7 = all-binary (take min_frame g) (binary-take min_frame g (binary-inverted k (frame s) (frame-binary s l)))

  q8 : 13 ≤ k → number (take 13 g) ≡ sync_word
  unfolding sync number bits bit
  q8 h = rw (part-behind 0 13 k (frame s) (omega arith), front-sent s)

  in-sync : k < 13 → read_next start true g ≡ refused 8
  in-sync h =
      let p : take 13 g ≡ invert_bit k sync = part-within 0 13 k (frame s) k (omega arith) h ∙ ap (invert_bit k) (front-sent s) in
      no-8 start true g q6 q7 (λ e. sync-inverted k h (rw p at e)) (λ e. sync-no-message k h (rw p at e))

  in-state : 47 ≤ k → k < 53 → k ≢ 49 → read_next start true g ≡ refused 9
  in-state lo hi ne =
      let i = state-inside (frame s) k (omega (arith, length-sent s)) lo hi ne in
      yes-8 start true g q6 q7 (q8 (omega arith))
      ∙ no_9 start true g (entry_of g)
      (rw (i.2, state-sent s) (state-inverted (4 * s.leap + s.daylight) i.0 (omega (arith, l.leap-ok, l.daylight-ok)) i.1))

  -- after the state word the state is as sent
  state-kept : 53 ≤ k → state_of (number (state_in g)) ≡ 4 * s.leap + s.daylight
  state-kept lo = rw (state-outside (frame s) k (omega (arith, length-sent s)) lo, state-sent s) (state-read s l)

  q9 : 53 ≤ k → state_of (number (state_in g)) < illegal
  q9 lo = rw (state-kept lo) (omega (arith, l.leap-ok, l.daylight-ok))

  in-next : 53 ≤ k → k < min_frame → read_next start true g ≡ refused 10
  unfolding entry_of
  in-next lo hi =
      let d : (4 * s.leap + s.daylight) % 4 ≡ s.daylight = omega (arith, l.daylight-ok) in
      let r : row_of s.daylight (number (next_in g)) ≡ unassigned =
      rw (next-inside (frame s) k (omega (arith, length-sent s)) lo hi, next-sent s)
      (row-inverted s.daylight s.row (k - 53) l.row_ok (omega arith)) in
      yes-8 start true g q6 q7 (q8 (omega arith)) ∙ no-10 start true g (entry_of g) (q9 lo) (rw (state-kept lo, d, r) (omega arith))

  in_rest : min_frame ≤ k → k < length (frame s) → read_next start true g ≡ refused 13
  unfolding sent_entry
  in_rest lo hi =
      let n = s.seconds - min_frame in
      let e : entry_of g ≡ sent_entry s 0 = sym (entry-front g) ∙ ap entry_of (part-behind 0 min_frame k (frame s) (omega arith)) ∙ entry-front (frame s) ∙ sent_is s l in
      let z : all is_zero (take n (drop min_frame g)) ≡ false =
      rw (part-within min_frame n k (frame s) (k - min_frame) (omega arith) (omega (arith, length-sent s)), behind-sent s, take_all {A = ℕ} n (replicate n 0) (omega (arith, length-replicate {A = ℕ} n 0))) (not_zeros n (k - min_frame) (omega (arith, length-sent s))) in
      yes-8 start true g q6 q7 (q8 (omega arith))
      ∙ rw e
      (no-13 start true g (sent_entry s 0) (q9 (omega arith)) (row_small s.daylight s.row l.row_ok).1 l.minute-ok
      (rw z (and-false (enough true s.seconds (length g)))))

-- ---- all bits

one_bit : (s : Sent) → Legal s → (k : ℕ) → k < length (frame s) → read_next start true (invert_bit k (frame s)) ≡ one_bit_answer s k
unfolding one_bit_answer
one_bit s l k h =
    picked (ltb k 13) (λ a. in-sync s l k (ltb-true k 13 a))
    (λ a. let lo = ltb-false k 13 a in
    picked (eqb k 19) (λ b. rw (eqb-true k 19 b) (at-19 s l))
    (λ b. picked (ltb k 47) (λ c. in-time s l k (ltb-true k 47 c) lo (eqb-false k 19 b))
    (λ c. let mid = ltb-false k 47 c in
    picked (eqb k 49) (λ d. rw (eqb-true k 49 d) (at-49 s l))
    (λ d. picked (ltb k 53) (λ e. in-state s l k mid (ltb-true k 53 e) (eqb-false k 49 d))
    (λ e. picked (ltb k min_frame) (λ f. in-next s l k (ltb-false k 53 e) (ltb-true k min_frame f))
    (λ f. in_rest s l k (ltb-false k min_frame f) h))))))

pub any-bit-inverted : AnyBitInverted
unfolding read_one
any-bit-inverted p m k buffer legal h inside space =
    rw (yes-5 start true (length buffer) (invert_bit k (frame (sent_by p m))) space, one_bit (sent_by p m) (legal-sent p legal m h) k inside)
