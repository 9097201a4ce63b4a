-- A message frame as sent: how it is laid out, and how it is read, with anything after it.
-- Assumes nothing.
use Prim.Native.Nat.{ℕ, ◌+◌, ◌-◌, ◌%◌, ◌^◌, ◌≤◌, ◌<◌}
use mathlib.Core.Bool.{true, false, not, ◌||◌}
use mathlib.Core.List.{List, ◌++◌}
use mathlib.Core.Path.{◌≡◌, refl, sym, ap, ◌∙◌}
use native.Mathlib.Nat.{mod-eq_of_lt}
use native.Mathlib.Omega.{arith}
use lib.Dec.{ltb, eqb}
use lib.ListN.{length, take, drop, get_or, replicate, length-append, length-replicate}
use borrow.Author.Tests.{le-leb, eq-eqb, eqb-true}
use Rattle.bits.specs.Bits.{bit, bits, number, is_bit, all}
use Rattle.bits.proofs.Bits.{number-bits}
use Rattle.bits.proofs.Tests.{and-true, head-true, tail-true}
use Rattle.calendar.specs.Calendar.{last_of_month}
use Rattle.format.specs.Frame.{min_frame, Sent}
use Rattle.format.specs.Entry.{entry_bytes, sent_entry}
use Rattle.format.specs.Inverting.{flip, invert_at, from, frame_places, inverted, with_unread}
use Rattle.format.specs.Message.{message_sync_word, message_sync, message_body, message_frame, data_in, message_entry}
use Rattle.format.specs.MessageBits.{data_numbers, data_bits, MessageLaidOut, EntryKinds}
use Rattle.format.specs.Received.{Reception, received, unharmed, only_place}
use Rattle.format.specs.Reading.{seconds_for}
use Rattle.format.specs.Questions.{unknown, message_in, enough}
use Rattle.format.specs.Next.{refused, entry, read_next}
use Rattle.format.specs.declared.Due.TheVariants.{Any, Minute}
use Rattle.format.proofs.Legal.{Legal, long}
use Rattle.format.proofs.Sending.{bit_is}
use Rattle.format.proofs.RoundTrip.{zeros-pass}
use Rattle.format.proofs.Questions.{told-8}
use Rattle.format.proofs.Messages.{no-19, yes-14}

pub message-laid-out : MessageLaidOut
unfolding message_frame message_body message_sync bits bit data_bits data_numbers from
message-laid-out s d = record { sync = refl; data-bits = refl; time0 = refl; notice = refl; unread = (refl, refl); rest = refl }

pub entry-kinds : EntryKinds
unfolding entry_bytes message_entry sent_entry
entry-kinds = record { of-message = λ m seconds notice d. refl; of-time = λ s i. refl }

module _ (s : Sent) (d : ℕ) (rest : List ℕ) where
  told : List ℕ
  unfolding message_frame message_body message_sync bits
  told = message_frame s d ++ rest

  told_is : message_frame s d ++ rest ≡ told
  unfolding told
  told_is = refl

  data-told : data_in told ≡ bits 42 d
  unfolding told data_in
  data-told = refl

  echo-told : get_or told 19 0 ≡ s.minute % 2
  unfolding told
  echo-told = refl

  notice-told : get_or told 49 0 ≡ s.notice
  unfolding told
  notice-told = refl

  sync-told : number (take 13 told) ≡ message_sync_word
  unfolding told number bit
  sync-told = refl

  after-told : drop min_frame told ≡ replicate (s.seconds - min_frame) 0 ++ rest
  unfolding told
  after-told = refl

  bits-told : s.notice ≤ 1 → all is_bit (take min_frame told) ≡ true
  bits-told h = go
    where
      e-is : is_bit (s.minute % 2) ≡ true
      e-is = le-leb (s.minute % 2) 1 (omega arith)

      n-is : is_bit s.notice ≡ true
      n-is = le-leb s.notice 1 h

      z-is : is_bit 0 ≡ true
      z-is = refl

      go : all is_bit (take min_frame told) ≡ true
      go = unfold told in simp (bit_is, e-is, n-is, z-is)

  length-told : length told ≡ min_frame + (s.seconds - min_frame + length rest)
  unfolding told
  length-told = omega (arith, length-append {A = ℕ} (replicate (s.seconds - min_frame) 0) rest, length-replicate {A = ℕ} (s.seconds - min_frame) 0)

  -- before the first frame it is refused
  pub message-first : s.notice ≤ 1 → read_next Any false (message_frame s d ++ rest) ≡ refused 19
  message-first h =
      rw told_is
      (told-8 Any false told (omega (arith, length-told)) (bits-told h) sync-told ∙ no-19 false told (message_in Any told))

  -- in the state that counts to its minute, with a leap state that gives its length
  module _ (legal : Legal s) (small : d < 2 ^ 42) (l : ℕ) (known : (ltb l unknown || not (last_of_month s.minute)) ≡ true)
      (called : s.seconds ≡ seconds_for l (last_of_month s.minute)) where
    message-is : message_in (Minute s.minute l) told ≡ message_entry s.minute s.seconds s.notice d
    unfolding message_in
    message-is = rw (data-told, notice-told, number-bits 42 d, mod-eq_of_lt small) (ap (λ (n : ℕ). message_entry s.minute n s.notice d) (sym called))

    pub message-next : read_next (Minute s.minute l) false (message_frame s d ++ rest) ≡ entry (message_entry s.minute s.seconds s.notice d)
    unfolding message_entry enough
    message-next =
        rw told_is
        (told-8 (Minute s.minute l) false told (omega (arith, length-told)) (bits-told legal.notice-ok) sync-told
        ∙ rw message-is
        (yes-14 s.minute l false told (message_entry s.minute s.seconds s.notice d) known legal.minute-ok
        (and-true (le-leb s.seconds (length told) (omega (arith, length-told, long s legal))) (rw after-told (zeros-pass (s.seconds - min_frame) rest)))
        echo-told))

-- ---- as received

-- an unharmed message is received as sent
harmless : (s : Sent) (d : ℕ) → received (record { place = 0; bit19 = s.minute % 2; bit29 = 0; bit39 = 0 }) (message_frame s d) ≡ message_frame s d
unfolding received with_unread inverted frame_places from invert_at flip message_frame message_body message_sync bits
harmless s d = refl

parts : (a b c d w x y z : ℕ) → a ≡ w → b ≡ x → c ≡ y → d ≡ z
    → ◌≡◌ {A = Reception} (record { place = a; bit19 = b; bit29 = c; bit39 = d }) (record { place = w; bit19 = x; bit29 = y; bit39 = z })
parts a b c d w x y z p q u v = rw (p, q, u, v)

pub message-received : (s : Sent) (d : ℕ) (r : Reception) → unharmed s r ≡ true → received r (message_frame s d) ≡ message_frame s d
unfolding unharmed
message-received s d r h =
    let a = tail-true (eqb r.place 0) _ h in
    let b = tail-true (eqb r.bit19 (s.minute % 2)) _ a in
    let p : r.place ≡ 0 = eqb-true r.place 0 (head-true (eqb r.place 0) _ h) in
    let q : r.bit19 ≡ s.minute % 2 = eqb-true r.bit19 (s.minute % 2) (head-true (eqb r.bit19 (s.minute % 2)) _ a) in
    let u : r.bit29 ≡ 0 = eqb-true r.bit29 0 (head-true (eqb r.bit29 0) (eqb r.bit39 0) b) in
    let v : r.bit39 ≡ 0 = eqb-true r.bit39 0 (tail-true (eqb r.bit29 0) (eqb r.bit39 0) b) in
    let e : r ≡ record { place = 0; bit19 = s.minute % 2; bit29 = 0; bit39 = 0 } = parts r.place r.bit19 r.bit29 r.bit39 0 (s.minute % 2) 0 0 p q u v in
    ap (λ (t : Reception). received t (message_frame s d)) e ∙ harmless s d

pub length-message : (s : Sent) (d : ℕ) → min_frame ≤ s.seconds → length (message_frame s d) ≡ s.seconds
unfolding message_frame message_body message_sync bits
length-message s d h = omega (arith, length-replicate {A = ℕ} (s.seconds - min_frame) 0)

-- ---- with nothing changed but a place

pub only-message : (s : Sent) (d i : ℕ) → received (only_place s.minute i) (message_frame s d) ≡ inverted i (message_frame s d)
unfolding received with_unread only_place inverted frame_places from invert_at flip message_frame message_body message_sync bits
only-message s d i = refl

pub only-unharmed : (s : Sent) → unharmed s (only_place s.minute 0) ≡ true
unfolding unharmed only_place
only-unharmed s = rw (eq-eqb (s.minute % 2) (s.minute % 2) refl)
