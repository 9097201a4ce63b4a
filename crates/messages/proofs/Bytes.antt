-- Messages as bytes: what the number of bytes decides, and the bytes of messages read again.
-- Assumes nothing.
use Prim.Native.Nat.{ℕ, zero, suc, ◌+◌, ◌-◌, ◌*◌, ◌/◌, ◌%◌, ◌^◌, ◌<◌}
use mathlib.Core.Bool.{false}
use mathlib.Core.List.{List, [], ◌∷◌, ◌++◌, map, append_assoc}
use mathlib.Core.Logic.{◌⊎◌, inl, inr, ◌≢◌}
use mathlib.Core.Path.{◌≡◌, refl, ap, ◌∙◌}
use native.Mathlib.Decide.{dec_lt}
use native.Mathlib.Nat.{pow-suc}
use native.Mathlib.Omega.{arith}
use lib.ListN.{length, get_or, length-append}
use lib.Seq.{get_or-append-add, get_or_at}
use Rattle.bits.specs.Bits.{concat}
use Rattle.messages.specs.Message.{Message, legal_messages}
use Rattle.messages.specs.Bytes.{message_size, big_endian, message_at, messages_from, messages_in}
use Rattle.messages.specs.Theorems.{nth, BytesLegal, number_bytes, message_bytes, BytesOfMessages}
use Rattle.messages.proofs.Laws.{not-whole, all_are, count-is, many}

-- ---- the number of bytes

refused : (s : List ℕ) → (length s % 10 ≢ 0) ⊎ (40 < length s) → legal_messages (messages_in s) ≡ false
refused s (inl h) = not-whole s h
refused s (inr h) = elim (dec_lt 0 (length s % message_size)) [
  | yes p ↦ not-whole s (λ e. omega arith)
  | no p ↦ many s (omega arith) (omega arith)
]

-- message j of a part that starts at message k
nth-from : (s : List ℕ) (k n j : ℕ) → j < n → nth (messages_from s k n) j ≡ message_at s (j + k)
unfolding messages_from
nth-from s k zero j h = absurd (omega arith)
nth-from s k (suc n) zero h = ap (message_at s) (omega arith)
nth-from s k (suc n) (suc j) h = nth-from s (suc k) n j (omega arith) ∙ ap (message_at s) (omega arith)

pub bytes-legal : BytesLegal
bytes-legal s =
    (refused s, λ w. (count-is s w, λ k h. ap (λ cs. nth cs k) (all_are s w) ∙ nth-from s 0 (length s / message_size - 0) k (omega arith) ∙ ap (message_at s) (omega arith)))

-- ---- the bytes of messages

length-number : (n x : ℕ) → length (number_bytes n x) ≡ n
unfolding number_bytes
length-number zero x = refl
length-number (suc n) x = length-append (number_bytes n (x / 256)) (x % 256 ∷ []) ∙ omega (arith, length-number n (x / 256))

read_number : (n x : ℕ) (a b : List ℕ) → x < 256 ^ n → big_endian (a ++ (number_bytes n x ++ b)) (length a) n ≡ x
unfolding number_bytes big_endian
read_number zero x a b h = omega arith
read_number (suc n) x a b h =
    let y = x / 256 in
    let z = x % 256 in
    let less : y < 256 ^ n = omega (arith, pow-suc 256 n) in
    let same : a ++ ((number_bytes n y ++ (z ∷ [])) ++ b) ≡ a ++ (number_bytes n y ++ (z ∷ b)) = ap (λ l. a ++ l) (append_assoc (number_bytes n y) (z ∷ []) b) in
    let last : get_or (a ++ (number_bytes n y ++ (z ∷ b))) (length a + n) 0 ≡ z =
    get_or-append-add a (number_bytes n y ++ (z ∷ b)) n 0 ∙ get_or_at (number_bytes n y) z b 0 n (length-number n y) in
    let rest : big_endian (a ++ (number_bytes n y ++ (z ∷ b))) (length a) (suc n) ≡ x = rw (read_number n y a (z ∷ b) less, last) (omega arith) in
    ap (λ (l : List ℕ). big_endian l (length a) (suc n)) same ∙ rest

module _ (c : Message) (m : c.minute < 2 ^ 32) (d : c.payload < 2 ^ 48) (a b : List ℕ) (k : ℕ) (here : length a ≡ k * message_size) where
  abbrev M : List ℕ
  M = number_bytes 4 c.minute

  abbrev D : List ℕ
  D = number_bytes 6 c.payload

  read-minute : big_endian (a ++ (M ++ D ++ b)) (k * message_size) 4 ≡ c.minute
  read-minute = rw (append_assoc M D b, ← here) (read_number 4 c.minute a (D ++ b) m)

  read-payload : big_endian (a ++ (M ++ D ++ b)) (k * message_size + 4) 6 ≡ c.payload
  read-payload =
      let l : length (a ++ M) ≡ k * message_size + 4 = length-append a M ∙ omega (arith, length-number 4 c.minute) in
      rw (append_assoc M D b, ← append_assoc a M (D ++ b), ← l) (read_number 6 c.payload (a ++ M) b d)

  read-message : message_at (a ++ (message_bytes c ++ b)) k ≡ c
  unfolding message_at message_bytes
  read-message = rw (read-minute, read-payload)

length-message : (c : Message) → length (message_bytes c) ≡ message_size
unfolding message_bytes
length-message c =
    length-append (number_bytes 4 c.minute) (number_bytes 6 c.payload)
    ∙ omega (arith, length-number 4 c.minute, length-number 6 c.payload)

length-all : (cs : List Message) → length (concat (map message_bytes cs)) ≡ length cs * message_size
unfolding concat
length-all [] = refl
length-all (c ∷ cs) =
    length-append (message_bytes c) (concat (map message_bytes cs)) ∙ omega (arith, length-message c, length-all cs)

abbrev Fit : List Message → Type 0
Fit cs = (k : ℕ) → k < length cs → ((nth cs k).minute < 2 ^ 32) × ((nth cs k).payload < 2 ^ 48)

read_all : (cs : List Message) (a : List ℕ) (k : ℕ) → length a ≡ k * message_size → Fit cs → messages_from (a ++ concat (map message_bytes cs)) k (length cs) ≡ cs
unfolding concat messages_from
read_all [] a k here fit = refl
read_all (c ∷ cs) a k here fit =
    let x = fit 0 (omega arith) in
    let rest = concat (map message_bytes cs) in
    let head = read-message c x.0 x.1 a rest k here in
    let there : length (a ++ message_bytes c) ≡ suc k * message_size = length-append a (message_bytes c) ∙ omega (arith, length-message c) in
    let tail = read_all cs (a ++ message_bytes c) (suc k) there (λ j l. fit (suc j) (omega arith)) in
    rw head (ap (λ ds. c ∷ ds) (rw (append_assoc a (message_bytes c) rest) at tail))

pub bytes-of-messages : BytesOfMessages
bytes-of-messages cs fit =
    let s = concat (map message_bytes cs) in
    let l = length-all cs in
    let n : length s / message_size - 0 ≡ length cs = omega arith in
    all_are s (omega arith) ∙ ap (messages_from s 0) n ∙ read_all cs [] 0 refl fit
