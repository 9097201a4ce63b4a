-- What the text of a case holds, and the check sum of a text: what `trials` and `vectors` try the code with. No section of the papers: the form
-- of stored cases is the test programs' own.
-- Assumes nothing.
use Rattle.std.specs.Prelude.{ℕ, ◌+◌, ◌-◌, ◌*◌, ◌/◌, ◌%◌, ◌^◌, Bool, true, false, ◌&&◌, fold, List, length, ℤ, pos, neg_ℤ, ◌==◌, nat_le, nat_lt, slice_index_or}
use Rattle.std.specs.List.{list_any}
use Rattle.bits.specs.Bits.{pick}
use Rattle.plan.specs.declared.Plan.{Plan}
use Rattle.cases.specs.declared.Scan.{Scan}

-- ---- numbers: a number is a run of digits

unfoldable pub is_digit : ℕ → Bool
is_digit b = nat_le 48 b && nat_le b 57

-- after a byte that is no digit: a number that was read ends
unfoldable pub outside : Scan → Scan
outside s = record { ended = (s.ended + pick s.within 1 0) % 4294967296; value = s.value; within = false }

-- after a digit, which belongs to number k where k numbers ended
unfoldable pub inside : ℕ → Scan → ℕ → Scan
inside k s digit =
    record {
      ended = s.ended;
      value = pick (s.ended == k) (s.value % 1000000000000000000 * 10 + digit) s.value;
      within = true;
    }

-- one byte more
unfoldable pub stepped : ℕ → Scan → ℕ → Scan
stepped k s b = pick (is_digit b) (inside k s (b - 48)) (outside s)

unfoldable pub nothing_yet : Scan
nothing_yet = record { ended = 0; value = 0; within = false }

-- number k of a text, from 0 on: its last 19 digits
unfoldable pub long_at : ℕ → List ℕ → ℕ
long_at k text = (fold (stepped k) nothing_yet text).value

-- modulo 2 ^ 32
unfoldable pub number_at : ℕ → List ℕ → ℕ
number_at k text = long_at k text % 4294967296

-- number k, modulo 65,536, below 0 where the text has a minus
unfoldable pub signed_at : ℕ → List ℕ → ℤ
signed_at k text =
    let n = number_at k text % 65536 in
    pick (list_any (λ b. b == 45) text) (neg_ℤ (pos n)) (pos n)

-- the plan: the first six numbers
unfoldable pub plan_in : List ℕ → Plan
plan_in text =
    record {
      kind = number_at 0 text;
      spring = number_at 1 text;
      autumn = number_at 2 text;
      leap_month = number_at 3 text;
      leap_sign = signed_at 4 text;
      notice = number_at 5 text;
    }

-- how many minutes are asked for: 1 with the letter s, for a frame, else number 7
unfoldable pub count_in : ℕ → List ℕ → ℕ
count_in letter text = let n = number_at 7 text in pick (letter == 115) 1 n

-- ---- messages

-- the byte of a number that has so many bytes after it
abbrev pub byte_of : ℕ → ℕ → ℕ
byte_of n after = n / 2 ^ (8 * after) % 256

-- byte i of messages: a minute in four bytes and data in six for each, big-endian, which are the numbers of the text after number k
unfoldable pub message_byte : ℕ → List ℕ → ℕ → ℕ
message_byte k text i =
    let at = i % 10 in
    let minute = long_at (k + i / 10 * 2 + 1) text in
    let payload = long_at (k + i / 10 * 2 + 2) text in
    pick (nat_lt at 4) (byte_of minute (3 - at)) (byte_of payload (9 - at))

-- ---- given bits

-- byte i: a digit, 255 for an x, 0 after the text
unfoldable pub given_at : List ℕ → ℕ → ℕ
given_at digits i =
    let d = slice_index_or digits i 0 in
    pick (nat_le (length digits) i) 0 (pick (d == 120) 255 (d % 16))

-- ---- the check sum

-- with one byte more
abbrev pub summed : ℕ → ℕ → ℕ
summed sum b = (sum * 257 + b) % 4294967291

unfoldable pub check_sum : List ℕ → ℕ
check_sum text = fold summed 0 text
