-- Laws of writing: UT1, the fields of values, and markers after a row.
-- Assumes nothing.
use Prim.Native.Nat.{ℕ, suc, ◌+◌, ◌-◌, ◌≤◌, ◌<◌}
use mathlib.Core.Bool.{true}
use mathlib.Core.List.{List, [], ◌∷◌, ◌++◌, append-nil, append_assoc}
use mathlib.Core.Path.{◌≡◌, sym, ap, ◌∙◌}
use native.Mathlib.Omega.{arith}
use lib.ListN.{length, take, drop, set, get_or, replicate, length-append, take-append-drop}
use lib.Seq.{drop-cons, drop-drop, set_at, take_at, drop_at, length-take-le}
use Rattle.symbols.specs.Symbols.{marker, fill, Within}
use Rattle.plan.specs.Plan.{min_frame, max_frame}
use Rattle.amplitude_rules.specs.Amplitude.{table1, digits, legal_values, fields_of, symbols}
use Rattle.amplitude_rules.specs.declared.Fields.{Fields}
use Rattle.amplitude_rules.specs.declared.Values.{Values}
use Rattle.amplitude_rules.proofs.Facts.{legal, lengths}
use Rattle.amplitude_rules.proofs.Digits.{digits-within}
use Rattle.amplitude_rules.proofs.ReadBack.{small, length-row}

-- ---- the fields of legal values, and their length

pub fields_within : (r : Values) (x : Fields) → legal_values r ≡ true → x ≡ fields_of r → Within table1 (digits x)
fields_within r x h e = rw e (digits-within (fields_of r) (small r (legal r h)))

pub values_length : (r : Values) → legal_values r ≡ true → (min_frame ≤ r.seconds) × (r.seconds ≤ max_frame)
values_length r h = lengths _ r.warning r.seconds (legal r h).length

-- ---- markers after a row

-- a marker put after a list that was written
marked : (w out : List ℕ) (n : ℕ) → length w ≡ n → n < length out → set (w ++ drop n out) n marker ≡ (w ++ (marker ∷ [])) ++ drop (suc n) out
marked w out n e h =
    ap (λ (l : List ℕ). set (w ++ l) n marker) (drop-cons out n 0 h)
    ∙ set_at w (get_or out n 0) (drop (suc n) out) marker n e
    ∙ sym (append_assoc w (marker ∷ []) (drop (suc n) out))

-- the markers of a minute of n seconds, put into a list
module _ (out : List ℕ) (n : ℕ) (long : n ≤ length out) where
  abbrev w : List ℕ
  w = take min_frame out

  abbrev Ended : List ℕ → Type 0
  Ended l = l ≡ w ++ replicate (n - min_frame) marker ++ drop n out

  whole : out ≡ w ++ drop min_frame out
  whole = sym (take-append-drop min_frame out)

  row-length : min_frame ≤ length out → length w ≡ min_frame
  row-length h = length-take-le min_frame out h

  pub no-marker : n ≡ 59 → Ended out
  no-marker k = whole ∙ rw k (ap (λ (v : List ℕ). v ++ drop 59 out) (sym (append-nil w)))

  pub one-marker : n ≡ 60 → Ended (set out 59 marker)
  one-marker k = ap (λ (v : List ℕ). set v 59 marker) whole ∙ rw k (marked w out 59 (row-length (omega arith)) (omega arith))

  pub two-markers : n ≡ 61 → Ended (set (set out 59 marker) 60 marker)
  two-markers k =
      let f : length (w ++ (marker ∷ [])) ≡ 60 = omega (arith, length-append w (marker ∷ []), row-length (omega arith)) in
      ap (λ (v : List ℕ). set (set v 59 marker) 60 marker) whole
      ∙ ap (λ (v : List ℕ). set v 60 marker) (marked w out 59 (row-length (omega arith)) (omega arith))
      ∙ marked (w ++ (marker ∷ [])) out 60 f (omega arith)
      ∙ rw k (ap (λ (v : List ℕ). v ++ drop 61 out) (append_assoc w (marker ∷ []) (marker ∷ [])))

-- the symbols of a minute: its row in l, and the markers in m
pub symbols-are : (r : Values) (x : Fields) (l m out : List ℕ) → min_frame ≤ r.seconds → x ≡ fields_of r → l ≡ fill table1 (digits x) ++ drop min_frame out
    → m ≡ take min_frame l ++ replicate (r.seconds - min_frame) marker ++ drop r.seconds l → m ≡ symbols r ++ drop r.seconds out
unfolding symbols
symbols-are r x l m out h ex el em =
    let row = fill table1 (digits x) in
    let n = length-row (digits x) in
    let e : r.seconds ≡ min_frame + (r.seconds - min_frame) = omega arith in
    let k = r.seconds - min_frame in
    let d : drop r.seconds (row ++ drop min_frame out) ≡ drop r.seconds out =
    rw e (sym (drop-drop k min_frame (row ++ drop min_frame out)) ∙ rw (drop_at row (drop min_frame out) min_frame n) (drop-drop k min_frame out)) in
    em ∙ rw (el, take_at row (drop min_frame out) min_frame n, d, ex)
