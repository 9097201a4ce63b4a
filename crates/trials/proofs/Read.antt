-- What reading into the front of fresh entry bytes shows, and what it leaves there.
-- Assumes nothing.
use Rattle.std.proofs.Common.{◌≡◌, ℕ, ◌+◌, ◌-◌, ◌<◌, ◌≤◌, ◌⊎◌, ◌&&◌, inl, inr, Bool, true, false, List, [], ◌∷◌, ◌++◌, length, take, drop, replicate, nat_le, arith, ◌∙◌, ap, refl}
use Rattle.std.proofs.Math.Seq.{take-append-add}
use Rattle.std.proofs.lemmas.List.{take-replicate, drop-replicate, length-replicate, length-append}
use Rattle.std.proofs.lemmas.Bool.{le-leb, leb-true, lt-leb}
use Rattle.bits.specs.Bits.{pick}
use Rattle.trials.specs.declared.reading.As.{As}
use Rattle.trials.specs.Tried.{told, entries_after}

-- the front of entry bytes of which so many were read into, with two more
two-more : (after buffer : List ℕ) (space : ℕ) → space ≤ 18000 → length buffer ≡ 18002 → buffer ≡ after ++ replicate (18002 - space) 7
    → take (space + 2) buffer ≡ after ++ 7 ∷ 7 ∷ []
two-more after buffer space l long e =
    let rest : List ℕ = replicate (18002 - space) 7 in
    let front : length after ≡ space = omega (arith, l, long, ap (λ b. length b) e, length-append after rest, length-replicate {A = ℕ} (18002 - space) 7) in
    let cut : take (space + 2) buffer ≡ take (length after + 2) (after ++ rest) = rw (e, front) refl in
    cut ∙ take-append-add after rest 2 ∙ ap (λ b. after ++ b) (take-replicate {X = ℕ} 2 (18002 - space) 7 (omega (arith, l)))

module _ (how : As) (space : ℕ) (f : List ℕ) where
  -- what is told, of the front of the fresh bytes
  pub told-front : pick (nat_le space 18002) (told how (take space (replicate 18002 7)) f) [] ≡ pick (nat_le space 18002) (told how (replicate space 7) f) []
  told-front = by (nat_le space 18002) refl
    where
      by : (b : Bool) → nat_le space 18002 ≡ b → pick b (told how (take space (replicate 18002 7)) f) [] ≡ pick b (told how (replicate space 7) f) []
      by true e = ap (λ buffer. told how buffer f) (take-replicate {X = ℕ} space 18002 7 (leb-true space 18002 e))
      by false e = refl

  -- the entry bytes after it, with two more
  pub entries-front : (buffer : List ℕ) → space ≤ 18000 → length buffer ≡ 18002
      → buffer ≡ pick (nat_le space 18002) (entries_after how (take space (replicate 18002 7)) f ++ drop space (replicate 18002 7)) (replicate 18002 7)
      → take (space + 2) buffer ≡ entries_after how (replicate space 7) f ++ 7 ∷ 7 ∷ []
  entries-front buffer l long e =
      two-more (entries_after how (replicate space 7) f) buffer space l long
      (rw (le-leb space 18002 (omega (arith, l))) at e
      ∙ ap (λ b. entries_after how b f ++ drop space (replicate 18002 7)) (take-replicate {X = ℕ} space 18002 7 (omega (arith, l)))
      ∙ ap (λ b. entries_after how (replicate space 7) f ++ b) (drop-replicate {X = ℕ} space 18002 7))

-- no entry bytes are shown
pub none-shown : {shows : Bool} (space : ℕ) → ((shows ≡ true) × (18000 < space)) ⊎ (shows ≡ false) → shows && nat_le space 18000 ≡ false
none-shown space (inl h) = rw h.0 (lt-leb space 18000 h.1)
none-shown space (inr h) = rw h refl
