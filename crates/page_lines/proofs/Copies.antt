-- Texts copied into a buffer, one after the other.
-- Assumes nothing.
use Prim.Native.Nat.{ℕ, ◌+◌, ◌≤◌}
use mathlib.Core.List.{List, ◌++◌, append_assoc}
use mathlib.Core.Path.{◌≡◌, refl, sym, ap₂, ◌∙◌}
use lib.ListN.{length, drop, length-append}
use lib.Seq.{take-append_seam, drop-append_seam, drop-drop}
use borrow.Rule.Slice.PartMut.{put_mid}
use Rattle.sequence.proofs.Putting.{Put}

-- the first text
pub put-first : (n : ℕ) (before ys : List ℕ) → length ys ≡ n → n ≤ length before → Put ys before (ys ++ drop n before) n
put-first n before ys l h = record { size = l; room = h; is = refl }

-- the next one
pub put-next : {text before after : List ℕ} {a : ℕ} (n : ℕ) (ys : List ℕ) → Put text before after a → length ys ≡ n → a + n ≤ length before
    → Put (text ++ ys) before (put_mid a n after ys) (a + n)
put-next {text} {before} {after} {a} n ys p l h =
    record {
      size = length-append text ys ∙ ap₂ ◌+◌ p.size l;
      room = h;
      is = rw (p.is, ← p.size, take-append_seam, drop-append_seam, p.size, drop-drop n a before) (sym (append_assoc text ys (drop (a + n) before)));
    }
