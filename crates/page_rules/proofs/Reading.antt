-- Reading a whole recording, whatever the entry space: what its entries are, and that it can be read in parts.
-- Assumes nothing.
use Prim.Native.Nat.{ℕ, zero, suc, ◌+◌, ◌*◌, ◌/◌, ◌≤◌, ◌<◌}
use mathlib.Core.Bool.{Bool, true, false}
use mathlib.Core.List.{List, [], ◌∷◌, ◌++◌, append-nil}
use mathlib.Core.Logic.{◌⊎◌, inl, inr, ◌≢◌}
use mathlib.Core.Path.{◌≡◌, refl, sym, ap, subst, ◌∙◌}
use native.Mathlib.Nat.{zero-add}
use native.Mathlib.Decide.{dec_le}
use native.Mathlib.Omega.{arith}
use lib.Dec.{eqb}
use lib.ListN.{length, drop, length-drop, drop_of_length-le}
use lib.Seq.{drop-drop}
use borrow.Author.Tests.{eqb-true, eqb-false}
use Rattle.questions.specs.Questions.{one_of}
use Rattle.format.specs.Entry.{Entry, entry_size}
use Rattle.format.specs.Message.{is_message}
use Rattle.format.specs.Questions.{start, after, entry_next}
use Rattle.format.specs.Next.{Answer, refused, entry, read_next}
use Rattle.format.specs.Refusals.{next_numbers}
use Rattle.format.specs.declared.Due.{Due}
use Rattle.format.proofs.Accepted.{accepted}
use Rattle.format.proofs.Refusals.{not-refused, frame-answers, refused-injective}
use Rattle.sequence.specs.Reading.{Found, stop, add, read_frames, read_recording}
use Rattle.sequence.proofs.ReadRefusals.{among}
use Rattle.sequence.proofs.Steps.{ended, no-space, frame_refused, frame-read}
use Rattle.page_rules.specs.Printing.{read_on, read_all, entries_of}
use Rattle.page_rules.specs.Theorems.{SpaceAside, page_numbers}

-- ---- induction over a reading: it ends, has no space, is refused, or takes a frame and goes on

module _
    (P : ℕ → Due → List ℕ → Found → Type 0)
    (at-end : (n : ℕ) (due : Due) → P n due [] (stop due 0))
    (at_5 : (due : Due) (f : List ℕ) → 0 < length f → P 0 due f (stop due 5))
    (at-no : (n : ℕ) (due : Due) (f : List ℕ) (r : ℕ) → 0 < length f → read_next due false f ≡ refused r → P (suc n) due f (stop due r))
    (at-yes : (n : ℕ) (due : Due) (f : List ℕ) (e : Entry) (r : Found) → 0 < length f → read_next due false f ≡ entry e
    → r ≡ read_frames n (after due e) (drop e.seconds f) → P n (after due e) (drop e.seconds f) r → P (suc n) due f (add e r)) where
  pub by_frames : (n : ℕ) (due : Due) (f : List ℕ) → P n due f (read_frames n due f)
  by_frames zero due [] = subst (P 0 due []) (sym (ended 0 due)) (at-end 0 due)
  by_frames (suc n) due [] = subst (P (suc n) due []) (sym (ended (suc n) due)) (at-end (suc n) due)
  by_frames zero due (b ∷ f) = subst (P 0 due (b ∷ f)) (sym (no-space due (b ∷ f) (omega arith))) (at_5 due (b ∷ f) (omega arith))
  by_frames (suc n) due (b ∷ f) = go (read_next due false (b ∷ f)) refl (by_frames n)
    where
      go : (a : Answer) → read_next due false (b ∷ f) ≡ a → ((d : Due) (g : List ℕ) → P n d g (read_frames n d g))
          → P (suc n) due (b ∷ f) (read_frames (suc n) due (b ∷ f))
      go (refused r) q next =
          subst (P (suc n) due (b ∷ f)) (sym (frame_refused n due (b ∷ f) (omega arith) r q)) (at-no n due (b ∷ f) r (omega arith) q)
      go (entry e) q next =
          subst (P (suc n) due (b ∷ f)) (sym (frame-read n due (b ∷ f) (omega arith) e q))
          (at-yes n due (b ∷ f) e (read_frames n (after due e) (drop e.seconds (b ∷ f))) (omega arith) q refl (next (after due e) (drop e.seconds (b ∷ f))))

-- ---- the numbers of the next frame's questions

-- those of both kinds of frames
both-kinds : (b : Bool) (n : ℕ) → one_of (next_numbers b) n ≡ true → one_of page_numbers n ≡ true
both-kinds true n h = among (next_numbers true) page_numbers n (unfold one_of in refl) h
both-kinds false n h = among (next_numbers false) page_numbers n (unfold one_of in refl) h

next-number : (due : Due) (f : List ℕ) (n : ℕ) → read_next due false f ≡ refused n → one_of page_numbers n ≡ true
next-number due f n h = go (frame-answers due false f)
  where
    go : (read_next due false f ≡ entry (entry_next due f)) ⊎ ((k : ℕ) × (one_of (next_numbers (is_message f)) k ≡ true) × (read_next due false f ≡ refused k))
        → one_of page_numbers n ≡ true
    go (inl q) = absurd (not-refused n (entry_next due f) (sym h ∙ q))
    go (inr q) = subst (λ (k : ℕ). one_of page_numbers k ≡ true) (refused-injective q.0 n (sym q.2 ∙ h)) (both-kinds (is_message f) q.0 q.1)

-- 0, 4 and 5 are none of them
pub not_listed : (n : ℕ) → one_of page_numbers n ≡ true → 5 < n
unfolding one_of
not_listed zero h = let z : ◌≡◌ {A = ℕ} 0 1 = cc in absurd (omega arith)
not_listed (suc zero) h = let z : ◌≡◌ {A = ℕ} 0 1 = cc in absurd (omega arith)
not_listed (suc (suc zero)) h = let z : ◌≡◌ {A = ℕ} 0 1 = cc in absurd (omega arith)
not_listed (suc (suc (suc zero))) h = let z : ◌≡◌ {A = ℕ} 0 1 = cc in absurd (omega arith)
not_listed (suc (suc (suc (suc zero)))) h = let z : ◌≡◌ {A = ℕ} 0 1 = cc in absurd (omega arith)
not_listed (suc (suc (suc (suc (suc zero))))) h = let z : ◌≡◌ {A = ℕ} 0 1 = cc in absurd (omega arith)
not_listed (suc (suc (suc (suc (suc (suc n)))))) h = omega arith

-- ---- what a reading finds, of its numbers

-- at most n entries, of 59 bits each or more, whose bits are there
pub record Sized (n : ℕ) (f : List ℕ) (r : Found) : Type 0 where
  pub slots : length r.entries ≤ n
  pub long : 59 * length r.entries ≤ r.used
  pub within : r.used ≤ length f
  pub none : length r.entries ≡ 0 → r.used ≡ 0
  -- out of space only where all n are taken and bits are left; complete only where none are left
  pub full : r.refusal ≡ 5 → (length r.entries ≡ n) × (r.used < length f)
  pub whole : r.refusal ≡ 0 → r.used ≡ length f
  pub taken : length r.entries ≡ n → (r.refusal ≡ 0) ⊎ (r.refusal ≡ 5)
  pub listed : (r.refusal ≡ 0) ⊎ ((r.refusal ≡ 5) ⊎ (one_of page_numbers r.refusal ≡ true))

sized-stop : (n : ℕ) (due : Due) (f : List ℕ) (k : ℕ) → (k ≡ 5 → (n ≡ 0) × (0 < length f)) → (k ≡ 0 → length f ≡ 0)
    → (0 ≡ n → (k ≡ 0) ⊎ (k ≡ 5))
    → (k ≡ 0) ⊎ ((k ≡ 5) ⊎ (one_of page_numbers k ≡ true)) → Sized n f (stop due k)
unfolding stop
sized-stop n due f k p q t l =
    record {
      slots = omega arith;
      long = omega arith;
      within = omega arith;
      none = λ h. refl;
      full = λ h. (sym (p h).0, (p h).1);
      whole = λ h. sym (q h);
      taken = t;
      listed = l;
    }

sized-add : (n : ℕ) (due : Due) (f : List ℕ) (e : Entry) (r : Found) → read_next due false f ≡ entry e → Sized n (drop e.seconds f) r → Sized (suc n) f (add e r)
unfolding add
sized-add n due f e r q s =
    let a = accepted due false f e q in
    let l = length-drop e.seconds f in
    record {
      slots = omega (arith, s.slots);
      long = omega (arith, s.long, a.long);
      within = omega (arith, s.within, l, a.enough-left);
      none = λ h. absurd (omega arith);
      full = λ h. (ap suc (s.full h).0, omega (arith, (s.full h).1, l));
      whole = λ h. omega (arith, s.whole h, l, a.enough-left);
      taken = λ h. s.taken (omega arith);
      listed = s.listed;
    }

pub sized : (n : ℕ) (due : Due) (f : List ℕ) → Sized n f (read_frames n due f)
sized =
    by_frames (λ n due f r. Sized n f r)
    (λ n due. sized-stop n due [] 0 (λ h. absurd (omega arith)) (λ h. refl) (λ h. inl refl) (inl refl))
    (λ due f h. sized-stop 0 due f 5 (λ k. (refl, h)) (λ k. absurd (omega arith)) (λ k. inr refl) (inr (inl refl)))
    (λ n due f r h q.
    let l = next-number due f r q in
    sized-stop (suc n) due f r (λ k. absurd (omega (arith, not_listed r l))) (λ k. absurd (omega (arith, not_listed r l))) (λ k. absurd (omega arith)) (inr (inr l)))
    (λ n due f e r h q i s. sized-add n due f e r q s)

-- space for an entry a bit is space enough
pub never-5 : (n : ℕ) (due : Due) (f : List ℕ) → length f ≤ n → (read_frames n due f).refusal ≢ 5
never-5 n due f h k =
    let s = sized n due f in
    omega (arith, (s.full k).0, (s.full k).1, s.long, s.within)

-- ---- more space changes nothing where it was enough

-- a number above another
one_less : (n m : ℕ) → suc n ≤ m → (j : ℕ) × (m ≡ suc j) × (n ≤ j)
one_less n zero h = absurd (omega arith)
one_less n (suc j) h = (j, refl, omega arith)

same-refusal : (e : Entry) (r : Found) → (add e r).refusal ≢ 5 → r.refusal ≢ 5
unfolding add
same-refusal e r h = h

pub enough-space : (n : ℕ) (due : Due) (f : List ℕ) (m : ℕ) → (read_frames n due f).refusal ≢ 5 → n ≤ m → read_frames m due f ≡ read_frames n due f
enough-space =
    by_frames (λ n due f r. (m : ℕ) → r.refusal ≢ 5 → n ≤ m → read_frames m due f ≡ r)
    (λ n due m h l. ended m due)
    (λ due f h m k l. absurd (k (unfold stop in refl)))
    (λ n due f r h q m k l. let (j, e, l') = one_less n m l in rw e (frame_refused j due f h r q))
    (λ n due f e r h q i s m k l.
    let (j, p, l') = one_less n m l in
    rw p (frame-read j due f h e q ∙ ap (add e) (s j (same-refusal e r k) l')))

-- whatever the space, unless it gives 5
pub read-on-same : (n : ℕ) (due : Due) (f : List ℕ) → (read_frames n due f).refusal ≢ 5 → read_frames n due f ≡ read_on due f
unfolding read_on
read-on-same n due f h = elim (dec_le n (length f)) [
  | yes l ↦ sym (enough-space n due f (length f) h l)
  | no l ↦ enough-space (length f) due f n (never-5 (length f) due f (omega arith)) (omega arith)
]

pub space-aside : SpaceAside
unfolding read_all read_on read_recording
space-aside =
    record {
      never = λ f. never-5 (length f) start f (omega arith);
      same = λ space f h. read-on-same (space / entry_size) start f h;
    }

-- ---- frame by frame, and in parts

pub on-end : (due : Due) → read_on due [] ≡ stop due 0
unfolding read_on
on-end due = ended 0 due

pub on-refused : (due : Due) (f : List ℕ) (r : ℕ) → 0 < length f → read_next due false f ≡ refused r → read_on due f ≡ stop due r
unfolding read_on
on-refused due f r h q = let (j, e, l) = one_less 0 (length f) h in rw e (frame_refused j due f h r q)

pub on_read : (due : Due) (f : List ℕ) (e : Entry) → 0 < length f → read_next due false f ≡ entry e
    → read_on due f ≡ add e (read_on (after due e) (drop e.seconds f))
unfolding read_on
on_read due f e h q =
    let (j, p, l) = one_less 0 (length f) h in
    let a = accepted due false f e q in
    let g = drop e.seconds f in
    let k : read_frames j (after due e) g ≡ read_frames (length g) (after due e) g =
    enough-space (length g) (after due e) g j (never-5 (length g) (after due e) g (omega arith)) (omega (arith, length-drop e.seconds f, a.long)) in
    ap (λ (n : ℕ). read_frames n due f) p ∙ frame-read j due f h e q ∙ ap (add e) k

-- entries of so many bits, before what is found after them
unfoldable pub before : List Entry → ℕ → Found → Found
before es used r = record { entries = es ++ r.entries; used = used + r.used; refusal = r.refusal; due = r.due }

before-none : (r : Found) → before [] 0 r ≡ r
unfolding before
before-none r = ap (λ (n : ℕ). record { entries = r.entries; used = n; refusal = r.refusal; due = r.due }) (zero-add r.used)

before-add : (e : Entry) (es : List Entry) (used : ℕ) (r : Found) → add e (before es used r) ≡ before (e ∷ es) (e.seconds + used) r
unfolding before add
before-add e es used r =
    ap (λ (n : ℕ). record { entries = e ∷ (es ++ r.entries); used = n; refusal = r.refusal; due = r.due }) (omega arith)

-- where the space gives 5, the whole is what was read and what is read on from there
abbrev Parts : Due → List ℕ → Found → Type 0
Parts due f r = r.refusal ≡ 5 → read_on due f ≡ before r.entries r.used (read_on r.due (drop r.used f))

parts_add : (due : Due) (f : List ℕ) (e : Entry) (r : Found) → 0 < length f → read_next due false f ≡ entry e
    → Parts (after due e) (drop e.seconds f) r → Parts due f (add e r)
unfolding add
parts_add due f e r h q s k =
    on_read due f e h q
    ∙ ap (add e) (s k)
    ∙ before-add e r.entries r.used (read_on r.due (drop r.used (drop e.seconds f)))
    ∙ ap (λ (g : List ℕ). before (e ∷ r.entries) (e.seconds + r.used) (read_on r.due g)) (drop-drop r.used e.seconds f)

pub read-parts : (n : ℕ) (due : Due) (f : List ℕ) → Parts due f (read_frames n due f)
read-parts =
    by_frames (λ n due f r. Parts due f r)
    (λ n due. (unfold stop in λ k. absurd (omega arith)))
    (λ due f h. (unfold stop in λ k. sym (before-none (read_on due f))))
    (λ n due f r h q. (unfold stop in λ k. absurd (omega (arith, not_listed r (next-number due f r q)))))
    (λ n due f e r h q i s. parts_add due f e r h q s)

-- a part of an accepted reading: the first entries, and what is read on after them
pub record PartOf (n : ℕ) (due : Due) (f : List ℕ) (r : Found) : Type 0 where
  pub accepted-on : (read_on r.due (drop r.used f)).refusal ≡ 0
  pub split : (read_on due f).entries ≡ r.entries ++ (read_on r.due (drop r.used f)).entries
  -- all n entries where bits are left
  pub full-part : r.used < length f → length r.entries ≡ n

ends-after : (r : Found) (f : List ℕ) → r.used ≡ length f → read_on r.due (drop r.used f) ≡ stop r.due 0
ends-after r f h = rw (drop_of_length-le f {i = r.used} (omega arith)) (on-end r.due)

part-whole : (n : ℕ) (due : Due) (f : List ℕ) (r : Found) → read_on due f ≡ r → r.used ≡ length f → PartOf n due f r
unfolding stop
part-whole n due f r same h =
    let e = ends-after r f h in
    record {
      accepted-on = rw e;
      split = rw (same, e) (sym (append-nil r.entries));
      full-part = λ l. absurd (omega arith);
    }

part-full : (n : ℕ) (due : Due) (f : List ℕ) (r : Found) → read_on due f ≡ before r.entries r.used (read_on r.due (drop r.used f))
    → (read_on due f).refusal ≡ 0 → length r.entries ≡ n → PartOf n due f r
unfolding before
part-full n due f r p z l =
    record {
      accepted-on = sym (ap (λ (s : Found). s.refusal) p) ∙ z;
      split = ap (λ (s : Found). s.entries) p;
      full-part = λ h. l;
    }

pub part_of : (n : ℕ) (due : Due) (f : List ℕ) → (read_on due f).refusal ≡ 0 → PartOf n due f (read_frames n due f)
part_of n due f z = go (eqb r.refusal 5) refl
  where
    r : Found
    r = read_frames n due f

    go : (b : Bool) → eqb r.refusal 5 ≡ b → PartOf n due f r
    go true e = let h = eqb-true r.refusal 5 e in part-full n due f r (read-parts n due f h) z ((sized n due f).full h).0
    go false e =
        let same = sym (read-on-same n due f (eqb-false r.refusal 5 e)) in
        part-whole n due f r same ((sized n due f).whole (ap (λ (s : Found). s.refusal) (sym same) ∙ z))

-- ---- what follows for the entries of a recording

pub entries-59 : (f : List ℕ) → 59 * length (entries_of f) ≤ length f
unfolding read_all read_on
entries-59 f = let s = sized (length f) start f in omega (arith, s.long, s.within)

pub all-answers : (f : List ℕ) → ((read_all f).refusal ≡ 0) ⊎ (one_of page_numbers (read_all f).refusal ≡ true)
unfolding read_all read_on
all-answers f = go (sized (length f) start f).listed
  where
    r : ℕ
    r = (read_frames (length f) start f).refusal

    go : (r ≡ 0) ⊎ ((r ≡ 5) ⊎ (one_of page_numbers r ≡ true)) → (r ≡ 0) ⊎ (one_of page_numbers r ≡ true)
    go (inl h) = inl h
    go (inr (inl h)) = absurd (never-5 (length f) start f (omega arith) h)
    go (inr (inr h)) = inr h

-- a reading that is refused or takes a frame is not one that accepts nothing
stopped-not : (due : Due) (k : ℕ) (r : Found) → r ≡ stop due k → r.refusal ≡ 0 → k ≡ 0
unfolding stop
stopped-not due k r e z = rw e at z

added-not : (e : Entry) (s r : Found) → r ≡ add e s → r.entries ≡ [] → ⊥
unfolding add
added-not e s r q h = omega (arith, ap length (rw q at h))

pub nothing_read_lem : (f : List ℕ) → (read_all f).refusal ≡ 0 → entries_of f ≡ [] → f ≡ []
unfolding read_all
nothing_read_lem [] z h = refl
nothing_read_lem (b ∷ f) z h = go (read_next start false (b ∷ f)) refl
  where
    go : (a : Answer) → read_next start false (b ∷ f) ≡ a → b ∷ f ≡ []
    go (refused r) q =
        absurd (omega (arith, not_listed r (next-number start (b ∷ f) r q), stopped-not start r _ (on-refused start (b ∷ f) r (omega arith) q) z))
    go (entry e) q = absurd (added-not e _ _ (on_read start (b ∷ f) e (omega arith) q) h)
