-- A chip that was wrong at four gets is proposed, and not after three.
--
--   one_differs     a block with one byte set to another value differs there alone
--   changed_is      a reading of it adds that position
--   get_then        so the book says of a get
--   three, four     what a run of three and of four proposes
--   next, ends      one get more, and four of them
--   four_gets       THE STATEMENT
use Prim.Native.Nat.{ℕ, ◌+◌, ◌*◌, ◌≤◌, ◌<◌}
use mathlib.Core.Path.{◌≡◌, refl, sym, ap, ◌∙◌, subst}
use mathlib.Core.Logic.{◌≢◌, ◌⊎◌, inl, inr}
use mathlib.Core.Bool.{Bool, true, false, ◌&&◌, ◌||◌, not}
use mathlib.Core.List.{List, [], ◌∷◌, ◌++◌}
use native.Mathlib.Omega.{arith}
use lib.Dec.{eqb}
use lib.ListN.{length, set, length-replicate, length-set, replicate}
use lib.Seq.{get_or-set_same, get_or-set_other}
use borrow.Author.Tests.{eq-eqb, ne_eqb}
use Rattle.std.proofs.lemmas.Bool.{cases_eq}
use Rattle.base.specs.Base.{bit, only}
use Rattle.base.proofs.Tally.{one_le}
use Rattle.base.proofs.Those.{two_listed, between_in}
use Rattle.answer.specs.Answer.{Answer, done, clean, in_chips, in_card, counted, refused, refused_card}
use Rattle.answer.proofs.Causes.{by_accepted}
use Rattle.marks.specs.Marks.{fresh_marks}
use Rattle.std.specs.Prelude.{None}
use Rattle.marks.specs.declared.Marks.{Marks}
use Rattle.marks.proofs.Laws.{few_chips}
use Rattle.code.specs.Block.{byte, zeros, Stored, differing}
use Rattle.code.specs.Labels.{built_in}
use Rattle.code.proofs.BuiltIn.{built_in_set}
use Rattle.reading.specs.Reading.{S, ReadsUnder}
use Rattle.reading.proofs.Facts.{chip_one}
use Rattle.window.specs.Window.{last_64, proposal, window_of}
use Rattle.window.specs.Window.{Chip, Nothing}
use Rattle.window.proofs.Proposed.{proposed_exactly}
use Rattle.block.specs.Read.{changed_at}
use Rattle.bank.specs.Calls.{block, get_cause}
use Rattle.book.specs.Book.{put, get, call, hit, Seen, State, Book, fresh_book, size, marks_of, held_at, state_of}
use Rattle.book.specs.Book.{with_both, with_run, noted, Booked, Step}
use Rattle.book.specs.Noted.{FourGets}
use Rattle.book.proofs.Blocks.{each_replicate, each_set, block_flat}
use Rattle.book.proofs.Whole.{whole}
use Rattle.book.proofs.OneHit.{one_byte, fresh_lawful, after, gets, put_then, held}

-- ---- one byte
one_differs : (b : List ℕ) (i x : ℕ) → length b ≡ 45 → i < 45 → byte b i ≢ x → differing (set b i x) b ≡ i ∷ []
unfolding differing
one_differs b i x l h n =
    two_listed 45 0 (λ p. not (eqb (byte (set b i x) p) (byte b p))) i i true false (omega arith) (λ e. refl) (λ p g k. at p (cases_eq p i))
    ∙ ap (λ (t : Bool). only (true && t) i ++ []) (between_in 0 45 i (omega arith) (omega arith))
  where
    at : (p : ℕ) → (p ≡ i) ⊎ (p ≢ i) → not (eqb (byte (set b i x) p) (byte b p)) ≡ (eqb p i && true) || (eqb p i && false)
    at p (inl e) = rw (e, eq-eqb i i refl, get_or-set_same b i x 0 (omega (arith, l)), ne_eqb x (byte b i) (λ q. n (sym q))) refl
    at p (inr e) = rw (ne_eqb p i e, get_or-set_other b i p x 0 e, eq-eqb (byte b p) (byte b p) refl) refl

-- ---- a reading of it
module _ (rec good : List ℕ) (stored : Stored built_in rec good) (i x : ℕ) (h : i < 45) (n : byte good i ≢ x) where
  member : S built_in None [] (set good i x) good
  member = record { block = stored.block; lawful = stored.lawful; allowed = inl (one_byte good i x) }

  pub changed_is : (out : List ℕ) (a : Answer) (y : List ℕ) → ReadsUnder fresh_marks (set good i x) out a y → changed_at a (set good i x) y ≡ i ∷ []
  changed_is out a y w = go a w
    where
      there : (y : List ℕ) → good ≡ y → differing (set good i x) y ≡ i ∷ []
      there y e = ap (differing (set good i x)) (sym e) ∙ one_differs good i x stored.block.long h n

      go : (a : Answer) → ReadsUnder fresh_marks (set good i x) out a y → changed_at a (set good i x) y ≡ i ∷ []
      go clean w = there y (w.0.1 good member)
      go (in_chips m) w = there y (w.0.1 good member)
      go (in_card j m) w = there y (w.0.1 good member)
      go (refused m) w = absurd (w.1 good member)
      go (refused_card m j) w =
          let one = chip_one built_in built_in_set [] (few_chips fresh_marks fresh_lawful) (set good i x) None tt good member (one_byte good i x) in
          let t = w.1 in
          absurd (t.4 (one.1 t.0 t.2 ∙ sym (one.1 t.1 t.3)))
      go done w = absurd w
      go (counted p q r s t) w = absurd w

  -- what the book says of a get, where block k is held so and nothing is marked
  get_then : (b b' : Book) (k : ℕ) (out : List ℕ) (u : Seen) → held_at b k ≡ set good i x → marks_of b ≡ fresh_marks
      → get_cause (size b) k fresh_marks (length out) ≡ 0 → Step b (call (get k out)) u b' → b' ≡ noted b (i ∷ [])
  get_then b b' k out u e m z w =
      let a = w.says.0 in
      let d = by_accepted _ a _ _ (ap (λ (c : Marks). get_cause (size b) k c (length out)) m ∙ z) w.says.2 in
      d.1 ∙ ap (noted b) (ap (λ (l : List ℕ). changed_at a l u.output) e
      ∙ changed_is out a u.output (subst (λ (c : Marks). ReadsUnder c (set good i x) out a u.output) m
      (subst (λ (l : List ℕ). ReadsUnder (marks_of b) l out a u.output) e d.0)))

-- ---- what is proposed
module _ (i : ℕ) (h : i < 45) where
  here : (p : ℕ) → p ≡ i → bit (eqb i p) ≡ 1
  here p e = ap bit (eq-eqb i p (sym e))

  other : (p : ℕ) → p ≢ i → bit (eqb i p) ≡ 0
  other p n = ap bit (ne_eqb i p (λ e. n (sym e)))

  three : proposal (i ∷ i ∷ i ∷ []) fresh_marks ≡ Nothing
  three = (proposed_exactly (i ∷ i ∷ i ∷ []) fresh_marks).nothing.1 (fresh_lawful, λ q d. omega (arith, one_le (eqb i q), d.often))

  four : proposal (i ∷ i ∷ i ∷ i ∷ []) fresh_marks ≡ Chip i
  four = ((proposed_exactly (i ∷ i ∷ i ∷ i ∷ []) fresh_marks).chip i).1 (
    fresh_lawful,
    record {
      position = h;
      often = omega (arith, here i refl);
      unmarked = λ z. z;
      card_unmarked = λ e. let z : ◌≡◌ {A = ℕ} 0 1 = cc in omega arith;
    },
    λ q l d. omega (arith, other q (λ e. omega (arith, l, e)), d.often),
  )

-- ---- the list
module _ (n k : ℕ) (hi : n ≤ 1024) (hk : k < n) (rec out : List ℕ) (lr : length rec ≡ 34) (lq : length out ≡ 45) (i x : ℕ) (h : i < 45)
    (good : List ℕ) (stored : Stored built_in rec good) where
  -- the book after the put and the hit, with the run l
  abbrev with : List ℕ → Book
  with l = with_run (after n k good i x) l

  pub many_is : length (set (set (replicate n zeros) k good) k (set good i x)) ≡ n
  many_is = length-set (set (replicate n zeros) k good) k (set good i x) ∙ length-set (replicate n zeros) k good ∙ length-replicate n zeros

  -- the block that was put is in the bank
  pub stored_at : (s : Seen) (b : Book) → b ≡ with_both (fresh_book n) k good → s.after ≡ state_of b → block s.after.bank k ≡ good
  stored_at s b e a =
      ap (λ (τ : State). block τ.bank k) (a ∙ ap state_of e)
      ∙ block_flat 45 (set (replicate n zeros) k good) k (each_set 45 (replicate n zeros) k good (each_replicate 45 n zeros refl) stored.block.long)
      (omega (arith, length-set (replicate n zeros) k good, length-replicate n zeros))
      ∙ get_or-set_same (replicate n zeros) k good [] (omega (arith, length-replicate n zeros))

  next : byte good i ≢ x → (l : List ℕ) (b b' : Book) (u : Seen) → b ≡ with l → Step b (call (get k out)) u b' → b' ≡ with (l ++ (i ∷ []))
  next ne l b b' u e w =
      get_then rec good stored i x h ne (with l) b' k out u (held n k hi hk rec out lr lq i x h good) refl
      (ap (λ (m : ℕ). get_cause (45 * m) k fresh_marks (length out)) many_is ∙ gets n k hi hk rec out lr lq i x h)
      (subst (λ (c : Book). Step c (call (get k out)) u b') e w)

  ends : byte good i ≢ x → (b₂ b₃ b₄ b₅ b₆ : Book) (u₁ u₂ u₃ u₄ : Seen) → b₂ ≡ after n k good i x → Step b₂ (call (get k out)) u₁ b₃
      → Step b₃ (call (get k out)) u₂ b₄ → Step b₄ (call (get k out)) u₃ b₅ → Step b₅ (call (get k out)) u₄ b₆
      → (u₃.proposal ≡ Nothing) × (u₄.proposal ≡ Chip i) × (u₄.after.window ≡ window_of (i ∷ i ∷ i ∷ i ∷ []))
  ends ne b₂ b₃ b₄ b₅ b₆ u₁ u₂ u₃ u₄ e w₃ w₄ w₅ w₆ =
      let e₃ = next ne [] b₂ b₃ u₁ e w₃ in
      let e₄ = next ne (i ∷ []) b₃ b₄ u₂ e₃ w₄ in
      let e₅ = next ne (i ∷ i ∷ []) b₄ b₅ u₃ e₄ w₅ in
      let e₆ = next ne (i ∷ i ∷ i ∷ []) b₅ b₆ u₄ e₅ w₆ in (
        w₅.proposal ∙ ap (λ (b : Book). proposal (last_64 b.run) (marks_of b)) e₅ ∙ three i h,
        w₆.proposal ∙ ap (λ (b : Book). proposal (last_64 b.run) (marks_of b)) e₆ ∙ four i h,
        ap (λ (τ : State). τ.window) w₆.after ∙ ap (λ (b : Book). window_of b.run) e₆,
      )

pub four_gets : FourGets
four_gets n k hi hk rec out lr lq i x h s t u₁ u₂ u₃ u₄ r ne =
    let v = whole n (omega arith) hi _ (s ∷ t ∷ u₁ ∷ u₂ ∷ u₃ ∷ u₄ ∷ []) r in
    go v.0 v.1
  where
    go : (b : Book)
        → Booked (fresh_book n) (call (put k rec) ∷ hit (45 * k + i) x ∷ call (get k out) ∷ call (get k out) ∷ call (get k out) ∷ call (get k out) ∷ [])
        (s ∷ t ∷ u₁ ∷ u₂ ∷ u₃ ∷ u₄ ∷ []) b
        → (u₃.proposal ≡ Nothing) × (u₄.proposal ≡ Chip i) × (u₄.after.window ≡ window_of (i ∷ i ∷ i ∷ i ∷ []))
    go b (Booked.then {b' = b₁} w₁ (Booked.then {b' = b₂} w₂
        (Booked.then {b' = b₃} w₃ (Booked.then {b' = b₄} w₄ (Booked.then {b' = b₅} w₅ (Booked.then {b' = b₆} w₆ Booked.end)))))) =
        let g = put_then n k hi hk rec out lr lq i x h s t b₁ b₂ w₁ w₂ in
        let at = stored_at n k hi hk rec out lr lq i x h g.0 g.2 s b₁ g.3 w₁.after in
        ends n k hi hk rec out lr lq i x h g.0 g.2 (subst (λ (l : List ℕ). byte l i ≢ x) at ne) b₂ b₃ b₄ b₅ b₆ u₁ u₂ u₃ u₄ g.1 w₃ w₄ w₅ w₆
