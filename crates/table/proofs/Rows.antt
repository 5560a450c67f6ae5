-- Rows, each from tests that antt computes, over the labels in figures.
--
--   only b x f      b and x differ only where f passes
--   block_by        x is a block; lawful_by: and lawful
--   fit b ps j      a change of card j and of the chips ps reaches a lawful block
--   chips_row       corrected in chips; under a card mark, card_row: on that card; beside_row: in chips, all off it
--   only_card       no card but i reaches a lawful block
--   search_row      corrected on the one card that does
--   several_row     several: zeros, by card i, and what card j reaches, which keeps a byte of b that is not 0; the card named is k, and js fit
use mathlib.Core.Logic.{◌≢◌, ◌⊎◌, inl, inr, ◌↔◌}
use mathlib.Core.Path.{◌≡◌, refl, sym, ap, ◌∙◌, subst}
use mathlib.Core.Bool.{Bool, true, false, not}
use mathlib.Core.List.{List, ◌∷◌}
use Prim.Native.Nat.{ℕ, ◌/◌, ◌<◌, ◌≤◌}
use native.Mathlib.Omega.{arith}
use lib.Dec.{T, T_not, eqb, eqb→eq, ltb, ltb→lt}
use lib.ListN.{length, take}
use borrow.Author.Tests.{eq-eqb, eqb-false}
use Rattle.base.specs.Base.{In, is_in, Rising, Few, those}
use Rattle.base.proofs.Tests.{either, either_cases, every, every_at, is_true}
use Rattle.base.proofs.Lists.{in_is_in, is_in_in}
use Rattle.base.proofs.Tally.{clash}
use Rattle.base.proofs.Those.{those_in, those_rising}
use Rattle.answer.specs.Answer.{in_chips, in_card}
use Rattle.field.specs.Field.{sum, ◌·◌}
use Rattle.code.specs.Block.{byte, position, Block, DifferOnly, Stored, changes, OneMember, TwoMembers, zeros}
use Rattle.code.specs.Labels.{built_in}
use Rattle.code.specs.Reach.{rules, keep, Reached}
use Rattle.code.proofs.BuiltIn.{figures, in_figures, built_in_set}
use Rattle.code.proofs.Reach.{fits, closed, candidate_few, reached_few}
use Rattle.code.proofs.Members.{zero_stored}
use Rattle.std.specs.Prelude.{None, Some}
use Rattle.reading.specs.Allowed.{u, further, further_beside, ChipKind, BesideKind, CardChanged}
use Rattle.reading.specs.Reading.{S, Reaches, LowestReaching}
use Rattle.reading.proofs.Searches.{covered, covers}
use Rattle.reading.proofs.Facts.{chip_one, card_one, reaches, reached_by}
use Rattle.table.specs.Table.Told.{corrected, several}
use Rattle.table.proofs.Settled.{Exactly, one_answer, two_members}

-- ---- tests
-- P holds where the test t passes
record So (t : Bool) (P : Type 0) : Type 0 where
  so : T t → P

or : {s t : Bool} {P Q : Type 0} → So s P → So t Q → So (either s t) (P ⊎ Q)
or {s} {t} {P} {Q} h g = record { so = λ z. go (either_cases s t z) }
  where
    go : T s ⊎ T t → P ⊎ Q
    go (inl z) = inl (h.so z)
    go (inr z) = inr (g.so z)

equal : (m n : ℕ) → So (eqb m n) (m ≡ n)
equal m n = record { so = eqb→eq m n }

listed : (p : ℕ) (l : List ℕ) → So (is_in p l) (In p l)
listed p l = record { so = go (is_in p l) refl }
  where
    go : (t : Bool) → is_in p l ≡ t → T t → In p l
    go true e z = is_in_in p l e
    go false e z = absurd z

abbrev pub only : List ℕ → List ℕ → (ℕ → Bool) → Bool
only b x f = every (λ p. either (eqb (byte b p) (byte x p)) (f p)) 45

within : (b x : List ℕ) {f : ℕ → Bool} {P : ℕ → Type 0} → ((p : ℕ) → So (f p) (P p)) → T (only b x f) → DifferOnly P b x
within b x {f} h t p l = (or (equal (byte b p) (byte x p)) (h p)).so (every_at (λ p. either (eqb (byte b p) (byte x p)) (f p)) 45 t p l)

pub block_by : (x : List ℕ) → length x ≡ 45 → T (every (λ p. ltb (byte x p) 256) 45) → Block x
block_by x e t = record { long = e; bytes = λ p l. ltb→lt (byte x p) 256 (every_at (λ p. ltb (byte x p) 256) 45 t p l) }

pub lawful_by : (x : List ℕ) → length x ≡ 45 → T (every (λ p. ltb (byte x p) 256) 45) → T (every (λ i. eqb (sum 5 (λ j. byte x (position j i))) 0) 9)
    → sum 45 (λ p. byte figures p · byte x p) ≡ 0 → sum 45 (λ p. (byte figures p · byte figures p) · byte x p) ≡ 0 → Stored built_in (take 34 x) x
lawful_by x l t u e f = subst (λ (ls : List ℕ). Stored ls (take 34 x) x) (sym in_figures) (record {
  block = block_by x l t;
  lawful = record {
    chips = λ i h. eqb→eq (sum 5 (λ j. byte x (position j i))) 0 (every_at (λ i. eqb (sum 5 (λ j. byte x (position j i))) 0) 9 u i h);
    once = e;
    squared = f;
  };
  begins = refl;
})

-- card j and the chips ps reach a lawful block
abbrev pub fit : List ℕ → List ℕ → ℕ → Bool
fit b ps j = fits figures j (keep j ps) b

module _ (b : List ℕ) (bb : Block b) (ps : List ℕ) (few : Few rules ps) where
  -- ---- one member, by the kind of its change
  pub chips_row : (fs : List ℕ) → length fs ≤ further (length ps) → T (only b zeros (λ p. either (is_in p ps) (is_in p fs)))
      → (p : ℕ) → eqb (byte zeros p) (byte b p) ≡ false → (n : ℕ) → T (eqb n (changes b zeros)) → Exactly None ps b (corrected (in_chips n) zeros)
  chips_row fs l t p ne n c =
      one_answer None ps b (in_chips n) zeros
      (λ out. (chip_one built_in built_in_set ps few b None tt zeros s k, (λ e. eqb-false _ _ ne (ap (λ (x : List ℕ). byte x p) e)), eqb→eq _ _ c, k))
    where
      k : ChipKind ps b zeros
      k = (fs, l, within b zeros (λ p. or (listed p ps) (listed p fs)) t)

      s : S built_in None ps b zeros
      s = record { block = (zero_stored built_in).block; lawful = (zero_stored built_in).lawful; allowed = inl k }

  -- under a card mark: y, by a change of card j, of the marked chips and of the further chips fs
  module _ (j : ℕ) (hj : j < 5) {r y : List ℕ} (st : Stored built_in r y) (fs : List ℕ) (l : length fs ≤ further_beside (u (Some j) ps))
      (t : T (only b y (λ p. either (eqb (p / 9) j) (either (is_in p ps) (is_in p fs))))) where
    by_beside : BesideKind j ps b y
    by_beside = (fs, l, within b y (λ p. or (equal (p / 9) j) (or (listed p ps) (listed p fs))) t)

    one_beside : OneMember (S built_in (Some j) ps b) y
    one_beside = (s, λ z g. card_one built_in built_in_set ps few b j hj z y g s)
      where
        s : S built_in (Some j) ps b y
        s = record { block = st.block; lawful = st.lawful; allowed = by_beside }

    pub card_row : (p : ℕ) → p < 45 → p / 9 ≡ j → eqb (byte b p) (byte y p) ≡ false → (n : ℕ) → T (eqb n (changes b y))
        → Exactly (Some j) ps b (corrected (in_card j n) y)
    card_row p hp e ne n c =
        one_answer (Some j) ps b (in_card j n) y
        (λ out. (one_beside, eqb→eq _ _ c, (λ k. k.1 (p, hp, e, eqb-false _ _ ne)), refl))

    -- no byte of card j is changed
    pub beside_row : T (every (λ p. either (not (eqb (p / 9) j)) (eqb (byte b p) (byte y p))) 45) → (p : ℕ) → eqb (byte y p) (byte b p) ≡ false
        → (n : ℕ) → T (eqb n (changes b y)) → Exactly (Some j) ps b (corrected (in_chips n) y)
    beside_row o p ne n c =
        one_answer (Some j) ps b (in_chips n) y
        (λ out. (one_beside, (λ e. eqb-false _ _ ne (ap (λ (x : List ℕ). byte x p) e)), eqb→eq _ _ c, (by_beside, kept)))
      where
        kept : CardChanged j b y → ⊥
        kept (p, hp, e, d) = go (either_cases (not (eqb (p / 9) j)) (eqb (byte b p) (byte y p))
            (every_at (λ p. either (not (eqb (p / 9) j)) (eqb (byte b p) (byte y p))) 45 o p hp))
          where
            go : T (not (eqb (p / 9) j)) ⊎ T (eqb (byte b p) (byte y p)) → ⊥
            go (inl h) = T_not (eqb (p / 9) j) h (subst T (sym (eq-eqb (p / 9) j e)) tt)
            go (inr h) = d (eqb→eq _ _ h)

  -- ---- by the five searches
  pub reached_fits : (j : ℕ) → j < 5 → (y : List ℕ) → Reached built_in j ps b y → T (fit b ps j)
  reached_fits j l y r = subst (λ (ls : List ℕ). T (fits ls j (keep j ps) b)) in_figures (candidate_few built_in built_in_set j l b bb ps few y r).0

  fits_reached : (j : ℕ) → j < 5 → T (fit b ps j) → Reached built_in j ps b (closed built_in j (keep j ps) b)
  fits_reached j l t = reached_few built_in built_in_set j l b bb ps few (subst (λ (ls : List ℕ). T (fits ls j (keep j ps) b)) (sym in_figures) t)

  pub only_card : (i : ℕ) → T (every (λ j. either (eqb j i) (not (fit b ps j))) 5) → (y : List ℕ) → S built_in None ps b y
      → (i < 5) × Reached built_in i ps b y
  only_card i t y s =
      let w = covered built_in ps b y s in
      go w.0 w.1 w.2 (either_cases (eqb w.0 i) (not (fit b ps w.0)) (every_at (λ j. either (eqb j i) (not (fit b ps j))) 5 t w.0 w.1))
    where
      go : (j : ℕ) → j < 5 → Reached built_in j ps b y → T (eqb j i) ⊎ T (not (fit b ps j)) → (i < 5) × Reached built_in i ps b y
      go j l r (inl e) = subst (λ (k : ℕ). (k < 5) × Reached built_in k ps b y) (eqb→eq j i e) (l, r)
      go j l r (inr n) = absurd (T_not (fit b ps j) n (reached_fits j l y r))

  -- zeros, by a change of card i
  module _ (i : ℕ) (hi : i < 5) (u : T (only b zeros (λ p. either (eqb (p / 9) i) (is_in p ps)))) where
    zeros_on : Reached built_in i ps b zeros
    zeros_on = record {
      block = (zero_stored built_in).block;
      lawful = (zero_stored built_in).lawful;
      only = within b zeros (λ p. or (equal (p / 9) i) (listed p ps)) u;
    }

    pub search_row : T (every (λ j. either (eqb j i) (not (fit b ps j))) 5) → (ChipKind ps b zeros → ⊥) → (n : ℕ) → T (eqb n (changes b zeros))
        → Exactly None ps b (corrected (in_card i n) zeros)
    search_row t ch n c =
        one_answer None ps b (in_card i n) zeros
        (λ out. (
          (covers built_in ps b zeros i hi zeros_on, λ y s. is y (only_card i t y s).1 ∙ sym (is zeros zeros_on)),
          eqb→eq _ _ c,
          ch,
          (hi, zeros_on.only),
        ))
      where
        is : (y : List ℕ) → Reached built_in i ps b y → y ≡ closed built_in i (keep i ps) b
        is y r = (candidate_few built_in built_in_set i hi b bb ps few y r).1

    -- beside it the block that card j reaches: it keeps byte p, which is not 0
    module _ (j : ℕ) (hj : j < 5) (p : ℕ) (hp : p < 45) (np : p / 9 ≢ j) (ip : is_in p ps ≡ false) (ne : eqb (byte b p) (byte zeros p) ≡ false) where
      two_blocks : T (fit b ps j) → TwoMembers (S built_in None ps b)
      two_blocks t =
          let r = fits_reached j hj t in (
            zeros,
            y,
            covers built_in ps b zeros i hi zeros_on,
            covers built_in ps b y j hj r,
            λ e. eqb-false _ _ ne (kept (r.only p hp) ∙ ap (λ (x : List ℕ). byte x p) (sym e)),
          )
        where
          y : List ℕ
          y = closed built_in j (keep j ps) b

          kept : (byte b p ≡ byte y p) ⊎ ((p / 9 ≡ j) ⊎ In p ps) → byte b p ≡ byte y p
          kept (inl e) = e
          kept (inr (inl e)) = absurd (np e)
          kept (inr (inr k)) = absurd (clash (is_in p ps) (in_is_in p ps k) ip)

      -- the cards that fit are those that pass the test
      fitting : (k : ℕ) → Reaches built_in ps b k ↔ In k (those 0 5 (fit b ps))
      fitting k = (
        λ w. let r = reached_by built_in ps b k w in passing.1 (omega arith, r.0, is_true (fit b ps k) (reached_fits k r.0 r.1.0 r.1.1)),
        λ m. let w = passing.0 m in
            reaches built_in ps b k w.1 (closed built_in k (keep k ps) b) (fits_reached k w.1 (subst T (sym w.2) tt)),
      )
        where
          passing : In k (those 0 5 (fit b ps)) ↔ ((0 ≤ k) × (k < 5) × (fit b ps k ≡ true))
          passing = those_in 5 0 (fit b ps) k

      pub several_row : (n k : ℕ) (js : List ℕ) → T (eqb n k) → k ∷ js ≡ those 0 5 (fit b ps) → In j (k ∷ js) → Exactly None ps b (several n (k ∷ js))
      several_row n k js e q m =
          two_members None ps b (two_blocks (subst T (sym ((those_in 5 0 (fit b ps) j).0 (subst (In j) q m)).2) tt)) n
          (subst (LowestReaching built_in ps b) (sym (eqb→eq n k e)) ((fits k).1 (inl refl), below)) (k ∷ js) fits
        where
          fits : (i : ℕ) → Reaches built_in ps b i ↔ In i (k ∷ js)
          fits = subst (λ (l : List ℕ). (i : ℕ) → Reaches built_in ps b i ↔ In i l) (sym q) fitting

          -- they rise, so that the first is the lowest
          rising : Rising (k ∷ js)
          rising = subst Rising (sym q) (those_rising 5 0 (fit b ps))

          below : (i : ℕ) → i < k → Reaches built_in ps b i → ⊥
          below i l r = go ((fits i).0 r)
            where
              go : In i (k ∷ js) → ⊥
              go (inl z) = omega arith
              go (inr z) = omega (arith, rising.0 i z)
