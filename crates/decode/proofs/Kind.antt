-- The kind of a described change that lies in its card and in chips off it, from its counts.
--
--   formed                    such a change is well formed
--   card_changed, card_kept   it changes a byte of its card exactly where it has a row that is not 0
--   chip_yes, chip_no         where its chips are marked, it is of the chip kind exactly where it has few enough strays
--   no_card, some_card        the kind as the code tells it
use mathlib.Core.Logic.{◌≢◌, ◌⊎◌, inl, inr}
use mathlib.Core.Path.{◌≡◌, refl, sym, ap, ap₂, ◌∙◌, subst}
use mathlib.Core.Bool.{Bool, true, false, ◌&&◌, not}
use mathlib.Core.List.{List, [], ◌∷◌}
use Prim.Native.Nat.{ℕ, zero, suc, ◌+◌, ◌*◌, ◌/◌, ◌%◌, ◌<◌, ◌≤◌}
use native.Mathlib.Omega.{arith}
use lib.Dec.{eqb}
use lib.ListN.{length, get_or}
use borrow.Author.Tests.{eqb-true, ne_eqb, not-true, not-false}
use Rattle.std.proofs.lemmas.Bool.{and_parts, cases_eq}
use Rattle.base.specs.Base.{if, In, is_in, tally}
use Rattle.base.proofs.Lists.{in_is_in, is_in_in}
use Rattle.base.proofs.Tally.{clash, tally_none, tally_one, tally_some, tally_two}
use Rattle.field.specs.Field.{◌⊕◌}
use Rattle.field.proofs.Xor.{add_self}
use Rattle.code.specs.Block.{byte}
use Rattle.code.specs.Reach.{Beside}
use Rattle.code.proofs.Few.{beside_in}
use Rattle.change.specs.Change.{adds, applied, nonzero_at, WellFormed}
use Rattle.change.specs.declared.Change.{Change}
use Rattle.change.proofs.Weight.{nonzero_is, nonzero_ne, same_at, other_at, on_card, off_card}
use Rattle.reading.specs.Allowed.{further, ChipKind, CardChanged}
use Rattle.reading.specs.declared.Kind.{Kind}
use Rattle.reading.specs.declared.Kind.TheVariants.{OneCard}
use Rattle.reading.proofs.Searches.{further_one}
use Rattle.decode.specs.Equations.{Within}
use Rattle.decode.specs.Search.{stray, strays, chips_kind, card_kind}

module _ (d : Change) (j : ℕ) (hj : j < 5) (qs : List ℕ) (w : Within j qs d) (o : Beside j qs) where
  pub formed : WellFormed d
  formed = record { card = subst (λ (x : ℕ). x < 5) (sym w.card) hj; first = one w.first; second = two w.second }
    where
      off : (p : ℕ) → In p qs → (p < 45) × (p / 9 ≢ d.card)
      off p i = let v = beside_in j qs o p i in (v.0, λ e. v.1 (e ∙ w.card))

      one : (d.e ≡ 0) ⊎ In d.p qs → (d.e ≡ 0) ⊎ ((d.p < 45) × (d.p / 9 ≢ d.card))
      one (inl z) = inl z
      one (inr i) = inr (off d.p i)

      two : (d.f ≡ 0) ⊎ (In d.q qs × (d.q ≢ d.p)) → (d.f ≡ 0) ⊎ ((d.q < 45) × (d.q / 9 ≢ d.card) × (d.q ≢ d.p))
      two (inl z) = inl z
      two (inr i) = let v = off d.q i.0 in inr (v.0, v.1, i.1)

  -- off the card a changed byte is one of the chips
  further_in : (r : ℕ) → r / 9 ≢ d.card → adds d r ≢ 0 → In r qs
  further_in r h ne = pick (cases_eq r d.p) w.first
    where
      nothing : (t u : Bool) (e f : ℕ) → if t e 0 ≡ 0 → if u f 0 ≡ 0 → if t e 0 ⊕ if u f 0 ≡ 0
      nothing t u e f p q = ap₂ (λ (x y : ℕ). x ⊕ y) p q ∙ add_self 0

      zero_if : (t : Bool) (v : ℕ) → v ≡ 0 → if t v 0 ≡ 0
      zero_if true v e = e
      zero_if false v e = refl

      else_if : (p v : ℕ) → r ≢ p → if (eqb r p) v 0 ≡ 0
      else_if p v n = ap (λ (t : Bool). if t v 0) (ne_eqb r p n)

      none : if (eqb r d.p) d.e 0 ≡ 0 → if (eqb r d.q) d.f 0 ≡ 0 → In r qs
      none p q = absurd (ne (off_card d formed r h ∙ nothing (eqb r d.p) (eqb r d.q) d.e d.f p q))

      at : (p : ℕ) → In p qs → r ≡ p → In r qs
      at p i e = subst (λ (x : ℕ). In x qs) (sym e) i

      rest : if (eqb r d.p) d.e 0 ≡ 0 → (r ≡ d.q) ⊎ (r ≢ d.q) → (d.f ≡ 0) ⊎ (In d.q qs × (d.q ≢ d.p)) → In r qs
      rest z (inl e) (inr i) = at d.q i.0 e
      rest z (inl e) (inl y) = none z (zero_if (eqb r d.q) d.f y)
      rest z (inr n) s = none z (else_if d.q d.f n)

      pick : (r ≡ d.p) ⊎ (r ≢ d.p) → (d.e ≡ 0) ⊎ In d.p qs → In r qs
      pick (inl e) (inr i) = at d.p i e
      pick (inl e) (inl z) = rest (zero_if (eqb r d.p) d.e z) (cases_eq r d.q) w.second
      pick (inr n) s = rest (else_if d.p d.e n) (cases_eq r d.q) w.second

  -- ---- its card
  place : (i : ℕ) → i < 9 → ((9 * d.card + i) / 9 ≡ d.card) × ((9 * d.card + i) % 9 ≡ i) × (9 * d.card + i < 45)
  place i h = omega (arith, formed.card)

  row_adds : (i : ℕ) → i < 9 → adds d (9 * d.card + i) ≡ get_or d.rows i 0
  row_adds i h = on_card d formed (9 * d.card + i) (place i h).0 ∙ ap (λ (x : ℕ). get_or d.rows x 0) (place i h).1

  module _ (b : List ℕ) (l : length b ≡ 45) where
    row_moves : (i : ℕ) → i < 9 → nonzero_at d.rows i ≡ true → byte b (9 * d.card + i) ≢ byte (applied b d) (9 * d.card + i)
    row_moves i h e = other_at b d l (9 * d.card + i) (place i h).2 (λ z. nonzero_ne (get_or d.rows i 0) e (sym (row_adds i h) ∙ z))

    pub card_changed : 1 ≤ tally 9 (nonzero_at d.rows) → CardChanged j b (applied b d)
    card_changed h =
        let v = tally_some (nonzero_at d.rows) 9 h in
        let q = place v.0 v.1 in
        (9 * d.card + v.0, q.2, q.0 ∙ w.card, row_moves v.0 v.1 v.2)

    pub card_kept : tally 9 (nonzero_at d.rows) ≡ 0 → CardChanged j b (applied b d) → ⊥
    card_kept h (p, hp, on, ne) =
        let z = tally_none (nonzero_at d.rows) 9 h (p % 9) (omega arith) in
        ne (same_at b d l p hp (on_card d formed p (on ∙ sym w.card)
        ∙ eqb-true (get_or d.rows (p % 9) 0) 0 (not-false (eqb (get_or d.rows (p % 9) 0) 0) z)))

    -- ---- the chip kind, where the chips off the card are marked
    module _ (ps : List ℕ) (marked : (p : ℕ) → In p qs → In p ps) where
      -- a changed byte is marked, or a stray
      sort : (fs : List ℕ) (p : ℕ) → p < 45 → (p / 9 ≡ d.card → stray d ps (p % 9) ≡ true → In p fs)
          → (byte b p ≡ byte (applied b d) p) ⊎ (In p ps ⊎ In p fs)
      unfolding stray
      sort fs p hp f = pick (cases_eq (adds d p) 0) (cases_eq (p / 9) d.card)
        where
          at : p / 9 ≡ d.card → 9 * d.card + p % 9 ≡ p
          at h = omega arith

          test : p / 9 ≡ d.card → adds d p ≢ 0 → (t : Bool) → is_in p ps ≡ t → In p ps ⊎ In p fs
          test h ne true e = inl (is_in_in p ps e)
          test h ne false e =
              inr (f h (ap₂ (λ (x y : Bool). x && y) (nonzero_is (get_or d.rows (p % 9) 0) (λ z. ne (on_card d formed p h ∙ z)))
              (ap (λ (x : ℕ). not (is_in x ps)) (at h) ∙ ap not e)))

          pick : (adds d p ≡ 0) ⊎ (adds d p ≢ 0) → (p / 9 ≡ d.card) ⊎ (p / 9 ≢ d.card) → (byte b p ≡ byte (applied b d) p) ⊎ (In p ps ⊎ In p fs)
          pick (inl z) c = inl (same_at b d l p hp z)
          pick (inr ne) (inl h) = inr (test h ne (is_in p ps) refl)
          pick (inr ne) (inr h) = inr (inl (marked p (further_in p h ne)))

      -- a stray is changed, and not marked: it is one of the further chips
      forced : (fs : List ℕ) → ((p : ℕ) → p < 45 → (byte b p ≡ byte (applied b d) p) ⊎ (In p ps ⊎ In p fs))
          → (i : ℕ) → i < 9 → stray d ps i ≡ true → In (9 * d.card + i) fs
      unfolding stray
      forced fs c i h e = go (c (9 * d.card + i) (place i h).2)
        where
          both : (nonzero_at d.rows i ≡ true) × (not (is_in (9 * d.card + i) ps) ≡ true)
          both = and_parts (nonzero_at d.rows i) (not (is_in (9 * d.card + i) ps)) e

          go : (byte b (9 * d.card + i) ≡ byte (applied b d) (9 * d.card + i)) ⊎ (In (9 * d.card + i) ps ⊎ In (9 * d.card + i) fs) → In (9 * d.card + i) fs
          go (inl z) = absurd (row_moves i h both.0 z)
          go (inr (inl m)) = absurd (clash (is_in (9 * d.card + i) ps) (in_is_in (9 * d.card + i) ps m) (not-true (is_in (9 * d.card + i) ps) both.1))
          go (inr (inr z)) = z

      pub chip_yes : strays d ps ≤ further (length ps) → ChipKind ps b (applied b d)
      chip_yes h = pick (cases_eq (strays d ps) 0)
        where
          pick : (strays d ps ≡ 0) ⊎ (strays d ps ≢ 0) → ChipKind ps b (applied b d)
          pick (inl z) =
              ([], omega arith, λ p hp. sort [] p hp (λ q e. absurd (clash (stray d ps (p % 9)) e (tally_none (stray d ps) 9 z (p % 9) (omega arith)))))
          pick (inr n) =
              let v = tally_one (stray d ps) 9 (omega (arith, further_one (length ps))) in (
                (9 * d.card + v.0) ∷ [],
                omega (arith, h, n),
                λ p hp. sort ((9 * d.card + v.0) ∷ []) p hp
                    (λ q e. inl (at v.0 p q (v.1 (p % 9) (omega arith) e))),
              )
            where
              at : (f p : ℕ) → p / 9 ≡ d.card → p % 9 ≡ f → p ≡ 9 * d.card + f
              at f p q e = omega arith

      pub chip_no : further (length ps) < strays d ps → ChipKind ps b (applied b d) → ⊥
      chip_no h ([], n, c) = let v = tally_some (stray d ps) 9 (omega (arith, h)) in forced [] c v.0 v.1 v.2
      chip_no h (f ∷ [], n, c) =
          let v = tally_two (stray d ps) 9 (omega (arith, h, n)) in
          let a = only (forced (f ∷ []) c v.0 v.2 v.5) in
          let z = only (forced (f ∷ []) c v.1 v.3 v.6) in
          v.4 (omega (arith, a, z))
        where
          only : {p : ℕ} → In p (f ∷ []) → p ≡ f
          only (inl e) = e
          only (inr i) = absurd i
      chip_no h (f ∷ g ∷ fs, n, c) = absurd (omega (arith, n, further_one (length ps)))

-- ---- as the code tells it
pub no_card : (j own n own' n' : ℕ) (k : Kind) → own ≡ 0 → own ≡ own' → n ≡ n' → k ≡ chips_kind n → k ≡ card_kind j own' n'
no_card j own n own' n' k z e f h = h ∙ ap chips_kind f ∙ sym (ap (λ (x : ℕ). card_kind j x n') (sym e ∙ z))

pub some_card : (j own n own' n' : ℕ) → own ≢ 0 → own ≡ own' → n ≡ n' → OneCard j n ≡ card_kind j own' n'
some_card j own n zero n' ne e f = absurd (ne e)
some_card j own n (suc own') n' ne e f = ap (OneCard j) f
