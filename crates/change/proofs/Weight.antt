-- How many bytes a change changes.
--
--   zero_not, nonzero_is, nonzero_ne   the test that a number is not 0
--   bit_of                  a test as a number, as the code makes it
--   same_at, other_at       a byte is kept exactly where nothing is added
--   on_card, off_card       what a well-formed change adds on its card, and elsewhere
--   adds_weight             it adds something at as many positions as it has places that are not 0
--   changes_weight          so that is how many bytes it changes
--   unmoved, moved          it changes the block exactly where it has such a place
use mathlib.Core.Logic.{◌≢◌, ◌⊎◌, inl, inr}
use mathlib.Core.Path.{◌≡◌, refl, sym, ap, ap₂, ◌∙◌, subst}
use mathlib.Core.Bool.{Bool, true, false, ◌&&◌, not}
use mathlib.Core.List.{List}
use Prim.Native.Nat.{ℕ, ◌+◌, ◌/◌, ◌%◌, ◌<◌, ◌≤◌}
use native.Mathlib.Omega.{arith}
use lib.Dec.{eqb}
use lib.ListN.{length, get_or}
use borrow.Author.Tests.{eqb-true, eqb-false, eq-eqb, ne_eqb, not-false}
use mir.Val.{bool_byte}
use Rattle.base.specs.Base.{if, bit, tally}
use Rattle.std.proofs.lemmas.Bool.{both_ways, cases_eq}
use Rattle.base.proofs.Tests.{and_no}
use Rattle.base.proofs.Tally.{tally_ext, tally_never, tally_none, tally_some, tally_add, tally_point, tally_card}
use Rattle.field.specs.Field.{◌⊕◌}
use Rattle.field.proofs.Xor.{add_zero, zero_add, add_self_left, add_self}
use Rattle.code.specs.Block.{byte, changes}
use Rattle.change.specs.Change.{adds, applied, nonzero, nonzero_at, weight, WellFormed}
use Rattle.change.specs.declared.Change.{Change}
use Rattle.change.proofs.Made.{applied_at, unadded}

pub zero_not : (v : ℕ) → v ≡ 0 → nonzero v ≡ false
zero_not v e = ap not (eq-eqb v 0 e)

pub nonzero_is : (v : ℕ) → v ≢ 0 → nonzero v ≡ true
nonzero_is v e = ap not (ne_eqb v 0 e)

pub nonzero_ne : (v : ℕ) → nonzero v ≡ true → v ≢ 0
nonzero_ne v h e = both_ways (nonzero v) (zero_not v e) h

pub at_most_one : (v n : ℕ) → n ≡ bit (nonzero v) → n ≤ 1
at_most_one v n e = go (nonzero v) e
  where
    go : (t : Bool) → n ≡ bit t → n ≤ 1
    go true q = omega arith
    go false q = omega arith

-- a test as a number, as the code makes it
pub bit_of : (t : Bool) → bool_byte t ≡ bit t
bit_of true = refl
bit_of false = refl

if_zero : (t : Bool) (v : ℕ) → v ≡ 0 → if t v 0 ≡ 0
if_zero true v e = e
if_zero false v e = refl

-- the sum is the same byte exactly where nothing is added
xor_eqb : (a v : ℕ) → eqb a (a ⊕ v) ≡ eqb v 0
xor_eqb a v = go (cases_eq v 0)
  where
    go : (v ≡ 0) ⊎ (v ≢ 0) → eqb a (a ⊕ v) ≡ eqb v 0
    go (inl e) = eq-eqb a (a ⊕ v) (sym (add_zero a) ∙ ap (λ (x : ℕ). a ⊕ x) (sym e)) ∙ sym (eq-eqb v 0 e)
    go (inr e) = ne_eqb a (a ⊕ v) (λ q. e (sym (add_self_left a v) ∙ ap (λ (x : ℕ). a ⊕ x) (sym q) ∙ add_self a)) ∙ sym (ne_eqb v 0 e)

module _ (b : List ℕ) (d : Change) (l : length b ≡ 45) where
  pub test_is : (p : ℕ) → p < 45 → eqb (byte b p) (byte (applied b d) p) ≡ eqb (adds d p) 0
  test_is p h = ap (eqb (byte b p)) (applied_at b d l p h) ∙ xor_eqb (byte b p) (adds d p)

  pub same_at : (p : ℕ) → p < 45 → adds d p ≡ 0 → byte b p ≡ byte (applied b d) p
  same_at p h e = eqb-true (byte b p) (byte (applied b d) p) (test_is p h ∙ eq-eqb (adds d p) 0 e)

  pub other_at : (p : ℕ) → p < 45 → adds d p ≢ 0 → byte b p ≢ byte (applied b d) p
  other_at p h e = eqb-false (byte b p) (byte (applied b d) p) (test_is p h ∙ ne_eqb (adds d p) 0 e)

  changes_adds : changes b (applied b d) ≡ tally 45 (λ p. nonzero (adds d p))
  unfolding changes
  changes_adds = tally_ext 45 (λ p. not (eqb (byte b p) (byte (applied b d) p))) (λ p. nonzero (adds d p)) (λ p h. ap not (test_is p h))

-- ---- a well-formed change
module _ (d : Change) (w : WellFormed d) where
  -- a further position adds nothing on the card
  gone : (r p e : ℕ) → r / 9 ≡ d.card → (e ≡ 0) ⊎ (p / 9 ≢ d.card) → if (eqb r p) e 0 ≡ 0
  gone r p e h (inl z) = if_zero (eqb r p) e z
  gone r p e h (inr n) = ap (λ (t : Bool). if t e 0) (ne_eqb r p (λ q. n (ap (λ (x : ℕ). x / 9) (sym q) ∙ h)))

  first_off : (d.e ≡ 0) ⊎ (d.p / 9 ≢ d.card)
  first_off = go w.first
    where
      go : (d.e ≡ 0) ⊎ ((d.p < 45) × (d.p / 9 ≢ d.card)) → (d.e ≡ 0) ⊎ (d.p / 9 ≢ d.card)
      go (inl z) = inl z
      go (inr i) = inr i.1

  second_off : (d.f ≡ 0) ⊎ (d.q / 9 ≢ d.card)
  second_off = go w.second
    where
      go : (d.f ≡ 0) ⊎ ((d.q < 45) × (d.q / 9 ≢ d.card) × (d.q ≢ d.p)) → (d.f ≡ 0) ⊎ (d.q / 9 ≢ d.card)
      go (inl z) = inl z
      go (inr i) = inr i.1

  pub on_card : (r : ℕ) → r / 9 ≡ d.card → adds d r ≡ get_or d.rows (r % 9) 0
  on_card r h =
      ap₂ (λ (x y : ℕ). x ⊕ y) (gone r d.p d.e h first_off)
      (ap₂ (λ (x y : ℕ). x ⊕ y) (gone r d.q d.f h second_off) (ap (λ (t : Bool). if t (get_or d.rows (r % 9) 0) 0) (eq-eqb (r / 9) d.card h))
      ∙ zero_add (get_or d.rows (r % 9) 0))
      ∙ zero_add (get_or d.rows (r % 9) 0)

  pub off_card : (r : ℕ) → r / 9 ≢ d.card → adds d r ≡ if (eqb r d.p) d.e 0 ⊕ if (eqb r d.q) d.f 0
  off_card r h =
      ap (λ (x : ℕ). if (eqb r d.p) d.e 0 ⊕ x)
      (ap (λ (t : Bool). if (eqb r d.q) d.f 0 ⊕ if t (get_or d.rows (r % 9) 0) 0) (ne_eqb (r / 9) d.card h)
      ∙ add_zero (if (eqb r d.q) d.f 0))

  -- ---- how many
  row_test : ℕ → Bool
  row_test r = eqb (r / 9) d.card && nonzero_at d.rows (r % 9)

  abbrev at : ℕ → ℕ → ℕ → Bool
  at p e r = eqb r p && nonzero e

  one_place : (p e : ℕ) → (e ≡ 0) ⊎ (p < 45) → tally 45 (at p e) ≡ bit (nonzero e)
  one_place p e (inl z) =
      tally_never 45 (at p e) (λ i l. ap (λ (t : Bool). eqb i p && t) (zero_not e z) ∙ and_no (eqb i p)) ∙ ap bit (sym (zero_not e z))
  one_place p e (inr l) = tally_point 45 p (nonzero e) l

  none_on_card : (r p e : ℕ) → if (eqb r p) e 0 ≡ 0 → bit (at p e r) ≡ 0
  none_on_card r p e = go (eqb r p)
    where
      go : (t : Bool) → if t e 0 ≡ 0 → bit (t && nonzero e) ≡ 0
      go true z = ap bit (zero_not e z)
      go false z = refl

  -- at each position at most one of the three adds something
  each : (r : ℕ) → bit (nonzero (adds d r)) ≡ bit (row_test r) + (bit (at d.p d.e r) + bit (at d.q d.f r))
  unfolding row_test
  each r = pick (cases_eq (r / 9) d.card)
    where
      both : (r ≡ d.p) ⊎ (r ≢ d.p) → (r ≡ d.q) ⊎ (r ≢ d.q) → (d.f ≡ 0) ⊎ ((d.q < 45) × (d.q / 9 ≢ d.card) × (d.q ≢ d.p))
          → bit (nonzero (if (eqb r d.p) d.e 0 ⊕ if (eqb r d.q) d.f 0)) ≡ bit (at d.p d.e r) + bit (at d.q d.f r)
      both (inl a) (inr c) s = rw (eq-eqb r d.p a, ne_eqb r d.q c, add_zero d.e) (omega arith)
      both (inr a) (inl c) s = rw (ne_eqb r d.p a, eq-eqb r d.q c, zero_add d.f) (omega arith)
      both (inr a) (inr c) s = rw (ne_eqb r d.p a, ne_eqb r d.q c, add_self 0) refl
      both (inl a) (inl c) (inr i) = absurd (i.2 (sym c ∙ a))
      both (inl a) (inl c) (inl z) = rw (eq-eqb r d.p a, eq-eqb r d.q c, z, add_zero d.e) (omega arith)

      pick : (r / 9 ≡ d.card) ⊎ (r / 9 ≢ d.card)
          → bit (nonzero (adds d r)) ≡ bit (eqb (r / 9) d.card && nonzero_at d.rows (r % 9)) + (bit (at d.p d.e r) + bit (at d.q d.f r))
      pick (inl h) =
          let here : bit (nonzero (adds d r)) ≡ bit (nonzero_at d.rows (r % 9)) = ap (λ (x : ℕ). bit (nonzero x)) (on_card r h) in
          let mine : bit (eqb (r / 9) d.card && nonzero_at d.rows (r % 9)) ≡ bit (nonzero_at d.rows (r % 9))
          = ap (λ (t : Bool). bit (t && nonzero_at d.rows (r % 9))) (eq-eqb (r / 9) d.card h) in
          let one = none_on_card r d.p d.e (gone r d.p d.e h first_off) in
          omega (arith, here, mine, one, none_on_card r d.q d.f (gone r d.q d.f h second_off))
      pick (inr h) =
          let here : bit (nonzero (adds d r)) ≡ bit (nonzero (if (eqb r d.p) d.e 0 ⊕ if (eqb r d.q) d.f 0))
          = ap (λ (x : ℕ). bit (nonzero x)) (off_card r h) in
          let mine : bit (eqb (r / 9) d.card && nonzero_at d.rows (r % 9)) ≡ 0
          = ap (λ (t : Bool). bit (t && nonzero_at d.rows (r % 9))) (ne_eqb (r / 9) d.card h) in
          omega (arith, here, mine, both (cases_eq r d.p) (cases_eq r d.q) w.second)

  pub adds_weight : tally 45 (λ r. nonzero (adds d r)) ≡ weight d
  unfolding weight row_test
  adds_weight =
      let rows = tally_card d.card w.card (nonzero_at d.rows) in
      tally_add 45 (λ r. nonzero (adds d r)) row_test (at d.p d.e) (at d.q d.f) (λ r l. each r)
      ∙ omega (arith, rows, one_place d.p d.e (first_in w.first), one_place d.q d.f (second_in w.second))
    where
      first_in : (d.e ≡ 0) ⊎ ((d.p < 45) × (d.p / 9 ≢ d.card)) → (d.e ≡ 0) ⊎ (d.p < 45)
      first_in (inl z) = inl z
      first_in (inr i) = inr i.0

      second_in : (d.f ≡ 0) ⊎ ((d.q < 45) × (d.q / 9 ≢ d.card) × (d.q ≢ d.p)) → (d.f ≡ 0) ⊎ (d.q < 45)
      second_in (inl z) = inl z
      second_in (inr i) = inr i.0

  module _ (b : List ℕ) (l : length b ≡ 45) where
    pub changes_weight : changes b (applied b d) ≡ weight d
    changes_weight = changes_adds b d l ∙ adds_weight

    pub unmoved : weight d ≡ 0 → applied b d ≡ b
    unmoved e = unadded b d l (λ p h. still p (tally_none (λ r. nonzero (adds d r)) 45 (adds_weight ∙ e) p h))
      where
        still : (p : ℕ) → nonzero (adds d p) ≡ false → adds d p ≡ 0
        still p q = eqb-true (adds d p) 0 (not-false (eqb (adds d p) 0) q)

    pub moved : 1 ≤ weight d → applied b d ≢ b
    moved h e =
        let v = tally_some (λ r. nonzero (adds d r)) 45 (subst (λ (n : ℕ). 1 ≤ n) (sym adds_weight) h) in
        other_at b d l v.0 v.1 (nonzero_ne (adds d v.0) v.2) (ap (λ (x : List ℕ). byte x v.0) (sym e))
