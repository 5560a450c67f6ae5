-- A change made: the card's nine rows, then two chips.
--
--   added, not_added              a store of the sum at one position; no such position
--   Rows, rows_start, -more       the loop over the rows: those below n are added
--   no_card                       a card that there isn't
--   applied_end                   the three steps are the change; not_applied: bytes that are no block
--   applied_long, -at             the block after it: its length and its bytes
--   unadded, applied_none         a change that adds nothing leaves the block; no_change is such a one
use mathlib.Core.Logic.{◌≢◌, ◌⊎◌, inl, inr}
use mathlib.Core.Path.{◌≡◌, refl, sym, ap, ap₂, ◌∙◌, subst}
use mathlib.Core.Bool.{Bool, true, false, ◌&&◌}
use mathlib.Core.List.{List}
use Prim.Native.Nat.{ℕ, ◌+◌, ◌*◌, ◌/◌, ◌%◌, ◌<◌, ◌≤◌}
use native.Mathlib.Omega.{arith}
use lib.Dec.{eqb, eqb→eq, ltb}
use lib.ListN.{length, get_or, set, length-set}
use lib.Seq.{get_or-set_same, get_or-set_other}
use borrow.Author.Tests.{eq-eqb, ne_eqb, lt-ltb, le-ltb, ltb-true, ltb-false}
use Rattle.field.specs.Field.{◌⊕◌}
use Rattle.std.proofs.lemmas.Bool.{cases_eq}
use Rattle.base.proofs.Tests.{every_at, and_no}
use Rattle.field.proofs.Xor.{add_assoc, add_self, add_zero, zero_add, sums}
use Rattle.code.specs.Block.{byte, block_of}
use Rattle.code.proofs.Blocks.{same_block, block_of_at, block_of_length}
use Rattle.base.specs.Base.{if}
use Rattle.change.specs.Change.{adds, applied, no_change, AddedAt, RowsAdded}
use Rattle.change.specs.declared.Change.{Change}

-- ---- at one position
pub added : (b : List ℕ) (at x y : ℕ) → at < length b → y ≡ byte b at ⊕ x → AddedAt at x b (set b at y)
added b at x y h e = (length-set b at y, λ r l. go r l (cases_eq r at))
  where
    go : (r : ℕ) → r < length b → (r ≡ at) ⊎ (r ≢ at) → byte (set b at y) r ≡ byte b r ⊕ if (eqb r at) x 0
    go r l (inl q) = subst (λ (i : ℕ). byte (set b at y) i ≡ byte b i ⊕ if (eqb i at) x 0) (sym q)
        (rw (eq-eqb at at refl) (get_or-set_same b at y 0 h ∙ e))
    go r l (inr q) = rw (ne_eqb r at q) (get_or-set_other b at r y 0 q ∙ sym (add_zero (byte b r)))

pub not_added : (b : List ℕ) (at x : ℕ) → length b ≤ at → AddedAt at x b b
not_added b at x h = (refl, λ r l. rw (ne_eqb r at (λ z. omega arith)) (sym (add_zero (byte b r))))

-- ---- the rows z below n, of card j
abbrev below : ℕ → ℕ → ℕ → Bool
below j n r = eqb (r / 9) j && ltb (r % 9) n

abbrev row : List ℕ → ℕ → ℕ
row z r = get_or z (r % 9) 0

pub record Rows (b : List ℕ) (j : ℕ) (z : List ℕ) (n : ℕ) (block : List ℕ) : Type 0 where
  pub long : length block ≡ 45
  pub changed : (r : ℕ) → r < 45 → byte block r ≡ byte b r ⊕ if (below j n r) (row z r) 0

pub rows_start : (b : List ℕ) (j : ℕ) (z : List ℕ) → length b ≡ 45 → Rows b j z 0 b
rows_start b j z l = record {
  long = l;
  changed = λ r h. rw (le-ltb (r % 9) 0 (omega arith), and_no (eqb (r / 9) j)) (sym (add_zero (byte b r)));
}

-- one more row
step : (j : ℕ) (z : List ℕ) (n x r : ℕ) → n < 9 → x ≡ get_or z n 0
    → if (below j n r) (row z r) 0 ⊕ if (eqb r (9 * j + n)) x 0 ≡ if (below j (n + 1) r) (row z r) 0
step j z n x r h e = go (cases_eq r (9 * j + n))
  where
    other : r ≢ 9 * j + n → (r / 9 ≡ j) ⊎ (r / 9 ≢ j) → below j n r ≡ below j (n + 1) r
    other ne (inl q) = ap (λ (t : Bool). eqb (r / 9) j && t) (by (ltb (r % 9) n) refl)
      where
        by : (t : Bool) → ltb (r % 9) n ≡ t → ltb (r % 9) n ≡ ltb (r % 9) (n + 1)
        by true y = let l = ltb-true (r % 9) n y in y ∙ sym (lt-ltb (r % 9) (n + 1) (omega (arith, l)))
        by false y = let l = ltb-false (r % 9) n y in y ∙ sym (le-ltb (r % 9) (n + 1) (omega (arith, l, ne, q)))
    other ne (inr q) = rw (ne_eqb (r / 9) j q) refl

    go : (r ≡ 9 * j + n) ⊎ (r ≢ 9 * j + n) → if (below j n r) (row z r) 0 ⊕ if (eqb r (9 * j + n)) x 0 ≡ if (below j (n + 1) r) (row z r) 0
    go (inl q) =
        let c : r / 9 ≡ j = omega (arith, q, h) in
        let m : r % 9 ≡ n = omega (arith, q, h) in
        rw (eq-eqb r (9 * j + n) q, eq-eqb (r / 9) j c, le-ltb (r % 9) n (omega (arith, m)), lt-ltb (r % 9) (n + 1) (omega (arith, m)))
        (zero_add x ∙ e ∙ ap (λ (i : ℕ). get_or z i 0) (sym m))
    go (inr q) = rw (ne_eqb r (9 * j + n) q)
        (add_zero (if (below j n r) (row z r) 0) ∙ ap (λ (t : Bool). if t (row z r) 0) (other q (cases_eq (r / 9) j)))

pub rows_more : (b : List ℕ) (j : ℕ) (z : List ℕ) (n x : ℕ) (block block' : List ℕ) → n < 9 → x ≡ get_or z n 0 → AddedAt (9 * j + n) x block block'
    → Rows b j z n block → Rows b j z (n + 1) block'
rows_more b j z n x block block' h e a w = record {
  long = a.0 ∙ w.long;
  changed = λ r l.
      a.1 r (subst (λ (i : ℕ). r < i) (sym w.long) l) ∙ ap (λ (y : ℕ). y ⊕ if (eqb r (9 * j + n)) x 0) (w.changed r l)
      ∙ add_assoc (byte b r) (if (below j n r) (row z r) 0) (if (eqb r (9 * j + n)) x 0)
      ∙ ap (λ (y : ℕ). byte b r ⊕ y) (step j z n x r h e);
}

pub no_card : (b : List ℕ) (j : ℕ) (z : List ℕ) → length b ≡ 45 → 4 < j → RowsAdded j z b b
no_card b j z l h = (refl, λ r lr. rw (ne_eqb (r / 9) j (λ e. omega (arith, l, lr, h, e))) (sym (add_zero (byte b r))))

-- ---- the whole change
regroup : (a c p q : ℕ) → ((a ⊕ c) ⊕ p) ⊕ q ≡ a ⊕ (p ⊕ (q ⊕ c))
regroup a c p q = simp sums

module _ (b : List ℕ) (d : Change) (l : length b ≡ 45) where
  applied_is : applied b d ≡ block_of (λ r. byte b r ⊕ adds d r)
  unfolding applied
  applied_is = rw (eq-eqb (length b) 45 l) refl

  pub applied_long : length (applied b d) ≡ 45
  applied_long = ap length applied_is ∙ block_of_length (λ r. byte b r ⊕ adds d r)

  pub applied_at : (r : ℕ) → r < 45 → byte (applied b d) r ≡ byte b r ⊕ adds d r
  applied_at r h = ap (λ (x : List ℕ). byte x r) applied_is ∙ block_of_at (λ r. byte b r ⊕ adds d r) r h

  pub applied_end : (b₁ b₂ b₃ : List ℕ) → RowsAdded d.card d.rows b b₁ → AddedAt d.p d.e b₁ b₂ → AddedAt d.q d.f b₂ b₃ → b₃ ≡ applied b d
  applied_end b₁ b₂ b₃ w a c = same_block b₃ (applied b d) (c.0 ∙ a.0 ∙ long) applied_long (λ r h. at r h ∙ sym (applied_at r h))
    where
      long : length b₁ ≡ 45
      long = w.0 ∙ l

      at : (r : ℕ) → r < 45 → byte b₃ r ≡ byte b r ⊕ adds d r
      at r h =
          c.1 r (subst (λ (i : ℕ). r < i) (sym (a.0 ∙ long)) h)
          ∙ ap (λ (y : ℕ). y ⊕ if (eqb r d.q) d.f 0) (a.1 r (subst (λ (i : ℕ). r < i) (sym long) h)
          ∙ ap (λ (y : ℕ). y ⊕ if (eqb r d.p) d.e 0) (w.1 r (subst (λ (i : ℕ). r < i) (sym l) h)))
          ∙ regroup (byte b r) (if (eqb (r / 9) d.card) (row d.rows r) 0) (if (eqb r d.p) d.e 0) (if (eqb r d.q) d.f 0)

  pub unadded : ((r : ℕ) → r < 45 → adds d r ≡ 0) → applied b d ≡ b
  unadded z = same_block (applied b d) b applied_long l (λ r h. applied_at r h ∙ ap (λ (x : ℕ). byte b r ⊕ x) (z r h) ∙ add_zero (byte b r))

pub not_applied : (b : List ℕ) (d : Change) → length b ≢ 45 → b ≡ applied b d
unfolding applied
not_applied b d n = rw (ne_eqb (length b) 45 n) refl

-- ---- nothing added
either_zero : (t : Bool) → ◌≡◌ {A = ℕ} (if t 0 0) 0
either_zero true = refl
either_zero false = refl

nine_zeros : (i : ℕ) → i < 9 → get_or no_change.rows i 0 ≡ 0
nine_zeros i l = eqb→eq (get_or no_change.rows i 0) 0 (every_at (λ i. eqb (get_or no_change.rows i 0) 0) 9 tt i l)

adds_none : (r : ℕ) → adds no_change r ≡ 0
adds_none r =
    ap₂ (λ (x y : ℕ). x ⊕ y) (either_zero (eqb r 0))
    (ap₂ (λ (x y : ℕ). x ⊕ y) (either_zero (eqb r 0)) (ap (λ (x : ℕ). if (eqb (r / 9) 0) x 0) (nine_zeros (r % 9) (omega arith)) ∙ either_zero (eqb (r / 9) 0))
    ∙ add_self 0)
    ∙ add_self 0

pub applied_none : (b : List ℕ) → applied b no_change ≡ b
applied_none b = pick (cases_eq (length b) 45)
  where
    pick : (length b ≡ 45) ⊎ (length b ≢ 45) → applied b no_change ≡ b
    pick (inl l) = unadded b no_change l (λ r h. adds_none r)
    pick (inr n) = sym (not_applied b no_change n)
