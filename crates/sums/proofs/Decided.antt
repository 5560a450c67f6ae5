-- What the calls give is decided: two outcomes on the same bytes agree in what is given and in the bytes.
--
--   same_sums        sums are known by their rows and their label sums
--   one_sums, one_record_sums      a block has one set of sums, and so has a record
--   four_digits      four digits that are 0 exactly where something holds are one number
--   sums_decided, record_decided, four_decided
use Prim.Native.Nat.{ℕ, ◌+◌, ◌*◌, ◌^◌, ◌<◌}
use mathlib.Core.Path.{◌≡◌, sym, ap₂, ◌∙◌}
use mathlib.Core.Logic.{◌≢◌, ◌⊎◌, inl, inr, ◌↔◌}
use mathlib.Core.List.{List}
use native.Mathlib.Omega.{arith}
use lib.Dec.{T, eqb, eqb→eq}
use lib.ListN.{length, take, drop}
use Rattle.base.specs.Base.{digit}
use Rattle.std.proofs.lemmas.Bool.{cases_eq}
use Rattle.base.proofs.Tests.{every, every_at}
use Rattle.code.specs.Block.{byte, Lawful}
use Rattle.code.specs.Labels.{built_in}
use Rattle.sums.specs.Sums.{rows_of, IsSums, BlockSums, IsRecordSums, RecordSums, FourLeft}
use Rattle.sums.specs.declared.Sums.{Sums}
use Rattle.pairs.proofs.Bytes.{same_bytes}
use Rattle.sums.proofs.Zero.{low_row}

same_sums : (s s' : Sums) → ((i : ℕ) → i < 9 → byte (rows_of s) i ≡ byte (rows_of s') i) → s.low < 2 ^ 64 → s'.low < 2 ^ 64
    → s.once ≡ s'.once → s.squared ≡ s'.squared → s ≡ s'
same_sums s s' row eight eight' once squared =
    ap₂ (λ (l h : ℕ). made l h s.once s.squared) low (row 8 (omega arith)) ∙ ap₂ (λ (o q : ℕ). made s'.low s'.high o q) once squared
  where
    made : ℕ → ℕ → ℕ → ℕ → Sums
    made l h o q = record { low = l; high = h; once = o; squared = q }

    low : s.low ≡ s'.low
    low = same_bytes 8 s.low s'.low eight eight' (λ i l. low_row s i l ∙ row i (omega arith) ∙ sym (low_row s' i l))

pub one_sums : (labels b : List ℕ) (s s' : Sums) → IsSums labels b s → IsSums labels b s' → s ≡ s'
one_sums labels b s s' w v =
    same_sums s s' (λ i l. w.rows i l ∙ sym (v.rows i l)) w.eight v.eight (w.once ∙ sym v.once) (w.squared ∙ sym v.squared)

pub one_record_sums : (labels rec : List ℕ) (s s' : Sums) → IsRecordSums labels rec s → IsRecordSums labels rec s' → s ≡ s'
one_record_sums labels rec s s' w v =
    same_sums s s' (λ i l. w.rows i l ∙ sym (v.rows i l)) w.eight v.eight (w.once ∙ sym v.once) (w.squared ∙ sym v.squared)

pub sums_decided : (b : List ℕ) (s s' : Sums) (x x' : List ℕ) → BlockSums b s x → BlockSums b s' x' → (s ≡ s') × (x ≡ x')
sums_decided b s s' x x' w v = (pick (cases_eq (length b) 45), w.kept ∙ sym v.kept)
  where
    pick : (length b ≡ 45) ⊎ (length b ≢ 45) → s ≡ s'
    pick (inl e) = one_sums _ b s s' (w.block e) (v.block e)
    pick (inr e) = w.other e ∙ sym (v.other e)

pub record_decided : (rec : List ℕ) (s s' : Sums) (x x' : List ℕ) → RecordSums rec s x → RecordSums rec s' x' → (s ≡ s') × (x ≡ x')
record_decided rec s s' x x' w v = (pick (cases_eq (length rec) 34), w.kept ∙ sym v.kept)
  where
    pick : (length rec ≡ 34) ⊎ (length rec ≢ 34) → s ≡ s'
    pick (inl e) = one_record_sums _ rec s s' (w.record_sums e) (v.record_sums e)
    pick (inr e) = w.other e ∙ sym (v.other e)

-- a digit that is 0 exactly where something holds
same_digit : (P : Type 0) (x y : ℕ) → x < 2 → y < 2 → (x ≡ 0) ↔ P → (y ≡ 0) ↔ P → x ≡ y
same_digit P x y hx hy f g = pick (cases_eq x 0) (cases_eq y 0)
  where
    pick : (x ≡ 0) ⊎ (x ≢ 0) → (y ≡ 0) ⊎ (y ≢ 0) → x ≡ y
    pick (inl a) (inl b) = a ∙ sym b
    pick (inl a) (inr b) = absurd (b (g.1 (f.0 a)))
    pick (inr a) (inl b) = absurd (a (f.1 (g.0 b)))
    pick (inr a) (inr b) = omega arith

abbrev from_digits : ℕ → ℕ
from_digits r = (digit r 0 + 2 * digit r 1) + (4 * digit r 2 + 8 * digit r 3)

digits_test : T (every (λ r. eqb r (from_digits r)) 16)
digits_test = tt

by_digits : (r : ℕ) → r < 16 → r ≡ from_digits r
by_digits r h = eqb→eq r (from_digits r) (every_at (λ r. eqb r (from_digits r)) 16 digits_test r h)

pub four_digits : (P : ℕ → Type 0) (r r' : ℕ) → r < 16 → r' < 16 → ((k : ℕ) → k < 4 → (digit r k ≡ 0) ↔ P k) → ((k : ℕ) → k < 4 → (digit r' k ≡ 0) ↔ P k)
    → r ≡ r'
four_digits P r r' h h' is is' =
    by_digits r h
    ∙ ap₂ (λ (x y : ℕ). x + y)
    (ap₂ (λ (x y : ℕ). x + 2 * y) (at 0 (omega arith)) (at 1 (omega arith)))
    (ap₂ (λ (x y : ℕ). 4 * x + 8 * y) (at 2 (omega arith)) (at 3 (omega arith)))
    ∙ sym (by_digits r' h')
  where
    at : (k : ℕ) → k < 4 → digit r k ≡ digit r' k
    at k l = same_digit (P k) (digit r k) (digit r' k) (omega arith) (omega arith) (is k l) (is' k l)

pub four_decided : (b : List ℕ) (r r' : ℕ) (x x' : List ℕ) → FourLeft b r x → FourLeft b r' x' → (r ≡ r') × (x ≡ x')
four_decided b r r' x x' w v = (pick (cases_eq (length b) 180), w.kept ∙ sym v.kept)
  where
    pick : (length b ≡ 180) ⊎ (length b ≢ 180) → r ≡ r'
    pick (inl e) = four_digits (λ k. Lawful built_in (take 45 (drop (45 * k) b))) r r' w.below v.below (w.four e) (v.four e)
    pick (inr e) = w.other e ∙ sym (v.other e)
