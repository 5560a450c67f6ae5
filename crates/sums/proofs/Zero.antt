-- All eleven sums are 0 exactly where the block is lawful.
--
--   or_zero                    "or" gives 0 exactly where its operands are 0, as the code asks it of the sums
--   low_row                    byte i of the word is row i; rows_below: the rows are bytes
--   zero_lawful, lawful_zero   sums that are all 0 are those of a lawful block, and only those
use mathlib.Core.Logic.{◌≢◌, ◌⊎◌, inl, inr}
use mathlib.Core.Path.{◌≡◌, refl, sym, ap, ◌∙◌}
use mathlib.Core.Bool.{Bool, true, ◌&&◌}
use Rattle.std.proofs.Math.Bool.{and_assoc}
use Rattle.std.proofs.lemmas.Bool.{and_parts, cases_eq}
use mathlib.Core.List.{List}
use Prim.Native.Nat.{ℕ, ◌<◌, ◌^◌}
use native.Mathlib.Omega.{arith}
use lib.Bits.{bit_or, or_add_and, and_le_r}
use lib.Dec.{eqb}
use borrow.Author.Tests.{eqb-true, eq-eqb, ne_eqb}
use Rattle.code.specs.Block.{byte, Lawful}
use Rattle.pairs.specs.Words.{byte_of}
use Rattle.sums.specs.Sums.{rows_of, IsSums, all_zero}
use Rattle.sums.specs.declared.Sums.{Sums}
use Rattle.pairs.proofs.Bytes.{byte_of_zero, byte_of_below, zero_bytes}
use Rattle.sums.proofs.Cards.{nine_at}

two : (a b : ℕ) → eqb (bit_or a b) 0 ≡ eqb a 0 && eqb b 0
two a b = pick (cases_eq a 0)
  where
    pick : (a ≡ 0) ⊎ (a ≢ 0) → eqb (bit_or a b) 0 ≡ eqb a 0 && eqb b 0
    pick (inl e) = ap (λ (x : ℕ). eqb (bit_or x b) 0) e ∙ ap (λ (t : Bool). t && eqb b 0) (sym (eq-eqb a 0 e))
    pick (inr n) =
        ne_eqb (bit_or a b) 0 (λ e. n (omega (arith, e, or_add_and a b, and_le_r a b))) ∙ ap (λ (t : Bool). t && eqb b 0) (sym (ne_eqb a 0 n))

pub or_zero : (a b c d x y z : ℕ) → x ≡ b → y ≡ c → z ≡ d → eqb (bit_or (bit_or (bit_or a x) y) z) 0 ≡ eqb a 0 && (eqb b 0 && (eqb c 0 && eqb d 0))
or_zero a b c d x y z p q r =
    rw (p, q, r)
    (two (bit_or (bit_or a b) c) d ∙ ap (λ (t : Bool). t && eqb d 0) (two (bit_or a b) c ∙ ap (λ (t : Bool). t && eqb c 0) (two a b))
    ∙ and_assoc (eqb a 0 && eqb b 0) (eqb c 0) (eqb d 0) ∙ and_assoc (eqb a 0) (eqb b 0) (eqb c 0 && eqb d 0))

-- ---- the block
pub zero_lawful : (labels b : List ℕ) (s : Sums) → IsSums labels b s → all_zero s ≡ true → Lawful labels b
zero_lawful labels b s is z =
    let low = and_parts (eqb s.low 0) _ z in
    let high = and_parts (eqb s.high 0) _ low.1 in
    let label = and_parts (eqb s.once 0) _ high.1 in
    let row : (i : ℕ) → i < 9 → byte (rows_of s) i ≡ 0 =
    nine_at (byte_of s.low) s.high (λ i x. x ≡ 0) (λ i l. ap (λ (u : ℕ). byte_of u i) (eqb-true s.low 0 low.0) ∙ byte_of_zero i) (eqb-true s.high 0 high.0) in
    record {
      chips = λ i l. sym (is.rows i l) ∙ row i l;
      once = sym is.once ∙ eqb-true s.once 0 label.0;
      squared = sym is.squared ∙ eqb-true s.squared 0 label.1;
    }

pub low_row : (s : Sums) (i : ℕ) → i < 8 → byte_of s.low i ≡ byte (rows_of s) i
low_row s i l = nine_at (byte_of s.low) s.high (λ i x. i < 8 → byte_of s.low i ≡ x) (λ i h g. refl) (λ g. absurd (omega arith)) i (omega arith) l

pub rows_below : (s : Sums) → s.high < 2 ^ 8 → (i : ℕ) → i < 9 → byte (rows_of s) i < 2 ^ 8
rows_below s = nine_at (byte_of s.low) s.high (λ i x. x < 2 ^ 8) (λ i l. byte_of_below s.low i)

pub lawful_zero : (labels b : List ℕ) (s : Sums) → IsSums labels b s → Lawful labels b → all_zero s ≡ true
lawful_zero labels b s is law =
    let low : s.low ≡ 0 = zero_bytes 8 s.low is.eight (λ i l. low_row s i l ∙ is.rows i (omega arith) ∙ law.chips i (omega arith)) in
    let high : s.high ≡ 0 = is.rows 8 (omega arith) ∙ law.chips 8 (omega arith) in
    rw (low, high, is.once ∙ law.once, is.squared ∙ law.squared)
