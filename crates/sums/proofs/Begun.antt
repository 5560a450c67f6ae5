-- A record's words, and the block that it begins.
--
--   four_sums                   four words of a record, from the same chip on, hold its chip sums
--   third                       the word of its bytes of card 3, from a chip on
--   begun_front, begun_card     the bytes of the block begun, before card 4 and on it; begun_below: they are bytes
--   front_word, card_word       its words: the record's, and that of its chip sums
use mathlib.Core.Path.{◌≡◌, sym, ap, ◌∙◌}
use mathlib.Core.Bool.{Bool}
use mathlib.Core.List.{List}
use Prim.Native.Nat.{ℕ, ◌+◌, ◌-◌, ◌*◌, ◌/◌, ◌%◌, ◌^◌, ◌<◌, ◌≤◌}
use native.Mathlib.Decide.{dec_lt}
use native.Mathlib.Nat.{div-eq_of_lt, lt_of_lt_of_le}
use native.Mathlib.Omega.{arith}
use lib.Dec.{ltb}
use lib.ListN.{length, get_or-eq_default}
use borrow.Author.Tests.{lt-ltb, le-ltb}
use Rattle.base.specs.Base.{if}
use Rattle.field.specs.Field.{◌⊕◌, sum}
use Rattle.field.proofs.Xor.{sums}
use Rattle.field.proofs.Linear.{if_below}
use Rattle.field.proofs.Sum.{sum_below}
use Rattle.code.specs.Block.{byte, position}
use Rattle.pairs.specs.Words.{byte_of}
use Rattle.sums.specs.Sums.{chip_sum, begun, Holds, Word}
use Rattle.pairs.proofs.Bytes.{byte_of_add}
use lib.Pow.{pow_mono, shr-shr}

-- a word ends with byte 7
past : (w n : ℕ) → w < 2 ^ 64 → 8 ≤ n → byte_of w n ≡ 0
unfolding byte_of
past w n h l = ap (λ (x : ℕ). x % 2 ^ 8) (div-eq_of_lt (lt_of_lt_of_le h (pow_mono {i = 64} {j = 8 * n} (omega arith))))

beyond : (rec : List ℕ) (p : ℕ) → length rec ≡ 34 → 34 ≤ p → byte rec p ≡ 0
beyond rec p e h = get_or-eq_default rec 0 {n = p} (omega (arith, e))

-- the word from byte 26 on, shifted down to chip i of card 3: the record ends with it
pub third : (rec : List ℕ) (w i : ℕ) → length rec ≡ 34 → w < 2 ^ 64 → Holds (byte rec) 26 w → Holds (byte rec) (27 + i) (w / 2 ^ (8 + 8 * i))
unfolding byte_of
third rec w i long h holds k l =
    ap (λ (x : ℕ). x % 2 ^ 8) (shr-shr w (8 + 8 * i) (8 * k) ∙ ap (λ (n : ℕ). w / 2 ^ n) (let e : 8 + 8 * i + 8 * k ≡ 8 * (1 + i + k) = omega arith in e))
    ∙ at (dec_lt (1 + i + k) 8)
  where
    at : Dec (1 + i + k < 8) → byte_of w (1 + i + k) ≡ byte rec (27 + i + k)
    at (yes m) = holds (1 + i + k) m ∙ ap (byte rec) (let e : 26 + (1 + i + k) ≡ 27 + i + k = omega arith in e)
    at (no m) = past w (1 + i + k) h (omega arith) ∙ sym (beyond rec (27 + i + k) long (omega arith))

-- ---- chip sums
pub four_sums : (rec : List ℕ) (i w₀ w₁ w₂ w₃ : ℕ)
    → Holds (byte rec) i w₀ → Holds (byte rec) (9 + i) w₁ → Holds (byte rec) (18 + i) w₂ → Holds (byte rec) (27 + i) w₃
    → (k : ℕ) → k < 8 → byte_of (w₀ ⊕ w₁ ⊕ w₂ ⊕ w₃) k ≡ chip_sum rec (i + k)
unfolding chip_sum sum
four_sums rec i w₀ w₁ w₂ w₃ h₀ h₁ h₂ h₃ k l =
    let e₀ : 9 * 0 + (i + k) ≡ i + k = omega arith in
    let e₁ : 9 * 1 + (i + k) ≡ 9 + i + k = omega arith in
    let e₂ : 9 * 2 + (i + k) ≡ 18 + i + k = omega arith in
    let e₃ : 9 * 3 + (i + k) ≡ 27 + i + k = omega arith in
    rw (e₀, e₁, e₂, e₃) (simp (byte_of_add k, h₀ k l, h₁ k l, h₂ k l, h₃ k l, sums))

-- ---- the block begun
pub begun_front : (rec : List ℕ) (p : ℕ) → p < 36 → begun rec p ≡ byte rec p
begun_front rec p h = ap (λ (t : Bool). if t (byte rec p) (chip_sum rec (p - 36))) (lt-ltb p 36 h)

pub begun_card : (rec : List ℕ) (i : ℕ) → begun rec (36 + i) ≡ chip_sum rec i
begun_card rec i =
    ap (λ (t : Bool). if t (byte rec (36 + i)) (chip_sum rec (36 + i - 36))) (le-ltb (36 + i) 36 (omega arith))
    ∙ ap (chip_sum rec) (let e : 36 + i - 36 ≡ i = omega arith in e)

pub begun_below : (rec : List ℕ) → ((p : ℕ) → byte rec p < 2 ^ 8) → (p : ℕ) → begun rec p < 2 ^ 8
unfolding chip_sum
begun_below rec h p =
    if_below 8 (ltb p 36) (byte rec p) (chip_sum rec (p - 36)) (h p) (sum_below 8 4 (λ k. byte rec (position k (p - 36))) (λ k. h (position k (p - 36))))

pub front_word : (rec : List ℕ) (k w : ℕ) → k + 8 ≤ 36 → Word (byte rec) k w → Word (begun rec) k w
front_word rec k w h word = (word.0, λ i l. word.1 i l ∙ sym (begun_front rec (k + i) (omega arith)))

pub card_word : (rec : List ℕ) (i w : ℕ) → w < 2 ^ 64 → Holds (chip_sum rec) i w → Word (begun rec) (36 + i) w
card_word rec i w h holds =
    (h, λ k l. holds k l ∙ sym (begun_card rec (i + k)) ∙ ap (begun rec) (let e : 36 + (i + k) ≡ 36 + i + k = omega arith in e))
