-- The word that both label sums of a block come from, without a product.
--
-- The block is taken as one number, byte p from digit 8 p on. What the code makes of it is an additive map, so that it is the sum of what it
-- makes of each byte at its place, and that is known by eight digits of each of the 45 bytes.
--
--   window            the word from byte k on
--   lower_add, upper_add, wrapped_add   the code's maps are additive
--   cards_are         what the code makes of ten words of a block is the sum of byte times spread label
use mathlib.Core.Path.{◌≡◌, sym, ap, ap₂, ◌∙◌}
use mathlib.Core.List.{List}
use Prim.Native.Nat.{ℕ, ◌+◌, ◌-◌, ◌*◌, ◌/◌, ◌%◌, ◌^◌, ◌<◌, ◌≤◌}
use native.Mathlib.Nat.{mod-lt, mod-eq_of_lt}
use native.Mathlib.Omega.{arith}
use lib.Dec.{T, eqb}
use lib.ListN.{get_or}
use lib.Pow.{pow_pos, shr-shr, field, mod-mod-pow}
use Rattle.base.proofs.Tests.{every, every_at}
use Rattle.field.specs.Field.{◌⊕◌, sum}
use Rattle.field.proofs.Xor.{sums, add_shr, add_mod, swap}
use Rattle.field.proofs.Remainder.{times_pow_add}
use Rattle.field.proofs.Linear.{Additive}
use Rattle.field.proofs.Sum.{sum_ext}
use Rattle.code.specs.Block.{byte}
use Rattle.code.specs.Labels.{built_in}
use Rattle.code.proofs.BuiltIn.{figures, in_figures}
use Rattle.pairs.specs.Words.{byte_of, spread_of, spread}
use Rattle.pairs.specs.Shifts.{up}
use Rattle.sums.specs.Maps.{lower, upper, quotient, wrapped}
use Rattle.pairs.proofs.Points.{through, agree, spread_at, spread_times_add}
use Rattle.pairs.proofs.Bytes.{same_bytes, placed}
use Rattle.pairs.proofs.Fold.{up_add, after}
use Rattle.sums.specs.Sums.{Word}

pub lower_add : (p q b a p' q' b' a' : ℕ) → lower (p ⊕ p') (q ⊕ q') (b ⊕ b') (a ⊕ a') ≡ lower p q b a ⊕ lower p' q' b' a'
unfolding lower
lower_add p q b a p' q' b' a' = simp (up_add, sums)

pub upper_add : (p q b a p' q' b' a' : ℕ) → upper (p ⊕ p') (q ⊕ q') (b ⊕ b') (a ⊕ a') ≡ upper p q b a ⊕ upper p' q' b' a'
unfolding upper
upper_add p q b a p' q' b' a' = simp (add_shr, sums)

quotient_add : Additive quotient
unfolding quotient
quotient_add a b = simp (add_shr, sums)

pub wrapped_add : (l h l' h' : ℕ) → wrapped (l ⊕ l') (h ⊕ h') ≡ wrapped l h ⊕ wrapped l' h'
unfolding wrapped
wrapped_add l h l' h' = simp (quotient_add, up_add, sums)

-- ---- the block as one number
unfoldable pub window : ℕ → ℕ → ℕ
window k z = z / 2 ^ (8 * k) % 2 ^ 64

window_add : (k : ℕ) → Additive (window k)
unfolding window
window_add k a b = ap (λ (x : ℕ). x % 2 ^ 64) (add_shr a b (8 * k)) ∙ add_mod (a / 2 ^ (8 * k)) (b / 2 ^ (8 * k)) 64

two : ℕ → ℕ → ℕ → ℕ
two k l z = window k z ⊕ window l z

two_add : (k l : ℕ) → Additive (two k l)
unfolding two
two_add k l a b = ap₂ (λ (x y : ℕ). x ⊕ y) (window_add k a b) (window_add l a b) ∙ swap (window k a) (window k b) (window l a) (window l b)

low_word : ℕ → ℕ
low_word z = lower (two 0 36 z) (two 9 36 z) (window 18 z) (two 27 18 z)

high_word : ℕ → ℕ
high_word z = upper (two 1 37 z) (two 10 37 z) (window 19 z) (two 28 19 z)

whole : ℕ → ℕ
whole z = wrapped (low_word z) (high_word z)

low_word_add : Additive low_word
unfolding low_word
low_word_add a b =
    rw (two_add 0 36 a b, two_add 9 36 a b, window_add 18 a b, two_add 27 18 a b)
    (lower_add (two 0 36 a) (two 9 36 a) (window 18 a) (two 27 18 a) (two 0 36 b) (two 9 36 b) (window 18 b) (two 27 18 b))

high_word_add : Additive high_word
unfolding high_word
high_word_add a b =
    rw (two_add 1 37 a b, two_add 10 37 a b, window_add 19 a b, two_add 28 19 a b)
    (upper_add (two 1 37 a) (two 10 37 a) (window 19 a) (two 28 19 a) (two 1 37 b) (two 10 37 b) (window 19 b) (two 28 19 b))

whole_add : Additive whole
unfolding whole
whole_add a b = ap₂ wrapped (low_word_add a b) (high_word_add a b) ∙ wrapped_add (low_word a) (high_word a) (low_word b) (high_word b)

-- ---- one byte at its place
by_label : ℕ → ℕ → ℕ
by_label p x = x % 2 ^ 8 * spread_of 8 (byte figures p)

by_label_add : (p : ℕ) → Additive (by_label p)
unfolding by_label
by_label_add p a b =
    ap (λ (x : ℕ). x * spread_of 8 (byte figures p)) (add_mod a b 8)
    ∙ spread_times_add 8 (byte figures p) (a % 2 ^ 8) (b % 2 ^ 8) (mod-lt a (pow_pos 8)) (mod-lt b (pow_pos 8))

test : T (every (λ p. every (λ i. eqb (whole (2 ^ i * 2 ^ (8 * p))) (by_label p (2 ^ i))) 8) 45)
unfolding whole low_word high_word two window by_label lower upper quotient wrapped up spread_of figures ◌⊕◌
test = tt

one_byte : (p x : ℕ) → p < 45 → x < 2 ^ 8 → whole (x * 2 ^ (8 * p)) ≡ x * get_or (spread built_in) p 0
unfolding by_label
one_byte p x l h =
    agree (λ x. whole (x * 2 ^ (8 * p))) (by_label p) (after whole (λ x. x * 2 ^ (8 * p)) whole_add (λ a b. times_pow_add a b (8 * p))) (by_label_add p) 8
    (every_at (λ p. every (λ i. eqb (whole (2 ^ i * 2 ^ (8 * p))) (by_label p (2 ^ i))) 8) 45 test p l) x h
    ∙ ap₂ (λ (y z : ℕ). y * z) (mod-eq_of_lt h) (sym (spread_at figures p) ∙ ap (λ (ls : List ℕ). get_or (spread ls) p 0) (sym in_figures))

-- ---- the words of a block
byte_of_window : (k z i : ℕ) → i < 8 → byte_of (window k z) i ≡ byte_of z (k + i)
unfolding byte_of window
byte_of_window k z i l =
    let d : ℕ = 8 * (7 - i) in
    let y : ℕ = z / 2 ^ (8 * k) in
    let e : 64 ≡ (8 * (7 - i) + 8) + 8 * i = omega arith in
    let g : 8 * k + 8 * i ≡ 8 * (k + i) = omega arith in
    ap (λ (n : ℕ). y % 2 ^ n / 2 ^ (8 * i) % 2 ^ 8) e
    ∙ ap (λ (x : ℕ). x % 2 ^ 8) (field y (d + 8) (8 * i))
    ∙ mod-mod-pow (y / 2 ^ (8 * i)) d 8
    ∙ ap (λ (x : ℕ). x % 2 ^ 8) (shr-shr z (8 * k) (8 * i) ∙ ap (λ (n : ℕ). z / 2 ^ n) g)

module _ (b : ℕ → ℕ) (hb : (p : ℕ) → b p < 2 ^ 8) where
  number : ℕ
  number = sum 45 (λ p. b p * 2 ^ (8 * p))

  word_of : (k w : ℕ) → k + 8 ≤ 45 → Word b k w → w ≡ window k number
  unfolding number window
  word_of k w l h =
      same_bytes 8 w (window k number) h.0 (mod-lt (number / 2 ^ (8 * k)) (pow_pos 64))
      (λ i g. h.1 i g ∙ sym (byte_of_window k number i g ∙ placed 45 b hb (k + i) (omega arith)))

  whole_is : whole number ≡ sum 45 (λ p. b p * get_or (spread built_in) p 0)
  unfolding number
  whole_is =
      through whole whole_add 45 (λ p. b p * 2 ^ (8 * p))
      ∙ sum_ext 45 (λ p. whole (b p * 2 ^ (8 * p))) (λ p. b p * get_or (spread built_in) p 0) (λ p l. one_byte p (b p) l (hb p))

  pub cards_are : (w₀ w₉ w₁₈ w₂₇ w₃₆ w₁ w₁₀ w₁₉ w₂₈ w₃₇ l h : ℕ)
      → Word b 0 w₀ → Word b 9 w₉ → Word b 18 w₁₈ → Word b 27 w₂₇ → Word b 36 w₃₆
      → Word b 1 w₁ → Word b 10 w₁₀ → Word b 19 w₁₉ → Word b 28 w₂₈ → Word b 37 w₃₇
      → l ≡ lower (w₀ ⊕ w₃₆) (w₉ ⊕ w₃₆) w₁₈ (w₂₇ ⊕ w₁₈) → h ≡ upper (w₁ ⊕ w₃₇) (w₁₀ ⊕ w₃₇) w₁₉ (w₂₈ ⊕ w₁₉)
      → wrapped l h ≡ sum 45 (λ p. b p * get_or (spread built_in) p 0)
  unfolding whole low_word high_word two
  cards_are w₀ w₉ w₁₈ w₂₇ w₃₆ w₁ w₁₀ w₁₉ w₂₈ w₃₇ l h h₀ h₉ h₁₈ h₂₇ h₃₆ h₁ h₁₀ h₁₉ h₂₈ h₃₇ el eh =
      cc (
        word_of 0 w₀ (omega arith) h₀,
        word_of 9 w₉ (omega arith) h₉,
        word_of 18 w₁₈ (omega arith) h₁₈,
        word_of 27 w₂₇ (omega arith) h₂₇,
        word_of 36 w₃₆ (omega arith) h₃₆,
        word_of 1 w₁ (omega arith) h₁,
        word_of 10 w₁₀ (omega arith) h₁₀,
        word_of 19 w₁₉ (omega arith) h₁₉,
        word_of 28 w₂₈ (omega arith) h₂₈,
        word_of 37 w₃₇ (omega arith) h₃₇,
        el,
        eh,
        whole_is,
      )
