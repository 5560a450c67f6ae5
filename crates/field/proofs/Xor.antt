-- The laws of ⊕.
--
--   add_comm, add_assoc, add_left_comm, zero_add, add_zero    it is a commutative sum with 0
--   add_self, add_self_left    what is added twice goes away; eq_of_sum: two numbers whose sum is 0 are equal
--   add_lt, add_shr, add_mod   of numbers of k digits; of the digits from k on, and below k
--   swap                       four terms paired the other way
--   sums                       the laws as one set of rewriting rules: both sides of an equation of sums are sorted alike
use mathlib.Core.Path.{◌≡◌, refl, sym, ap, ◌∙◌}
use Prim.Native.Nat.{ℕ, ◌/◌, ◌%◌, ◌^◌, ◌<◌}
use native.Mathlib.Nat.{mod-lt, zero-lt-suc}
use Rattle.std.specs.Int.Bits.{xor_assoc, xor_shr, xor_mod, xor_comm, xor_self, xor_zero_r, xor_lt}
use Rattle.field.specs.Field.{◌⊕◌}

pub bit_lt : (a : ℕ) → a % 2 < 2
bit_lt a = mod-lt a (zero-lt-suc 1)

pub add_comm : (a b : ℕ) → a ⊕ b ≡ b ⊕ a
unfolding ◌⊕◌
add_comm a b = xor_comm a b

pub add_assoc : (a b c : ℕ) → (a ⊕ b) ⊕ c ≡ a ⊕ (b ⊕ c)
unfolding ◌⊕◌
add_assoc a b c = xor_assoc a b c

pub add_left_comm : (a b c : ℕ) → a ⊕ (b ⊕ c) ≡ b ⊕ (a ⊕ c)
add_left_comm a b c = sym (add_assoc a b c) ∙ ap (λ (x : ℕ). x ⊕ c) (add_comm a b) ∙ add_assoc b a c

pub add_self : (a : ℕ) → a ⊕ a ≡ 0
unfolding ◌⊕◌
add_self a = xor_self a

pub zero_add : (a : ℕ) → 0 ⊕ a ≡ a
unfolding ◌⊕◌
zero_add a = refl

pub add_zero : (a : ℕ) → a ⊕ 0 ≡ a
unfolding ◌⊕◌
add_zero a = xor_zero_r a

pub add_self_left : (a b : ℕ) → a ⊕ (a ⊕ b) ≡ b
add_self_left a b = sym (add_assoc a a b) ∙ ap (λ (x : ℕ). x ⊕ b) (add_self a) ∙ zero_add b

pub add_lt : (k a b : ℕ) → a < 2 ^ k → b < 2 ^ k → a ⊕ b < 2 ^ k
unfolding ◌⊕◌
add_lt k a b = xor_lt k a b

pub add_shr : (a b k : ℕ) → (a ⊕ b) / 2 ^ k ≡ (a / 2 ^ k) ⊕ (b / 2 ^ k)
unfolding ◌⊕◌
add_shr a b k = xor_shr a b k

pub add_mod : (a b k : ℕ) → (a ⊕ b) % 2 ^ k ≡ (a % 2 ^ k) ⊕ (b % 2 ^ k)
unfolding ◌⊕◌
add_mod a b k = xor_mod a b k

pub ruleset sums = (add_assoc, add_comm, add_left_comm, add_self, add_self_left, zero_add, add_zero)

pub swap : (a b c d : ℕ) → (a ⊕ b) ⊕ (c ⊕ d) ≡ (a ⊕ c) ⊕ (b ⊕ d)
swap a b c d = simp sums

pub eq_of_sum : (a b : ℕ) → a ⊕ b ≡ 0 → a ≡ b
eq_of_sum a b h = sym (add_zero a) ∙ ap (λ (x : ℕ). a ⊕ x) (sym h) ∙ add_self_left a b
