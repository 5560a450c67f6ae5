-- The rows, from the words of the five cards.
--
--   loaded         the word that the code loads holds the eight bytes from a place on
--   five_sum       the words, added as the code does it
--   five_words     five words of a block, from the same chip on
--   rows_word      their sum; rows_held: it holds the rows
--   nine_at        entry i of nine numbers of which the first eight are f's
use Rattle.std.proofs.Common.{◌≡◌, ℕ, ◌+◌, ◌-◌, ◌*◌, ◌/◌, ◌%◌, ◌^◌, ◌<◌, ◌≤◌, List, [], ◌∷◌, length, get_or, take, drop, w64, lit<, refl, sym, ap, ◌∙◌, subst, zero-add, arith}
use Rattle.std.proofs.Math.Nat.{not-suc-le-zero}
use Rattle.std.proofs.lemmas.List.{get_or-take}
use Rattle.std.proofs.lemmas.Nat.{le_bytes_8}
use Rattle.std.specs.Int.{from_le_bytes, to_le_bytes}
use lib.ListN.{get_or-eq_default}
use lib.Seq.{get_or-drop}
use native.Mathlib.Decide.{dec_lt}
use borrow.Rule.Slice.PartMut.{mid_len}
use Rattle.field.specs.Field.{◌⊕◌, sum}
use Rattle.field.proofs.Xor.{sums}
use Rattle.field.proofs.Sum.{sum_ext}
use Rattle.base.proofs.Tests.{below_suc}
use Rattle.code.specs.Block.{byte, position, listed}
use Rattle.pairs.specs.Words.{byte_of}
use Rattle.pairs.proofs.Bytes.{byte_of_add}
use Rattle.pairs.proofs.Points.{through}
use Rattle.sums.specs.Sums.{Holds, Word, CardWords, RowsWord}

-- the bytes of a word, as the library lists them
listed_low : (w i : ℕ) → i < 8 → byte_of w i ≡ get_or (to_le_bytes w64 w) i 0
unfolding byte_of
listed_low w =
    below_suc Q 7 refl (below_suc Q 6 refl (below_suc Q 5 refl (below_suc Q 4 refl
    (below_suc Q 3 refl (below_suc Q 2 refl (below_suc Q 1 refl (below_suc Q 0 (omega arith) (λ i l. absurd (not-suc-le-zero l)))))))))
  where
    Q : ℕ → Type 0
    Q i = w / 2 ^ (8 * i) % 2 ^ 8 ≡ get_or (to_le_bytes w64 w) i 0

pub loaded : (b eight : List ℕ) (at w : ℕ) → ((p : ℕ) → byte b p < 256) → at + 8 ≤ length b → eight ≡ take (at + 8 - at) (drop at b)
    → w ≡ from_le_bytes w64 eight → (i : ℕ) → i < 8 → byte_of w i ≡ byte b (at + i)
loaded b eight at w h long e is i l =
    listed_low w i l ∙ ap (λ (bs : List ℕ). get_or bs i 0) (le_bytes_8 eight w eight_long (λ k. bytes k (dec_lt k 8)) is) ∙ own i l
  where
    eight_long : length eight ≡ 8
    eight_long = ap length e ∙ mid_len at (at + 8) b long ∙ (let q : at + 8 - at ≡ 8 = omega arith in q)

    own : (k : ℕ) → k < 8 → get_or eight k 0 ≡ byte b (at + k)
    own k l = ap (λ (bs : List ℕ). get_or bs k 0) e ∙ get_or-take (at + 8 - at) (drop at b) k 0 (omega arith) ∙ get_or-drop at b k 0

    bytes : (k : ℕ) → Dec (k < 8) → get_or eight k 0 < 256
    bytes k (yes l) = subst (λ (x : ℕ). x < 256) (sym (own k l)) (h (at + k))
    bytes k (no n) = subst (λ (x : ℕ). x < 256) (sym (get_or-eq_default eight 0 {n = k} (omega (arith, eight_long)))) (lit< tt)

-- ---- the five cards' words
pub five_sum : (f : ℕ → ℕ) → f 0 ⊕ f 1 ⊕ f 2 ⊕ f 3 ⊕ f 4 ≡ sum 5 f
unfolding sum
five_sum f = simp sums

pub five_words : (b : ℕ → ℕ) (i w₀ w₁ w₂ w₃ w₄ : ℕ) → Word b i w₀ → Word b (9 + i) w₁ → Word b (18 + i) w₂ → Word b (27 + i) w₃ → Word b (36 + i) w₄
    → CardWords b i (w₀ ∷ w₁ ∷ w₂ ∷ w₃ ∷ w₄ ∷ [])
five_words b i w₀ w₁ w₂ w₃ w₄ h₀ h₁ h₂ h₃ h₄ =
    below_suc Q 4 h₄ (below_suc Q 3 h₃ (below_suc Q 2 h₂ (below_suc Q 1 h₁
    (below_suc Q 0 (subst (λ (k : ℕ). Word b k w₀) (sym (zero-add i)) h₀) (λ j l. absurd (not-suc-le-zero l))))))
  where
    Q : ℕ → Type 0
    Q j = Word b (9 * j + i) (get_or (w₀ ∷ w₁ ∷ w₂ ∷ w₃ ∷ w₄ ∷ []) j 0)

pub rows_word : (b : ℕ → ℕ) (i w₀ w₁ w₂ w₃ w₄ : ℕ) → Word b i w₀ → Word b (9 + i) w₁ → Word b (18 + i) w₂ → Word b (27 + i) w₃ → Word b (36 + i) w₄
    → RowsWord b i (w₀ ⊕ w₁ ⊕ w₂ ⊕ w₃ ⊕ w₄)
rows_word b i w₀ w₁ w₂ w₃ w₄ h₀ h₁ h₂ h₃ h₄ = record {
  words = w₀ ∷ w₁ ∷ w₂ ∷ w₃ ∷ w₄ ∷ [];
  cards = five_words b i w₀ w₁ w₂ w₃ w₄ h₀ h₁ h₂ h₃ h₄;
  total = five_sum (λ j. get_or (w₀ ∷ w₁ ∷ w₂ ∷ w₃ ∷ w₄ ∷ []) j 0);
}

-- the rows are the bytes of the words' sum
pub rows_held : (b : ℕ → ℕ) (i u : ℕ) → RowsWord b i u → Holds (λ i. sum 5 (λ j. b (position j i))) i u
rows_held b i u w k l =
    ap (λ (v : ℕ). byte_of v k) w.total ∙ through (λ v. byte_of v k) (byte_of_add k) 5 (λ j. get_or w.words j 0)
    ∙ sum_ext 5 (λ j. byte_of (get_or w.words j 0) k) (λ j. b (position j (i + k)))
    (λ j m. (w.cards j m).1 k l ∙ ap b (let g : 9 * j + i + k ≡ 9 * j + (i + k) = omega arith in g))

pub nine_at : (f : ℕ → ℕ) (x : ℕ) (P : ℕ → ℕ → Type 0) → ((i : ℕ) → i < 8 → P i (f i)) → P 8 x → (i : ℕ) → i < 9 → P i (byte (listed f 8 (x ∷ [])) i)
nine_at f x P low high =
    below_suc Q 8 high (below_suc Q 7 (low 7 (omega arith)) (below_suc Q 6 (low 6 (omega arith)) (below_suc Q 5 (low 5 (omega arith))
    (below_suc Q 4 (low 4 (omega arith)) (below_suc Q 3 (low 3 (omega arith)) (below_suc Q 2 (low 2 (omega arith)) (below_suc Q 1 (low 1 (omega arith))
    (below_suc Q 0 (low 0 (omega arith)) (λ i l. absurd (not-suc-le-zero l))))))))))
  where
    Q : ℕ → Type 0
    Q i = P i (byte (listed f 8 (x ∷ [])) i)
