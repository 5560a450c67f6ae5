-- What the report has counted: one block more, the next four, and those that are left.
--
--   chunk_at           piece k of a list, as the code takes it
--   of_four, of_rest   block i of the four that begin with block 4 k; block k of what is left behind n fours
--   few, one_above     no total is above the number of blocks; one more is at most one above
--   none_more, one_next   the blocks of CountsMore, one by one; four_clean: four that are all clean
--   four_next, rest_next  the totals of a bank, after four blocks more, and after one more of those that are left
use Rattle.std.proofs.Common.{ℕ, zero, suc, ◌+◌, ◌-◌, ◌*◌, ◌/◌, ◌%◌, ◌^◌, ◌<◌, ◌≤◌, ◌≡◌, refl, sym, ap, ◌∙◌, List, [], ◌∷◌, length, take, drop, get_or, set, arith}
use Rattle.std.proofs.lemmas.List.{drop-take}
use Rattle.std.specs.Simd.{first_chunks}
use mathlib.Core.Path.{subst}
use native.Mathlib.Nat.{mul-zero, mul-suc, zero-div, not-suc-le-zero}
use lib.Seq.{drop-drop, take-take}
use Rattle.answer.specs.Answer.{Answer, clean}
use Rattle.answer.specs.declared.Totals.{Totals}
use Rattle.marks.specs.Marks.{marks_cause}
use Rattle.marks.specs.declared.Marks.{Marks}
use Rattle.reading.specs.Reading.{ReadsUnder}
use Rattle.block.specs.Read.{ReadsClean, FourUnclean, LookDone}
use Rattle.bank.specs.Calls.{block, class}
use Rattle.bank.specs.Count.{five, EachAtMost, CountsOne, CountsMore, CountedBlocks}
use Rattle.bank.proofs.Done.{part_is, looked, total_le, one_more}

-- ---- pieces of a bank
pub chunk_at : (size n k : ℕ) (l : List ℕ) → k < n → get_or (first_chunks size n l) k [] ≡ take size (drop (size * k) l)
chunk_at size zero k l h = absurd (not-suc-le-zero h)
chunk_at size (suc n) zero l h = ap (λ (i : ℕ). take size (drop i l)) (sym (mul-zero size))
chunk_at size (suc n) (suc k) l h =
    chunk_at size n k (drop size l) (omega (arith, h))
    ∙ ap (take size) (drop-drop (size * k) size l ∙ ap (λ (i : ℕ). drop i l) (let e : size + size * k ≡ size * k + size = omega arith in e ∙ sym (mul-suc size k)))

pub of_four : (bank : List ℕ) (k i : ℕ) → i < 4 → block (take 180 (drop (180 * k) bank)) i ≡ block bank (4 * k + i)
of_four bank k i l =
    ap (λ (n : ℕ). take 45 (drop (45 * i) (take n (drop (180 * k) bank)))) (let e : 180 ≡ 45 * i + (180 - 45 * i) = omega (arith, l) in e)
    ∙ ap (take 45) (drop-take (45 * i) (180 - 45 * i) (drop (180 * k) bank) ∙ ap (take (180 - 45 * i)) (drop-drop (45 * i) (180 * k) bank))
    ∙ take-take 45 (180 - 45 * i) (drop (180 * k + 45 * i) bank) (omega (arith, l))
    ∙ ap (λ (q : ℕ). take 45 (drop q bank)) (let e : 180 * k + 45 * i ≡ 45 * (4 * k + i) = omega arith in e)

pub of_rest : (bank : List ℕ) (n k : ℕ) → block (drop (n * 180) bank) k ≡ block bank (4 * n + k)
of_rest bank n k =
    ap (take 45) (drop-drop (45 * k) (n * 180) bank
    ∙ ap (λ (q : ℕ). drop q bank) (let e : n * 180 + 45 * k ≡ 45 * (4 * n + k) = omega arith in e))

-- piece k, looked at under lawful marks
pub seen : (b : List ℕ) (m : Marks) (pieces : List (List ℕ)) (k : ℕ) (a : Answer) (b' : List ℕ) → pieces ≡ first_chunks 45 (length b / 45) b → k < length b / 45
    → marks_cause m ≡ 0 → LookDone (get_or pieces k []) m a b' → (x : List ℕ) × ReadsUnder m (block b k) [] a x
seen b m pieces k a b' e l lawful w =
    let is = ap (λ (p : List (List ℕ)). get_or p k []) e ∙ chunk_at 45 (length b / 45) k b l ∙ sym (part_is b k) in
    looked b m k a b' (omega (arith, l)) lawful (subst (λ (x : List ℕ). LookDone x m a b') is w)

-- ---- how large the totals are
pub few : (bank : List ℕ) (m : Marks) (n k : ℕ) (t : Totals) → CountedBlocks bank m n (five t) → n ≤ k → EachAtMost k t
few bank m n k t w l = (most 0 (omega arith), most 1 (omega arith), most 2 (omega arith), most 3 (omega arith), most 4 (omega arith))
  where
    most : (i : ℕ) → i < 5 → get_or (five t) i 0 ≤ k
    most i h = omega (arith, total_le bank m n (five t) w i h, l)

each_of : (n : ℕ) (t : Totals) → EachAtMost n t → (i : ℕ) → get_or (five t) i 0 ≤ n
each_of n t h zero = h.0
each_of n t h (suc zero) = h.1
each_of n t h (suc (suc zero)) = h.2
each_of n t h (suc (suc (suc zero))) = h.3
each_of n t h (suc (suc (suc (suc zero)))) = h.4
each_of n t h (suc (suc (suc (suc (suc i))))) = omega arith

set_above : (l : List ℕ) (i j : ℕ) → get_or (set l i (get_or l i 0 + 1)) j 0 ≤ get_or l j 0 + 1
set_above [] i j = omega arith
set_above (x ∷ l) zero zero = omega arith
set_above (x ∷ l) zero (suc j) = omega arith
set_above (x ∷ l) (suc i) zero = omega arith
set_above (x ∷ l) (suc i) (suc j) = set_above l i j

pub one_above : (n k : ℕ) (a : Answer) (t t' : Totals) → EachAtMost n t → CountsOne a t t' → n < k → EachAtMost k t'
one_above n k a t t' h e l = (above 0, above 1, above 2, above 3, above 4)
  where
    above : (i : ℕ) → get_or (five t') i 0 ≤ k
    above i = subst (λ (u : List ℕ). get_or u i 0 ≤ k) (sym e) (omega (arith, set_above (five t) (class a) i, each_of n t h i, l))

-- ---- what four blocks say
pub clean_at : (b : List ℕ) (r : ℕ) (x : List ℕ) (i k : ℕ) → length b ≡ 180 → FourUnclean b r x → i < 4 → k ≡ r / 2 ^ i → k % 2 ≡ 0 → ReadsClean (block b i)
clean_at b r x i k len w l e even = (w.four len i l).0 (ap (λ (n : ℕ). n % 2) (sym e) ∙ even)

pub all_clean : (b : List ℕ) (r : ℕ) (x : List ℕ) → length b ≡ 180 → FourUnclean b r x → r ≡ 0 → (i : ℕ) → i < 4 → ReadsClean (block b i)
all_clean b r x len w z i l = clean_at b r x i 0 len w l (sym (ap (λ (n : ℕ). n / 2 ^ i) z ∙ zero-div (2 ^ i))) refl

-- ---- the next blocks, one by one
module _ (b : List ℕ) (m : Marks) (t : Totals) where
  pub none_more : CountsMore b m 0 t t
  none_more bank n same w = let e : n ≡ n + 0 = omega arith in subst (λ (k : ℕ). CountedBlocks bank m k (five t)) e w

  pub one_next : (c : ℕ) (a : Answer) (t' t'' : Totals) → CountsMore b m c t t' → ((x : List ℕ) × ReadsUnder m (block b c) [] a x) → CountsOne a t' t''
      → CountsMore b m (c + 1) t t''
  one_next c a t' t'' s r e bank n same w =
      let q : n + c + 1 ≡ n + (c + 1) = omega arith in
      let here = subst (λ (l : List ℕ). ReadsUnder m l [] a r.0) (same c (omega arith)) r.1 in
      subst (λ (k : ℕ). CountedBlocks bank m k (five t'')) q
      (one_more bank m (n + c) (five t') (s bank n (λ i l. same i (omega (arith, l))) w) a r.0 (class a) (five t'') here refl e)

  abbrev pub cleaner : ℕ → Totals
  cleaner c = record { clean = t.clean + c; chips = t.chips; card = t.card; none = t.none; several = t.several }

  pub four_clean : marks_cause m ≡ 0 → ((i : ℕ) → i < 4 → ReadsClean (block b i)) → CountsMore b m 4 t (cleaner 4)
  four_clean lawful h = next 3 (omega arith) (next 2 (omega arith) (next 1 (omega arith) first))
    where
      first : CountsMore b m 1 t (cleaner 1)
      first = one_next 0 clean t (cleaner 1) none_more (block b 0, h 0 (omega arith) m lawful) refl

      next : (c : ℕ) → c < 4 → CountsMore b m c t (cleaner c) → CountsMore b m (c + 1) t (cleaner (c + 1))
      next c l s =
          let e : t.clean + (c + 1) ≡ t.clean + c + 1 = omega arith in
          one_next c clean (cleaner c) (cleaner (c + 1)) s (block b c, h c l m lawful)
          (ap (λ (n : ℕ). five (record { clean = n; chips = t.chips; card = t.card; none = t.none; several = t.several })) e)

-- ---- the next blocks, in the bank
module _ (bank : List ℕ) (m : Marks) (t t' : Totals) where
  pub four_next : (k : ℕ) (four : List ℕ) → four ≡ take 180 (drop (180 * k) bank) → CountedBlocks bank m (4 * k) (five t) → CountsMore four m 4 t t'
      → CountedBlocks bank m (4 * (k + 1)) (five t')
  four_next k four e w s =
      let q : 4 * k + 4 ≡ 4 * (k + 1) = omega arith in
      subst (λ (n : ℕ). CountedBlocks bank m n (five t')) q (s bank (4 * k) (λ i l. ap (λ (x : List ℕ). block x i) e ∙ of_four bank k i l) w)

  pub rest_next : (n k : ℕ) (rest : List ℕ) (a : Answer) → rest ≡ drop (n * 180) bank → CountedBlocks bank m (4 * n + k) (five t)
      → ((x : List ℕ) × ReadsUnder m (block rest k) [] a x) → CountsOne a t t' → CountedBlocks bank m (4 * n + (k + 1)) (five t')
  rest_next n k rest a e w r s =
      let q : 4 * n + k + 1 ≡ 4 * n + (k + 1) = omega arith in
      let is = ap (λ (x : List ℕ). block x k) e ∙ of_rest bank n k in
      let here = subst (λ (x : List ℕ). ReadsUnder m x [] a r.0) is r.1 in
      subst (λ (j : ℕ). CountedBlocks bank m j (five t')) q (one_more bank m (4 * n + k) (five t) w a r.0 (class a) (five t') here refl s)
