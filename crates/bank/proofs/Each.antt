-- The answers of a bank's blocks, one after the other.
--
--   extended         the answers below n, and a at n; extended_at, extended_below: what it gives there
--   extended_reads   where n blocks read so, and the next as a, n + 1 blocks do
--   each_alike       two readings of each block are the same
--   counts_agree     a report that is refused both times, or counts the same blocks both times, answers the same
use Prim.Native.Nat.{ℕ, zero, suc, ◌+◌, ◌<◌}
use mathlib.Core.Path.{◌≡◌, refl, sym, ap, ◌∙◌}
use mathlib.Core.Logic.{◌≢◌, ◌⊎◌, inl, inr}
use mathlib.Core.Bool.{Bool}
use mathlib.Core.List.{List, []}
use native.Mathlib.Omega.{arith}
use lib.Dec.{eqb}
use borrow.Author.Tests.{eq-eqb, ne_eqb}
use Rattle.base.specs.Base.{if}
use Rattle.std.proofs.lemmas.Bool.{cases_eq}
use Rattle.base.proofs.Tally.{tally_ext}
use Rattle.answer.specs.Answer.{Answer, By}
use Rattle.marks.specs.declared.Marks.{Marks}
use Rattle.reading.specs.Reading.{ReadsUnder}
use Rattle.reading.proofs.Agree.{under_agree}
use Rattle.bank.specs.Calls.{class, how_many, totals, EachReads, CountsEach}

pub extended : (ℕ → Answer) → ℕ → Answer → ℕ → Answer
extended f n a k = if (eqb k n) a (f k)

pub extended_at : (f : ℕ → Answer) (n : ℕ) (a : Answer) → extended f n a n ≡ a
unfolding extended
extended_at f n a = ap (λ (t : Bool). if t a (f n)) (eq-eqb n n refl)

pub extended_below : (f : ℕ → Answer) (n : ℕ) (a : Answer) (k : ℕ) → k < n → extended f n a k ≡ f k
unfolding extended
extended_below f n a k l = ap (λ (t : Bool). if t a (f k)) (ne_eqb k n (λ e. omega arith))

module _ (b : ℕ → List ℕ) (m : Marks) (f : ℕ → Answer) (n : ℕ) (a : Answer) where
  pub extended_reads : EachReads b n m f → ((x : List ℕ) × ReadsUnder m (b n) [] a x) → EachReads b (n + 1) m (extended f n a)
  extended_reads w r k h = each k (cases_eq k n) h
    where
      each : (k : ℕ) → (k ≡ n) ⊎ (k ≢ n) → k < n + 1 → (x : List ℕ) × ReadsUnder m (b k) [] (extended f n a k) x
      each k (inl z) h = rw (z, extended_at f n a) r
      each k (inr z) h = let l : k < n = omega arith in rw (extended_below f n a k l) (w k l)

-- ---- two readings of each block
module _ (b : ℕ → List ℕ) (n : ℕ) (m : Marks) where
  pub each_alike : (f f' : ℕ → Answer) → EachReads b n m f → EachReads b n m f' → (k : ℕ) → k < n → f k ≡ f' k
  each_alike f f' w v k l =
      let r = w k l in
      let r' = v k l in
      (under_agree m (b k) [] (f k) (f' k) r.0 r'.0 r.1 r'.1).0

  totals_agree : (f f' : ℕ → Answer) → EachReads b n m f → EachReads b n m f' → totals f n ≡ totals f' n
  totals_agree f f' w v = rw (each 0, each 1, each 2, each 3, each 4)
    where
      each : (i : ℕ) → how_many f n i ≡ how_many f' n i
      each i = tally_ext n _ _ (λ k l. ap (λ (a : Answer). eqb (class a) i) (each_alike f f' w v k l))

  pub counts_agree : (c : ℕ) (a a' : Answer) → By c a (Unit {0}) (CountsEach b n m a) → By c a' (Unit {0}) (CountsEach b n m a') → a ≡ a'
  counts_agree zero a a' d d' = d.2 ∙ totals_agree d.0 d'.0 d.1 d'.1 ∙ sym d'.2
  counts_agree (suc c) a a' d d' = d.0 ∙ sym d'.0
