-- The positions at which two blocks differ.
--
--   differing_exactly   THE STATEMENT of specs/Block.antt: exactly those, each above the one before it, and as many as `changes` counts
--   differing_one       it is the only such list
--   differing_same      a block and itself differ nowhere; differing_below: positions are below 45
use mathlib.Core.Path.{◌≡◌, refl, ap, ◌∙◌}
use mathlib.Core.Bool.{not}
use mathlib.Core.List.{List, []}
use Prim.Native.Nat.{ℕ, ◌<◌}
use native.Mathlib.Nat.{zero-add}
use native.Mathlib.Omega.{arith}
use lib.Dec.{eqb}
use borrow.Author.Tests.{eqb-false, eq-eqb, ne_eqb, not-true}
use Rattle.base.specs.Base.{In}
use Rattle.base.proofs.Those.{those_in, those_rising, those_length, those_none, rising_one}
use Rattle.base.proofs.Tally.{tally_ext}
use Rattle.code.specs.Block.{byte, changes, differing, DifferAt, DifferingExactly}

pub differing_exactly : DifferingExactly
unfolding differing changes
differing_exactly b x = record {
  exactly = λ p. (
    (λ i. let w = (those_in 45 0 _ p).0 i in (w.1, eqb-false (byte b p) (byte x p) (not-true (eqb (byte b p) (byte x p)) w.2))),
    λ w. (those_in 45 0 _ p).1 (omega arith, w.0, ap not (ne_eqb (byte b p) (byte x p) w.1)),
  );
  rising = those_rising 45 0 (λ p. not (eqb (byte b p) (byte x p)));
  many =
      those_length 45 0 (λ p. not (eqb (byte b p) (byte x p)))
      ∙ tally_ext 45 _ _ (λ i l. ap (λ (p : ℕ). not (eqb (byte b p) (byte x p))) (zero-add i));
}

-- and no other list is so
pub differing_one : (b x l : List ℕ) → DifferAt b x l → l ≡ differing b x
differing_one b x l w =
    let v = differing_exactly b x in
    rising_one l (differing b x) w.rising v.rising (λ p. ((λ i. (v.exactly p).1 ((w.exactly p).0 i)), λ i. (w.exactly p).1 ((v.exactly p).0 i)))

pub differing_same : (b : List ℕ) → differing b b ≡ []
unfolding differing
differing_same b = those_none 45 0 (λ p. not (eqb (byte b p) (byte b p))) (λ p h l. ap not (eq-eqb (byte b p) (byte b p) refl))

pub differing_below : (b x : List ℕ) (p : ℕ) → In p (differing b x) → p < 45
differing_below b x p i = (((differing_exactly b x).exactly p).0 i).0
