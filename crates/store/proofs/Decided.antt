-- When `store` is not refused; and what it does is decided.
--
--   store_accepted   it is not refused exactly when both lengths are right
--   store_decided    two outcomes on the same bytes agree in the answer, the record and the output
use Prim.Native.Nat.{ℕ}
use mathlib.Core.Path.{◌≡◌, refl, sym, ◌∙◌}
use mathlib.Core.Bool.{not}
use mathlib.Core.List.{List, [], ◌∷◌}
use lib.Dec.{eqb}
use lib.ListN.{length}
use borrow.Author.Tests.{eq-eqb, eqb-true, not-false}
use Rattle.answer.specs.Answer.{Answer}
use Rattle.answer.specs.Cause.{cause}
use Rattle.answer.proofs.Causes.{Agreed, by_agree, none_holds}
use Rattle.store.specs.Store.{store_cause, StoreAccepted, StoreDone}

pub store_accepted : StoreAccepted
unfolding store_cause
store_accepted rec out = (given, λ h. rw (eq-eqb (length out) 45 h.0, eq-eqb (length rec) 34 h.1) refl)
  where
    given : store_cause rec out ≡ 0 → (length out ≡ 45) × (length rec ≡ 34)
    given e =
        let h = none_holds 1 (not (eqb (length out) 45)) (cause 3 (not (eqb (length rec) 34)) ∷ []) e in
        let g = none_holds 2 (not (eqb (length rec) 34)) [] h.1 in
        (eqb-true (length out) 45 (not-false _ h.0), eqb-true (length rec) 34 (not-false _ g.0))

pub store_decided : (rec out : List ℕ) (a a' : Answer) (x x' y y' : List ℕ) → StoreDone rec out a x y → StoreDone rec out a' x' y' → Agreed a a' y y' × (x ≡ x')
store_decided rec out a a' x x' y y' w v = (
  by_agree (store_cause rec out) a a' out y y' _ _ w.by_cause v.by_cause
      (λ d d'. (d.0 ∙ sym d'.0, sym (d.1.1 y' d'.1.0))),
  w.record_kept ∙ sym v.record_kept,
)
