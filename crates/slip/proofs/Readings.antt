-- Whatever a reading says has a slip.
--
--   some_changed     two lists of 45 that differ, differ in one byte or more
--   every_reading, get_has_slip, patrol_has_slip
use Prim.Native.Nat.{ℕ, ◌*◌, ◌/◌, ◌≤◌, ◌<◌}
use mathlib.Core.Path.{◌≡◌, refl, sym, subst}
use mathlib.Core.Logic.{◌≢◌, ◌⊎◌, inl, inr}
use mathlib.Core.List.{List, [], ◌∷◌}
use native.Mathlib.Omega.{arith}
use lib.ListN.{length, drop, length-take, length-drop}
use lib.Seq.{ext_get_or}
use borrow.Author.Tests.{eqb-true, not-false}
use Rattle.std.proofs.lemmas.Bool.{cases_lt}
use Rattle.base.proofs.Tally.{tally_none}
use Rattle.answer.specs.Answer.{done, clean, in_chips, in_card, counted, refused, refused_card}
use Rattle.answer.proofs.Causes.{by_accepted}
use Rattle.answer.proofs.Gives.{Readings, was_in_chips, was_in_card}
use Rattle.code.specs.Block.{changes}
use Rattle.marks.specs.Marks.{marked_chips}
use Rattle.reading.specs.Allowed.{OfChipKind}
use Rattle.reading.proofs.Facts.{unchanged}
use Rattle.reading.proofs.Gives.{reads_give}
use Rattle.bank.specs.Accepted.{FitBank}
use Rattle.bank.specs.Calls.{block}
use Rattle.bank.proofs.Accepted.{accepts}
use Rattle.slip.specs.Plain.{EveryReading, GetHasSlip, PatrolHasSlip}

some_changed : (b x : List ℕ) → length b ≡ 45 → length x ≡ 45 → x ≢ b → 1 ≤ changes b x
unfolding changes
some_changed b x l m n = go (cases_lt 0 (changes b x))
  where
    go : (0 < changes b x) ⊎ (changes b x ≤ 0) → 1 ≤ changes b x
    go (inl h) = omega (arith, h)
    go (inr h) =
        absurd (n (ext_get_or 0 x b (omega (arith, l, m)) (λ p q.
        sym (eqb-true _ _ (not-false _ (tally_none _ 45 (let z : changes b x ≡ 0 = omega (arith, h) in z) p (omega (arith, q, m))))))))

-- the most that a reading says
chips_most : {ns : List ℕ} {n : ℕ} → Readings ns (in_chips n) → n ≤ 2
chips_most (was_in_chips h) = h

card_most : {ns : List ℕ} {j n : ℕ} → Readings ns (in_card j n) → (j < 5) × (n ≤ 11)
card_most (was_in_card h i) = (h, i)

pub every_reading : EveryReading
every_reading m lm b l out clean out' w = tt
every_reading m lm b l out (in_chips n) out' w = (
  omega (arith, w.2, some_changed b out' l w.0.0.block.long w.1),
  chips_most (reads_give (10 ∷ []) (inl refl) m lm b out (in_chips n) out' w),
)
every_reading m lm b l out (in_card j n) out' w =
    let most = card_most (reads_give (10 ∷ []) (inl refl) m lm b out (in_card j n) out' w) in (
      omega (arith, most.0),
      omega (arith, w.1, some_changed b out' l w.0.0.block.long moved),
      most.1,
    )
  where
    -- a block that stays is of the chip kind
    moved : out' ≢ b
    moved e = w.2 (subst (OfChipKind m.card (marked_chips m) b) (sym e) (unchanged m.card (marked_chips m) b))
every_reading m lm b l out (refused n) out' w = w.0
every_reading m lm b l out (refused_card n j) out' w = (w.0, omega (arith, w.2.0.0))
every_reading m lm b l out done out' w = absurd w
every_reading m lm b l out (counted u v x y z) out' w = absurd w

-- block k of a bank is 45 bytes, and k is below 1,024
in_bank : (bank : List ℕ) (k : ℕ) → FitBank (length bank) → k < length bank / 45 → (length (block bank k) ≡ 45) × (k < 1024)
in_bank bank k (c, a, b, e) h = (
  omega (arith, length-take 45 (drop (45 * k) bank), length-drop (45 * k) bank, e, h),
  omega (arith, b, e, h),
)

pub get_has_slip : GetHasSlip
get_has_slip bank k m out w a bank' out' w' z d =
    let fit = (accepts (length bank) k 0 (length out) m).get.0 z in
    let at = in_bank bank k fit.0 fit.1 in
    (at.1, every_reading m fit.2 (block bank k) at.0 out a out' (by_accepted _ a _ _ z d.output))

pub patrol_has_slip : PatrolHasSlip
patrol_has_slip bank k m w a bank' w' z d =
    let fit = (accepts (length bank) k 0 0 m).patrol.0 z in
    let at = in_bank bank k fit.0 fit.1 in
    let r = by_accepted _ a _ _ z d.mended in
    (at.1, every_reading m fit.2 (block bank k) at.0 (block bank k) a r.0 r.1)
