-- Constants that the code has not in a table but worked into shifts, beside what the tables program works out.
--
--   worked_D, worked_E, worked_T   two entries of card 4's reduced matrix, D and E, by the printed labels; T = 1 / (D · E · (D + E))
--   worked_factors     T·E², T·E, T·D², T·D, by the printed powers and logarithms
--   EveryShift         bytes 34 and 35 of a block that is stored are the two label sums times these factors
--
-- (The other shifts are held to the labels by the contracts of sums: `taken`, `next`, `BlockSums`, `RecordSums` and `FourLeft` say what they
-- give by the labels and the field's product.)
use Rattle.std.specs.Prelude.{ℕ, ◌≡◌, List, [], ◌∷◌}
use Rattle.field.specs.Field.{◌⊕◌, ◌·◌}
use Rattle.code.specs.Block.{byte}
use Rattle.code.specs.Labels.{label}
use Rattle.pairs.specs.Words.{paired}
use Rattle.store.proofs.Worked.{FactorShifts}
use Rattle.sheet.specs.ByTables.{logs_product, logs_inverse}

abbrev pub worked_D : ℕ
worked_D = label 34 ⊕ label 43

abbrev pub worked_E : ℕ
worked_E = label 35 ⊕ label 44

abbrev pub worked_T : ℕ
worked_T = logs_inverse (logs_product (logs_product worked_D worked_E) (worked_D ⊕ worked_E))

abbrev pub worked_factors : List ℕ
worked_factors =
    logs_product worked_T (logs_product worked_E worked_E)
    ∷ logs_product worked_T worked_E
    ∷ logs_product worked_T (logs_product worked_D worked_D)
    ∷ logs_product worked_T worked_D
    ∷ []

abbrev pub by_factors : ℕ → ℕ → ℕ
by_factors once squared =
    paired ((once · byte worked_factors 0) ⊕ (squared · byte worked_factors 1)) ((once · byte worked_factors 2) ⊕ (squared · byte worked_factors 3))

abbrev pub EveryShift : Type 0
EveryShift = FactorShifts (λ once squared v. v ≡ by_factors once squared)
