-- The starred blocks read as document 01 says.
--
--   holds       a row, from the tests of its marks and its block
--   two_chips   the change of bytes 0 and 1 is not of the chip kind
--   also        a row, and the rows after it
--   starred     THE TABLE
--   beside      the row after it; beside_before: what it was before order 5
use mathlib.Core.Logic.{inl, inr}
use mathlib.Core.Path.{◌≡◌, refl}
use mathlib.Core.List.{List, [], ◌∷◌}
use Prim.Native.Nat.{ℕ}
use native.Mathlib.Omega.{arith}
use lib.Dec.{T, ltb}
use lib.ListN.{length}
use Rattle.base.specs.Base.{tally, those, Few}
use Rattle.base.proofs.Tests.{every}
use Rattle.base.proofs.Few.{few_one}
use Rattle.answer.specs.Answer.{clean}
use Rattle.field.specs.Field.{sum, ◌⊕◌, polynomial_product, remainder, product}
use Rattle.field.proofs.Squares.{squared}
use Rattle.code.specs.Block.{byte, Block, NoMember, changes, zeros}
use Rattle.code.specs.Labels.{built_in}
use Rattle.code.specs.Reach.{rules, keep}
use Rattle.code.proofs.BuiltIn.{figures, built_in_set}
use Rattle.code.proofs.Eliminate as eliminate
use Rattle.code.proofs.Reach.{fits}
use Rattle.code.proofs.Members.{zero_stored}
use Rattle.marks.specs.Marks.{marked_chips, marks_cause, in_range, two_equal}
use Rattle.std.specs.Prelude.{None, Some}
use Rattle.marks.specs.declared.Marks.{Marks}
use Rattle.marks.proofs.Laws.{cause_lawful, few_chips}
use Rattle.reading.specs.Allowed.{ChipKind}
use Rattle.reading.specs.Before.{SBefore}
use Rattle.reading.proofs.Searches.{some_beside}
use Rattle.reading.proofs.Facts.{clean_reads}
use Rattle.reading.proofs.Limits.{unmarked_limit}
use Rattle.table.specs.Table.{zeros_but, six, Told, Holds, StarredBlocks, BesideCard, BesideCardBefore}
use Rattle.table.proofs.Settled.{Exactly, one_answer, no_member}
use Rattle.table.proofs.Rows.{block_by, lawful_by, chips_row, card_row, beside_row, reached_fits, only_card, search_row, several_row}

holds : {m : Marks} {b : List ℕ} {told : Told} → marks_cause m ≡ 0 → length b ≡ 45 → T (every (λ p. ltb (byte b p) 256) 45)
    → (Block b → Few rules (marked_chips m) → Exactly m.card (marked_chips m) b told) → Holds m b told
unfolding Exactly
holds {m} {b} e l t f =
    let lm = cause_lawful m e in
    let bb = block_by b l t in
    let w = f bb (few_chips m lm) in
    record { marks = lm; block = bb; reading = w.0; fitting = w.1 }

-- bytes 0, 1 = 1, 1
abbrev ones_set : List ℕ
ones_set = zeros_but ((0, 1) ∷ (1, 1) ∷ [])

two_chips : ChipKind [] ones_set zeros → ⊥
unfolding changes tally
two_chips k = let n = unmarked_limit ones_set zeros k in omega (arith, n)

infixr 2 ◌also◌
◌also◌ : {P Q : Type 0} → P → Q → P × Q
p also q = (p, q)

-- THE TABLE
pub starred : StarredBlocks
unfolding figures sum ◌⊕◌ polynomial_product remainder product squared fits eliminate.fits keep changes tally those marks_cause in_range two_equal
starred =
    holds refl refl tt (λ bb few.
    one_answer None [] zeros clean zeros (clean_reads built_in built_in_set [] few zeros None tt bb (zero_stored built_in).lawful))
    also holds refl refl tt (λ bb few. chips_row _ bb [] few (20 ∷ []) (omega arith) tt 20 refl _ tt)
    also holds refl refl tt (λ bb few.
    several_row _ bb [] few 0 (omega arith) tt 1 (omega arith) 0 (omega arith) (λ e. omega arith) refl refl _ _ _ tt refl (inr (inl refl)))
    also holds refl refl tt (λ bb few. card_row _ bb [] few 0 (omega arith) (zero_stored built_in) [] (omega arith) tt 0 (omega arith) refl refl _ tt)
    also holds refl refl tt (λ bb few.
    card_row _ bb [] few 1 (omega arith) (lawful_by (zeros_but six) refl tt tt refl refl) [] (omega arith) tt 9 (omega arith) refl refl _ tt)
    also holds refl refl tt (λ bb few. no_member None [] _ (λ y s. omega (arith, (only_card _ bb [] few 5 tt y s).0)))
    also holds refl refl tt (λ bb few. search_row _ bb [] few 0 (omega arith) tt tt two_chips _ tt)
    also holds refl refl tt (λ bb few. chips_row _ bb (0 ∷ []) few (9 ∷ []) (omega arith) tt 0 refl _ tt)
    also holds refl refl tt (λ bb few.
    several_row _ bb (0 ∷ 9 ∷ []) few 2 (omega arith) tt 3 (omega arith) 20 (omega arith) (λ e. omega arith) refl refl _ _ _ tt refl (inr (inl refl)))
    also holds refl refl tt (λ bb few. card_row _ bb [] few 0 (omega arith) (zero_stored built_in) (9 ∷ []) (omega arith) tt 0 (omega arith) refl refl _ tt)
    also tt

-- ---- the row after it
-- chip 1 is on the marked card, so that one further chip is allowed
pub beside : BesideCard
unfolding keep changes tally marks_cause in_range two_equal
beside = holds refl refl tt (λ bb few. beside_row _ bb (1 ∷ []) few 0 (omega arith) (zero_stored built_in) (9 ∷ []) (omega arith) tt tt 9 refl _ tt)

-- as u was counted before, none was
pub beside_before : BesideCardBefore
unfolding figures sum ◌⊕◌ polynomial_product remainder product squared fits eliminate.fits keep
beside_before out = (refl, none, refl)
  where
    none : NoMember (SBefore built_in (Some 0) (1 ∷ []) (zeros_but ((9, 1) ∷ [])))
    none y s =
        let w = some_beside 0 (zeros_but ((9, 1) ∷ [])) y (1 ∷ []) s.allowed in
        reached_fits (zeros_but ((9, 1) ∷ [])) (block_by _ refl tt) (1 ∷ []) (few_one 1 (omega arith)) 0 (omega arith) y
        (record { block = s.block; lawful = s.lawful; only = w.2 })
