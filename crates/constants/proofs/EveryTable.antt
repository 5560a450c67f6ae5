-- Each table is what the tables program works out.
--
--   one_inverse     a value has one inverse
--   table_inverse   an entry of the table of inverses is the inverse by the printed tables
--   every_table     the statement
use mathlib.Core.Logic.{◌≢◌, ◌⊎◌, inl, inr}
use mathlib.Core.Path.{◌≡◌, refl, sym, ap, ap₂, ◌∙◌}
use mathlib.Core.List.{List}
use Prim.Native.Nat.{ℕ, ◌+◌, ◌*◌, ◌/◌, ◌%◌, ◌<◌, ◌≤◌, ◌^◌}
use native.Mathlib.Nat.{mod-lt}
use native.Mathlib.Omega.{arith}
use lib.Dec.{lit<}
use lib.ListN.{get_or, get_or-eq_default}
use borrow.Author.Tests.{ne_eqb, lt-ltb, le-ltb}
use Rattle.std.proofs.lemmas.Bool.{cases_eq, cases_lt}
use Rattle.field.specs.Field.{◌·◌}
use Rattle.field.specs.Table.{inverse_words}
use Rattle.field.proofs.Gf256.{field}
use Rattle.field.proofs.Powers.{power_below}
use Rattle.field.proofs.Inverses.{in_table, in_table_zero, in_table_inverse}
use Rattle.code.specs.Block.{byte}
use Rattle.code.specs.Labels.{built_in}
use Rattle.code.proofs.BuiltIn.{built_in_set}
use Rattle.pairs.specs.Words.{byte_of, spread, spread_of}
use Rattle.pairs.proofs.Points.{spread_at}
use Rattle.sheet.specs.ByTables.{logs_inverse}
use Rattle.sheet.proofs.Lines.{line_by_line}
use Rattle.sheet.proofs.ByTables.{logs_invert}
use Rattle.slip.proofs.Constants.{limit_table}
use Rattle.constants.specs.EveryTable.{worked_inverse, worked_word, EveryTable}
use Rattle.constants.proofs.WorkedFactors.{label_at}

-- ---- inverses
one_inverse : (a x y : ℕ) → x < 256 → y < 256 → a · x ≡ 1 → a · y ≡ 1 → x ≡ y
one_inverse a x y hx hy e f =
    sym (field.one x hx) ∙ ap (λ (z : ℕ). z · x) (sym f ∙ field.comm a y) ∙ field.assoc y a x ∙ ap (λ (z : ℕ). y · z) e
    ∙ field.comm y 1 ∙ field.one y hy

table_inverse : (a : ℕ) → a < 256 → in_table a ≡ worked_inverse a
unfolding in_table
table_inverse a h = go (cases_eq a 0)
  where
    go : (a ≡ 0) ⊎ (a ≢ 0) → in_table a ≡ worked_inverse a
    go (inl e) = ap in_table e ∙ in_table_zero ∙ ap (λ (x : ℕ). worked_inverse x) (sym e)
    go (inr n) =
        one_inverse a (in_table a) (logs_inverse a) (mod-lt _ (lit< tt)) (power_below _) (in_table_inverse a h n) (logs_invert a (omega (arith, n)) h)
        ∙ rw (ne_eqb a 0 n) refl

in_word : (h i : ℕ) → h < 32 → i < 8 → byte_of (get_or inverse_words h 0) i ≡ worked_inverse (8 * h + i)
unfolding byte_of in_table
in_word h i hh hi =
    let d : h ≡ (8 * h + i) / 8 = omega arith in
    let m : i ≡ (8 * h + i) % 8 = omega arith in
    ap₂ (λ (w k : ℕ). get_or inverse_words w 0 / 2 ^ (8 * k) % 256) d m ∙ table_inverse (8 * h + i) (omega arith)

-- ---- labels and their words
beyond : (p : ℕ) → 45 ≤ p → byte built_in p ≡ 0
beyond p h = get_or-eq_default built_in 0 (rw built_in_set.bytes.long h)

no_digit : spread_of 8 0 ≡ 0
unfolding spread_of
no_digit = refl

word_at : (j i : ℕ) → i < 9 → get_or (spread built_in) (9 * j + i) 0 ≡ worked_word j i
word_at j i h = go (cases_lt j 5)
  where
    go : (j < 5) ⊎ (5 ≤ j) → get_or (spread built_in) (9 * j + i) 0 ≡ worked_word j i
    go (inl l) = spread_at built_in (9 * j + i) ∙ ap (spread_of 8) (label_at (9 * j + i) (omega arith)) ∙ rw (lt-ltb j 5 l) refl
    go (inr l) = spread_at built_in (9 * j + i) ∙ ap (spread_of 8) (beyond (9 * j + i) (omega arith)) ∙ no_digit ∙ rw (le-ltb j 5 l) refl

pub every_table : EveryTable
every_table = record {
  printed = line_by_line;
  labels = λ κs a r s l p h. ap (λ (x : List ℕ). byte x p) l ∙ label_at p h;
  inverses = λ κs a r s l i hh hi. ap (λ (w : ℕ). byte_of w i) l ∙ in_word _ i hh hi;
  words = λ κs a r s l i h. l i h ∙ word_at _ i h;
  limits = limit_table;
}
