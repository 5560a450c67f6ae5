-- Each entry of the table is the inverse of its place, by the test of Inverses.antt.
use Rattle.std.proofs.Common.{◌≡◌, ℕ, ◌*◌, ◌/◌, ◌%◌, ◌^◌, ◌<◌, List, get_or, w64, refl, sym, ap, ◌∙◌, subst, arith}
use Rattle.std.proofs.Math.Nat.{not-suc-le-zero}
use Rattle.std.specs.Int.{to_le_bytes}
use Rattle.base.proofs.Tests.{below_suc}
use Rattle.field.specs.Field.{◌·◌}
use Rattle.field.proofs.Inverses.{in_table, in_table_zero, in_table_inverse}
use Rattle.field.proofs.invert.Goals as goal

listed : (w i : ℕ) → i < 8 → w / 2 ^ (8 * i) % 256 ≡ get_or (to_le_bytes w64 w) i 0
listed w =
    below_suc Q 7 refl (below_suc Q 6 refl (below_suc Q 5 refl (below_suc Q 4 refl
    (below_suc Q 3 refl (below_suc Q 2 refl (below_suc Q 1 refl (below_suc Q 0 (omega arith) (λ i l. absurd (not-suc-le-zero l)))))))))
  where
    Q : ℕ → Type 0
    Q i = w / 2 ^ (8 * i) % 256 ≡ get_or (to_le_bytes w64 w) i 0

pub returns : goal.returns
unfolding in_table
returns c =
    let a : ℕ = c.args.a in
    let is : in_table a ≡ get_or c.to_le_bytes.result c.from.result 0 =
    ap (λ (w : ℕ). w / 2 ^ (8 * (a % 8)) % 256) (sym c.inverses_from.ensures) ∙ listed c.inverses_from.result (a % 8) (omega arith)
    ∙ ap (λ (l : List ℕ). get_or l (a % 8) 0) (sym c.to_le_bytes.ensures) ∙ ap (λ (i : ℕ). get_or c.to_le_bytes.result i 0) (sym c.from.ensures) in
    (λ z. sym is ∙ ap in_table z ∙ in_table_zero, λ ne. subst (λ (x : ℕ). a · x ≡ 1) is (in_table_inverse a (omega arith) ne))
