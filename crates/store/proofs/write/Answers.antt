-- The block begun has the label sums of card 4's reduced matrix, since its rows are 0; the four factors solve for bytes 34 and 35.
use Rattle.std.proofs.Common.{◌≡◌, ℕ, List, ◌<◌, ◌^◌, refl, ap, ◌∙◌, arith}
use Rattle.field.specs.Field.{◌⊕◌, ◌·◌}
use Rattle.field.proofs.Xor.{add_lt}
use Rattle.field.proofs.Gf256.{field}
use Rattle.code.specs.Block.{byte}
use Rattle.code.specs.Labels.{built_in}
use Rattle.code.proofs.BuiltIn.{built_in_set}
use Rattle.pairs.specs.Words.{byte_of}
use Rattle.pairs.proofs.Fold.{first_of, second_of}
use Rattle.sums.specs.Sums.{chip_sum}
use Rattle.store.proofs.Solved.{built_in_factors}
use Rattle.store.proofs.Storing.{begun_bytes, is_stored}
use Rattle.store.proofs.write.Goals as goal

pub returns : goal.returns
returns c =
    let rec = c.args.rec.now in
    let o : ℕ = c.of_record-s.result.once in
    let q : ℕ = c.of_record-s.result.squared in
    let is = c.of_record-s.ensures.record_sums c.told-rec in
    let card : (i : ℕ) → i < 9 → byte c.rows.result i ≡ chip_sum rec i = λ i l. ap (λ (z : List ℕ). byte z i) c.rows.ensures ∙ is.rows i l in
    let two : (f h : ℕ) → (o · f) ⊕ (q · h) < 2 ^ 8 = λ f h. add_lt 8 (o · f) (q · h) (field.below o f) (field.below q h) in
    let F = built_in_factors 26 243 136 247 refl refl refl refl in
    let solved = c.solve-v.ensures 26 243 136 247 F in
    is_stored built_in built_in_set _ _ _ _ F rec c.rows.result c.begin.new.out c.add_in_row.new.out c.add_in_row-2.new.out
    c.told-rec (begun_bytes rec c.rows.result c.begin.new.out (λ p. omega (arith, c.fits-rec p)) card c.begin.ensures) card c.begin.ensures o q c.once.result c.squared.result
    is.once is.squared
    (c.once.ensures ∙ ap (λ (z : ℕ). byte_of z 0) solved ∙ first_of _ _ (two 26 243))
    (c.squared.ensures ∙ ap (λ (z : ℕ). byte_of z 4) solved ∙ second_of _ _ (two 26 243) (two 136 247))
    c.add_in_row.ensures c.add_in_row-2.ensures
