-- By its cause: each refusal leaves everything, and what is written otherwise is the block.
use Rattle.std.proofs.Common.{List, ℕ, sym, subst}
use Rattle.code.specs.Block.{OneMember, Stored}
use Rattle.code.specs.Labels.{built_in}
use Rattle.answer.specs.Answer.{refused}
use Rattle.store.specs.Store.{StoreDone}
use Rattle.store.proofs.Storing.{refused_2, refused_3, stored}
use Rattle.store.proofs.store.Goals as goal

pub returns-in_default : goal.returns-in_default
returns-in_default c = refused_2 _ _ c.in_default.ensures.cases

pub returns-in_default-as_array : goal.returns-in_default-as_array
returns-in_default-as_array c =
    let whole = c.in-Some.ensures.cases in
    subst (λ (out : List ℕ). StoreDone c.args.rec.now c.args.out.now (refused 3) c.args.rec.now out) (sym whole.same)
    (refused_3 _ _ whole.long c.in_default-as_array.ensures.cases)

pub returns : goal.returns
returns c =
    let whole = c.in-Some-as_array.ensures.cases in
    stored _ _ _ c.in-Some.ensures.cases.long whole.long
    (subst (λ (r : List ℕ). OneMember (Stored built_in r) c.write.new.out) whole.same c.write.ensures)
