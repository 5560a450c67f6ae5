use Rattle.std.proofs.Common.{◌≡◌, ◌↔◌, ℕ, ◌/◌, List, [], length, get_or, refl, ap, ◌∙◌, subst, arith}
use Rattle.base.specs.Base.{digit}
use Rattle.code.specs.Block.{Lawful}
use Rattle.code.specs.Labels.{built_in}
use Rattle.sums.proofs.Left.{chunk, flag, none_passed, one_passed, four_below}
use Rattle.sums.proofs.built_in.four_left.Goals as goal

pub loop-k-init : goal.loop-k-init
loop-k-init c = none_passed _

pub loop-k-preserved : goal.loop-k-preserved
loop-k-preserved c =
    let four : length c.as_chunks.result.0.now ≡ 4 = c.as_chunks.ensures.front_len ∙ ap (λ (n : ℕ). n / 45) c.if-b-ne180.false in
    let one = flag c.from.result c.left_of.result c.from.ensures in
    let law = c.left_of.ensures in
    one_passed _ c.loop-k.k c.loop-k.left c.from.result (omega (arith, four, c.loop-k-test.true)) c.loop-k.invariant one.0
    ((λ e. law.0 (one.1.0 e)), λ w. one.1.1 (law.1 w))

pub returns : goal.returns
returns c =
    let b : List ℕ = c.args.b.now in
    let blocks : List (List ℕ) = c.as_chunks.result.0.now in
    let four : length b / 45 ≡ 4 = ap (λ (n : ℕ). n / 45) c.if-b-ne180.false in
    let e : c.loop-k.k ≡ 4 = omega (arith, c.as_chunks.ensures.front_len, four, c.loop-k-test.false, c.loop-k.auto.k-end) in
    let d = rw e at c.loop-k.invariant in
    record {
      below = four_below _ _ d;
      four = λ n k h.
          subst (λ (x : List ℕ). (digit c.loop-k.left k ≡ 0) ↔ Lawful built_in x)
          (ap (λ (l : List (List ℕ)). get_or l k []) c.as_chunks.ensures.front ∙ chunk 45 (length b / 45) k b [] (omega (arith, four, h)))
          (d.each k h);
      other = λ n. absurd (n c.if-b-ne180.false);
      kept = refl;
    }
