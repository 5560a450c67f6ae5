-- As `read`, with the positions of the change added to the window.
use mathlib.Core.Path.{refl, sym, subst, ◌∙◌}
use native.Mathlib.Omega.{arith}
use lib.ListN.{length}
use Rattle.base.proofs.Tally.{passes}
use Rattle.answer.specs.Answer.{clean}
use Rattle.code.specs.Block.{Block}
use Rattle.change.specs.Change.{applied}
use Rattle.std.specs.Prelude.{Ok}
use Rattle.reading.specs.Reading.{reading_answer}
use Rattle.decode.specs.Decode.{Decoded, reading_of, change_of}
use Rattle.block.specs.Read.{NotedDone}
use Rattle.block.specs.Steps.{Corrects}
use Rattle.block.proofs.Causes.{lengths_none, read_lengths, read_marks}
use Rattle.block.proofs.Done.{clean_read, corrects_read, read_handed, read_done, fault_corrects}
use Rattle.block.proofs.Done.{clean_noted, decoded_noted, refused_noted, handed_noted, delivered_twice, made_lawful}
use Rattle.block.proofs.read_noted.Goals as goal

-- both are 45 bytes, since the call is not refused
pub unwrap-block-requires : goal.unwrap-block-requires
unwrap-block-requires c =
    c.as_array.ensures.variant.1 (lengths_none (length c.args.received.now) (length c.args.out.now) (sym c.in_ok-check_lengths.ensures)).0

pub unwrap-output-requires : goal.unwrap-output-requires
unwrap-output-requires c =
    c.as_mut_array.ensures.variant.1 (lengths_none (length c.args.received.now) (length c.args.out.now) (sym c.in_ok-check_lengths.ensures)).1

pub returns-in_err-check_lengths : goal.returns-in_err-check_lengths
returns-in_err-check_lengths c = record {
  read = read_handed c.args.received.now c.args.m c.args.out.now _ _ c.from_residual.ensures.1
      (read_lengths _ _ c.args.m _ c.in_err-check_lengths.ensures);
  window = handed_noted _ _ c.from_residual.ensures.1 c.args.w.now c.args.received.now _;
}

pub returns-in_err-check : goal.returns-in_err-check
returns-in_err-check c =
    let b = c.args.received.now in
    let m = c.args.m in
    let out = c.args.out.now in
    let h = lengths_none (length b) (length out) (sym c.in_ok-check_lengths.ensures) in
    let said = c.from_residual-in_err-check.ensures.1 in
    let whole = rw c.unwrap-output.ensures at c.as_mut_array.ensures.cases in
    record {
      read = rw whole.same (read_handed b m out _ _ said (c.in_err-check.ensures ∙ sym (read_marks (length b) m (length out) h.0 h.1)));
      window = handed_noted _ _ said c.args.w.now b _;
    }

pub returns-then-is_zero : goal.returns-then-is_zero
returns-then-is_zero c =
    let b = c.args.received.now in
    let m = c.args.m in
    let out = c.args.out.now in
    let h = lengths_none (length b) (length out) (sym c.in_ok-check_lengths.ensures) in
    let lawful = sym c.in_ok-check.ensures in
    let bb : Block b = record { long = h.0; bytes = λ p l. omega (arith, c.type_inv.received p) } in
    let copied = c.copy_block.ensures.0 ∙ (rw c.unwrap-block.ensures at c.as_array.ensures.cases).same in
    record {
      read = read_done b m out clean _ (read_marks (length b) m (length out) h.0 h.1 ∙ lawful) (rw copied
          (clean_read m lawful b bb c.of_block-s.result (c.of_block-s.ensures.block h.0) (passes c.is_zero.ensures c.if-is_zero.true) out));
      window = clean_noted c.args.w.now b _ copied;
    }

-- the window is not touched where the block isn't corrected
pub returns-in-Err : goal.returns-in-Err
returns-in-Err c =
    let b = c.args.received.now in
    let m = c.args.m in
    let out = c.args.out.now in
    let w = c.args.w.now in
    let h = lengths_none (length b) (length out) (sym c.in_ok-check_lengths.ensures) in
    let d = c.correct.result in
    let made = rw ((rw c.unwrap-block.ensures at c.as_array.ensures.cases).same, (rw c.unwrap-output.ensures at c.as_mut_array.ensures.cases).same)
    at c.correct.ensures in
    subst (λ (x : Decoded). NotedDone b m out w (reading_answer (reading_of x)) b c.correct.new.out w) c.in-Err.is
    (record {
      read = corrects_read m b h.0 (λ p l. omega (arith, c.type_inv.received p)) c.of_block-s.result (c.of_block-s.ensures.block h.0)
          d made.decoded out h.1 _ made.output;
      window = refused_noted (reading_answer (reading_of d)) _ (fault_corrects d _ c.in-Err.is) refl w b _;
    })

pub returns-in-Ok : goal.returns-in-Ok
returns-in-Ok c =
    let b = c.args.received.now in
    let m = c.args.m in
    let out = c.args.out.now in
    let h = lengths_none (length b) (length out) (sym c.in_ok-check_lengths.ensures) in
    let s = c.of_block-s.result in
    let bb : Block b = record { long = h.0; bytes = λ p l. omega (arith, c.type_inv.received p) } in
    let d = Ok c.in-Ok.noted in
    let is = c.of_block-s.ensures.block h.0 in
    let made = rw ((rw c.unwrap-block.ensures at c.as_array.ensures.cases).same, (rw c.unwrap-output.ensures at c.as_mut_array.ensures.cases).same)
    at c.correct.ensures in
    let w = subst (λ (x : Decoded). Corrects b s m out x b c.correct.new.out) c.in-Ok.is made in
    record {
      read = corrects_read m b h.0 (λ p l. omega (arith, c.type_inv.received p)) s is d w.decoded out h.1 _ w.output;
      window = decoded_noted m (made_lawful s m c.in-Ok.noted w.decoded) b bb s is d w.decoded c.changed.result c.changed.ensures
          c.args.w.now _ _ (delivered_twice (reading_answer (reading_of d)) (applied b (change_of d)) out _ w.output) c.add.ensures;
    }
