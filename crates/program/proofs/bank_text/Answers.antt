-- Four pieces, one after the other.
use Rattle.text.proofs.Pieces.{added}
use Rattle.program.proofs.bank_text.Goals as goal

pub returns : goal.returns
returns c =
    let lines = c.block_lines.ensures in
    let sound = c.sound_line.ensures in
    record {
      answers = lines.answers;
      reads = lines.reads;
      figure = sound.put.figure;
      rounded = sound.put.rounded;
      put = added c.count_line.ensures (added lines.put (added c.totals_line.ensures (record { put = sound.put.put; same_out = sound.same_out })));
    }
