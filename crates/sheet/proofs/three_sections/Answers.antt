-- Three sections, one behind the other, are the text.
use Rattle.text.proofs.Pieces.{added}
use Rattle.sheet.specs.Sheet.{sheet}
use Rattle.sheet.proofs.three_sections.Goals as goal

pub returns : goal.returns
unfolding sheet
returns c = added c.section.ensures (added c.section-2.ensures c.section-3.ensures)
