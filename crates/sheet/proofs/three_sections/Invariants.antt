-- The numbers of the three sections.
use Rattle.field.specs.Field.{power}
use Rattle.code.specs.Labels.{label}
use Rattle.sheet.specs.Sheet.{log}
use Rattle.sheet.proofs.three_sections.Given as goal

abbrev pub ghost-section : goal.ghost-section
ghost-section a = power 2

abbrev pub ghost-section-2 : goal.ghost-section-2
ghost-section-2 a = log

abbrev pub ghost-section-3 : goal.ghost-section-3
ghost-section-3 a = label
