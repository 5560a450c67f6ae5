-- Windows and proposals in figures, by computation.
--
--   window_figures   THE STATEMENT of specs/Plain.antt
use mathlib.Core.Path.{refl}
use Rattle.base.specs.Base.{least}
use Rattle.marks.specs.Marks.{is_marked, in_range, two_equal, marks_cause}
use Rattle.window.specs.Window.{window_of, added, due_by, proposal}
use Rattle.window.specs.Plain.{WindowFigures}

pub window_figures : WindowFigures
unfolding least is_marked in_range two_equal marks_cause window_of added due_by proposal
window_figures = record {
  three = refl;
  four = refl;
  lowest = refl;
  marked = refl;
  card = refl;
  empty = refl;
  none = refl;
  held = refl;
  gone = refl;
  newest = refl;
  unlawful = refl;
}
