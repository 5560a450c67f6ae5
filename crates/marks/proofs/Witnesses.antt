-- Small records on which each number is given, and on which a call is done: by computation, so that no definition speaks of nothing.
--
--   two, same, carded       chips 0 and 9 marked; chip 0 twice; card 0 marked
--   records                 the numbers of records alone
--   on_fresh, on_two, ..    the numbers of calls on a record
--   after                   the bytes after calls that are done
--   answers                 calls that are done, one of which changes nothing, and calls that are refused
use mathlib.Core.Path.{◌≡◌, refl}
use mathlib.Core.List.{[], ◌∷◌, map}
use Rattle.answer.specs.Answer.{done, refused}
use Rattle.marks.specs.Marks.{fresh_marks, bytes, of_bytes, marks_in, in_range, two_equal, marks_cause, is_marked}
use Rattle.marks.specs.Mark.{marked, mark_cause, MarkDone}
use Rattle.marks.specs.declared.Marks.{Marks}
use Rattle.marks.specs.declared.MarkCall.TheVariants.{PlaceChip, LiftChip, PlaceCard, LiftCard}

abbrev two : Marks
two = of_bytes (255 ∷ 2 ∷ 0 ∷ 9 ∷ [])

abbrev same : Marks
same = of_bytes (255 ∷ 2 ∷ 0 ∷ 0 ∷ [])

abbrev carded : Marks
carded = of_bytes (0 ∷ 0 ∷ 255 ∷ 255 ∷ [])

pub records : map marks_cause (fresh_marks ∷ two ∷ carded ∷ same ∷ marks_in [] ∷ of_bytes (5 ∷ 0 ∷ 255 ∷ 255 ∷ []) ∷ [])
    ≡ 0 ∷ 0 ∷ 0 ∷ 7 ∷ 6 ∷ 6 ∷ []
unfolding of_bytes marks_in marks_cause in_range two_equal
records = refl

pub on_fresh : map (mark_cause fresh_marks)
    (PlaceChip 44 ∷ PlaceChip 45 ∷ PlaceChip 300 ∷ LiftChip 0 ∷ LiftChip 45 ∷ PlaceCard 4 ∷ PlaceCard 5 ∷ PlaceCard 255 ∷ LiftCard ∷ [])
    ≡ 0 ∷ 6 ∷ 6 ∷ 9 ∷ 6 ∷ 0 ∷ 6 ∷ 6 ∷ 9 ∷ []
unfolding mark_cause in_range two_equal is_marked
on_fresh = refl

pub on_two : map (mark_cause two) (PlaceChip 0 ∷ PlaceChip 9 ∷ PlaceChip 44 ∷ PlaceChip 45 ∷ LiftChip 0 ∷ LiftChip 9 ∷ LiftChip 1 ∷ [])
    ≡ 0 ∷ 0 ∷ 8 ∷ 6 ∷ 0 ∷ 0 ∷ 9 ∷ []
unfolding of_bytes mark_cause in_range two_equal is_marked
on_two = refl

pub on_carded : map (mark_cause carded) (PlaceCard 0 ∷ PlaceCard 1 ∷ PlaceCard 5 ∷ LiftCard ∷ []) ≡ 0 ∷ 8 ∷ 6 ∷ 0 ∷ []
unfolding of_bytes mark_cause in_range two_equal
on_carded = refl

pub on_same : map (mark_cause same) (PlaceChip 0 ∷ PlaceChip 1 ∷ PlaceChip 45 ∷ LiftChip 0 ∷ PlaceCard 0 ∷ LiftCard ∷ [])
    ≡ 7 ∷ 7 ∷ 6 ∷ 7 ∷ 7 ∷ 7 ∷ []
unfolding of_bytes mark_cause in_range two_equal is_marked
on_same = refl

pub after : (bytes (marked fresh_marks (PlaceChip 44)) ≡ 255 ∷ 1 ∷ 44 ∷ 255 ∷ [])
    × (bytes (marked two (PlaceChip 9)) ≡ 255 ∷ 2 ∷ 0 ∷ 9 ∷ [])
    × (bytes (marked two (LiftChip 0)) ≡ 255 ∷ 1 ∷ 9 ∷ 255 ∷ [])
    × (bytes (marked two (PlaceCard 4)) ≡ 4 ∷ 2 ∷ 0 ∷ 9 ∷ [])
    × (bytes (marked carded LiftCard) ≡ 255 ∷ 0 ∷ 255 ∷ 255 ∷ [])
    × (bytes (marked carded (PlaceCard 0)) ≡ 0 ∷ 0 ∷ 255 ∷ 255 ∷ [])
unfolding of_bytes marked
after = (refl, refl, refl, refl, refl, refl)

pub answers : MarkDone fresh_marks (PlaceChip 44) done (marked fresh_marks (PlaceChip 44)) × MarkDone two (PlaceChip 9) done two
    × MarkDone two (PlaceChip 44) (refused 8) two × MarkDone same (PlaceChip 0) (refused 7) same
unfolding MarkDone mark_cause marked of_bytes in_range two_equal is_marked
answers = ((refl, refl), (refl, refl), (refl, refl), (refl, refl))
