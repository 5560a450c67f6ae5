-- Lines of document 01, "The bank program", by computation.
--
--   count       the first line
--   refusal     the line of a refusal
--   blocks      the lines of blocks, one of each kind; a clean block has none
--   totals      the last two lines, with five totals that differ; figure: their number of the last line
use mathlib.Core.Path.{◌≡◌, refl}
use mathlib.Core.List.{◌++◌}
use native.Mathlib.Omega.{arith}
use Rattle.rounding.proofs.Rounding.{within}
use Rattle.answer.specs.Answer.{clean, in_chips, in_card, refused, refused_card}
use Rattle.text.specs.Text.{ascii, digits_up_to, decimal}
use Rattle.lines.specs.Lines.{count_line, block_line, totals_line, SoundFigure, sound_line, refused_line}

count : count_line 1024 ≡ ascii "blocks 1024\n"
unfolding decimal digits_up_to
count = refl

refusal : refused_line 6 ≡ ascii "refused 6\n"
unfolding decimal digits_up_to
refusal = refl

blocks : block_line 0 clean
    ++ (block_line 10 (in_chips 1) ++ (block_line 109 (in_card 4 11) ++ (block_line 1023 (refused 10) ++ block_line 7 (refused_card 11 3))))
    ≡ ascii "10 chips 1\n109 card 4 11\n1023 none\n7 several 3\n"
unfolding decimal digits_up_to
blocks = refl

totals : totals_line 1 2 3 4 5 ++ sound_line 400 ≡ ascii "clean 1 chips 2 card 3 none 4 several 5\nsound 400\n"
unfolding decimal digits_up_to
totals = refl

-- 6 of 15
figure : SoundFigure 1 2 3 4 5 400
figure = within 6000 15 400 (omega arith) (omega arith) (λ e. refl)
