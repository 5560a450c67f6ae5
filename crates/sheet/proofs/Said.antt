-- What `say` promises, by the length of the output.
--
--   too_small      nothing is written
--   all_said       the text, put at the front
--   within         what is said to be the text's length is within the output
--   written        that many bytes of an output with room are the text
use mathlib.Core.Logic.{⊎_elim}
use mathlib.Core.Path.{◌≡◌, refl, sym, ap, ◌∙◌}
use mathlib.Core.List.{List}
use Prim.Native.Nat.{ℕ, ◌≤◌, ◌<◌}
use native.Mathlib.Omega.{arith}
use lib.ListN.{length, take, drop, length-append}
use lib.Seq.{take_at}
use Rattle.std.proofs.lemmas.Bool.{cases_lt}
use Rattle.text.specs.Put.{Put}
use Rattle.text.proofs.Pieces.{whole}
use Rattle.sheet.specs.Sheet.{sheet, SheetDone}
use Rattle.sheet.proofs.Text.{long}

pub too_small : (out : List ℕ) → length out < 1992 → SheetDone out 0 out
too_small out h = record { small = λ l. (refl, refl); said = λ l. absurd (omega (arith, h, l, long)) }

pub all_said : (out : List ℕ) (n : ℕ) (out' : List ℕ) → 1992 ≤ length out → Put sheet out 0 n out' → SheetDone out n out'
all_said out n out' h p = record { small = λ l. absurd (omega (arith, h, l, long)); said = λ l. whole p l }

pub within : (out : List ℕ) (n : ℕ) (out' : List ℕ) → SheetDone out n out' → n ≤ length out'
within out n out' w = ⊎_elim
    (λ h. omega (arith, (w.small h).0))
    (λ h. let s = w.said h in rw (s.1, length-append) (omega (arith, s.0)))
    (cases_lt (length out) (length sheet))

pub written : (out : List ℕ) (n : ℕ) (out' : List ℕ) → 1992 ≤ length out → SheetDone out n out' → take n out' ≡ sheet
written out n out' h w =
    let s = w.said (omega (arith, h, long)) in
    ap (take n) s.1 ∙ take_at sheet (drop n out) n (sym s.0)
