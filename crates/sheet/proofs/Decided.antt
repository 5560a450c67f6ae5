-- What `say` does is decided.
--
--   say_decided   two outcomes on the same output agree in the length and in every byte
use mathlib.Core.Logic.{⊎_elim}
use mathlib.Core.Path.{◌≡◌, sym, ap, ◌∙◌}
use mathlib.Core.List.{List, ◌++◌}
use Prim.Native.Nat.{ℕ}
use lib.ListN.{length, drop}
use Rattle.std.proofs.lemmas.Bool.{cases_lt}
use Rattle.sheet.specs.Sheet.{sheet, SheetDone}

pub say_decided : (out : List ℕ) (n n' : ℕ) (o o' : List ℕ) → SheetDone out n o → SheetDone out n' o' → (n ≡ n') × (o ≡ o')
say_decided out n n' o o' p q = ⊎_elim
    (λ h. let a = p.small h in let b = q.small h in (a.0 ∙ sym b.0, a.1 ∙ sym b.1))
    (λ h. let a = p.said h in let b = q.said h in
    let e : n ≡ n' = a.0 ∙ sym b.0 in (e, a.1 ∙ ap (λ (k : ℕ). sheet ++ drop k out) e ∙ sym b.1))
    (cases_lt (length out) (length sheet))
