-- No total is above 1,024, so that five of 11 bits fit.
use mathlib.Core.Path.{subst}
use mathlib.Core.List.{[], ◌∷◌}
use Rattle.std.specs.declared.result.Result.{Result}
use Rattle.answer.specs.declared.Refusal.{Refusal}
use Rattle.answer.specs.declared.Totals.{Totals}
use Rattle.bank.specs.Calls.{report_answer}
use Rattle.answer.proofs.Gives.{Reports}
use Rattle.bank.proofs.Gives.{report_gives, at_most_1024}
use Rattle.capi.proofs.livomashen_report.Goals as goal

pub of_totals-requires : goal.of_totals-requires
of_totals-requires c =
    at_most_1024 (subst (λ (x : Result Totals Refusal). Reports (4 ∷ 6 ∷ 7 ∷ []) (report_answer x)) c.in-Ok.is (report_gives _ _ _ _ c.report.ensures))
