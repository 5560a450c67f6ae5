-- The marks' check decides whether they are lawful, and the card mark which search there is; the labels are the built-in ones.
use mathlib.Core.Path.{◌≡◌, refl, sym, ap, subst}
use mathlib.Core.Bool.{false}
use mathlib.Core.List.{[]}
use Prim.Native.Nat.{ℕ}
use Rattle.code.specs.Labels.{built_in}
use Rattle.marks.specs.Marks.{chips_of, marked_chips, CardInRange}
use Rattle.std.specs.Prelude.{Option, None, Some}
use Rattle.std.specs.Option.{is_some}
use Rattle.marks.proofs.Laws.{cause_lawful}
use Rattle.decode.proofs.Answer.{unlawful_decodes, lawful_decodes}
use Rattle.decode.proofs.decode.Goals as goal

pub returns-in_err-check : goal.returns-in_err-check
returns-in_err-check c = unlawful_decodes c.args.s c.args.m _ c.in_err-check.field-0.0 c.in_err-check.ensures c.from_residual.ensures.1

no_card : (o : Option ℕ) → is_some o ≡ false → o ≡ None
no_card None e = refl
no_card (Some j) e = cc

pub returns-then-m-eq0 : goal.returns-then-m-eq0
returns-then-m-eq0 c =
    let m = c.args.m in
    lawful_decodes c.args.s m c.no_marks.result (sym c.in_ok-check.ensures) built_in refl None (no_card m.card c.if-is_none.ensures) []
    (sym (ap (λ (n : ℕ). chips_of n m.first m.second) c.if-m-eq0.true)) c.no_marks.ensures

pub over_cards-requires : goal.over_cards-requires
over_cards-requires c = cause_lawful c.args.m (sym c.in_ok-check.ensures)

pub under_card-requires : goal.under_card-requires
under_card-requires c =
    let lawful = cause_lawful c.args.m (sym c.in_ok-check.ensures) in record { lawful = lawful; card = subst CardInRange c.in-Some.is lawful.card }

pub returns-in-None : goal.returns-in-None
returns-in-None c =
    lawful_decodes c.args.s c.args.m c.over_cards.result (sym c.in_ok-check.ensures) built_in refl None c.in-None.is (marked_chips c.args.m) refl
    c.over_cards.ensures

pub returns-in-Some : goal.returns-in-Some
returns-in-Some c =
    lawful_decodes c.args.s c.args.m c.under_card.result (sym c.in_ok-check.ensures) built_in refl (Some _) c.in-Some.is (marked_chips c.args.m) refl
    c.under_card.ensures
