-- The text by computation: its length.
--
--   same_lines   functions that agree on the numbers printed have the same lines
--   figured      the text, with the powers and logarithms taken from a list of the powers
--   long         1,992 bytes
use mathlib.Core.Path.{◌≡◌, refl, sym, ap, ap₂, ◌∙◌}
use mathlib.Core.List.{List, [], ◌∷◌, ◌++◌}
use Prim.Native.Nat.{ℕ, zero, suc, ◌+◌, ◌*◌, ◌/◌, ◌%◌, ◌<◌}
use native.Mathlib.Omega.{arith}
use lib.ListN.{length, get_or}
use Rattle.field.specs.Field.{◌⊕◌, power}
use Rattle.field.proofs.Product.{times_x}
use Rattle.field.proofs.Powers.{run}
use Rattle.code.specs.Labels.{label}
use Rattle.text.specs.Text.{ascii, decimal, digits_up_to, line}
use Rattle.sheet.specs.Sheet.{log, number_lines, section, sheet}
use Rattle.sheet.specs.Lines.{Long}
use Rattle.sheet.proofs.Logs.{place, powers, at_power, log_place}

pub same_lines : (f g : ℕ → ℕ) (s n : ℕ) → ((k : ℕ) → k < n → f (s + k) ≡ g (s + k)) → number_lines f s n ≡ number_lines g s n
unfolding number_lines
same_lines f g s zero e = refl
same_lines f g s (suc n) e =
    ap₂ (λ (l k : List ℕ). l ++ k) (same_lines f g s n (λ k h. e k (omega arith))) (ap (λ (x : ℕ). line (decimal x ∷ [])) (e n (omega arith)))

same_section : (heading : List ℕ) (f g : ℕ → ℕ) (s n : ℕ) → ((k : ℕ) → k < n → f (s + k) ≡ g (s + k))
    → heading ++ number_lines f s n ≡ heading ++ number_lines g s n
same_section heading f g s n e = ap (λ (l : List ℕ). heading ++ l) (same_lines f g s n e)

abbrev power_figure : ℕ → ℕ
power_figure k = get_or powers k 0

abbrev label_figure : ℕ → ℕ
label_figure p = get_or powers (p % 9 + 17 * (p / 9)) 0

abbrev figured : List ℕ
figured = section "powers" power_figure 0 255 ++ (section "logs" (place powers) 1 255 ++ section "labels" label_figure 0 45)

in_figures : sheet ≡ figured
unfolding sheet
in_figures =
    ap₂ (λ (l k : List ℕ). l ++ k) (same_section (ascii "powers\n") (power 2) power_figure 0 255 (λ k h. sym (at_power (0 + k) (omega arith))))
    (ap₂ (λ (l k : List ℕ). l ++ k) (same_section (ascii "logs\n") log (place powers) 1 255 (λ k h. log_place (1 + k)))
    (same_section (ascii "labels\n") label label_figure 0 45 (λ k h. sym (at_power _ (omega arith)))))

pub long : Long
unfolding powers run times_x ◌⊕◌ decimal digits_up_to number_lines
long = ap length in_figures ∙ refl
