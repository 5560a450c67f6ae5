-- The text line by line.
--
--   Plain w        no newline is in w
--   after_line     the first line of a text that begins with a plain word and a newline
--   decimals       the lines of numbers
--   line_by_line   the text is its lines; each of them, and how many there are
use mathlib.Core.Logic.{◌≢◌}
use mathlib.Core.Path.{◌≡◌, refl, sym, ap, ◌∙◌, subst}
use mathlib.Core.Bool.{Bool, true, not}
use mathlib.Core.List.{List, [], ◌∷◌, ◌++◌, append_assoc, append-nil}
use Prim.Native.Nat.{ℕ, zero, suc, ◌+◌, ◌-◌, ◌/◌, ◌%◌, ◌<◌}
use native.Mathlib.Omega.{arith}
use lib.Dec.{T, T_not, eqb}
use lib.ListN.{length, get_or, length-append}
use lib.Seq.{get_or_at, get_or-append-add}
use borrow.Author.Tests.{ne_eqb}
use Rattle.base.proofs.Tests.{both, both_left, both_right, below_suc}
use Rattle.field.specs.Field.{power}
use Rattle.code.specs.Labels.{label}
use Rattle.text.specs.Text.{ascii, decimal, digits_up_to, line}
use Rattle.text.proofs.Decimal.{one_or_more}
use Rattle.sheet.specs.Sheet.{log, number_lines, section, sheet}
use Rattle.sheet.specs.Lines.{lines_of, text_of, LineByLine}

-- ---- a line
abbrev Plain : List ℕ → Type 0
Plain [] = Unit {0}
Plain (c ∷ w) = (c ≢ 10) × Plain w

plain_append : (v w : List ℕ) → Plain v → Plain w → Plain (v ++ w)
plain_append [] w p q = q
plain_append (c ∷ v) w p q = (p.0, plain_append v w p.1 q)

after_line : (w t : List ℕ) → Plain w → lines_of (w ++ (10 ∷ t)) ≡ w ∷ lines_of t
unfolding lines_of
after_line [] t p = refl
after_line (c ∷ w) t p = rw (ne_eqb c 10 p.0, after_line w t p.1) refl

digits_plain : (most n : ℕ) → Plain (digits_up_to most n)
unfolding digits_up_to
digits_plain zero n = tt
digits_plain (suc most) n =
    one_or_more most n Plain (λ h. ((λ e. omega arith), tt))
    (λ h. plain_append (digits_up_to most (n / 10)) ((48 + n % 10) ∷ []) (digits_plain most (n / 10)) ((λ e. omega arith), tt))

decimal_plain : (n : ℕ) → Plain (decimal n)
unfolding decimal
decimal_plain n = digits_plain (suc n) n

line_then : (w t : List ℕ) → Plain w → lines_of (line (w ∷ []) ++ t) ≡ w ∷ lines_of t
line_then w t p = rw append_assoc (after_line w t p)

-- ---- the lines of numbers
decimals : (ℕ → ℕ) → ℕ → ℕ → List (List ℕ)
decimals f s zero = []
decimals f s (suc n) = decimals f s n ++ (decimal (f (s + n)) ∷ [])

decimals_long : (f : ℕ → ℕ) (s n : ℕ) → length (decimals f s n) ≡ n
unfolding decimals
decimals_long f s zero = refl
decimals_long f s (suc n) = length-append (decimals f s n) (decimal (f (s + n)) ∷ []) ∙ omega (arith, decimals_long f s n)

number_lines_of : (f : ℕ → ℕ) (s n : ℕ) (t : List ℕ) → lines_of (number_lines f s n ++ t) ≡ decimals f s n ++ lines_of t
unfolding decimals number_lines
number_lines_of f s zero t = refl
number_lines_of f s (suc n) t =
    let last : List ℕ = decimal (f (s + n)) in
    rw
    (append_assoc (number_lines f s n) (line (last ∷ [])) t, number_lines_of f s n (line (last ∷ []) ++ t), line_then last t (decimal_plain _), append_assoc)
    refl

numbers_text : (f : ℕ → ℕ) (s n : ℕ) (r : List (List ℕ)) → text_of (decimals f s n ++ r) ≡ number_lines f s n ++ text_of r
unfolding decimals number_lines
numbers_text f s zero r = refl
numbers_text f s (suc n) r =
    let last : List ℕ = decimal (f (s + n)) in
    rw (append_assoc (decimals f s n) (last ∷ []) r, numbers_text f s n (last ∷ r), append_assoc (number_lines f s n) (line (last ∷ [])) (text_of r)) refl

in_numbers : (f : ℕ → ℕ) (s n k : ℕ) (r : List (List ℕ)) → k < n → get_or (decimals f s n ++ r) k [] ≡ decimal (f (s + k))
unfolding decimals
in_numbers f s zero k r h = absurd (omega arith)
in_numbers f s (suc n) k r h =
    let last : List ℕ = decimal (f (s + n)) in
    ap (λ (l : List (List ℕ)). get_or l k []) (append_assoc (decimals f s n) (last ∷ []) r)
    ∙ below_suc (λ k. get_or (decimals f s n ++ (last ∷ r)) k [] ≡ decimal (f (s + k))) n
    (get_or_at (decimals f s n) last r [] n (decimals_long f s n)) (λ k l. in_numbers f s n k (last ∷ r) l) k h

-- ---- a heading and its numbers, whatever follows
module _ (w : List ℕ) (f : ℕ → ℕ) (s n : ℕ) where
  section_lines : (t : List ℕ) → Plain w → lines_of ((line (w ∷ []) ++ number_lines f s n) ++ t) ≡ w ∷ (decimals f s n ++ lines_of t)
  section_lines t p =
      rw (append_assoc (line (w ∷ [])) (number_lines f s n) t, line_then w (number_lines f s n ++ t) p, number_lines_of f s n t) refl

  section_text : (r : List (List ℕ)) → text_of (w ∷ (decimals f s n ++ r)) ≡ (line (w ∷ []) ++ number_lines f s n) ++ text_of r
  section_text r = rw (numbers_text f s n r, append_assoc (line (w ∷ [])) (number_lines f s n) (text_of r)) refl

  below_heading : (k : ℕ) (r : List (List ℕ)) → k < n → get_or (w ∷ (decimals f s n ++ r)) (suc k) [] ≡ decimal (f (s + k))
  below_heading k r h = in_numbers f s n k r h

  behind : (k : ℕ) (r : List (List ℕ)) → get_or (w ∷ (decimals f s n ++ r)) (suc (n + k)) [] ≡ get_or r k []
  behind k r =
      ap (λ (m : ℕ). get_or (decimals f s n ++ r) (m + k) []) (sym (decimals_long f s n)) ∙ get_or-append-add (decimals f s n) r k []

-- ---- the text
abbrev label_lines : List (List ℕ)
label_lines = ascii "labels" ∷ (decimals label 0 45 ++ [])

abbrev log_lines : List (List ℕ)
log_lines = ascii "logs" ∷ (decimals log 1 255 ++ label_lines)

abbrev all_lines : List (List ℕ)
all_lines = ascii "powers" ∷ (decimals (power 2) 0 255 ++ log_lines)

no_newline : (c : ℕ) → T (not (eqb c 10)) → c ≢ 10
no_newline c t e = T_not (eqb c 10) t (subst (λ (x : ℕ). T (eqb x 10)) (sym e) tt)

plain : List ℕ → Bool
plain [] = true
plain (c ∷ w) = both (not (eqb c 10)) (plain w)

plain_word : (w : List ℕ) → T (plain w) → Plain w
unfolding plain
plain_word [] t = tt
plain_word (c ∷ w) t = (no_newline c (both_left (not (eqb c 10)) (plain w) t), plain_word w (both_right (not (eqb c 10)) (plain w) t))

in_lines : lines_of sheet ≡ all_lines
unfolding sheet plain lines_of
in_lines =
    section_lines (ascii "powers") (power 2) 0 255 (section "logs" log 1 255 ++ section "labels" label 0 45) (plain_word (ascii "powers") tt)
    ∙ ap (λ (l : List (List ℕ)). ascii "powers" ∷ (decimals (power 2) 0 255 ++ l))
    (section_lines (ascii "logs") log 1 255 (section "labels" label 0 45) (plain_word (ascii "logs") tt)
    ∙ ap (λ (l : List (List ℕ)). ascii "logs" ∷ (decimals log 1 255 ++ l))
    (ap lines_of (sym (append-nil (section "labels" label 0 45))) ∙ section_lines (ascii "labels") label 0 45 [] (plain_word (ascii "labels") tt)))

in_text : sheet ≡ text_of all_lines
unfolding sheet
in_text =
    sym (section_text (ascii "powers") (power 2) 0 255 log_lines
    ∙ ap (λ (t : List ℕ). section "powers" (power 2) 0 255 ++ t)
    (section_text (ascii "logs") log 1 255 label_lines
    ∙ ap (λ (t : List ℕ). section "logs" log 1 255 ++ t)
    (section_text (ascii "labels") label 0 45 [] ∙ append-nil (section "labels" label 0 45))))

-- line m, which is line k
at_line : (m k : ℕ) → m ≡ k → get_or (lines_of sheet) m [] ≡ get_or all_lines k []
at_line m k e = ap (λ (l : List (List ℕ)). get_or l m []) in_lines ∙ ap (λ (n : ℕ). get_or all_lines n []) e

behind_powers : (k : ℕ) → get_or all_lines (suc (255 + k)) [] ≡ get_or log_lines k []
behind_powers k = behind (ascii "powers") (power 2) 0 255 k log_lines

behind_logs : (k : ℕ) → get_or log_lines (suc (255 + k)) [] ≡ get_or label_lines k []
behind_logs k = behind (ascii "logs") log 1 255 k label_lines

pub line_by_line : LineByLine
line_by_line = record {
  whole = in_text ∙ ap text_of (sym in_lines);
  many = ap length in_lines ∙ simp (length-append, decimals_long);
  powers_heading = at_line 0 0 refl;
  powers = λ k h.
      let e : 0 + k ≡ k = omega arith in
      at_line (1 + k) (suc k) (omega arith) ∙ below_heading (ascii "powers") (power 2) 0 255 k log_lines h ∙ ap (λ (n : ℕ). decimal (power 2 n)) e;
  logs_heading = at_line 256 (suc (255 + 0)) refl ∙ behind_powers 0;
  logs = λ a p h.
      let e : a ≡ suc (a - 1) = omega arith in
      let d : 1 + (a - 1) ≡ a = omega arith in
      at_line (256 + a) (suc (255 + a)) (omega arith) ∙ behind_powers a
      ∙ ap (λ (n : ℕ). get_or log_lines n []) e ∙ below_heading (ascii "logs") log 1 255 (a - 1) label_lines (omega arith) ∙ ap (λ (n : ℕ). decimal (log n)) d;
  labels_heading = at_line 512 (suc (255 + suc (255 + 0))) refl ∙ behind_powers (suc (255 + 0)) ∙ behind_logs 0;
  labels = λ p h.
      let e : 0 + p ≡ p = omega arith in
      at_line (513 + p) (suc (255 + suc (255 + suc p))) (omega arith) ∙ behind_powers (suc (255 + suc p)) ∙ behind_logs (suc p)
      ∙ below_heading (ascii "labels") label 0 45 p [] h ∙ ap (λ (n : ℕ). decimal (label n)) e;
}
