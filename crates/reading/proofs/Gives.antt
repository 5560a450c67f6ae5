-- Which answers a reading can give.
--
--   reads_give   a reading under lawful marks is corrected, with 2 bytes at most in chips and 11 with a card, or is 10 or 11
--   read_by      a call that reads a block, by its causes
use Prim.Native.Nat.{ℕ, ◌<◌, ◌≤◌}
use mathlib.Core.Logic.{inl, inr}
use mathlib.Core.Path.{◌≡◌, refl, sym, subst}
use mathlib.Core.List.{List, [], ◌∷◌, ◌++◌}
use native.Mathlib.Omega.{arith}
use Rattle.base.specs.Base.{In}
use Rattle.base.proofs.Few.{few_length}
use Rattle.base.proofs.Lists.{append_in}
use Rattle.answer.specs.Answer.{Answer, done, clean, in_chips, in_card, counted, refused, refused_card, By}
use Rattle.answer.specs.Cause.{Cause, lowest}
use Rattle.answer.proofs.Causes.{Positive}
use Rattle.answer.proofs.Gives.{Readings, was_clean, was_in_chips, was_in_card, was_several, not_read, numbers, by_gives, joined, rest}
use Rattle.marks.specs.Marks.{CardInRange, LawfulMarks, marked_chips, marks_causes, marks_cause}
use Rattle.std.specs.declared.option.Option.{Option}
use Rattle.std.specs.Prelude.{None, Some}
use Rattle.marks.specs.declared.Marks.{Marks}
use Rattle.marks.proofs.Laws.{cause_lawful, few_chips}
use Rattle.reading.specs.Reading.{OnCard, ReadsUnder}
use Rattle.reading.proofs.Limits.{chips_limit, card_limit}

on_card : (card : Option ℕ) (j : ℕ) (ps b x : List ℕ) → CardInRange card → OnCard card j ps b x → j < 5
on_card None j ps b x r h = h.0
on_card (Some i) j ps b x r h = omega (arith, r, h)

pub reads_give : (ns : List ℕ) → In 10 ns → (m : Marks) → LawfulMarks m → (b out : List ℕ) (a : Answer) (out' : List ℕ) → ReadsUnder m b out a out'
    → Readings ns a
reads_give ns i m l b out clean out' w = was_clean
reads_give ns i m l b out (in_chips n) out' w =
    let most = chips_limit (marked_chips m) b out' (few_length 2 (marked_chips m) (few_chips m l)) m.card w.3 in
    was_in_chips (subst (λ (k : ℕ). k ≤ 2) (sym w.2) most)
reads_give ns i m l b out (in_card j n) out' w =
    let most = card_limit (marked_chips m) b out' (few_length 2 (marked_chips m) (few_chips m l)) m.card l.card j w.0.0.allowed w.3 in
    was_in_card (on_card m.card j (marked_chips m) b out' l.card w.3) (subst (λ (k : ℕ). k ≤ 11) (sym w.1) most)
reads_give ns i m l b out (refused n) out' w = not_read (subst (λ (x : ℕ). In x ns) (sym w.0) i)
reads_give ns i m l b out (refused_card n j) out' w = was_several w.0 w.2.0.0
reads_give ns i m l b out done out' w = absurd w
reads_give ns i m l b out (counted u v x y z) out' w = absurd w

-- a call that reads the block b: causes of its own, and then those of the marks
pub read_by : (cs : List Cause) → Positive cs → (m : Marks) (b : List ℕ) (a : Answer) (U D : Type 0) → (D → (o : List ℕ) × (x : List ℕ) × ReadsUnder m b o a x)
    → By (lowest (cs ++ marks_causes m)) a U D → Readings (numbers (cs ++ marks_causes m) ++ (10 ∷ [])) a
unfolding marks_cause
read_by cs p m b a U D reads w =
    by_gives (cs ++ marks_causes m) (joined cs (marks_causes m) p (omega arith, (omega arith, tt))) (Readings ns) a U D
    (λ n h. not_read (append_in n (numbers (cs ++ marks_causes m)) (10 ∷ []) (inl h))) (λ z d. read (rest cs (marks_causes m) p z) (reads d)) w
  where
    ns : List ℕ
    ns = numbers (cs ++ marks_causes m) ++ (10 ∷ [])

    read : lowest (marks_causes m) ≡ 0 → (o : List ℕ) × (x : List ℕ) × ReadsUnder m b o a x → Readings ns a
    read z r =
        reads_give ns (append_in 10 (numbers (cs ++ marks_causes m)) (10 ∷ []) (inr (inl refl))) m (cause_lawful m z) b r.0 a r.1 r.2
