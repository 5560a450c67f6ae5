-- What is proposed, in plain words and as the code finds it.
--
--   due_few, due_often                  the test of a position, by how often it stands there
--   due_is, is_due                      a position passes exactly where it may be proposed
--   NoneBelow, Reached                  where the loop that seeks the lowest is: often_enough, one_passed, passed_over, from_start, further,
--                                       lowest_at, lowest_none
--   refused_is, chip_is, nothing_is     the three answers; refusal_is, position_is: as the code says them
--   proposed_exactly                    THE STATEMENT of specs/Plain.antt
--   window_proposal                     a run's window proposes what the last 64 of the run do
use mathlib.Core.Logic.{◌≢◌, ◌⊎◌, inl, inr}
use mathlib.Core.Path.{◌≡◌, refl, sym, ap, ◌∙◌, subst}
use mathlib.Core.Bool.{Bool, true, false, ◌&&◌, not}
use mathlib.Core.List.{List}
use Prim.Native.Nat.{ℕ, zero, suc, ◌+◌, ◌-◌, ◌/◌, ◌<◌, ◌≤◌}
use native.Mathlib.Omega.{arith}
use lib.Dec.{eqb, leb, ltb}
use lib.ListN.{length, replicate, get_or}
use borrow.Author.Tests.{eqb-false, eq-eqb, ne_eqb, le-leb, lt-leb, leb-true, lt-ltb, le-ltb, not-true}
use Rattle.std.proofs.lemmas.Bool.{and_parts, cases_eq, cases_lt}
use Rattle.base.specs.Base.{if, bit, least}
use Rattle.base.proofs.Tally.{clash}
use Rattle.base.proofs.Lists.{in_is_in, is_in_in}
use Rattle.base.proofs.Those.{Least, least_is, least_one, least_ext}
use Rattle.marks.specs.Marks.{marked_chips, LawfulMarks, is_marked, marks_cause}
use Rattle.marks.specs.Mark.{card_is}
use Rattle.std.specs.declared.option.Option.{Option}
use Rattle.std.specs.declared.result.Result.{Result}
use Rattle.std.specs.Prelude.{None, Some, Ok, Err, IsErrAnd}
use Rattle.answer.specs.Answer.{refusal_number}
use Rattle.answer.specs.declared.Refusal.{Refusal}
use Rattle.answer.proofs.Causes.{number_given}
use Rattle.marks.specs.declared.Marks.{Marks}
use Rattle.marks.proofs.Laws.{lawful_cause, cause_lawful}
use Rattle.window.specs.Window.{last_64, window_of, times, due_by, due, proposed, proposal, proposal_of, position_below}
use Rattle.window.specs.Count.{Counts}
use Rattle.window.specs.Plain.{Due, proposal_number, ProposedExactly}
use Rattle.window.specs.Window.{Chip, Nothing, Refused}
use Rattle.window.proofs.Counted.{times_append}

-- ---- the test of a position
abbrev unmarked : Marks → ℕ → Bool
unmarked m p = not (is_marked m p) && not (card_is m.card (p / 9))

due_few : (n : ℕ) (m : Marks) (p : ℕ) → n < 4 → false ≡ due_by n m p
unfolding due_by
due_few n m p h = sym (ap (λ (t : Bool). t && unmarked m p) (lt-leb 4 n h))

due_often : (n : ℕ) (m : Marks) (p : ℕ) → 4 ≤ n → unmarked m p ≡ due_by n m p
unfolding due_by
due_often n m p h = sym (ap (λ (t : Bool). t && unmarked m p) (le-leb 4 n h))

module _ (l : List ℕ) (m : Marks) (p : ℕ) where
  off_card : (c : Option ℕ) → card_is c (p / 9) ≡ false → c ≢ Some (p / 9)
  off_card None e f = let z : ◌≡◌ {A = ℕ} 0 1 = cc in omega arith
  off_card (Some j) e f = eqb-false j (p / 9) e (let z : j ≡ p / 9 = cc in z)

  card_off : (c : Option ℕ) → c ≢ Some (p / 9) → card_is c (p / 9) ≡ false
  card_off None n = refl
  card_off (Some j) n = ne_eqb j (p / 9) (λ e. n (ap Some e))

  pub is_due : p < 45 → due l m p ≡ true → Due l m p
  unfolding due_by is_marked
  is_due h e =
      let a = and_parts (leb 4 (times p l)) (not (is_marked m p) && not (card_is m.card (p / 9))) e in
      let b = and_parts (not (is_marked m p)) (not (card_is m.card (p / 9))) a.1 in
      record {
        position = h;
        often = leb-true 4 (times p l) a.0;
        unmarked = λ i. clash (is_marked m p) (in_is_in p (marked_chips m) i) (not-true (is_marked m p) b.0);
        card_unmarked = off_card m.card (not-true (card_is m.card (p / 9)) b.1);
      }

  pub due_is : Due l m p → due l m p ≡ true
  unfolding due_by is_marked
  due_is d = rw (le-leb 4 (times p l) d.often, none (is_marked m p) refl, card_off m.card d.card_unmarked) refl
    where
      none : (t : Bool) → is_marked m p ≡ t → is_marked m p ≡ false
      none true e = absurd (d.unmarked (is_in_in p (marked_chips m) e))
      none false e = e

-- ---- the lowest, by a loop: none below p passes
module _ (l : List ℕ) (m : Marks) where
  abbrev pub NoneBelow : ℕ → Type 0
  NoneBelow p = (i : ℕ) → i < p → due l m i ≡ false

  often_enough : (c : List ℕ) → Counts l c → (p : ℕ) → p < 45 → 4 ≤ get_or c p 0 → (t : Bool) → t ≡ unmarked m p → t ≡ due l m p
  often_enough c k p b h t e = e ∙ due_often (times p l) m p (omega (arith, k.each p (omega arith)))

  one_passed : (p : ℕ) → NoneBelow p → due l m p ≡ false → NoneBelow (p + 1)
  one_passed p h f i g = pick (cases_eq i p)
    where
      pick : (i ≡ p) ⊎ (i ≢ p) → due l m i ≡ false
      pick (inl q) = ap (due l m) q ∙ f
      pick (inr q) = h i (omega arith)

  -- those that are passed over stand there less than four times
  passed_over : (c : List ℕ) → Counts l c → (p q : ℕ) → q ≤ 45 → ((i : ℕ) → p ≤ i → i < q → get_or c i 0 < 4) → NoneBelow p → NoneBelow q
  passed_over c k p q b few h i g = pick (cases_lt i p)
    where
      pick : (i < p) ⊎ (p ≤ i) → due l m i ≡ false
      pick (inl a) = h i a
      pick (inr a) = sym (due_few (times i l) m i (omega (arith, k.each i (omega (arith, g, b)), few i a g)))

  -- where the loop stands: at a position that is counted four times or more, and none below it passes
  pub record Reached (c : List ℕ) (p : ℕ) : Type 0 where
    pub position : p < 45
    pub often : 4 ≤ get_or c p 0
    pub below : NoneBelow p

  module _ (c : List ℕ) (k : Counts l c) where
    pub from_start : (q : ℕ) → q ≤ 45 → ((i : ℕ) → 0 ≤ i → i < q → get_or c i 0 < 4) → NoneBelow q
    from_start q b few = passed_over c k 0 q b few (λ i h. absurd (omega arith))

    -- from a position that is marked
    pub further : (p : ℕ) → Reached c p → (t : Bool) → t ≡ unmarked m p → t ≡ false → (q : ℕ) → q ≤ 45
        → ((i : ℕ) → p + 1 ≤ i → i < q → get_or c i 0 < 4) → NoneBelow q
    further p r t e f q b few = passed_over c k (p + 1) q b few (one_passed p r.below (sym (often_enough c k p r.position r.often t e) ∙ f))

    pub lowest_at : (p : ℕ) → Reached c p → (t : Bool) → t ≡ unmarked m p → t ≡ true → p ≡ least 45 (due l m)
    lowest_at p r t e f = least_one 45 (due l m) p
        (record { most = omega (arith, r.position); passes = λ q. sym (often_enough c k p r.position r.often t e) ∙ f; below = r.below })

  pub lowest_none : NoneBelow 45 → 45 ≡ least 45 (due l m)
  lowest_none h = least_one 45 (due l m) 45 (record { most = omega arith; passes = λ q. absurd (omega arith); below = h })

  -- ---- the three answers
  pub refused_is : (n : ℕ) → n ≡ marks_cause m → n ≢ 0 → Refused n ≡ proposal l m
  unfolding proposal
  refused_is n e z = sym (rw (ne_eqb (marks_cause m) 0 (λ q. z (e ∙ q))) (ap Refused (sym e)))

  lawful_is : marks_cause m ≡ 0 → proposed (least 45 (due l m)) ≡ proposal l m
  unfolding proposal
  lawful_is z = sym (rw (eq-eqb (marks_cause m) 0 z) refl)

  nothing_is : (p : ℕ) → marks_cause m ≡ 0 → p ≡ least 45 (due l m) → 45 ≤ p → Nothing ≡ proposal l m
  nothing_is p z q h = sym (ap (λ (t : Bool). if t (Chip p) Nothing) (le-ltb p 45 h)) ∙ ap proposed q ∙ lawful_is z

  chip_is : (p : ℕ) → marks_cause m ≡ 0 → p ≡ least 45 (due l m) → p < 45 → Chip p ≡ proposal l m
  chip_is p z q h = sym (ap (λ (t : Bool). if t (Chip p) Nothing) (lt-ltb p 45 h)) ∙ ap proposed q ∙ lawful_is z

  -- as the code says it
  pub refusal_is : (r : Result (Option ℕ) Refusal) (e : Refusal) → IsErrAnd r (λ (x : Refusal). x ≡ e) → refusal_number e ≡ marks_cause m
      → proposal_of r ≡ proposal l m
  refusal_is (Ok o) e h q = absurd h
  refusal_is (Err x) e h q = ap (λ (y : Refusal). Refused (refusal_number y)) h ∙ refused_is (refusal_number e) q (number_given e)

  said : (p : ℕ) → proposal_of (Ok (position_below 45 p)) ≡ proposed p
  said p = by (ltb p 45) refl
    where
      by : (t : Bool) → ltb p 45 ≡ t → proposal_of (Ok (position_below 45 p)) ≡ proposed p
      by true e = simp e
      by false e = simp e

  pub position_is : (o : Option ℕ) → marks_cause m ≡ 0 → o ≡ position_below 45 (least 45 (due l m)) → proposal_of (Ok o) ≡ proposal l m
  position_is o z e = ap (λ (x : Option ℕ). proposal_of (Ok x)) e ∙ said (least 45 (due l m)) ∙ lawful_is z

  -- ---- exactly when
  data Which : Type 0 where
    unlawful : marks_cause m ≢ 0 → Which
    one : (p : ℕ) → marks_cause m ≡ 0 → Due l m p → ((q : ℕ) → q < p → Due l m q → ⊥) → proposal l m ≡ Chip p → Which
    none : marks_cause m ≡ 0 → ((q : ℕ) → Due l m q → ⊥) → proposal l m ≡ Nothing → Which

  which : Which
  which = pick (cases_eq (marks_cause m) 0) (cases_lt (least 45 (due l m)) 45)
    where
      v : Least 45 (due l m) (least 45 (due l m))
      v = least_is 45 (due l m)

      below : (q : ℕ) → q < least 45 (due l m) → Due l m q → ⊥
      below q h d = clash (due l m q) (due_is l m q d) (v.below q h)

      pick : (marks_cause m ≡ 0) ⊎ (marks_cause m ≢ 0) → (least 45 (due l m) < 45) ⊎ (45 ≤ least 45 (due l m)) → Which
      pick (inr n) h = unlawful n
      pick (inl z) (inl h) =
          one (least 45 (due l m)) z (is_due l m (least 45 (due l m)) h (v.passes h)) below (sym (chip_is (least 45 (due l m)) z refl h))
      pick (inl z) (inr h) =
          none z (λ q d. below q (omega (arith, d.position)) d) (sym (nothing_is (least 45 (due l m)) z refl h))

  lowest_two : (p q : ℕ) → Due l m p → ((i : ℕ) → i < p → Due l m i → ⊥) → Due l m q → ((i : ℕ) → i < q → Due l m i → ⊥) → p ≡ q
  lowest_two p q a b c d = pick (cases_lt p q) (cases_lt q p)
    where
      pick : (p < q) ⊎ (q ≤ p) → (q < p) ⊎ (p ≤ q) → p ≡ q
      pick (inl h) g = absurd (d p h a)
      pick (inr h) (inl g) = absurd (b q g c)
      pick (inr h) (inr g) = omega arith

  pub proposed_exactly : ProposedExactly l m
  proposed_exactly = go which
    where
      no : {A : Type 0} → ◌≡◌ {A = ℕ} 0 1 → A
      no z = absurd (omega arith)

      go : Which → ProposedExactly l m
      go (unlawful n) =
          let e : proposal l m ≡ Refused (marks_cause m) = sym (refused_is (marks_cause m) refl n) in
          record {
            chip = λ p. ((λ f. no (cc)), λ w. absurd (n (lawful_cause m w.0)));
            nothing = ((λ f. no (cc)), λ w. absurd (n (lawful_cause m w.0)));
            refused = λ k. (
              (λ f. let s : marks_cause m ≡ k = cc in (sym s, λ z. n (s ∙ z))),
              λ w. e ∙ ap Refused (sym w.0),
            );
            number = ap proposal_number e;
          }
      go (one p z d b e) = record {
        chip = λ q. (
          (λ f. let s : p ≡ q = cc in subst (λ (i : ℕ). LawfulMarks m × Due l m i × ((j : ℕ) → j < i → Due l m j → ⊥)) s (cause_lawful m z, d, b)),
          λ w. e ∙ ap Chip (lowest_two p q d b w.1 w.2),
        );
        nothing = ((λ f. no (cc)), λ w. absurd (w.1 p d));
        refused = λ k. ((λ f. no (cc)), λ w. absurd (w.1 (w.0 ∙ z)));
        number = ap proposal_number e ∙ sym z;
      }
      go (none z b e) = record {
        chip = λ q. ((λ f. no (cc)), λ w. absurd (b q w.1));
        nothing = ((λ f. (cause_lawful m z, b)), λ w. e);
        refused = λ k. ((λ f. no (cc)), λ w. absurd (w.1 (w.0 ∙ z)));
        number = ap proposal_number e ∙ sym z;
      }

-- ---- of a run's window
times_none : (p n : ℕ) → p < 45 → times p (replicate n 255) ≡ 0
times_none p zero h = refl
times_none p (suc n) h = let z : bit (eqb 255 p) ≡ 0 = ap bit (ne_eqb 255 p (λ e. omega arith)) in omega (arith, z, times_none p n h)

-- 255 is no position
window_times : (run : List ℕ) (p : ℕ) → p < 45 → times p (window_of run) ≡ times p (last_64 run)
unfolding window_of
window_times run p h = times_append p (replicate (64 - length run) 255) (last_64 run) ∙ omega (arith, times_none p (64 - length run) h)

-- positions that stand in two lists equally often are proposed alike
times_proposal : (l k : List ℕ) (m : Marks) → ((p : ℕ) → p < 45 → times p l ≡ times p k) → proposal l m ≡ proposal k m
unfolding proposal
times_proposal l k m e =
    ap (λ (x : ℕ). if (eqb (marks_cause m) 0) (proposed x) (Refused (marks_cause m)))
    (least_ext 45 (due l m) (due k m) (λ p h. ap (λ (n : ℕ). due_by n m p) (e p h)))

pub window_proposal : (run : List ℕ) (m : Marks) → proposal (window_of run) m ≡ proposal (last_64 run) m
window_proposal run m = times_proposal (window_of run) (last_64 run) m (window_times run)
