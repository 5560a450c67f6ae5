-- Commands: which numbers are known, what one that runs gives, and that its answer comes back from the registers.
--
--   unknown, known        a number that is no command's; a command that runs is known
--   Comes                 the bytes that tell an answer fit their registers, and it comes back from them; so do its number and the bit that it sets
--   get_fits, patrol_fits              of the calls that read
--   number_fits                        16 plus a refusal's number is a byte
--   runs_come, answers_back            of every command
--   Eleven                a card comes with 11 alone; reads_eleven, by_eleven, runs_eleven: so it does
--   refused_keeps         a refused command leaves marks, bank, output and window as they were
use Prim.Native.Nat.{ℕ, zero, suc, ◌+◌, ◌-◌, ◌*◌, ◌/◌, ◌%◌, ◌≤◌, ◌<◌}
use mathlib.Core.Path.{◌≡◌, refl, sym, ap, ◌∙◌, subst}
use mathlib.Core.Logic.{◌≢◌}
use mathlib.Core.Bool.{true, false}
use mathlib.Core.List.{List, [], ◌∷◌}
use native.Mathlib.Omega.{arith}
use lib.Dec.{eqb}
use lib.ListN.{length}
use borrow.Author.Tests.{ne_eqb}
use Rattle.base.specs.Base.{if}
use Rattle.answer.specs.Answer.{Answer, done, clean, in_chips, in_card, counted, refused, refused_card, number, By, refusal_number}
use Rattle.answer.specs.declared.Refusal.{Refusal}
use Rattle.answer.specs.declared.Refusal.TheVariants.{BlockLength, OutputLength, RecordLength, BankLength, BlockNumber, MarkRange, EqualMarks}
use Rattle.answer.specs.declared.Refusal.TheVariants.{TooManyMarks, NotMarked, NoLawfulBlock, RegisterAddress, ReadOnlyRegister, UnknownCommand}
use Rattle.answer.specs.declared.Refusal.TheVariants.{SlipCutOff, NoSuchSlip, NoRoom}
use Rattle.answer.proofs.Gives.{Outcomes, was_done, was_refused, Readings, was_clean, was_in_chips, was_in_card, was_several, not_read}
use Rattle.answer.proofs.Gives.{numbered, number_of}
use Rattle.marks.specs.Mark.{mark_cause, MarkDone}
use Rattle.marks.specs.declared.Marks.{Marks}
use Rattle.marks.specs.declared.MarkCall.{MarkCall}
use Rattle.marks.specs.declared.MarkCall.TheVariants.{PlaceChip, LiftChip, PlaceCard, LiftCard}
use Rattle.marks.proofs.Gives.{mark_numbers, mark_gives}
use Rattle.marks.proofs.Laws.{mark_done, mark_refused}
use Rattle.reading.specs.Reading.{ReadsUnder}
use Rattle.block.proofs.Decided.{unread_window}
use Rattle.bank.specs.Calls.{block, get_cause, patrol_cause, GetDone, PatrolDone}
use Rattle.bank.proofs.Gives.{get_gives, patrol_gives}
use Rattle.bank.proofs.Done.{patrol_unread}
use Rattle.registers.specs.Write.{command_of, is_unknown, Runs, answer_byte, detail_byte, pending_bit, ToldFits}
use Rattle.registers.specs.Plain.{answer_in, AnswersBack, RefusedKeeps}
use Rattle.registers.specs.declared.Registers.{Registers}
use Rattle.registers.specs.Write.{Command}
use Rattle.registers.specs.Write.{Get, Patrol, Mark, Unknown}

-- ---- which numbers are known
pub unknown : (r : Registers) (v : ℕ) → v ≢ 1 → v ≢ 2 → v ≢ 3 → v ≢ 4 → v ≢ 5 → v ≢ 6 → command_of r v ≡ Unknown
unfolding command_of
unknown r v a b c d e f = simp (ne_eqb v 1 a, ne_eqb v 2 b, ne_eqb v 3 c, ne_eqb v 4 d, ne_eqb v 5 e, ne_eqb v 6 f)

pub known : (m : Marks) (c : Command) (bank out win : List ℕ) (a : Answer) (m' : Marks) (bank' out' win' : List ℕ) → Runs m c bank out win a m' bank' out' win'
    → is_unknown c ≡ false
known m (Get k) bank out win a m' bank' out' win' w = refl
known m (Patrol k) bank out win a m' bank' out' win' w = refl
known m (Mark c) bank out win a m' bank' out' win' w = refl
known m Unknown bank out win a m' bank' out' win' w = absurd w

-- ---- an answer and its bytes, of a call that refuses with the numbers ns
pub record Comes (a : Answer) : Type 0 where
  pub fit : ToldFits a
  pub back : answer_in (answer_byte a) (detail_byte a) ≡ a
  pub refusal : number a ≢ 0 → answer_byte a ≡ 16 + number a
  pub bit : pending_bit a ≡ if (eqb (number a) 0) 1 2

module _ (ns : List ℕ) (some : numbered ns ≡ true) where
  number_comes : (n : ℕ) → (1 ≤ n) × (n ≤ 99) × (n ≢ 11) → Comes (refused n)
  unfolding answer_in
  number_comes n h = record {
    refusal = λ z. refl;
    bit = simp (ne_eqb n 0 (λ z. omega (arith, z, h.0)));
    fit = (omega (arith, h.1), omega arith);
    back =
        let e : 16 + n - 16 ≡ n = omega arith in
        simp (
          ne_eqb (16 + n) 0 (λ z. omega (arith, z)),
          ne_eqb (16 + n) 1 (λ z. omega (arith, z)),
          ne_eqb (16 + n) 2 (λ z. omega (arith, z)),
          ne_eqb (16 + n) 3 (λ z. omega (arith, z)),
          ne_eqb (16 + n) 27 (λ z. h.2 (omega (arith, z))),
          e,
        );
  }

  outcome_comes : (a : Answer) → Outcomes ns a → Comes a
  unfolding answer_in
  outcome_comes done was_done = record { fit = (omega arith, omega arith); back = refl; refusal = λ z. absurd (z refl); bit = refl }
  outcome_comes (refused n) (was_refused i) = number_comes n (number_of ns some n i)
  outcome_comes clean x = elim x [ ]
  outcome_comes (in_chips n) x = elim x [ ]
  outcome_comes (in_card j n) x = elim x [ ]
  outcome_comes (counted v w y z o) x = elim x [ ]
  outcome_comes (refused_card n j) x = elim x [ ]

  pub reading_comes : (a : Answer) → Readings ns a → Comes a
  unfolding answer_in
  reading_comes clean was_clean = record { fit = (omega arith, omega arith); back = refl; refusal = λ z. absurd (z refl); bit = refl }
  reading_comes (in_chips n) (was_in_chips h) = record {
    refusal = λ z. absurd (z refl);
    bit = refl;
    fit = (omega arith, omega (arith, h));
    back = ap in_chips (let q : n % 16 ≡ n = omega (arith, h) in q);
  }
  reading_comes (in_card j n) (was_in_card h i) = record {
    refusal = λ z. absurd (z refl);
    bit = refl;
    fit = (omega arith, omega (arith, h, i));
    back =
        let p : (n + 16 * j) / 16 ≡ j = omega (arith, i) in
        let q : (n + 16 * j) % 16 ≡ n = omega (arith, i) in
        simp (p, q);
  }
  reading_comes (refused_card n j) (was_several e h) = record {
    refusal = λ z. refl;
    bit = simp e;
    fit = (omega (arith, e), omega (arith, h));
    back = let p : 16 * j / 16 ≡ j = omega arith in simp (e, p);
  }
  reading_comes (refused n) (not_read i) = number_comes n (number_of ns some n i)
  reading_comes done x = elim x [ ]
  reading_comes (counted v w y z o) x = elim x [ ]

mark_comes : (c : MarkCall) (a : Answer) → Outcomes (mark_numbers c) a → Comes a
mark_comes (PlaceChip p) a w = outcome_comes (6 ∷ 7 ∷ 8 ∷ []) refl a w
mark_comes (LiftChip p) a w = outcome_comes (6 ∷ 7 ∷ 9 ∷ []) refl a w
mark_comes (PlaceCard j) a w = outcome_comes (6 ∷ 7 ∷ 8 ∷ []) refl a w
mark_comes LiftCard a w = outcome_comes (6 ∷ 7 ∷ 9 ∷ []) refl a w

pub runs_come : (m : Marks) (c : Command) (bank out win : List ℕ) (a : Answer) (m' : Marks) (bank' out' win' : List ℕ)
    → Runs m c bank out win a m' bank' out' win' → Comes a
runs_come m (Get k) bank out win a m' bank' out' win' w =
    reading_comes (2 ∷ 4 ∷ 5 ∷ 6 ∷ 7 ∷ 10 ∷ []) refl a (get_gives bank k m out win a bank' out' win' w.0)
runs_come m (Patrol k) bank out win a m' bank' out' win' w = reading_comes (4 ∷ 5 ∷ 6 ∷ 7 ∷ 10 ∷ []) refl a (patrol_gives bank k m win a bank' win' w.0)
runs_come m (Mark c) bank out win a m' bank' out' win' w = mark_comes c a (mark_gives m c a m' w.0)
runs_come m Unknown bank out win a m' bank' out' win' w = absurd w

pub get_fits : (bank : List ℕ) (k : ℕ) (m : Marks) (out win : List ℕ) (a : Answer) (bank' out' win' : List ℕ) → GetDone bank k m out win a bank' out' win'
    → ToldFits a
get_fits bank k m out win a bank' out' win' w = (runs_come m (Get k) bank out win a m bank' out' win' (w, refl)).fit

pub patrol_fits : (bank : List ℕ) (k : ℕ) (m : Marks) (win : List ℕ) (a : Answer) (bank' win' : List ℕ) → PatrolDone bank k m win a bank' win' → ToldFits a
patrol_fits bank k m win a bank' win' w = (runs_come m (Patrol k) bank [] win a m bank' [] win' (w, refl, refl)).fit

pub number_fits : (r : Refusal) → 16 + refusal_number r < 256
number_fits BlockLength = omega arith
number_fits OutputLength = omega arith
number_fits RecordLength = omega arith
number_fits BankLength = omega arith
number_fits BlockNumber = omega arith
number_fits MarkRange = omega arith
number_fits EqualMarks = omega arith
number_fits TooManyMarks = omega arith
number_fits NotMarked = omega arith
number_fits NoLawfulBlock = omega arith
number_fits RegisterAddress = omega arith
number_fits ReadOnlyRegister = omega arith
number_fits UnknownCommand = omega arith
number_fits SlipCutOff = omega arith
number_fits NoSuchSlip = omega arith
number_fits NoRoom = omega arith

pub answers_back : AnswersBack
answers_back m c bank out win a m' bank' out' win' w = (runs_come m c bank out win a m' bank' out' win' w).back

-- ---- a card comes with 11 alone
abbrev pub Eleven : Answer → Type 0
Eleven done = Unit {0}
Eleven clean = Unit {0}
Eleven (in_chips n) = Unit {0}
Eleven (in_card j n) = Unit {0}
Eleven (counted v w x y z) = Unit {0}
Eleven (refused n) = Unit {0}
Eleven (refused_card n j) = n ≡ 11

reads_eleven : (m : Marks) (b out : List ℕ) (a : Answer) (x : List ℕ) → ReadsUnder m b out a x → Eleven a
reads_eleven m b out done x w = tt
reads_eleven m b out clean x w = tt
reads_eleven m b out (in_chips n) x w = tt
reads_eleven m b out (in_card j n) x w = tt
reads_eleven m b out (counted u v y z o) x w = tt
reads_eleven m b out (refused n) x w = tt
reads_eleven m b out (refused_card n j) x w = w.0

by_eleven : (n : ℕ) (a : Answer) (U D : Type 0) → (D → Eleven a) → By n a U D → Eleven a
by_eleven zero a U D f d = f d
by_eleven (suc n) a U D f (e, u) = subst Eleven (sym e) tt

pub runs_eleven : (m : Marks) (c : Command) (bank out win : List ℕ) (a : Answer) (m' : Marks) (bank' out' win' : List ℕ)
    → Runs m c bank out win a m' bank' out' win' → Eleven a
unfolding MarkDone
runs_eleven m (Get k) bank out win a m' bank' out' win' (w, e) =
    by_eleven (get_cause (length bank) k m (length out)) a _ _ (reads_eleven m (block bank k) out a out') w.output
runs_eleven m (Patrol k) bank out win a m' bank' out' win' (w, e, o) =
    by_eleven (patrol_cause (length bank) k m) a _ _ (λ d. reads_eleven m (block bank k) (block bank k) a d.0 d.1) w.mended
runs_eleven m (Mark c) bank out win a m' bank' out' win' (w, e, o, q) = by_eleven (mark_cause m c) a _ _ (λ d. subst Eleven (sym d.0) tt) w
runs_eleven m Unknown bank out win a m' bank' out' win' w = absurd w

-- ---- a refused command
unread : (m : Marks) (b out : List ℕ) (a : Answer) (x : List ℕ) → number a ≢ 0 → ReadsUnder m b out a x → x ≡ out
unread m b out clean x n h = absurd (n refl)
unread m b out (in_chips i) x n h = absurd (n refl)
unread m b out (in_card j i) x n h = absurd (n refl)
unread m b out (refused i) x n h = h.2
unread m b out (refused_card i j) x n h = h.3
unread m b out done x n h = absurd h
unread m b out (counted v w y z o) x n h = absurd h

get_unread : (bank : List ℕ) (k : ℕ) (m : Marks) (out win : List ℕ) (a : Answer) (bank' out' win' : List ℕ) → GetDone bank k m out win a bank' out' win'
    → number a ≢ 0 → out' ≡ out
get_unread bank k m out win a bank' out' win' w n = go (get_cause (length bank) k m (length out)) w.output
  where
    go : (c : ℕ) → By c a (out' ≡ out) (ReadsUnder m (block bank k) out a out') → out' ≡ out
    go zero d = unread m (block bank k) out a out' n d
    go (suc c) (e, u) = u

mark_kept : (m : Marks) (c : MarkCall) (a : Answer) (m' : Marks) → MarkDone m c a m' → number a ≢ 0 → m' ≡ m
mark_kept m c a m' w n = go (mark_cause m c) refl
  where
    go : (i : ℕ) → mark_cause m c ≡ i → m' ≡ m
    go zero e = absurd (n (ap number (mark_done m c a m' e w).0))
    go (suc i) e = (mark_refused m c a m' i e w).1

pub refused_keeps : RefusedKeeps
refused_keeps m (Get k) bank out win a m' bank' out' win' (w, e) n =
    (e, w.kept, get_unread bank k m out win a bank' out' win' w n, w.window ∙ unread_window a win (block bank k) out' n)
refused_keeps m (Patrol k) bank out win a m' bank' out' win' (w, e, o) n =
    (e, patrol_unread bank k m win a bank' win' w n, o, w.window ∙ unread_window a win (block bank k) (block bank' k) n)
refused_keeps m (Mark c) bank out win a m' bank' out' win' (w, b, o, q) n = (mark_kept m c a m' w n, b, o, q)
refused_keeps m Unknown bank out win a m' bank' out' win' w n = absurd w
