-- The calls' contracts, by their causes: refused, so nothing changed; or done on block k.
--
--   part           block k as the code takes it; part_is, part_length, back_is: what it is, how long, and the bank with it put back
--   put_back       a block put back as it was; block_back: a block that was put there
--   ..-refused     a refused call
--   ..-done        a call on block k, from what the call on that block says
--   patrol_unread  a patrol that corrects nothing leaves the bank as it was
--   no_blocks, one_more, report_done   what the report's loop has counted; total_le, class_below: within its limits
--   looked         block k, looked at
use mathlib.Core.Logic.{◌≢◌, ◌⊎◌, inl, inr}
use mathlib.Core.Path.{◌≡◌, refl, sym, ap, ap₂, ◌∙◌, subst}
use mathlib.Core.Bool.{true, false}
use mathlib.Core.List.{List, [], ◌++◌}
use Prim.Native.Nat.{ℕ, zero, suc, ◌+◌, ◌-◌, ◌*◌, ◌<◌, ◌≤◌}
use native.Mathlib.Omega.{arith}
use lib.Dec.{eqb}
use lib.ListN.{length, take, drop, replicate, get_or, set, take-append-drop, length-take, length-drop, length-set, get_or-replicate}
use lib.Seq.{drop-drop, take_at, drop_at, length-take-le, get_or-set_same, get_or-set_other}
use borrow.Author.Tests.{eq-eqb, ne_eqb}
use Rattle.base.specs.Base.{tally}
use Rattle.std.proofs.lemmas.Bool.{cases_eq}
use Rattle.base.proofs.Tally.{tally_ext, count_some, count_same, at_most}
use Rattle.answer.specs.Answer.{Answer, done, clean, in_chips, in_card, counted, refused, refused_card, number, By, refusal_number}
use Rattle.answer.specs.declared.Refusal.{Refusal}
use Rattle.answer.specs.declared.Totals.{Totals}
use Rattle.std.specs.declared.result.Result.{Result}
use Rattle.std.specs.Prelude.{Ok, Err, IsErrAnd}
use Rattle.answer.proofs.Causes.{by_refused, by_done, by_accepted, by_map}
use Rattle.marks.specs.Marks.{marks_cause}
use Rattle.marks.specs.declared.Marks.{Marks}
use Rattle.code.specs.Block.{OneMember, Stored}
use Rattle.code.specs.Labels.{built_in}
use Rattle.reading.specs.Reading.{ReadsUnder}
use Rattle.store.specs.Store.{store_cause, StoreDone}
use Rattle.window.specs.Window.{added}
use Rattle.window.proofs.Runs.{added_none}
use Rattle.block.specs.Read.{read_cause, mend_cause, changed_at, NotedDone, MendDone, LookDone}
use Rattle.block.proofs.Causes.{mend_marks}
use Rattle.bank.specs.Calls.{blocks, block, with_block, clear_cause, put_cause, get_cause, patrol_cause, report_cause, report_answer}
use Rattle.bank.specs.Calls.{ClearDone, PutDone, GetDone, PatrolDone, ReportDone, class, how_many, CountsEach}
use Rattle.bank.specs.Count.{five, CountedBlocks}
use Rattle.bank.proofs.Each.{extended, extended_at, extended_below, extended_reads}

-- ---- block k, as the code takes it: from 45 · k up to 45 · k + 45
abbrev pub part : List ℕ → ℕ → List ℕ
part bank k = take (45 * k + 45 - 45 * k) (drop (45 * k) bank)

pub part_is : (bank : List ℕ) (k : ℕ) → part bank k ≡ block bank k
part_is bank k = ap (λ (n : ℕ). take n (drop (45 * k) bank)) (let e : 45 * k + 45 - 45 * k ≡ 45 = omega arith in e)

pub part_length : (bank : List ℕ) (k : ℕ) → 45 * k + 45 ≤ length bank → length (part bank k) ≡ 45
part_length bank k h = rw (length-take, length-drop) (omega arith)

pub back_is : (bank : List ℕ) (k : ℕ) (x : List ℕ) → take (45 * k) bank ++ (x ++ drop (45 * k + 45 - 45 * k) (drop (45 * k) bank)) ≡ with_block bank k x
back_is bank k x =
    ap (λ (n : ℕ). take (45 * k) bank ++ (x ++ drop n (drop (45 * k) bank))) (let e : 45 * k + 45 - 45 * k ≡ 45 = omega arith in e)
    ∙ ap (λ (l : List ℕ). take (45 * k) bank ++ (x ++ l)) (drop-drop 45 (45 * k) bank)

pub put_back : (bank : List ℕ) (k : ℕ) → with_block bank k (block bank k) ≡ bank
put_back bank k =
    ap (λ (l : List ℕ). take (45 * k) bank ++ (take 45 (drop (45 * k) bank) ++ l)) (sym (drop-drop 45 (45 * k) bank))
    ∙ ap (λ (l : List ℕ). take (45 * k) bank ++ l) (take-append-drop 45 (drop (45 * k) bank)) ∙ take-append-drop (45 * k) bank

pub block_back : (bank : List ℕ) (k : ℕ) (x : List ℕ) → 45 * k ≤ length bank → length x ≡ 45 → block (with_block bank k x) k ≡ x
block_back bank k x h l =
    ap (take 45) (drop_at (take (45 * k) bank) (x ++ drop (45 * k + 45) bank) (45 * k) (length-take-le (45 * k) bank h))
    ∙ take_at x (drop (45 * k + 45) bank) 45 l

-- ---- refused
pub clear_refused : (bank : List ℕ) (c : ℕ) → clear_cause (length bank) ≡ c → c ≢ 0 → ClearDone bank (refused c) bank
unfolding ClearDone
clear_refused bank c e h = by_refused _ c (bank ≡ bank) ((refused c ≡ done) × (bank ≡ replicate (length bank) 0)) e h refl

pub put_refused : (bank : List ℕ) (k : ℕ) (rec : List ℕ) (c : ℕ) → put_cause (length bank) k (length rec) ≡ c → c ≢ 0 → PutDone bank k rec (refused c) bank rec
put_refused bank k rec c e h = record { lent = refl; put = by_refused _ c (bank ≡ bank) _ e h refl }

pub get_refused : (bank : List ℕ) (k : ℕ) (m : Marks) (out w : List ℕ) (c : ℕ) → get_cause (length bank) k m (length out) ≡ c → c ≢ 0
    → GetDone bank k m out w (refused c) bank out w
get_refused bank k m out w c e h = record { kept = refl; output = by_refused _ c (out ≡ out) _ e h refl; window = sym (added_none w) }

pub patrol_refused : (bank : List ℕ) (k : ℕ) (m : Marks) (w : List ℕ) (c : ℕ) → patrol_cause (length bank) k m ≡ c → c ≢ 0
    → PatrolDone bank k m w (refused c) bank w
patrol_refused bank k m w c e h = record { mended = by_refused _ c (bank ≡ bank) _ e h refl; window = sym (added_none w) }

pub report_refused : (bank : List ℕ) (m : Marks) (c : ℕ) → report_cause (length bank) m ≡ c → c ≢ 0 → ReportDone bank m (refused c) bank
report_refused bank m c e h = record { kept = refl; answer = by_refused _ c (Unit {0}) _ e h tt }

-- what a check refuses, a report hands on
pub report_said : (r : Result Totals Refusal) (e : Refusal) → IsErrAnd r (λ (x : Refusal). x ≡ e) → report_answer r ≡ refused (refusal_number e)
report_said (Ok t) e h = absurd h
report_said (Err x) e h = ap (λ (y : Refusal). refused (refusal_number y)) h

-- ---- done
pub clear_done : (bank bank' : List ℕ) → clear_cause (length bank) ≡ 0 → bank' ≡ replicate (length bank) 0 → ClearDone bank done bank'
unfolding ClearDone
clear_done bank bank' e h = by_done _ done (bank' ≡ bank) ((done ≡ done) × (bank' ≡ replicate (length bank) 0)) e (refl, h)

-- on block k: the call on that block has the same cause
module _ (bank : List ℕ) (k : ℕ) (b : List ℕ) (is : b ≡ block bank k) where
  pub put_done : (rec : List ℕ) (a : Answer) (x bank' rec' : List ℕ) → put_cause (length bank) k (length rec) ≡ store_cause rec b → StoreDone rec b a rec' x
      → bank' ≡ with_block bank k x → PutDone bank k rec a bank' rec'
  put_done rec a x bank' rec' e w q = record {
    lent = w.record_kept;
    put = subst (λ (n : ℕ). By n a (bank' ≡ bank) ((a ≡ done) × ((y : List ℕ) × OneMember (Stored built_in rec) y × (bank' ≡ with_block bank k y)))) (sym e)
        (by_map (store_cause rec b) a (x ≡ b) ((a ≡ done) × OneMember (Stored built_in rec) x) (bank' ≡ bank) _
        (λ u. q ∙ ap (with_block bank k) (u ∙ is) ∙ put_back bank k) (λ z d. (d.0, (x, d.1, q))) w.by_cause);
  }

  pub get_done : (m : Marks) (out w : List ℕ) (a : Answer) (b' out' w' : List ℕ)
      → get_cause (length bank) k m (length out) ≡ read_cause (length b) m (length out) → NotedDone b m out w a b' out' w'
      → GetDone bank k m out w a bank out' w'
  get_done m out w a b' out' w' e v = record {
    kept = refl;
    output = subst (λ (n : ℕ). By n a (out' ≡ out) (ReadsUnder m (block bank k) out a out')) (sym e)
        (by_map (read_cause (length b) m (length out)) a (out' ≡ out) (ReadsUnder m b out a out') (out' ≡ out) _
        (λ u. u) (λ z d. subst (λ (l : List ℕ). ReadsUnder m l out a out') is d) v.read.output);
    window = v.window ∙ ap (λ (l : List ℕ). added w (changed_at a l out')) is;
  }

  pub patrol_done : (m : Marks) (w : List ℕ) (a : Answer) (x bank' w' : List ℕ) → patrol_cause (length bank) k m ≡ mend_cause (length b) m
      → MendDone b m w a x w' → bank' ≡ with_block bank k x → 45 * k ≤ length bank → length x ≡ 45 → PatrolDone bank k m w a bank' w'
  patrol_done m w a x bank' w' e v q h l = record {
    mended = subst (λ (n : ℕ). By n a (bank' ≡ bank) ((y : List ℕ) × ReadsUnder m (block bank k) (block bank k) a y × (bank' ≡ with_block bank k y))) (sym e)
        (by_map (mend_cause (length b) m) a (x ≡ b) (ReadsUnder m b b a x) (bank' ≡ bank) _
        (λ u. q ∙ ap (with_block bank k) (u ∙ is) ∙ put_back bank k) (λ z d. (x, subst (λ (l : List ℕ). ReadsUnder m l l a x) is d, q)) v.block);
    window =
        v.window ∙ ap₂ (λ (y z : List ℕ). added w (changed_at a y z)) is (sym (ap (λ (y : List ℕ). block y k) q ∙ block_back bank k x h l));
  }

-- a patrol that corrects nothing leaves the bank as it was
pub patrol_unread : (bank : List ℕ) (k : ℕ) (m : Marks) (w : List ℕ) (a : Answer) (bank' w' : List ℕ) → PatrolDone bank k m w a bank' w' → number a ≢ 0
    → bank' ≡ bank
patrol_unread bank k m v a bank' w' w n = go (patrol_cause (length bank) k m) w.mended
  where
    same_block : (a : Answer) (x : List ℕ) → number a ≢ 0 → ReadsUnder m (block bank k) (block bank k) a x → x ≡ block bank k
    same_block clean x n h = absurd (n refl)
    same_block (in_chips i) x n h = absurd (n refl)
    same_block (in_card j i) x n h = absurd (n refl)
    same_block (refused i) x n h = h.2
    same_block (refused_card i j) x n h = h.3
    same_block done x n h = absurd h
    same_block (counted v w x y z) u n h = absurd h

    go : (c : ℕ) → By c a (bank' ≡ bank) ((x : List ℕ) × ReadsUnder m (block bank k) (block bank k) a x × (bank' ≡ with_block bank k x)) → bank' ≡ bank
    go zero (x, r, q) = q ∙ ap (with_block bank k) (same_block a x n r) ∙ put_back bank k
    go (suc c) (e, u) = u

-- ---- report
pub report_done : (bank : List ℕ) (m : Marks) (t : Totals) → report_cause (length bank) m ≡ 0 → CountedBlocks bank m (blocks bank) (five t)
    → ReportDone bank m (report_answer (Ok t)) bank
report_done bank m t e w = record {
  kept = refl;
  answer = by_done _ (report_answer (Ok t)) (Unit {0}) (CountsEach (block bank) (blocks bank) m (report_answer (Ok t))) e (
    w.answers,
    w.reads,
    simp (
      w.each 0 (omega arith),
      w.each 1 (omega arith),
      w.each 2 (omega arith),
      w.each 3 (omega arith),
      w.each 4 (omega arith),
    ),
  );
}

pub no_blocks : (bank : List ℕ) (m : Marks) → CountedBlocks bank m 0 (replicate 5 0)
unfolding tally
no_blocks bank m = record { answers = λ k. done; reads = λ k h. absurd (omega arith); five = refl; each = zeros }
  where
    zeros : (i : ℕ) → i < 5 → get_or {A = ℕ} (replicate 5 0) i 0 ≡ 0
    zeros i h = get_or-replicate 5 i 0 0 h

-- a block that reads so is counted in one of the five places
pub class_below : (m : Marks) (b out : List ℕ) (a : Answer) (x : List ℕ) → ReadsUnder m b out a x → class a < 5
class_below m b out clean x w = omega arith
class_below m b out (in_chips n) x w = omega arith
class_below m b out (in_card j n) x w = omega arith
class_below m b out (refused n) x w = omega arith
class_below m b out (refused_card n j) x w = omega arith
class_below m b out done x w = absurd w
class_below m b out (counted u v y z o) x w = absurd w

module _ (bank : List ℕ) (m : Marks) (n : ℕ) (t : List ℕ) (w : CountedBlocks bank m n t) where
  -- no total of n blocks is above n
  pub total_le : (i : ℕ) → i < 5 → get_or t i 0 ≤ n
  total_le i h = at_most n (λ k. eqb (class (w.answers k)) i) (get_or t i 0) (w.each i h)

  pub one_more : (a : Answer) (x : List ℕ) (i : ℕ) (t' : List ℕ) → ReadsUnder m (block bank n) [] a x → i ≡ class a → t' ≡ set t i (get_or t i 0 + 1)
      → CountedBlocks bank m (n + 1) t'
  unfolding tally
  one_more a x i t' r e q = record {
    answers = extended w.answers n a;
    reads = extended_reads (block bank) m w.answers n a w.reads (x, r);
    five = ap length q ∙ length-set t i (get_or t i 0 + 1) ∙ w.five;
    each = λ j h. each_total j (cases_eq j i) h;
  }
    where
      -- below n they are counted as before
      before : (j : ℕ) → how_many (extended w.answers n a) n j ≡ how_many w.answers n j
      before j = tally_ext n (λ k. eqb (class (extended w.answers n a k)) j) (λ k. eqb (class (w.answers k)) j)
          (λ k h. ap (λ (y : Answer). eqb (class y) j) (extended_below w.answers n a k h))

      inside : i < 5
      inside = rw e (class_below m (block bank n) [] a x r)

      each_total : (j : ℕ) → (j ≡ i) ⊎ (j ≢ i) → j < 5 → get_or t' j 0 ≡ how_many (extended w.answers n a) (n + 1) j
      each_total j (inl z) h =
          count_some (λ k. eqb (class (extended w.answers n a k)) j) n (get_or t j 0) (get_or t' j 0) true (w.each j h ∙ sym (before j))
          (sym (ap (λ (y : Answer). eqb (class y) j) (extended_at w.answers n a) ∙ eq-eqb (class a) j (sym (z ∙ e)))) refl
          (ap (λ (l : List ℕ). get_or l j 0) q ∙ rw z (get_or-set_same t i (get_or t i 0 + 1) 0 (omega (arith, w.five, inside))))
      each_total j (inr z) h =
          count_same (λ k. eqb (class (extended w.answers n a k)) j) n (get_or t j 0) (get_or t' j 0) false (w.each j h ∙ sym (before j))
          (sym (ap (λ (y : Answer). eqb (class y) j) (extended_at w.answers n a) ∙ ne_eqb (class a) j (λ y. z (sym (e ∙ y))))) refl
          (ap (λ (l : List ℕ). get_or l j 0) q ∙ get_or-set_other t i j (get_or t i 0 + 1) 0 z)

-- block k, looked at in a bank that has it, under lawful marks
pub looked : (bank : List ℕ) (m : Marks) (k : ℕ) (a : Answer) (b' : List ℕ) → 45 * k + 45 ≤ length bank → marks_cause m ≡ 0 → LookDone (part bank k) m a b'
    → (x : List ℕ) × ReadsUnder m (block bank k) [] a x
looked bank m k a b' h e w =
    let d = by_accepted _ a (Unit {0}) ((x : List ℕ) × ReadsUnder m (part bank k) [] a x) (mend_marks _ m (part_length bank k h) ∙ e) w.answer in
    (d.0, subst (λ (l : List ℕ). ReadsUnder m l [] a d.0) (part_is bank k) d.1)
