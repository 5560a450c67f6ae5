-- The causes of refusal, as the code looks for them: the lengths, then the place in the bank, then the marks.
--
--   size-..        a bank's length: what is refused, and what is not
--   place-..       a block number
--   put_3, get_2   a wrong length is given first
--   ..-is          where it is right, the place's cause is given, and then that of the marks
--   within         where the place is not refused, block k lies in the bank
use mathlib.Core.Logic.{◌≢◌}
use mathlib.Core.Path.{◌≡◌, refl, sym, ap, ◌∙◌}
use mathlib.Core.Bool.{Bool, ◌||◌, not}
use mathlib.Core.List.{List, [], ◌∷◌, ◌++◌}
use Prim.Native.Nat.{ℕ, ◌+◌, ◌*◌, ◌/◌, ◌%◌, ◌<◌, ◌≤◌}
use native.Mathlib.Omega.{arith}
use lib.Dec.{eqb, ltb}
use lib.ListN.{length}
use borrow.Author.Tests.{eq-eqb, ne_eqb, le-leb, lt-leb, le-ltb, lt-ltb, eqb-true, eqb-false, leb-false, ltb-false, not-false}
use Rattle.std.proofs.lemmas.Bool.{or_parts}
use Rattle.answer.specs.Cause.{cause, lowest}
use Rattle.answer.proofs.Causes.{first_holds, none_holds, or_else, lowest_append, else_first}
use Rattle.marks.specs.Marks.{marks_causes, marks_cause}
use Rattle.marks.specs.declared.Marks.{Marks}
use Rattle.store.specs.Store.{store_cause}
use Rattle.bank.specs.Calls.{bad_bank, past, size_causes, place_causes, clear_cause, put_cause, get_cause, patrol_cause, report_cause}

-- ---- the length of a bank
pub size_empty : (n : ℕ) → n ≡ 0 → 4 ≡ lowest (size_causes n)
size_empty n e = rw (eq-eqb n 0 e) refl

pub size_odd : (n : ℕ) → n ≢ 0 → n % 45 ≢ 0 → 4 ≡ lowest (size_causes n)
size_odd n z e = rw (ne_eqb n 0 z, ne_eqb (n % 45) 0 e) refl

pub size_large : (n : ℕ) → n ≢ 0 → n % 45 ≡ 0 → 46080 < n → 4 ≡ lowest (size_causes n)
size_large n z e h = rw (ne_eqb n 0 z, eq-eqb (n % 45) 0 e, lt-ltb 46080 n h) refl

pub size_right : (n : ℕ) → n ≢ 0 → n % 45 ≡ 0 → n ≤ 46080 → 0 ≡ lowest (size_causes n)
size_right n z e h = rw (ne_eqb n 0 z, eq-eqb (n % 45) 0 e, le-ltb 46080 n h) refl

pub sized : (n : ℕ) → lowest (size_causes n) ≡ 0 → (n % 45 ≡ 0) × (n ≤ 46080) × (n ≢ 0)
sized n e =
    let h = (none_holds 3 (bad_bank n) [] e).0 in
    let w = or_parts (eqb n 0) (not (eqb (n % 45) 0) || ltb 46080 n) h in
    let v = or_parts (not (eqb (n % 45) 0)) (ltb 46080 n) w.1 in
    (eqb-true (n % 45) 0 (not-false (eqb (n % 45) 0) v.0), ltb-false 46080 n v.1, eqb-false n 0 w.0)

-- ---- a block's place
place_is : (n k : ℕ) → lowest (place_causes n k) ≡ or_else (lowest (size_causes n)) (lowest (cause 5 (past n k) ∷ []))
place_is n k = lowest_append (size_causes n) (cause 5 (past n k) ∷ []) tt

pub place_size : (n k c : ℕ) → c ≡ lowest (size_causes n) → c ≢ 0 → c ≡ lowest (place_causes n k)
place_size n k c e h = sym (place_is n k ∙ ap (λ (x : ℕ). or_else x (lowest (cause 5 (past n k) ∷ []))) (sym e) ∙ else_first c _ h)

pub place_past : (n k c : ℕ) → c ≡ lowest (size_causes n) → c ≡ 0 → n / 45 ≤ k → 5 ≡ lowest (place_causes n k)
place_past n k c e z h = sym (place_is n k ∙ ap (λ (x : ℕ). or_else x (lowest (cause 5 (past n k) ∷ []))) (sym e ∙ z) ∙ rw (le-leb (n / 45) k h) refl)

pub place_right : (n k c : ℕ) → c ≡ lowest (size_causes n) → c ≡ 0 → k < n / 45 → 0 ≡ lowest (place_causes n k)
place_right n k c e z h = sym (place_is n k ∙ ap (λ (x : ℕ). or_else x (lowest (cause 5 (past n k) ∷ []))) (sym e ∙ z) ∙ rw (lt-leb (n / 45) k h) refl)

pub within : (n k : ℕ) → lowest (place_causes n k) ≡ 0 → (45 * k + 45 ≤ n) × (n ≤ 46080)
within n k e =
    let h = none_holds 3 (bad_bank n) (cause 5 (past n k) ∷ []) e in
    let s = sized n (ap (λ (t : Bool). lowest (cause 4 t ∷ [])) h.0) in
    let i = leb-false (n / 45) k (none_holds 4 (past n k) [] h.1).0 in
    (omega (arith, i), s.1)

-- ---- the calls
pub clear_is : (n c : ℕ) → c ≡ lowest (size_causes n) → clear_cause n ≡ c
unfolding clear_cause
clear_is n c e = sym e

pub put_3 : (n k r : ℕ) → r ≢ 34 → put_cause n k r ≡ 3
unfolding put_cause
put_3 n k r h = rw (ne_eqb r 34 h) (first_holds 3 (place_causes n k) tt)

pub put_is : (n k r : ℕ) → r ≡ 34 → put_cause n k r ≡ lowest (place_causes n k)
unfolding put_cause
put_is n k r e = rw (eq-eqb r 34 e) refl

pub patrol_is : (n k : ℕ) (m : Marks) → patrol_cause n k m ≡ or_else (lowest (place_causes n k)) (marks_cause m)
unfolding patrol_cause marks_cause
patrol_is n k m = lowest_append (place_causes n k) (marks_causes m) tt

pub get_2 : (n k : ℕ) (m : Marks) (o : ℕ) → o ≢ 45 → get_cause n k m o ≡ 2
unfolding get_cause
get_2 n k m o h = rw (ne_eqb o 45 h) (first_holds 2 (place_causes n k ++ marks_causes m) tt)

pub get_is : (n k : ℕ) (m : Marks) (o : ℕ) → o ≡ 45 → get_cause n k m o ≡ patrol_cause n k m
unfolding get_cause patrol_cause
get_is n k m o e = rw (eq-eqb o 45 e) refl

pub report_is : (n : ℕ) (m : Marks) → report_cause n m ≡ or_else (lowest (size_causes n)) (marks_cause m)
unfolding report_cause marks_cause
report_is n m = lowest_append (size_causes n) (marks_causes m) tt

-- the first cause c, found by the code, and the marks'
pub by_first : (x c d : ℕ) → c ≡ x → c ≢ 0 → or_else x d ≡ c
by_first x c d e h = ap (λ (y : ℕ). or_else y d) (sym e) ∙ else_first c d h

pub by_second : (x c d : ℕ) → c ≡ x → c ≡ 0 → or_else x d ≡ d
by_second x c d e z = ap (λ (y : ℕ). or_else y d) (sym e ∙ z)

-- ---- storing into block k
pub store_none : (rec out : List ℕ) → length out ≡ 45 → length rec ≡ 34 → store_cause rec out ≡ 0
unfolding store_cause
store_none rec out lo lr = rw (eq-eqb (length out) 45 lo, eq-eqb (length rec) 34 lr) refl
