-- Runs of slips, written one after the other and read back.
--
--   run_bytes, run_back, run_only, run_fits   the facts that specs/Runs.antt states
use Prim.Native.Nat.{ℕ, ◌+◌, ◌-◌, ◌≤◌}
use mathlib.Core.Path.{◌≡◌, refl, sym, ap, ap₂, ◌∙◌, subst}
use mathlib.Core.List.{List, [], ◌∷◌, ◌++◌, append_assoc}
use native.Mathlib.Omega.{arith}
use lib.ListN.{length, take, drop, length-append, take-append-drop}
use lib.Seq.{take_at, drop_at, length-take-le, drop-drop}
use Rattle.answer.specs.Answer.{Answer}
use Rattle.reading.specs.Reading.{reading_answer}
use Rattle.reading.specs.Reading.{Reading}
use Rattle.slip.specs.Slip.{slip}
use Rattle.slip.specs.Calls.{from_to, WriteSlipDone, ReadSlipDone}
use Rattle.slip.specs.Runs.{Note, run, EachHasSlip, WroteRun, ReadRun, RunBack, RunOnly, RunBytes, RunFits}
use Rattle.slip.specs.Found.{Found}
use Rattle.slip.specs.Found.{Slip, Refused as RefusedAt}
use Rattle.slip.proofs.Decided.{reading_of, answer_of, read_decided}
use Rattle.slip.proofs.Plain.{put_long, stands}

-- ---- the bytes that a run leaves
-- b put at i, and then c behind it, are b ++ c put at i
joined : (s : List ℕ) (i q n : ℕ) (b c : List ℕ) → q ≡ i + length b → n ≡ q + length c → n ≤ length s
    → take q (take i s ++ (b ++ drop q s)) ++ (c ++ drop n (take i s ++ (b ++ drop q s))) ≡ take i s ++ ((b ++ c) ++ drop n s)
joined s i q n b c e f l =
    ap₂ (λ (x y : List ℕ). x ++ (c ++ y)) before after ∙ append_assoc (take i s) b (c ++ drop n s)
    ∙ ap (λ (x : List ℕ). take i s ++ x) (sym (append_assoc b c (drop n s)))
  where
    far : length (take i s ++ b) ≡ q
    far = length-append (take i s) b ∙ ap (λ (x : ℕ). x + length b) (length-take-le i s (omega (arith, e, f, l))) ∙ sym e

    split : take i s ++ (b ++ drop q s) ≡ (take i s ++ b) ++ drop q s
    split = sym (append_assoc (take i s) b (drop q s))

    before : take q (take i s ++ (b ++ drop q s)) ≡ take i s ++ b
    before = ap (take q) split ∙ take_at (take i s ++ b) (drop q s) q far

    after : drop n (take i s ++ (b ++ drop q s)) ≡ drop n s
    after =
        ap (λ (x : ℕ). drop x (take i s ++ (b ++ drop q s))) (let z : n ≡ q + (n - q) = omega (arith, f) in z)
        ∙ sym (drop-drop (n - q) q (take i s ++ (b ++ drop q s)))
        ∙ ap (drop (n - q)) (ap (drop q) split ∙ drop_at (take i s ++ b) (drop q s) q far)
        ∙ drop-drop (n - q) q s ∙ ap (λ (x : ℕ). drop x s) (let z : q + (n - q) ≡ n = omega (arith, f) in z)

pub run_bytes : RunBytes
unfolding WriteSlipDone
run_bytes [] s i n s' l (e, b) = (omega (arith, e), omega (arith, e, l), b ∙ sym (take-append-drop i s) ∙ ap (λ (x : ℕ). take i s ++ drop x s) (sym e))
run_bytes (o ∷ os) s i n s' l (q, t, (h, e, m, b), w) =
    let a = slip o.block o.answer in
    let long : length t ≡ length s = ap length b ∙ put_long s i q a e m in
    let r = run_bytes os t q n s' (omega (arith, long, m)) w in
    let fits : n ≤ length s = omega (arith, r.1, long) in (
      omega (arith, r.0, e, length-append a (run os)),
      fits,
      r.2 ∙ ap (λ (x : List ℕ). take q x ++ (run os ++ drop n x)) b ∙ joined s i q n a (run os) e r.0 fits,
    )

-- ---- bytes that are a run are read so
-- b stands at i, and what is behind it stands at the offset after it
module _ (p b d c : List ℕ) (i : ℕ) (l : length p ≡ i) where
  stands_at : from_to (p ++ ((b ++ d) ++ c)) i (i + length b) ≡ b
  stands_at =
      ap (take (i + length b - i)) (drop_at p ((b ++ d) ++ c) i l ∙ append_assoc b d c) ∙ take_at b (d ++ c) (i + length b - i) (omega arith)

  then : p ++ ((b ++ d) ++ c) ≡ (p ++ b) ++ (d ++ c)
  then = ap (λ (x : List ℕ). p ++ x) (append_assoc b d c) ∙ sym (append_assoc p b (d ++ c))

  after : length (p ++ b) ≡ i + length b
  after = length-append p b ∙ ap (λ (x : ℕ). x + length b) l

run_reads : (os : List Note) → EachHasSlip os → (p c : List ℕ) (i : ℕ) → length p ≡ i → ReadRun os (p ++ (run os ++ c)) i (i + length (run os))
run_reads [] h p c i l = omega arith
run_reads (o ∷ os) (h, hs) p c i l =
    let b = slip o.block o.answer in
    let s = p ++ ((b ++ run os) ++ c) in
    let q = i + length b in
    let e : q + length (run os) ≡ i + length (b ++ run os) = omega (arith, length-append b (run os)) in
    let rest = run_reads os hs (p ++ b) c q (after p b (run os) c i l) in (
      q,
      reading_of o.answer,
      sym (answer_of o.answer h.1),
      stands s i o.block o.answer q h refl (stands_at p b (run os) c i l),
      subst (ReadRun os s q) e (subst (λ (x : List ℕ). ReadRun os x q (q + length (run os))) (sym (then p b (run os) c i l)) rest),
    )

each_has : (os : List Note) (s : List ℕ) (i n : ℕ) (s' : List ℕ) → WroteRun os s i n s' → EachHasSlip os
unfolding WriteSlipDone
each_has [] s i n s' w = tt
each_has (o ∷ os) s i n s' (q, t, d, w) = (d.0, each_has os t q n s' w)

back : (os : List Note) (s : List ℕ) (i n : ℕ) (s' : List ℕ) → i ≤ length s → WroteRun os s i n s' → ReadRun os s' i n
back os s i n s' l w =
    let r = run_bytes os s i n s' l w in
    subst (λ (x : List ℕ). ReadRun os x i n) (sym r.2)
    (subst (ReadRun os (take i s ++ (run os ++ drop n s)) i) (sym r.0)
    (run_reads os (each_has os s i n s' w) (take i s) (drop n s) i (length-take-le i s l)))

pub run_back : RunBack
unfolding WriteSlipDone
run_back [] s i n s' w = w.0
run_back (o ∷ os) s i n s' (q, t, d, w) = back (o ∷ os) s i n s' (omega (arith, d.1, d.2)) (q, t, d, w)

-- ---- and nothing else
block_of : Found → ℕ
block_of (Slip k r n) = k
block_of (RefusedAt n p) = 0

reading_found : Found → Reading → Reading
reading_found (Slip k r n) x = r
reading_found (RefusedAt n p) x = x

next_of : Found → ℕ
next_of (Slip k r n) = n
next_of (RefusedAt n p) = 0

one_read : (s : List ℕ) (i : ℕ) (o o' : Note) (q q' : ℕ) (r r' : Reading) → o.answer ≡ reading_answer r → o'.answer ≡ reading_answer r'
    → ReadSlipDone s i (Slip o.block r q) s → ReadSlipDone s i (Slip o'.block r' q') s → (o ≡ o') × (q ≡ q')
unfolding block_of reading_found next_of
one_read s i o o' q q' r r' a a' d d' =
    let found = (read_decided s i (Slip o.block r q) (Slip o'.block r' q') s s d d').0 in
    let same = a ∙ ap reading_answer (ap (λ (f : Found). reading_found f r) found) ∙ sym a' in (
      note o.block o'.block o.answer o'.answer (ap block_of found) same,
      ap next_of found,
    )
  where
    note : (k k' : ℕ) (x x' : Answer) → k ≡ k' → x ≡ x'
        → ◌≡◌ {A = Note} (record { block = k; answer = x }) (record { block = k'; answer = x' })
    note k k' x x' e f = ap₂ (λ (m : ℕ) (y : Answer). record { block = m; answer = y }) e f

pub run_only : RunOnly
run_only [] [] s i n n' l w w' = (refl, w ∙ sym w')
run_only [] (o ∷ os) s i n n' l w w' = absurd (omega (arith, l))
run_only (o ∷ os) [] s i n n' l w w' = absurd (omega (arith, l))
run_only (o ∷ os) (o' ∷ os') s i n n' l (q, r, a, d, w) (q', r', a', d', w') =
    let e = one_read s i o o' q q' r r' a a' d d' in
    let rest = run_only os os' s q' n n' (omega (arith, l)) (subst (λ (x : ℕ). ReadRun os s x n) e.1 w) w' in
    (ap₂ ◌∷◌ e.0 rest.0, rest.1)

-- ---- a run that has room is written
pub run_fits : RunFits
unfolding WriteSlipDone
run_fits [] s i h l = (s, (omega arith, refl))
run_fits (o ∷ os) s i (h, hs) l =
    let b = slip o.block o.answer in
    let n = length-append b (run os) in
    let long = put_long s i (i + length b) b refl (omega (arith, l, n)) in
    let t = take i s ++ (b ++ drop (i + length b) s) in
    let r = run_fits os t (i + length b) hs (omega (arith, l, n, long)) in
    let e : i + length b + length (run os) ≡ i + length (b ++ run os) = omega (arith, n) in
    (r.0, (i + length b, t, (h, refl, omega (arith, l, n), refl), subst (λ (x : ℕ). WroteRun os t (i + length b) x r.0) e r.1))
