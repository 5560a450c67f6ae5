-- Two chips of a block are bad, and nothing is marked: what a get and a patrol of it give, in any list.
--
--   of_get, of_patrol   the bank's size, where a get or a patrol is not refused
--   read_two       a reading of it, under the marks of a book that has none
--   patrol_reads   what a patrol reads, by the call and by the command, and that the book then holds it
--   before_last    of a list that ran, the last entry by a given book of those before it
--   at_block       block k of the bank is the one that the book holds
--   ran_many       as many are seen as there are entries; ran_parts: a list that ran, in two parts
--   booked_join    a booking of two lists; put_last: what a list puts last, after another
--   hit_both       a put and two hits, in a book of n blocks
--   commands, gets_two_bad, patrols_two_bad, hit_twice   THE STATEMENTS
use Prim.Native.Nat.{ℕ, suc, ◌+◌, ◌*◌, ◌%◌, ◌≤◌, ◌<◌}
use mathlib.Core.Path.{◌≡◌, refl, sym, ap, ◌∙◌, subst}
use mathlib.Core.Logic.{◌≢◌}
use mathlib.Core.List.{List, [], ◌∷◌, ◌++◌}
use native.Mathlib.Omega.{arith}
use lib.ListN.{length, replicate, set, length-append}
use lib.Seq.{get_or-set_same}
use Rattle.answer.specs.Answer.{Answer}
use Rattle.answer.proofs.Causes.{by_accepted}
use Rattle.marks.specs.Marks.{LawfulMarks, fresh_marks}
use Rattle.marks.specs.declared.Marks.{Marks}
use Rattle.code.specs.Block.{byte, Stored}
use Rattle.code.specs.Labels.{built_in}
use Rattle.reading.specs.Reading.{ReadsUnder}
use Rattle.reading.specs.TwoBad.{TwoBad, TwoSay}
use Rattle.reading.proofs.TwoBad.{can_be_bad, two_bad_built_in}
use Rattle.bank.specs.Calls.{block, get_cause, patrol_cause}
use Rattle.bank.proofs.Accepted.{accepts}
use Rattle.registers.specs.Plain.{last_answer}
use Rattle.registers.specs.Write.{asked_block, command_of}
use Rattle.registers.specs.Write.{Command}
use Rattle.registers.specs.Write.{Get, Patrol}
use Rattle.registers.proofs.Writes.{known_0}
use Rattle.book.specs.Book.{put, Entry, call, hit, State, Seen, says, in_force, fresh_state, EntryDone, Ran}
use Rattle.book.specs.Book.{Book, fresh_book, size, registers_of, marks_of, held_at, with_held, noted, state_of, CommandSays, Booked, Step}
use Rattle.book.specs.Kept.{record_after, good_at, last_put, by_command, Answers}
use Rattle.book.specs.Again.{last_state}
use Rattle.book.specs.TwoHits.{PatrolOf, patrolled_by_call, patrolled_by_command, ByCommand, GetsTwoBad, PatrolsTwoBad}
use Rattle.book.specs.TwoHits.{two_hits, HitAt, HitTwice}
use Rattle.book.proofs.Agree.{one_book}
use Rattle.book.proofs.Again.{last_of_book}
use Rattle.book.proofs.Blocks.{EachLong, block_flat}
use Rattle.book.proofs.Calls.{last}
use Rattle.book.proofs.Causes.{patrol_none}
use Rattle.book.proofs.Hits.{Holds, put_holds, hit_holds}
use Rattle.book.proofs.OneHit.{last_is}
use Rattle.book.proofs.Record.{kept_after, comes, get_in_list}
use Rattle.book.proofs.Whole.{step, whole_long}

-- ---- a bank on which a call is not refused
of_get : (n k : ℕ) (m : Marks) (o : ℕ) → get_cause (45 * n) k m o ≡ 0 → (1 ≤ n) × (n ≤ 1024)
of_get n k m o z = let f = ((accepts (45 * n) k 34 o m).get.0 z).0 in (omega (arith, f.1, f.3), omega (arith, f.2, f.3))

of_patrol : (n k : ℕ) (m : Marks) → patrol_cause (45 * n) k m ≡ 0 → (1 ≤ n) × (n ≤ 1024) × LawfulMarks m
of_patrol n k m z =
    let w = (accepts (45 * n) k 34 45 m).patrol.0 z in
    let f = w.0 in
    (omega (arith, f.1, f.3), omega (arith, f.2, f.3), w.2)

-- ---- the reading
read_two : (b : Book) (k : ℕ) (rec : List ℕ) → Stored built_in rec (good_at b k) → marks_of b ≡ fresh_marks → (p q : ℕ)
    → TwoBad (held_at b k) (good_at b k) p q → (out : List ℕ) (a : Answer) (x : List ℕ) → ReadsUnder (marks_of b) (held_at b k) out a x
    → TwoSay p q (good_at b k) out a x
read_two b k rec good none p q bad out a x r =
    (two_bad_built_in (good_at b k) good.block good.lawful (held_at b k) p q bad out a x).0
    (subst (λ (m : Marks). ReadsUnder m (held_at b k) out a x) none r)

-- what the book holds after a patrol is what was read
patrol_reads : (b : Book) (k : ℕ) → LawfulMarks (marks_of b) → k < length b.held → (e : Entry) → PatrolOf b k e → (s : Seen) (b' : Book) → Step b e s b'
    → patrol_cause (size b) k (marks_of b) ≡ 0
    → (a : Answer) × Answers e s a × ReadsUnder (marks_of b) (held_at b k) (held_at b k) a (held_at b' k)
patrol_reads b k l h e patrolled_by_call s b' t z =
    let a = t.says.0 in
    let d = by_accepted _ a _ _ z t.says.2.1 in
    (a, t.says.1, subst (ReadsUnder (marks_of b) (held_at b k) (held_at b k) a) (sym (held b b' k h d.0 _ d.2)) d.1)
  where
    held : (b b' : Book) (k : ℕ) → k < length b.held → (x ps : List ℕ) → b' ≡ noted (with_held b k x) ps → held_at b' k ≡ x
    held b b' k h x ps e = ap (λ (y : Book). held_at y k) e ∙ get_or-set_same b.held k x [] h
patrol_reads b k l h e (patrolled_by_command v out c) s b' t z =
    let f = by_accepted _ t.says.0 _ _ (known_0 (registers_of b) v (Patrol k) c refl) t.says.2 in
    let a = f.1.0 in
    let y = f.1.1 in
    let w = subst (λ (q : Command). CommandSays b q out a s.output y) c f.1.2 in
    let d = by_accepted _ a _ _ z w.0.1 in
    let there : held_at b' k ≡ d.0 = ap (λ (x : Book). held_at x k) f.1.3 ∙ ap (λ (x : Book). held_at x k) d.2
    ∙ get_or-set_same b.held k d.0 [] h in
    let told : last_answer s.after.rest.registers ≡ a =
    ap (λ (τ : State). last_answer τ.rest.registers) t.after ∙ ap (λ (x : Book). last_answer (registers_of x)) f.1.3
    ∙ (comes b k l (held_at b k) a d.0 d.1).back in
    (a, (t.says.1 ∙ ap says f.0, told), subst (ReadsUnder (marks_of b) (held_at b k) (held_at b k) a) (sym there) d.1)

-- ---- the commands
pub commands : ByCommand
unfolding command_of
commands b k out e f =
    let asked : asked_block (registers_of b) ≡ k = omega (arith, e, f) in
    (by_command 1 (ap Get asked), patrolled_by_command 2 out (ap Patrol asked))

-- ---- lists
pub before_last : (n : ℕ) (es : List Entry) (ss : List Seen) (e : Entry) (s : Seen) → Ran (fresh_state n) (es ++ (e ∷ [])) (ss ++ (s ∷ []))
    → (b : Book) → Booked (fresh_book n) es ss b
    → (b' : Book) × Step b e s b' × EachLong 45 b'.held × Booked (fresh_book n) (es ++ (e ∷ [])) (ss ++ (s ∷ [])) b'
before_last n es ss e s r b w =
    let v = whole_long n (es ++ (e ∷ [])) (ss ++ (s ∷ [])) r in
    let l = last es ss e s v.1 in
    (v.0, subst (λ (x : Book). Step x e s v.0) (one_book n es ss ss l.0 b l.1 w).1 l.2, v.2, v.1)

at_block : (b : Book) (k : ℕ) (s : Seen) → EachLong 45 b.held → k < length b.held → s.after ≡ state_of b → block s.after.bank k ≡ held_at b k
at_block b k s long h e = ap (λ (τ : State). block τ.bank k) e ∙ block_flat 45 b.held k long h

pub gets_two_bad : GetsTwoBad
gets_two_bad n es ss k out e s r b w o z none p q bad =
    let f = of_get n k (marks_of b) (length out) z in
    let v = before_last n es ss e s r b w in
    let g = get_in_list n f.0 f.1 es ss b w k out e o s v.0 v.1 z in
    let a = g.2.0 in
    (a, g.2.1, read_two b k _ g.1 none p q bad out a s.output g.2.2, g.1.begins)

pub patrols_two_bad : PatrolsTwoBad
patrols_two_bad n es ss k e s r b w o z none p q bad =
    let f = of_patrol n k (marks_of b) z in
    let hk = (patrol_none n k (marks_of b) z).0 in
    let g = kept_after n k f.0 f.1 hk es ss b w in
    let v = before_last n es ss e s r b w in
    let b' = v.0 in
    let many = (kept_after n k f.0 f.1 hk (es ++ (e ∷ [])) (ss ++ (s ∷ [])) b' v.3).held in
    let d = patrol_reads b k f.2 (omega (arith, hk, g.held)) e o s b' v.1
    (ap (λ (m : ℕ). patrol_cause (45 * m) k (marks_of b)) g.held ∙ z) in
    let said = read_two b k _ g.stored none p q bad (held_at b k) d.0 (held_at b' k) d.2 in
    (d.0, d.1, subst (TwoSay p q (good_at b k) (held_at b k) d.0) (sym (at_block b' k s v.2 (omega (arith, hk, many)) v.1.after)) said)

-- ---- lists in two parts
ran_many : (es : List Entry) (ss : List Seen) {σ : State} → Ran σ es ss → length es ≡ length ss
ran_many [] [] Ran.end = refl
ran_many (e ∷ es) (s ∷ ss) (Ran.then d r) = ap suc (ran_many es ss r)
ran_many [] (s ∷ ss) r = elim r [ ]
ran_many (e ∷ es) [] r = elim r [ ]

ran_parts : (es fs : List Entry) (ss ts : List Seen) → length fs ≡ length ts → {σ : State} → Ran σ (es ++ fs) (ss ++ ts)
    → Ran σ es ss × Ran (last_state σ ss) fs ts
ran_parts [] fs [] ts e r = (Ran.end, r)
ran_parts [] fs (s ∷ ss) ts e r = absurd (let h = ran_many fs (s ∷ (ss ++ ts)) r in omega (arith, h, e, length-append ss ts))
ran_parts (x ∷ es) fs [] ts e r = absurd (let h = ran_many (x ∷ (es ++ fs)) ts r in omega (arith, h, e, length-append es fs))
ran_parts (x ∷ es) fs (s ∷ ss) ts e (Ran.then d r) = let w = ran_parts es fs ss ts e r in (Ran.then d w.0, w.1)

booked_join : (es fs : List Entry) (ss ts : List Seen) {b b' b'' : Book} → Booked b es ss b' → Booked b' fs ts b'' → Booked b (es ++ fs) (ss ++ ts) b''
booked_join [] fs [] ts Booked.end v = v
booked_join (e ∷ es) fs (s ∷ ss) ts (Booked.then w r) v = Booked.then w (booked_join es fs ss ts r v)
booked_join [] fs (s ∷ ss) ts r v = elim r [ ]
booked_join (e ∷ es) fs [] ts r v = elim r [ ]

put_last : (n k : ℕ) (es fs : List Entry) (r : List ℕ) → last_put n k r (es ++ fs) ≡ last_put n k (last_put n k r es) fs
unfolding last_put
put_last n k [] fs r = refl
put_last n k (e ∷ es) fs r = put_last n k es fs (record_after n k e r)

-- ---- the put and the two hits
module _ (n k : ℕ) (hi : n ≤ 1024) (hk : k < n) (rec : List ℕ) (lr : length rec ≡ 34) (p q : ℕ) (hp : p < 45) (hq : q < 45) (x y : ℕ) where
  hit_both : (b₀ b₁ b₂ b₃ : Book) → length b₀.held ≡ n → length b₀.good ≡ n → (s t u : Seen)
      → Step b₀ (call (put k rec)) s b₁ → Step b₁ (hit (45 * k + p) x) t b₂ → Step b₂ (hit (45 * k + q) y) u b₃
      → (good : List ℕ) × Stored built_in rec good × Holds n k (marks_of b₀) good good b₁ × Holds n k (marks_of b₀) good (set (set good p x) q y) b₃
  hit_both b₀ b₁ b₂ b₃ helds goods s t u w₁ w₂ w₃ =
      let d = put_holds n k hi hk rec lr b₀ helds goods s b₁ w₁ in
      let m = marks_of b₀ in
      let at_p : (45 * k + p) % 45 ≡ p = omega arith in
      let at_q : (45 * k + q) % 45 ≡ q = omega arith in
      let h₂ = hit_holds n k hk m d.0 d.0 (45 * k + p) x (omega arith) b₁ d.2 t b₂ w₂ in
      let h₃ = hit_holds n k hk m d.0 (set d.0 ((45 * k + p) % 45) x) (45 * k + q) y (omega arith) b₂ h₂ u b₃ w₃ in
      (d.0, d.1, d.2, rw (at_p, at_q) at h₃)

  -- whatever was put before
  last_rec : (r : List ℕ) → last_put n k r (two_hits k rec p x q y) ≡ rec
  unfolding last_put
  last_rec r = last_is n k hi hk rec lr (hit (45 * k + p) x ∷ hit (45 * k + q) y ∷ []) (λ z. refl) r

pub hit_twice : HitTwice
hit_twice n k hi hk rec lr p q hp hq ne x y es ss s t u r nx ny b w =
    let parts = ran_parts es (two_hits k rec p x q y) ss (s ∷ t ∷ u ∷ []) refl r in
    let v = whole_long n es ss parts.0 in
    go v.0 v.1 v.2 parts.1 (last_of_book n es ss v.0 v.1)
  where
    ends : (b₀ b₁ b₂ b₃ : Book) → Booked (fresh_book n) es ss b₀ → x < 256 → y < 256 → EachLong 45 b₁.held → EachLong 45 b₃.held
        → Step b₀ (call (put k rec)) s b₁ → Step b₁ (hit (45 * k + p) x) t b₂ → Step b₂ (hit (45 * k + q) y) u b₃
        → HitAt k p q s u b × (last_put n k (replicate 34 0) (es ++ two_hits k rec p x q y) ≡ rec)
    ends b₀ b₁ b₂ b₃ w₀ hx hy long₁ long₃ w₁ w₂ w₃ =
        let kept = kept_after n k (omega (arith, hk)) hi hk es ss b₀ w₀ in
        let h = hit_both n k hi hk rec lr p q hp hq x y b₀ b₁ b₂ b₃ kept.held kept.good s t u w₁ w₂ w₃ in
        let at_s = at_block b₁ k s long₁ (omega (arith, hk, h.2.many)) w₁.after ∙ h.2.held in
        let two = (can_be_bad h.0 h.1.block p q x y hp hq ne hx hy (subst (λ (l : List ℕ). byte l p ≢ x) at_s nx)
        (subst (λ (l : List ℕ). byte l q ≢ y) at_s ny)).0 in
        let w₃₃ = booked_join es (two_hits k rec p x q y) ss (s ∷ t ∷ u ∷ []) w₀ (Booked.then w₁ (Booked.then w₂ (Booked.then w₃ Booked.end))) in
        let same = (one_book n (es ++ two_hits k rec p x q y) (ss ++ (s ∷ t ∷ u ∷ [])) (ss ++ (s ∷ t ∷ u ∷ [])) b₃ b w₃₃ w).1 in
        let at₃ : HitAt k p q s u b₃ = (
          rw (h.3.held, h.3.kept) two,
          h.3.kept ∙ sym at_s,
          sym (at_block b₃ k u long₃ (omega (arith, hk, h.3.many)) w₃.after),
          h.3.marks ∙ sym h.2.marks ∙ ap (λ (τ : State). in_force τ.rest) (sym w₁.after),
        ) in (
          subst (HitAt k p q s u) same at₃,
          put_last n k es (two_hits k rec p x q y) (replicate 34 0) ∙ last_rec n k hi hk rec lr p q hp hq x y (last_put n k (replicate 34 0) es),
        )

    go : (b₀ : Book) → Booked (fresh_book n) es ss b₀ → EachLong 45 b₀.held
        → Ran (last_state (fresh_state n) ss) (two_hits k rec p x q y) (s ∷ t ∷ u ∷ []) → last_state (fresh_state n) ss ≡ state_of b₀
        → HitAt k p q s u b × (last_put n k (replicate 34 0) (es ++ two_hits k rec p x q y) ≡ rec)
    go b₀ w₀ long (Ran.then d₁ (Ran.then d₂ (Ran.then d₃ Ran.end))) e =
        let s₁ = step b₀ long (call (put k rec)) s (subst (λ (σ : State). EntryDone σ (call (put k rec)) s) e d₁) in
        let s₂ = step s₁.0 s₁.2 (hit (45 * k + p) x) t (subst (λ (σ : State). EntryDone σ (hit (45 * k + p) x) t) s₁.1.after d₂) in
        let s₃ = step s₂.0 s₂.2 (hit (45 * k + q) y) u (subst (λ (σ : State). EntryDone σ (hit (45 * k + q) y) u) s₂.1.after d₃) in
        ends b₀ s₁.0 s₂.0 s₃.0 w₀ d₂.1 d₃.1 s₁.2 s₃.2 s₁.1 s₂.1 s₃.1
