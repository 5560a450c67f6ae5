-- Lists in which two chips of a block are hit can be run, and show what is said of them.
--
--   other          a byte that is another one; SomeHits, some_hits: values by which such a list can be run
--   get_fine       a get that is not refused; got: after it the block is hit as before
--   get_shows, patrol_shows   what is seen of a get and of a patrol of it
--   can_be_hit, at_the_limits   THE STATEMENTS
use Prim.Native.Nat.{ℕ, zero, suc, ◌*◌, ◌≤◌, ◌<◌}
use mathlib.Core.Path.{◌≡◌, refl, sym, ap, ◌∙◌, subst}
use mathlib.Core.Logic.{◌≢◌}
use mathlib.Core.List.{List, [], ◌∷◌, ◌++◌}
use native.Mathlib.Omega.{arith}
use lib.ListN.{length, take, replicate}
use Rattle.answer.specs.Answer.{Answer}
use Rattle.answer.proofs.Causes.{by_accepted}
use Rattle.marks.specs.Marks.{fresh_marks}
use Rattle.marks.specs.declared.Marks.{Marks}
use Rattle.code.specs.Block.{byte}
use Rattle.reading.specs.TwoBad.{TwoSay}
use Rattle.bank.specs.Accepted.{FitBank}
use Rattle.bank.specs.Calls.{block, get_cause, patrol_cause}
use Rattle.bank.proofs.Accepted.{accepts}
use Rattle.book.specs.Book.{put, get, patrol, Entry, call, Seen, says, in_force, fresh_state, Ran}
use Rattle.book.specs.Book.{Book, fresh_book, marks_of, Booked, Step}
use Rattle.book.specs.Kept.{last_put, by_call}
use Rattle.book.specs.Possible.{Bytes}
use Rattle.book.proofs.Agree.{two_cabinets}
use Rattle.book.proofs.Calls.{last}
use Rattle.book.proofs.OneHit.{fresh_lawful}
use Rattle.book.proofs.Record.{kept_after}
use Rattle.book.proofs.Runs.{any_list}
use Rattle.book.proofs.Whole.{whole_long}
use Rattle.book.specs.TwoHits.{patrolled_by_call, two_hits, HitAt, ShownAt, CanBeHit, AtTheLimits}
use Rattle.book.proofs.TwoHits.{before_last, gets_two_bad, patrols_two_bad, hit_twice}

-- ---- such a list
other : ℕ → ℕ
other zero = 1
other (suc v) = 0

other_byte : (v : ℕ) → (other v < 256) × (v ≢ other v)
unfolding other
other_byte zero = (omega arith, λ e. omega (arith, e))
other_byte (suc v) = (omega arith, λ e. omega (arith, e))

abbrev SomeHits : ℕ → ℕ → List ℕ → List ℕ → ℕ → ℕ → Type 0
SomeHits n k rec out p q = (x : ℕ) × (y : ℕ) × (s : Seen) × (t : Seen) × (u : Seen) × (v : Seen) × (w : Seen)
    × Ran (fresh_state n) (two_hits k rec p x q y ++ (call (get k out) ∷ call (patrol k) ∷ [])) (s ∷ t ∷ u ∷ v ∷ w ∷ [])
    × (in_force s.after.rest ≡ fresh_marks) × (byte (block s.after.bank k) p ≢ x) × (byte (block s.after.bank k) q ≢ y)

some_hits : (n k : ℕ) → n ≤ 1024 → k < n → (rec out : List ℕ) → Bytes rec → (p q : ℕ) → p < 45 → q < 45 → SomeHits n k rec out p q
some_hits n k hi hk rec out bytes p q hp hq = begin (any_list n (call (put k rec) ∷ []) (bytes, tt))
  where
    -- the put shows the same with the hits after it
    ends : (s : Seen) → Ran (fresh_state n) (call (put k rec) ∷ []) (s ∷ []) → (x y : ℕ) → byte (block s.after.bank k) p ≢ x
        → byte (block s.after.bank k) q ≢ y → (ss : List Seen)
        → Ran (fresh_state n) (two_hits k rec p x q y ++ (call (get k out) ∷ call (patrol k) ∷ [])) ss → SomeHits n k rec out p q
    ends s r x y nx ny ss
        (Ran.then {s = s'} d₁ (Ran.then {s = t} d₂ (Ran.then {s = u} d₃ (Ran.then {s = v} d₄ (Ran.then {s = w} d₅ Ran.end))))) =
        let e = two_cabinets n (omega (arith, hk)) hi (call (put k rec) ∷ []) (s ∷ []) (s' ∷ []) r (Ran.then d₁ Ran.end) in
        let same : s ≡ s' = ap (first s) e in (
          x,
          y,
          s',
          t,
          u,
          v,
          w,
          Ran.then d₁ (Ran.then d₂ (Ran.then d₃ (Ran.then d₄ (Ran.then d₅ Ran.end)))),
          ap (λ (z : Seen). in_force z.after.rest) d₁.4,
          subst (λ (z : Seen). byte (block z.after.bank k) p ≢ x) same nx,
          subst (λ (z : Seen). byte (block z.after.bank k) q ≢ y) same ny,
        )
      where
        first : Seen → List Seen → Seen
        first z [] = z
        first z (c ∷ cs) = c

    begin : (ss : List Seen) × Ran (fresh_state n) (call (put k rec) ∷ []) ss → SomeHits n k rec out p q
    begin (ss, Ran.then {s = s} d Ran.end) =
        let f = other_byte (byte (block s.after.bank k) p) in
        let g = other_byte (byte (block s.after.bank k) q) in
        let x = other (byte (block s.after.bank k) p) in
        let y = other (byte (block s.after.bank k) q) in
        let w = any_list n (two_hits k rec p x q y ++ (call (get k out) ∷ call (patrol k) ∷ []))
        (bytes, ((omega (arith, hp, hk), f.0), ((omega (arith, hq, hk), g.0), (tt, (tt, tt))))) in
        ends s (Ran.then d Ran.end) x y f.1 g.1 w.0 w.1

-- the get and the patrol of a block that was hit twice, in a book of those before them
module _ (n k : ℕ) (hi : n ≤ 1024) (hk : k < n) (p q : ℕ) (s u : Seen) where
  bank : FitBank (45 * n)
  bank = (n, omega (arith, hk), hi, refl)

  get_fine : (b : Book) (out : List ℕ) → length out ≡ 45 → marks_of b ≡ fresh_marks → get_cause (45 * n) k (marks_of b) (length out) ≡ 0
  get_fine b out lq none =
      ap (λ (m : Marks). get_cause (45 * n) k m (length out)) none
      ∙ (accepts (45 * n) k 34 (length out) fresh_marks).get.1 (bank, omega (arith, hk), fresh_lawful, lq)

  -- what is held, what was put and the marks are as before the get
  got : (b b' : Book) (out : List ℕ) (v : Seen) → length b.held ≡ n → get_cause (45 * n) k (marks_of b) (length out) ≡ 0
      → Step b (call (get k out)) v b' → HitAt k p q s u b → HitAt k p q s u b'
  got b b' out v many z w h =
      subst (HitAt k p q s u)
      (sym (by_accepted _ w.says.0 _ _ (ap (λ (l : ℕ). get_cause (45 * l) k (marks_of b) (length out)) many ∙ z) w.says.2).1) h

  get_shows : (es : List Entry) (ss : List Seen) (out : List ℕ) (v : Seen) → Ran (fresh_state n) (es ++ (call (get k out) ∷ [])) (ss ++ (v ∷ []))
      → length out ≡ 45 → (b : Book) → Booked (fresh_book n) es ss b → HitAt k p q s u b → marks_of b ≡ fresh_marks
      → (a : Answer) × (v.said ≡ says a) × TwoSay p q (block s.after.bank k) out a v.output
      × (take 34 (block s.after.bank k) ≡ last_put n k (replicate 34 0) es)
  get_shows es ss out v r lq b w h none =
      let g = gets_two_bad n es ss k out (call (get k out)) v r b w by_call (get_fine b out lq none) none p q h.0 in
      (g.0, g.1, subst (λ (l : List ℕ). TwoSay p q l out g.0 v.output) h.1 g.2, ap (take 34) (sym h.1) ∙ g.3)

  patrol_shows : (es : List Entry) (ss : List Seen) (w : Seen) → Ran (fresh_state n) (es ++ (call (patrol k) ∷ [])) (ss ++ (w ∷ []))
      → (b : Book) → Booked (fresh_book n) es ss b → HitAt k p q s u b → marks_of b ≡ fresh_marks
      → (c : Answer) × (w.said ≡ says c) × TwoSay p q (block s.after.bank k) (block u.after.bank k) c (block w.after.bank k)
  patrol_shows es ss w r b v h none =
      let f = patrols_two_bad n es ss k (call (patrol k)) w r b v patrolled_by_call
      (ap (patrol_cause (45 * n) k) none ∙ (accepts (45 * n) k 34 45 fresh_marks).patrol.1 (bank, omega (arith, hk), fresh_lawful)) none p q h.0 in
      (f.0, f.1, rw (h.1, h.2) at f.2)

pub can_be_hit : CanBeHit
can_be_hit n k hi hk rec out bytes lr lq p q hp hq ne = go (some_hits n k hi hk rec out bytes p q hp hq)
  where
    -- by the books after the hits and after the get
    shown : (x y : ℕ) (s t u v w : Seen) → Ran (fresh_state n) (two_hits k rec p x q y ++ (call (get k out) ∷ [])) (s ∷ t ∷ u ∷ v ∷ [])
        → Ran (fresh_state n) (two_hits k rec p x q y ++ (call (get k out) ∷ call (patrol k) ∷ [])) (s ∷ t ∷ u ∷ v ∷ w ∷ [])
        → (b b' : Book) → Booked (fresh_book n) (two_hits k rec p x q y) (s ∷ t ∷ u ∷ []) b → Step b (call (get k out)) v b'
        → Booked (fresh_book n) (two_hits k rec p x q y ++ (call (get k out) ∷ [])) (s ∷ t ∷ u ∷ v ∷ []) b'
        → HitAt k p q s u b → last_put n k (replicate 34 0) (two_hits k rec p x q y) ≡ rec → in_force s.after.rest ≡ fresh_marks
        → ShownAt n k rec out p q
    shown x y s t u v w r₄ r₅ b b' w₃ step₄ w₄ h last none =
        let many = (kept_after n k (omega (arith, hk)) hi hk (two_hits k rec p x q y) (s ∷ t ∷ u ∷ []) b w₃).held in
        let marks = h.3 ∙ none in
        let h' = got n k hi hk p q s u b b' out v many (get_fine n k hi hk p q s u b out lq marks) step₄ h in
        let g = get_shows n k hi hk p q s u (two_hits k rec p x q y) (s ∷ t ∷ u ∷ []) out v r₄ lq b w₃ h marks in (
          x,
          y,
          s,
          t,
          u,
          v,
          w,
          r₅,
          (g.0, g.1, g.2),
          patrol_shows n k hi hk p q s u (two_hits k rec p x q y ++ (call (get k out) ∷ [])) (s ∷ t ∷ u ∷ v ∷ []) w r₅ b' w₄ h' (h'.3 ∙ none),
          g.3 ∙ last,
        )

    go : SomeHits n k rec out p q → ShownAt n k rec out p q
    go (x, y, s, t, u, v, w, Ran.then d₁ (Ran.then d₂ (Ran.then d₃ (Ran.then d₄ (Ran.then d₅ Ran.end)))), none, nx, ny) =
        let r₃ : Ran (fresh_state n) (two_hits k rec p x q y) (s ∷ t ∷ u ∷ []) = Ran.then d₁ (Ran.then d₂ (Ran.then d₃ Ran.end)) in
        let r₄ : Ran (fresh_state n) (two_hits k rec p x q y ++ (call (get k out) ∷ [])) (s ∷ t ∷ u ∷ v ∷ []) =
        Ran.then d₁ (Ran.then d₂ (Ran.then d₃ (Ran.then d₄ Ran.end))) in
        let b = whole_long n (two_hits k rec p x q y) (s ∷ t ∷ u ∷ []) r₃ in
        let c = before_last n (two_hits k rec p x q y) (s ∷ t ∷ u ∷ []) (call (get k out)) v r₄ b.0 b.1 in
        let d = hit_twice n k hi hk rec lr p q hp hq ne x y [] [] s t u r₃ nx ny b.0 b.1 in
        shown x y s t u v w r₄ (Ran.then d₁ (Ran.then d₂ (Ran.then d₃ (Ran.then d₄ (Ran.then d₅ Ran.end))))) b.0 c.0 b.1 c.1 c.3 d.0
        d.1 none

pub at_the_limits : AtTheLimits
at_the_limits rec out bytes lr lq = (
  can_be_hit 1 0 (omega arith) (omega arith) rec out bytes lr lq 0 1 (omega arith) (omega arith) (λ e. omega (arith, e)),
  can_be_hit 1024 1023 (omega arith) (omega arith) rec out bytes lr lq 44 43 (omega arith) (omega arith) (λ e. omega (arith, e)),
  can_be_hit 1024 1023 (omega arith) (omega arith) rec out bytes lr lq 0 44 (omega arith) (omega arith) (λ e. omega (arith, e)),
)
