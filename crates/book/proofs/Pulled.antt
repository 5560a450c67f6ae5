-- A card is marked and pulled, the mark of a chip of it stays, and one further chip goes wrong: a get gives the record.
--
--   Held         what is known of the book from the third entry on: the marks, and where held and good block differ
--   after_hit    a hit where they may; after_hits: all of them
--   both         the marks: the chip and its card; mark_then: what the book says of a mark call that is not refused
--   begun        the put and the two marks
--   hits_keep    hits change no record that was put
--   card_pulled  THE STATEMENT
--   can_be_pulled   such lists can be run
use Prim.Native.Nat.{ℕ, zero, suc, ◌+◌, ◌*◌, ◌/◌, ◌%◌, ◌≤◌, ◌<◌}
use mathlib.Core.Path.{◌≡◌, refl, sym, ap, ◌∙◌, subst}
use mathlib.Core.Logic.{◌≢◌, ◌⊎◌, inl, inr}
use mathlib.Core.List.{List, [], ◌∷◌, ◌++◌}
use native.Mathlib.Omega.{arith}
use lib.ListN.{length, take, replicate, set, length-set, length-replicate}
use lib.Seq.{get_or-set_same, get_or-set_other}
use Rattle.std.proofs.lemmas.Bool.{cases_eq}
use Rattle.base.specs.Base.{In}
use Rattle.base.proofs.Few.{few_one}
use Rattle.answer.specs.Answer.{Answer}
use Rattle.answer.proofs.Causes.{by_accepted}
use Rattle.code.specs.Block.{byte, zeros, DifferOnly}
use Rattle.marks.specs.Marks.{LawfulMarks, fresh_marks, marked_chips}
use Rattle.marks.specs.Mark.{of_chips, marked, mark_cause}
use Rattle.std.specs.declared.option.Option.{Option}
use Rattle.std.specs.Prelude.{None, Some}
use Rattle.marks.specs.declared.Marks.{Marks}
use Rattle.marks.specs.declared.MarkCall.{MarkCall}
use Rattle.marks.specs.declared.MarkCall.TheVariants.{PlaceChip, PlaceCard}
use Rattle.marks.proofs.Few.{few_lawful}
use Rattle.marks.proofs.Plain.{mark_accepted}
use Rattle.reading.specs.Allowed.{further_beside, Allowed}
use Rattle.reading.proofs.Beside.{u_on}
use Rattle.bank.specs.Calls.{get_cause}
use Rattle.bank.proofs.Accepted.{accepts}
use Rattle.book.specs.Book.{put, get, mark, Entry, call, hit, write, says, Seen}
use Rattle.book.specs.Book.{Book, fresh_book, marks_of, held_at, with_both, with_marks, Booked, Step}
use Rattle.book.specs.Kept.{good_at, last_put, DamageAllowed, by_call, Corrected, GivesRecord}
use Rattle.book.specs.Possible.{AllPossible}
use Rattle.book.specs.Pulled.{HitsOn, pulled, CardPulled, all_hit, CanBePulled}
use Rattle.book.proofs.Whole.{whole}
use Rattle.book.proofs.Runs.{any_list}
use Rattle.book.proofs.Record.{gets_last_put}
use Rattle.book.proofs.Calls.{last}
use Rattle.book.proofs.Hits.{Holds, hit_holds}
use Rattle.book.proofs.OneHit.{fresh_lawful, put_done, last_is}

-- ---- hits
module _ (n k : ℕ) (hk : k < n) (m : Marks) (good : List ℕ) (P : ℕ → Type 0) where
  abbrev Held : Book → Type 0
  Held b = (now : List ℕ) × Holds n k m good now b × DifferOnly P now good

  after_hit : (b b' : Book) (i x : ℕ) (s : Seen) → i / 45 ≡ k → P (i % 45) → Step b (hit i x) s b' → Held b → Held b'
  after_hit b b' i x s e at w (now, h, only) =
      (set now (i % 45) x, hit_holds n k hk m good now i x e b h s b' w, λ q l. each q l (cases_eq q (i % 45)))
    where
      each : (q : ℕ) → q < 45 → (q ≡ i % 45) ⊎ (q ≢ i % 45) → (byte (set now (i % 45) x) q ≡ byte good q) ⊎ P q
      each q l (inl z) = inr (subst P (sym z) at)
      each q l (inr z) = subst (λ (v : ℕ). (v ≡ byte good q) ⊎ P q) (sym (get_or-set_other now (i % 45) q x 0 z)) (only q l)

  ended : (ss : List Seen) {b b' : Book} → Booked b [] ss b' → b ≡ b'
  ended [] Booked.end = refl
  ended (s ∷ ss) w = elim w [ ]

  after_hits : (j : ℕ) → ((q : ℕ) → q / 9 ≡ j → P q) → (i x : ℕ) → i / 45 ≡ k → P (i % 45) → (hits : List Entry) → HitsOn k j hits → (ss : List Seen)
      (b b' : Book) → Booked b (hits ++ (hit i x ∷ [])) ss b' → Held b → Held b'
  after_hits j on i x e at [] g (s ∷ ss) b b' (Booked.then {b' = b₁} w r) h = subst Held (ended ss r) (after_hit b b₁ i x s e at w h)
  after_hits j on i x e at (hit a y ∷ hits) (d, c, g) (s ∷ ss) b b' (Booked.then {b' = b₁} w r) h =
      after_hits j on i x e at hits g ss b₁ b' r (after_hit b b₁ a y s d (on (a % 45) c) w h)
  after_hits j on i x e at (call c ∷ hits) g ss b b' r h = absurd g
  after_hits j on i x e at (write a v out ∷ hits) g ss b b' r h = absurd g
  after_hits j on i x e at [] g [] b b' r h = elim r [ ]
  after_hits j on i x e at (hit a y ∷ hits) (d, c, g) [] b b' r h = elim r [ ]

-- ---- the put and the marks
mark_then : (b b' : Book) (c : MarkCall) (s : Seen) → mark_cause (marks_of b) c ≡ 0 → Step b (call (mark c)) s b'
    → b' ≡ with_marks b (marked (marks_of b) c)
mark_then b b' c s z w = (by_accepted _ w.says.0 _ _ z w.says.2.1).1

-- chip p marked, and its card
abbrev both : ℕ → Marks
both p = of_chips (Some (p / 9)) (p ∷ [])

lawful : (p : ℕ) → p < 45 → LawfulMarks (both p)
lawful p hp = few_lawful (Some (p / 9)) (p ∷ []) (omega arith) (few_one p hp)

module _ (n k : ℕ) (hi : n ≤ 1024) (hk : k < n) (rec : List ℕ) (lr : length rec ≡ 34) (p : ℕ) (hp : p < 45) where
  begun : (b₁ b₂ b₃ : Book) (s₁ s₂ s₃ : Seen) → Step (fresh_book n) (call (put k rec)) s₁ b₁ → Step b₁ (call (mark (PlaceChip p))) s₂ b₂
      → Step b₂ (call (mark (PlaceCard (p / 9)))) s₃ b₃
      → (good : List ℕ) × ((P : ℕ → Type 0) → Held n k hk (both p) good P b₃)
  unfolding marked
  begun b₁ b₂ b₃ s₁ s₂ s₃ w₁ w₂ w₃ =
      let d = put_done n k hi hk rec lr s₁ b₁ w₁ in
      let c₁ = with_both (fresh_book n) k d.0 in
      let c₂ = with_marks c₁ (of_chips None (p ∷ [])) in
      let e₂ : b₂ ≡ c₂ = mark_then c₁ b₂ (PlaceChip p) s₂ ((mark_accepted fresh_marks (PlaceChip p)).1 (fresh_lawful, (hp, inr (omega arith))))
      (subst (λ (b : Book). Step b (call (mark (PlaceChip p))) s₂ b₂) d.2 w₂) in
      let e₃ : b₃ ≡ with_marks c₁ (both p) = mark_then c₂ b₃ (PlaceCard (p / 9)) s₃
      ((mark_accepted (of_chips None (p ∷ [])) (PlaceCard (p / 9))).1 (few_lawful None (p ∷ []) tt (few_one p hp), (omega arith, inr refl)))
      (subst (λ (b : Book). Step b (call (mark (PlaceCard (p / 9)))) s₃ b₃) e₂ w₃) in
      (d.0, λ P. subst (Held n k hk (both p) d.0 P) (sym e₃) (start d.0 P))
    where
      start : (good : List ℕ) (P : ℕ → Type 0) → Held n k hk (both p) good P (with_marks (with_both (fresh_book n) k good) (both p))
      start good P =
          let there : held_at (with_both (fresh_book n) k good) k ≡ good = get_or-set_same (replicate n zeros) k good []
          (omega (arith, hk, length-replicate n zeros)) in (
            good,
            record { many = length-set (replicate n zeros) k good ∙ length-replicate n zeros; marks = refl; kept = there; held = there },
            λ q l. inl refl,
          )

-- hits put no record
hits_keep : (n k j i x : ℕ) (hits : List Entry) → HitsOn k j hits → (r : List ℕ) → last_put n k r (hits ++ (hit i x ∷ [])) ≡ r
unfolding last_put
hits_keep n k j i x [] g r = refl
hits_keep n k j i x (hit a y ∷ hits) (d, c, g) r = hits_keep n k j i x hits g r
hits_keep n k j i x (call c ∷ hits) g r = absurd g
hits_keep n k j i x (write a v out ∷ hits) g r = absurd g

-- a card is marked
marked_card : (c : Option ℕ) (j : ℕ) → c ≡ Some j → c ≡ None → ⊥
marked_card c j e z = subst Is (sym e ∙ z) tt
  where
    Is : Option ℕ → Type 0
    Is None = ⊥
    Is (Some i) = Unit {0}

pub card_pulled : CardPulled
unfolding last_put
card_pulled n k hi hk rec out lr lq p hp hits on i x h ss s r =
    let v = whole n (omega arith) hi (pulled k rec p hits i x ++ (call (get k out) ∷ [])) (ss ++ (s ∷ [])) r in
    let l = last (pulled k rec p hits i x) ss (call (get k out)) s v.1 in
    go l.0 v.0 l.1 l.2
  where
    -- where held and good block may differ
    Where : ℕ → Type 0
    Where q = (q / 9 ≡ p / 9) ⊎ (In q (p ∷ []) ⊎ In q (i ∷ []))

    given : (b : Book) (r : List ℕ) → r ≡ rec → marks_of b ≡ both p → GivesRecord b k r (call (get k out)) s
        → (a : Answer) × (s.said ≡ says a) × Corrected a × (take 34 s.output ≡ rec)
    given b r q e (inl (a, w, z, y)) = (a, w, z, y ∙ q)
    given b r q e (inr (j, w, c, never)) = absurd (marked_card (marks_of b).card (p / 9) (ap (λ (m : Marks). m.card) e) c)

    on_it : (q : ℕ) → In q (p ∷ []) → q / 9 ≡ p / 9
    on_it q (inl e) = ap (λ (z : ℕ). z / 9) e
    on_it q (inr z) = absurd z

    -- the marked chip is on the marked card, and does not count
    allowed : (good : List ℕ) (b : Book) → Held n k hk (both p) good Where b → DamageAllowed b k
    allowed good b f =
        let enough = subst (λ (c : ℕ). 1 ≤ further_beside c) (sym (u_on (p / 9) (p ∷ []) on_it)) (omega arith) in
        subst (λ (m : Marks). Allowed m.card (marked_chips m) (held_at b k) (good_at b k)) (sym f.1.marks)
        (subst (λ (y : List ℕ). Allowed (Some (p / 9)) (p ∷ []) (held_at b k) y) (sym f.1.kept)
        (i ∷ [], enough, subst (λ (y : List ℕ). DifferOnly Where y good) (sym f.1.held) f.2))

    last_record : last_put n k (replicate 34 0) (pulled k rec p hits i x) ≡ rec
    last_record =
        last_is n k hi hk rec lr (call (mark (PlaceChip p)) ∷ call (mark (PlaceCard (p / 9))) ∷ (hits ++ (hit (45 * k + i) x ∷ [])))
        (hits_keep n k (p / 9) (45 * k + i) x hits on) (replicate 34 0)

    held : (ss : List Seen) (b : Book) → Booked (fresh_book n) (pulled k rec p hits i x) ss b
        → (good : List ℕ) × Held n k hk (both p) good Where b
    held ss b (Booked.then {b' = b₁} {s = s₁} w₁ (Booked.then {b' = b₂} {s = s₂} w₂ (Booked.then {b' = b₃} {s = s₃} {ss = rest} w₃ w))) =
        let g = begun n k hi hk rec lr p hp b₁ b₂ b₃ s₁ s₂ s₃ w₁ w₂ w₃ in
        let there : (45 * k + i) % 45 ≡ i = omega arith in (
          g.0,
          after_hits n k hk (both p) g.0 Where (p / 9) (λ q e. inl e) (45 * k + i) x (omega arith) (inr (inr (inl there))) hits on rest b₃ b w
              (g.1 Where),
        )

    go : (b b' : Book) → Booked (fresh_book n) (pulled k rec p hits i x) ss b → Step b (call (get k out)) s b'
        → (a : Answer) × (s.said ≡ says a) × Corrected a × (take 34 s.output ≡ rec)
    go b b' w v =
        let f = held ss b w in
        let fine = (accepts (45 * n) k 34 (length out) (both p)).get.1 ((n, omega arith, hi, refl), omega arith, lawful p hp, lq) in
        given b (last_put n k (replicate 34 0) (pulled k rec p hits i x)) last_record f.1.1.marks
        (gets_last_put n (omega arith) hi (pulled k rec p hits i x) ss b w k out (call (get k out)) by_call s b' v
        (ap (λ (c : Marks). get_cause (45 * n) k c (length out)) f.1.1.marks ∙ fine) (allowed f.0 b f.1))

-- ---- such lists can be run
module _ (n k : ℕ) (hk : k < n) (j : ℕ) (hj : j < 5) (y : ℕ) (hy : y < 256) where
  all_on : (m : ℕ) → m ≤ 9 → HitsOn k j (all_hit k j y m)
  all_on zero h = tt
  all_on (suc m) h =
      let block : (45 * k + (9 * j + m)) / 45 ≡ k = omega arith in
      let card : (45 * k + (9 * j + m)) % 45 / 9 ≡ j = omega arith in
      (block, card, all_on m (omega arith))

  all_possible : (es : List Entry) → AllPossible n es → (m : ℕ) → m ≤ 9 → AllPossible n (all_hit k j y m ++ es)
  all_possible es h zero l = h
  all_possible es h (suc m) l = ((omega arith, hy), all_possible es h m (omega arith))

pub can_be_pulled : CanBePulled
can_be_pulled n k hk rec out bytes p hp y hy i x h hx =
    let ends : AllPossible n (hit (45 * k + i) x ∷ call (get k out) ∷ []) = ((omega arith, hx), (tt, tt)) in (
      all_on n k hk (p / 9) (omega arith) y hy 9 (omega arith),
      any_list n (pulled k rec p (all_hit k (p / 9) y 9) i x ++ (call (get k out) ∷ []))
          (bytes, (tt, (tt, all_possible n k hk (p / 9) (omega arith) y hy (hit (45 * k + i) x ∷ call (get k out) ∷ []) ends 9 (omega arith)))),
    )
