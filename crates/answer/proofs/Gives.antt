-- Which answers a call can give, by its causes.
--
--   Outcomes ns, Readings ns, Reports ns   done, corrected or counted, or else refused with one of the numbers ns; a reading also 11, with a card
--   numbers               the numbers of a list of causes
--   by_holds, by_gives    a call by its causes gives what it does, or one of their numbers
--   done_gives            the same of a call that is done or refused
--   joined, rest          of causes, and then others
--   numbered, number_of   numbers of refusals that come with nothing more: 1 to 99, but for 11
use Prim.Native.Nat.{ℕ, zero, suc, ◌<◌, ◌≤◌}
use mathlib.Core.Logic.{◌≢◌, ◌⊎◌, inl, inr}
use mathlib.Core.Path.{◌≡◌, refl, sym, ◌∙◌, subst}
use mathlib.Core.Bool.{Bool, true, ◌&&◌, not}
use mathlib.Core.List.{List, [], ◌∷◌, ◌++◌}
use native.Mathlib.Omega.{arith}
use borrow.Author.Tests.{leb-true, eqb-false, not-true}
use lib.Dec.{eqb, leb}
use Rattle.std.proofs.lemmas.Bool.{and_parts}
use Rattle.base.specs.Base.{In}
use Rattle.answer.specs.Answer.{Answer, done, clean, in_chips, in_card, counted, refused, refused_card, By}
use Rattle.answer.specs.Cause.{Cause, cause, lowest}
use Rattle.answer.proofs.Causes.{Holds, Positive, lowest_is, none_holds}

pub data Outcomes : List ℕ → Answer → Type 0 where
  was_done : {ns : List ℕ} → Outcomes ns done
  was_refused : {ns : List ℕ} {n : ℕ} → In n ns → Outcomes ns (refused n)

pub data Readings : List ℕ → Answer → Type 0 where
  was_clean : {ns : List ℕ} → Readings ns clean
  was_in_chips : {ns : List ℕ} {n : ℕ} → n ≤ 2 → Readings ns (in_chips n)
  was_in_card : {ns : List ℕ} {j n : ℕ} → j < 5 → n ≤ 11 → Readings ns (in_card j n)
  was_several : {ns : List ℕ} {n j : ℕ} → n ≡ 11 → j < 5 → Readings ns (refused_card n j)
  not_read : {ns : List ℕ} {n : ℕ} → In n ns → Readings ns (refused n)

pub data Reports : List ℕ → Answer → Type 0 where
  were_counted : {ns : List ℕ} {v w x y z : ℕ} → v ≤ 1024 → w ≤ 1024 → x ≤ 1024 → y ≤ 1024 → z ≤ 1024 → Reports ns (counted v w x y z)
  not_counted : {ns : List ℕ} {n : ℕ} → In n ns → Reports ns (refused n)

-- ---- a call by its causes
abbrev pub numbers : List Cause → List ℕ
numbers [] = []
numbers (cause n t ∷ cs) = n ∷ numbers cs

holds_in : (n : ℕ) (cs : List Cause) → Holds n cs → In n (numbers cs)
holds_in n [] h = h
holds_in n (cause m t ∷ cs) (inl (e, q)) = inl e
holds_in n (cause m t ∷ cs) (inr h) = inr (holds_in n cs h)

pub by_holds : (cs : List Cause) → Positive cs → (G : Answer → Type 0) (a : Answer) (U D : Type 0) → ((n : ℕ) → Holds n cs → G (refused n))
    → (lowest cs ≡ 0 → D → G a) → By (lowest cs) a U D → G a
by_holds cs p G a U D refusing doing b = go (lowest cs) refl (lowest_is cs p).holds b
  where
    go : (n : ℕ) → lowest cs ≡ n → (n ≡ 0) ⊎ Holds n cs → By n a U D → G a
    go zero e h d = doing e d
    go (suc n) e (inl z) d = absurd (omega (arith, z))
    go (suc n) e (inr h) (q, u) = subst G (sym q) (refusing (suc n) h)

pub by_gives : (cs : List Cause) → Positive cs → (G : Answer → Type 0) (a : Answer) (U D : Type 0) → ((n : ℕ) → In n (numbers cs) → G (refused n))
    → (lowest cs ≡ 0 → D → G a) → By (lowest cs) a U D → G a
by_gives cs p G a U D refusing doing b = by_holds cs p G a U D (λ n h. refusing n (holds_in n cs h)) doing b

-- causes, and then others
pub joined : (cs ds : List Cause) → Positive cs → Positive ds → Positive (cs ++ ds)
joined [] ds p q = q
joined (cause n t ∷ cs) ds p q = (p.0, joined cs ds p.1 q)

pub rest : (cs ds : List Cause) → Positive cs → lowest (cs ++ ds) ≡ 0 → lowest ds ≡ 0
rest [] ds p e = e
rest (cause zero t ∷ cs) ds p e = absurd (omega (arith, p.0))
rest (cause (suc n) t ∷ cs) ds p e = rest cs ds p.1 (none_holds n t (cs ++ ds) e).1

-- ---- done or refused
pub done_gives : (cs : List Cause) → Positive cs → (a : Answer) (U D : Type 0) → By (lowest cs) a U ((a ≡ done) × D) → Outcomes (numbers cs) a
done_gives cs p a U D b =
    by_gives cs p (Outcomes (numbers cs)) a U ((a ≡ done) × D) (λ n h. was_refused h) (λ z d. subst (Outcomes (numbers cs)) (sym d.0) was_done) b

-- ---- numbers of refusals that come with nothing more: 11 comes with a card
abbrev pub numbered : List ℕ → Bool
numbered [] = true
numbered (n ∷ ns) = ((leb 1 n && leb n 99) && not (eqb n 11)) && numbered ns

pub number_of : (ns : List ℕ) → numbered ns ≡ true → (n : ℕ) → In n ns → (1 ≤ n) × (n ≤ 99) × (n ≢ 11)
number_of [] t n h = absurd h
number_of (m ∷ ns) t n (inl e) =
    let r = (and_parts ((leb 1 m && leb m 99) && not (eqb m 11)) (numbered ns) t).0 in
    let s = and_parts (leb 1 m && leb m 99) (not (eqb m 11)) r in
    let u = and_parts (leb 1 m) (leb m 99) s.0 in
    (omega (arith, e, leb-true 1 m u.0), omega (arith, e, leb-true m 99 u.1), λ z. eqb-false m 11 (not-true _ s.1) (sym e ∙ z))
number_of (m ∷ ns) t n (inr h) = number_of ns (and_parts ((leb 1 m && leb m 99) && not (eqb m 11)) (numbered ns) t).1 n h
