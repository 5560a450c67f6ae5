-- Laws of causes, and of calls by their causes.
--
--   Holds, lowest_is           what the lowest number is: exactly the least of those that hold
--   above, first_holds         in a list of numbers from n up, n is given where its cause holds
--   none_holds                 where no number is given, no cause holds
--   rising, or_else, lowest_append   the causes of one part of a call, and then those of the next
--   refuses_here, refuses_later   the number of a check that tests cause by cause: at this cause, or at one after it
--   handed_on, refusal_said    a check that hands on what another gave
--   number_given, by_check, by_handed     a refusal has a number; a call that says what a check gave
--   by_refused, by_done        a call that is refused, or is not; by_accepted: what one says that is not; by_map: both ways carried over
--   Agreed, by_agree, by_same  two outcomes of one call
use Prim.Native.Nat.{ℕ, zero, suc, ◌≤◌}
use mathlib.Core.Path.{◌≡◌, refl, sym, ap, ◌∙◌, subst}
use mathlib.Core.Logic.{◌≢◌, ◌⊎◌, inl, inr}
use mathlib.Core.Bool.{Bool, true, false, ◌&&◌, false≢true}
use mathlib.Core.List.{List, [], ◌∷◌, ◌++◌}
use native.Mathlib.Omega.{arith}
use lib.Dec.{T, ltb, leb}
use borrow.Author.Tests.{ltb-true, ltb-false, leb-true, le-ltb}
use Rattle.base.specs.Base.{if}
use Rattle.std.specs.declared.result.Result.{Result}
use Rattle.std.specs.Prelude.{Ok, Err, IsErrAnd}
use Rattle.answer.specs.Answer.{Answer, refused, By, refusal_number, outcome_answer, cause_number}
use Rattle.answer.specs.declared.Refusal.{Refusal}
use Rattle.answer.specs.declared.Refusal.TheVariants.{BlockLength, OutputLength, RecordLength, BankLength, BlockNumber, MarkRange, EqualMarks}
use Rattle.answer.specs.declared.Refusal.TheVariants.{TooManyMarks, NotMarked, NoLawfulBlock, RegisterAddress, ReadOnlyRegister, UnknownCommand}
use Rattle.answer.specs.declared.Refusal.TheVariants.{SlipCutOff, NoSuchSlip, NoRoom}
use Rattle.answer.specs.Cause.{Cause, cause, lesser, lowest}

-- ---- the lowest number is the least of those that hold
-- number n is in the list, and its cause holds
abbrev pub Holds : ℕ → List Cause → Type 0
Holds n [] = ⊥
Holds n (cause m t ∷ cs) = ((n ≡ m) × (t ≡ true)) ⊎ Holds n cs

-- no number is 0
abbrev pub Positive : List Cause → Type 0
Positive [] = Unit {0}
Positive (cause m t ∷ cs) = (1 ≤ m) × Positive cs

pub record Lowest (n : ℕ) (cs : List Cause) : Type 0 where
  pub holds : (n ≡ 0) ⊎ Holds n cs
  pub least : (m : ℕ) → Holds m cs → (1 ≤ n) × (n ≤ m)

lesser_left : (n m : ℕ) → lesser n m ≤ n
lesser_left n zero = omega arith
lesser_left n (suc m) = go (ltb (suc m) n) refl
  where
    go : (t : Bool) → ltb (suc m) n ≡ t → if t (suc m) n ≤ n
    go true e = omega (arith, ltb-true (suc m) n e)
    go false e = omega arith

lesser_right : (n m : ℕ) → 1 ≤ m → lesser n m ≤ m
lesser_right n zero h = absurd (omega arith)
lesser_right n (suc m) h = go (ltb (suc m) n) refl
  where
    go : (t : Bool) → ltb (suc m) n ≡ t → if t (suc m) n ≤ suc m
    go true e = omega arith
    go false e = omega (arith, ltb-false (suc m) n e)

lesser_pos : (n m : ℕ) → 1 ≤ n → 1 ≤ lesser n m
lesser_pos n zero h = h
lesser_pos n (suc m) h = go (ltb (suc m) n)
  where
    go : (t : Bool) → 1 ≤ if t (suc m) n
    go true = omega arith
    go false = h

lesser_one : (n m : ℕ) → (lesser n m ≡ n) ⊎ ((lesser n m ≡ m) × (1 ≤ m))
lesser_one n zero = inl refl
lesser_one n (suc m) = go (ltb (suc m) n)
  where
    go : (t : Bool) → (if t (suc m) n ≡ n) ⊎ ((if t (suc m) n ≡ suc m) × (1 ≤ suc m))
    go true = inr (refl, omega arith)
    go false = inl refl

pub lowest_is : (cs : List Cause) → Positive cs → Lowest (lowest cs) cs
lowest_is [] p = record { holds = inl refl; least = λ m h. absurd h }
lowest_is (cause n t ∷ cs) p = go t (lowest_is cs p.1)
  where
    go : (t : Bool) → Lowest (lowest cs) cs → Lowest (if t (lesser n (lowest cs)) (lowest cs)) (cause n t ∷ cs)
    go false r = record { holds = later r.holds; least = each }
      where
        later : (lowest cs ≡ 0) ⊎ Holds (lowest cs) cs → (lowest cs ≡ 0) ⊎ Holds (lowest cs) (cause n false ∷ cs)
        later (inl e) = inl e
        later (inr h) = inr (inr h)

        each : (m : ℕ) → Holds m (cause n false ∷ cs) → (1 ≤ lowest cs) × (lowest cs ≤ m)
        each m (inl (e, z)) = absurd (false≢true z)
        each m (inr h) = r.least m h
    go true r = record { holds = inr (one (lesser_one n (lowest cs)) r.holds); least = each }
      where
        one : (lesser n (lowest cs) ≡ n) ⊎ ((lesser n (lowest cs) ≡ lowest cs) × (1 ≤ lowest cs)) → (lowest cs ≡ 0) ⊎ Holds (lowest cs) cs
            → Holds (lesser n (lowest cs)) (cause n true ∷ cs)
        one (inl e) h = inl (e, refl)
        one (inr (e, l)) (inl z) = absurd (omega (arith, z, l))
        one (inr (e, l)) (inr h) = inr (subst (λ (x : ℕ). Holds x cs) (sym e) h)

        each : (m : ℕ) → Holds m (cause n true ∷ cs) → (1 ≤ lesser n (lowest cs)) × (lesser n (lowest cs) ≤ m)
        each m (inl (e, z)) = (lesser_pos n (lowest cs) p.0, omega (arith, lesser_left n (lowest cs), e))
        each m (inr h) = let w = r.least m h in (lesser_pos n (lowest cs) p.0, omega (arith, lesser_right n (lowest cs) w.0, w.1))

-- ---- a list that rises
-- every number of the list is n or more
abbrev pub above : ℕ → List Cause → Bool
above n [] = true
above n (cause m t ∷ cs) = leb n m && above n cs

both : (s t : Bool) → T (s && t) → T s × T t
both true t h = (tt, h)
both false t h = absurd h

le_of : (n m : ℕ) → T (leb n m) → n ≤ m
le_of n m h = go (leb n m) refl h
  where
    go : (t : Bool) → leb n m ≡ t → T t → n ≤ m
    go true e h = leb-true n m e
    go false e h = absurd h

lowest_above : (n : ℕ) (cs : List Cause) → T (above n cs) → (lowest cs ≡ 0) ⊎ (n ≤ lowest cs)
lowest_above n [] h = inl refl
lowest_above n (cause m t ∷ cs) h = go t (lowest_above n cs (both (leb n m) (above n cs) h).1)
  where
    go : (t : Bool) → (lowest cs ≡ 0) ⊎ (n ≤ lowest cs) → (if t (lesser m (lowest cs)) (lowest cs) ≡ 0) ⊎ (n ≤ if t (lesser m (lowest cs)) (lowest cs))
    go false r = r
    go true r = inr (at (lesser_one m (lowest cs)) r)
      where
        at : (lesser m (lowest cs) ≡ m) ⊎ ((lesser m (lowest cs) ≡ lowest cs) × (1 ≤ lowest cs)) → (lowest cs ≡ 0) ⊎ (n ≤ lowest cs) → n ≤ lesser m (lowest cs)
        at (inl e) r = omega (arith, e, le_of n m (both (leb n m) (above n cs) h).0)
        at (inr (e, l)) (inl z) = absurd (omega (arith, z, l))
        at (inr (e, l)) (inr g) = omega (arith, e, g)

lesser_first : (n m : ℕ) → (m ≡ 0) ⊎ (n ≤ m) → lesser n m ≡ n
lesser_first n zero h = refl
lesser_first n (suc m) (inl e) = absurd (omega (arith, e))
lesser_first n (suc m) (inr l) = ap (λ (t : Bool). if t (suc m) n) (le-ltb (suc m) n l)

pub first_holds : (n : ℕ) (cs : List Cause) → T (above n cs) → lowest (cause n true ∷ cs) ≡ n
first_holds n cs h = lesser_first n (lowest cs) (lowest_above n cs h)

-- the first cause does not hold, and no later one is given
pub none_holds : (n : ℕ) (t : Bool) (cs : List Cause) → lowest (cause (suc n) t ∷ cs) ≡ 0 → (t ≡ false) × (lowest cs ≡ 0)
none_holds n true cs e = absurd (omega (arith, e, lesser_pos (suc n) (lowest cs) (omega arith)))
none_holds n false cs e = (refl, e)

-- ---- one part of a call after another
abbrev pub or_else : ℕ → ℕ → ℕ
or_else zero m = m
or_else (suc n) m = suc n

-- every number of the second list is at least every number of the first, and those are not 0
abbrev pub rising : List Cause → List Cause → Bool
rising [] ds = true
rising (cause n t ∷ cs) ds = (leb 1 n && above n ds) && rising cs ds

lesser_else : (n a b : ℕ) → 1 ≤ n → (b ≡ 0) ⊎ (n ≤ b) → lesser n (or_else a b) ≡ or_else (lesser n a) b
lesser_else zero a b p h = absurd (omega arith)
lesser_else (suc n) zero b p h = lesser_first (suc n) b h
lesser_else (suc n) (suc a) b p h = go (ltb (suc a) (suc n))
  where
    go : (t : Bool) → if t (suc a) (suc n) ≡ or_else (if t (suc a) (suc n)) b
    go true = refl
    go false = refl

pub lowest_append : (cs ds : List Cause) → T (rising cs ds) → lowest (cs ++ ds) ≡ or_else (lowest cs) (lowest ds)
lowest_append [] ds h = refl
lowest_append (cause n t ∷ cs) ds h =
    let w = both (leb 1 n && above n ds) (rising cs ds) h in
    let v = both (leb 1 n) (above n ds) w.0 in
    go t (le_of 1 n v.0) (lowest_above n ds v.1) (lowest_append cs ds w.1)
  where
    go : (t : Bool) → 1 ≤ n → (lowest ds ≡ 0) ⊎ (n ≤ lowest ds) → lowest (cs ++ ds) ≡ or_else (lowest cs) (lowest ds)
        → lowest (cause n t ∷ (cs ++ ds)) ≡ or_else (lowest (cause n t ∷ cs)) (lowest ds)
    go false p u e = e
    go true p u e = ap (lesser n) e ∙ lesser_else n (lowest cs) (lowest ds) p u

pub else_first : (n m : ℕ) → n ≢ 0 → or_else n m ≡ n
else_first zero m h = absurd (h refl)
else_first (suc n) m h = refl

-- ---- a check that tests cause by cause
pub refuses_here : (n : ℕ) (t : Bool) (cs : List Cause) → t ≡ true → T (above n cs) → n ≡ lowest (cause n t ∷ cs)
refuses_here n t cs e h = sym (ap (λ (u : Bool). lowest (cause n u ∷ cs)) e ∙ first_holds n cs h)

pub refuses_later : (n k : ℕ) (t : Bool) (cs : List Cause) → t ≡ false → k ≡ lowest cs → k ≡ lowest (cause n t ∷ cs)
refuses_later n k t cs e q = q ∙ sym (ap (λ (u : Bool). lowest (cause n u ∷ cs)) e)

pub number_given : (r : Refusal) → refusal_number r ≢ 0
number_given BlockLength e = omega (arith, e)
number_given OutputLength e = omega (arith, e)
number_given RecordLength e = omega (arith, e)
number_given BankLength e = omega (arith, e)
number_given BlockNumber e = omega (arith, e)
number_given MarkRange e = omega (arith, e)
number_given EqualMarks e = omega (arith, e)
number_given TooManyMarks e = omega (arith, e)
number_given NotMarked e = omega (arith, e)
number_given NoLawfulBlock e = omega (arith, e)
number_given RegisterAddress e = omega (arith, e)
number_given ReadOnlyRegister e = omega (arith, e)
number_given UnknownCommand e = omega (arith, e)
number_given SlipCutOff e = omega (arith, e)
number_given NoSuchSlip e = omega (arith, e)
number_given NoRoom e = omega (arith, e)

-- ---- a call by its cause
pub by_refused : (n c : ℕ) (unchanged did : Type 0) → n ≡ c → c ≢ 0 → unchanged → By n (refused c) unchanged did
by_refused zero c unchanged did e h u = absurd (h (sym e))
by_refused (suc n) c unchanged did e h u = (ap refused (sym e), u)

-- a check that hands on what another gave
pub handed_on : (r : Result (Unit {0}) Refusal) (e : Refusal) → IsErrAnd r (λ (x : Refusal). x ≡ e) → cause_number r ≡ refusal_number e
handed_on (Ok u) e h = absurd h
handed_on (Err x) e h = ap refusal_number h

pub refusal_said : (r : Result (Unit {0}) Refusal) (e : Refusal) → IsErrAnd r (λ (x : Refusal). x ≡ e) → outcome_answer r ≡ refused (refusal_number e)
refusal_said (Ok u) e h = absurd h
refusal_said (Err x) e h = ap (λ (y : Refusal). refused (refusal_number y)) h

-- it says what a check gave
pub by_check : (r : Refusal) (n : ℕ) (unchanged did : Type 0) → refusal_number r ≡ n → unchanged → By n (refused (refusal_number r)) unchanged did
by_check r n unchanged did e u = by_refused n (refusal_number r) unchanged did (sym e) (number_given r) u

pub by_handed : (r : Result (Unit {0}) Refusal) (e : Refusal) (n : ℕ) (unchanged did : Type 0) → IsErrAnd r (λ (x : Refusal). x ≡ e)
    → refusal_number e ≡ n → unchanged → By n (outcome_answer r) unchanged did
by_handed (Ok v) e n unchanged did h q u = absurd h
by_handed (Err x) e n unchanged did h q u = by_check x n unchanged did (ap refusal_number h ∙ q) u

pub by_done : (n : ℕ) (a : Answer) (unchanged did : Type 0) → n ≡ 0 → did → By n a unchanged did
by_done zero a unchanged did e d = d
by_done (suc n) a unchanged did e d = absurd (omega (arith, e))

pub by_accepted : (n : ℕ) (a : Answer) (unchanged did : Type 0) → n ≡ 0 → By n a unchanged did → did
by_accepted zero a unchanged did e b = b
by_accepted (suc n) a unchanged did e b = absurd (omega (arith, e))

-- both ways of a call carried over
pub by_map : (n : ℕ) (a : Answer) (U D U' D' : Type 0) → (U → U') → (n ≡ 0 → D → D') → By n a U D → By n a U' D'
by_map zero a U D U' D' f g d = g refl d
by_map (suc n) a U D U' D' f g (e, u) = (e, f u)

-- ---- a call made twice
-- the answers are the same, and so is what is left
abbrev pub Agreed : {A : Type 0} → Answer → Answer → A → A → Type 0
Agreed a a' x x' = (a ≡ a') × (x ≡ x')

pub by_agree : {A : Type 0} (n : ℕ) (a a' : Answer) (old x x' : A) (D D' : Type 0) → By n a (x ≡ old) D → By n a' (x' ≡ old) D' → (D → D' → Agreed a a' x x')
    → Agreed a a' x x'
by_agree zero a a' old x x' D D' w v f = f w v
by_agree (suc n) a a' old x x' D D' (e, u) (e', u') f = (e ∙ sym e', u ∙ sym u')

-- of a call that leaves nothing
pub by_same : (n : ℕ) (a a' : Answer) (D D' : Type 0) → By n a (Unit {0}) D → By n a' (Unit {0}) D' → (D → D' → a ≡ a') → a ≡ a'
by_same zero a a' D D' w v f = f w v
by_same (suc n) a a' D D' (e, u) (e', u') f = e ∙ sym e'
