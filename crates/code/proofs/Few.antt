-- Lists of chips, and changes within a set of positions.
--
--   member           a position is in a list or not
--   few_once         of few chips none stands twice
--   few_of           of any list the positions, each once (Positions)
--   beside_one, beside_two    one chip off card j, and two that differ; off_in, beside_in: what holds of each
--   in_keep, keep_in what is kept; keep_few, keep_off, keep_beside: it is few, and off card j; keep_short: and no longer
--   keep_all         of chips off card j all are kept
--   kept, all_kept   card j and the chips ps are card j and what is kept of them
--   widen            a change within P is one within Q
--   between          the difference of what two changes lead to
use mathlib.Core.Logic.{◌≢◌, ◌⊎◌, inl, inr}
use mathlib.Core.Path.{◌≡◌, refl, sym, ap, ◌∙◌, subst}
use mathlib.Core.Bool.{Bool, true, false}
use mathlib.Core.List.{List, [], ◌∷◌}
use Prim.Native.Nat.{ℕ, zero, suc, ◌/◌, ◌<◌, ◌≤◌}
use native.Mathlib.Decide.{dec_lt}
use native.Mathlib.Omega.{arith}
use lib.Dec.{eqb}
use lib.ListN.{length}
use borrow.Author.Tests.{eqb-true, eqb-false, ne_eqb}
use Rattle.base.specs.Base.{if, In, is_in, Few}
use Rattle.base.proofs.Lists.{in_is_in, is_in_in}
use Rattle.base.proofs.Few.{few_in, few_more, few_one, few_two}
use Rattle.base.proofs.Tally.{clash}
use Rattle.field.proofs.Sum.{Once}
use Rattle.code.specs.Block.{byte, DifferOnly}
use Rattle.code.specs.Reach.{rules, Off, Beside, keep}

pub member : (p : ℕ) (l : List ℕ) → In p l ⊎ (In p l → ⊥)
member p l = go (is_in p l) refl
  where
    go : (t : Bool) → is_in p l ≡ t → In p l ⊎ (In p l → ⊥)
    go true e = inl (is_in_in p l e)
    go false e = inr (λ i. clash (is_in p l) (in_is_in p l i) e)

-- ---- few chips
pub few_once : (n : ℕ) (ps : List ℕ) → Few n ps → Once ps
few_once n [] few = tt
few_once zero (q ∷ ps) few = absurd few
few_once (suc n) (q ∷ ps) few = (few.1, few_once n ps few.2)

-- the positions of l, each once
abbrev pub Positions : List ℕ → Type 0
Positions l = (ps : List ℕ) × Few (length l) ps × ((p : ℕ) → p < 45 → In p l → In p ps)

pub few_of : (l : List ℕ) → Positions l
few_of [] = ([], tt, λ p h i. i)
few_of (q ∷ l) = go (few_of l) (dec_lt q 45)
  where
    -- q adds nothing, or it comes first
    known : (w : Positions l) → (q < 45 → In q w.0) → Positions (q ∷ l)
    known (ps, few, all) i = (ps, few_more (length l) (suc (length l)) ps (omega arith) few, each)
      where
        each : (p : ℕ) → p < 45 → (p ≡ q) ⊎ In p l → In p ps
        each p h (inl e) = subst (λ (z : ℕ). In z ps) (sym e) (i (subst (λ (z : ℕ). z < 45) e h))
        each p h (inr m) = all p h m

    new : (w : Positions l) → q < 45 → (In q w.0 → ⊥) → Positions (q ∷ l)
    new (ps, few, all) h n = (q ∷ ps, (h, n, few), each)
      where
        each : (p : ℕ) → p < 45 → (p ≡ q) ⊎ In p l → (p ≡ q) ⊎ In p ps
        each p z (inl e) = inl e
        each p z (inr m) = inr (all p z m)

    go : Positions l → Dec (q < 45) → Positions (q ∷ l)
    go w (no n) = known w (λ h. absurd (n h))
    go w (yes h) = pick (member q w.0)
      where
        pick : In q w.0 ⊎ (In q w.0 → ⊥) → Positions (q ∷ l)
        pick (inl i) = known w (λ z. i)
        pick (inr n) = new w h n

-- ---- off a card
pub beside_one : (j p : ℕ) → p < 45 → p / 9 ≢ j → Beside j (p ∷ [])
beside_one j p hp np = (few_one p hp, (np, tt))

pub beside_two : (j p q : ℕ) → p < 45 → q < 45 → p / 9 ≢ j → q / 9 ≢ j → p ≢ q → Beside j (p ∷ q ∷ [])
beside_two j p q hp hq np nq ne = (few_two p q hp hq ne, (np, (nq, tt)))

pub off_in : (j : ℕ) (ps : List ℕ) → Off j ps → (p : ℕ) → In p ps → p / 9 ≢ j
off_in j [] off p i = absurd i
off_in j (q ∷ ps) off p (inl e) = λ z. off.0 (ap (λ (x : ℕ). x / 9) (sym e) ∙ z)
off_in j (q ∷ ps) off p (inr i) = off_in j ps off.1 p i

pub beside_in : (j : ℕ) (ps : List ℕ) → Beside j ps → (p : ℕ) → In p ps → (p < 45) × (p / 9 ≢ j)
beside_in j ps o p i = (few_in rules ps o.0 p i, off_in j ps o.1 p i)

pub in_keep : (j r : ℕ) (ps : List ℕ) → In r ps → (r / 9 ≡ j) ⊎ In r (keep j ps)
unfolding keep
in_keep j r [] i = absurd i
in_keep j r (p ∷ ps) i = go (eqb (p / 9) j) refl i (λ z. in_keep j r ps z)
  where
    go : (t : Bool) → eqb (p / 9) j ≡ t → (r ≡ p) ⊎ In r ps → (In r ps → (r / 9 ≡ j) ⊎ In r (keep j ps))
        → (r / 9 ≡ j) ⊎ In r (if t (keep j ps) (p ∷ keep j ps))
    go true e (inl q) g = inl (ap (λ (z : ℕ). z / 9) q ∙ eqb-true (p / 9) j e)
    go true e (inr q) g = g q
    go false e (inl q) g = inr (inl q)
    go false e (inr q) g = more (g q)
      where
        more : (r / 9 ≡ j) ⊎ In r (keep j ps) → (r / 9 ≡ j) ⊎ ((r ≡ p) ⊎ In r (keep j ps))
        more (inl z) = inl z
        more (inr z) = inr (inr z)

pub keep_in : (j r : ℕ) (ps : List ℕ) → In r (keep j ps) → In r ps
unfolding keep
keep_in j r [] i = absurd i
keep_in j r (p ∷ ps) i = go (eqb (p / 9) j) i (λ z. keep_in j r ps z)
  where
    go : (t : Bool) → In r (if t (keep j ps) (p ∷ keep j ps)) → (In r (keep j ps) → In r ps) → (r ≡ p) ⊎ In r ps
    go true i g = inr (g i)
    go false (inl e) g = inl e
    go false (inr i) g = inr (g i)

pub keep_few : (n j : ℕ) (ps : List ℕ) → Few n ps → Few n (keep j ps)
unfolding keep
keep_few n j [] few = tt
keep_few zero j (p ∷ ps) few = absurd few
keep_few (suc n) j (p ∷ ps) few = go (eqb (p / 9) j) (keep_few n j ps few.2)
  where
    go : (t : Bool) → Few n (keep j ps) → Few (suc n) (if t (keep j ps) (p ∷ keep j ps))
    go true h = few_more n (suc n) (keep j ps) (omega arith) h
    go false h = (few.0, (λ i. few.1 (keep_in j p ps i)), h)

pub keep_off : (j : ℕ) (ps : List ℕ) → Off j (keep j ps)
unfolding keep
keep_off j [] = tt
keep_off j (p ∷ ps) = go (eqb (p / 9) j) refl (keep_off j ps)
  where
    go : (t : Bool) → eqb (p / 9) j ≡ t → Off j (keep j ps) → Off j (if t (keep j ps) (p ∷ keep j ps))
    go true e h = h
    go false e h = (eqb-false (p / 9) j e, h)

pub keep_beside : (j : ℕ) (ps : List ℕ) → Few rules ps → Beside j (keep j ps)
keep_beside j ps few = (keep_few rules j ps few, keep_off j ps)

pub keep_short : (j : ℕ) (ps : List ℕ) → length (keep j ps) ≤ length ps
unfolding keep
keep_short j [] = omega arith
keep_short j (p ∷ ps) = go (eqb (p / 9) j) (keep_short j ps)
  where
    go : (t : Bool) → length (keep j ps) ≤ length ps → length (if t (keep j ps) (p ∷ keep j ps)) ≤ suc (length ps)
    go true h = omega arith
    go false h = omega arith

pub keep_all : (j : ℕ) (ps : List ℕ) → Off j ps → keep j ps ≡ ps
unfolding keep
keep_all j [] off = refl
keep_all j (p ∷ ps) off = ap (λ (t : Bool). if t (keep j ps) (p ∷ keep j ps)) (ne_eqb (p / 9) j off.0) ∙ ap (λ (l : List ℕ). p ∷ l) (keep_all j ps off.1)

-- card j and the chips ps are card j and those that are kept
pub kept : (j : ℕ) (ps : List ℕ) (p : ℕ) → p < 45 → (p / 9 ≡ j) ⊎ In p ps → (p / 9 ≡ j) ⊎ In p (keep j ps)
kept j ps p l (inl e) = inl e
kept j ps p l (inr i) = in_keep j p ps i

pub all_kept : (j : ℕ) (ps : List ℕ) (p : ℕ) → p < 45 → (p / 9 ≡ j) ⊎ In p (keep j ps) → (p / 9 ≡ j) ⊎ In p ps
all_kept j ps p l (inl e) = inl e
all_kept j ps p l (inr i) = inr (keep_in j p ps i)

-- ---- changes within a set of positions
pub widen : (P Q : ℕ → Type 0) (b x : List ℕ) → ((p : ℕ) → p < 45 → P p → Q p) → DifferOnly P b x → DifferOnly Q b x
widen P Q b x f h p l = go (h p l)
  where
    go : (byte b p ≡ byte x p) ⊎ P p → (byte b p ≡ byte x p) ⊎ Q p
    go (inl e) = inl e
    go (inr z) = inr (f p l z)

pub between : (P Q : ℕ → Type 0) (b x y : List ℕ) → DifferOnly P b x → DifferOnly Q b y → DifferOnly (λ p. P p ⊎ Q p) x y
between P Q b x y h g p l = go (h p l) (g p l)
  where
    go : (byte b p ≡ byte x p) ⊎ P p → (byte b p ≡ byte y p) ⊎ Q p → (byte x p ≡ byte y p) ⊎ (P p ⊎ Q p)
    go (inl e) (inl d) = inl (sym e ∙ d)
    go (inl e) (inr z) = inr (inr z)
    go (inr z) o = inr (inl z)
