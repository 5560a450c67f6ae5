-- What may stand behind the beginning of a slip.
--
--   Row l             a line of the table: at most five bytes, each with its limits, which some byte meets
--   every_row         what holds of each line of it; table: the limits behind any number are such a line
--   goes_on           bytes within their limits behind a map go on to a slip; more_follows: and with which byte
--   first_follows     a slip may begin with any map; follows_first: and with nothing else
--   behind_follows    behind a map and bytes within their limits, a byte that is too; follows_behind: and nothing else
use Prim.Native.Nat.{ℕ, ◌≤◌, ◌<◌}
use mathlib.Core.Path.{◌≡◌, sym, ap, ◌∙◌, subst}
use mathlib.Core.Logic.{◌≢◌}
use mathlib.Core.Bool.{Bool, true, false}
use mathlib.Core.List.{List, [], ◌∷◌, ◌++◌, append_assoc}
use native.Mathlib.Omega.{arith}
use lib.Dec.{T, eqb, leb}
use lib.ListN.{length, get_or, drop, length-append}
use borrow.Author.Tests.{leb-true, eqb-true}
use Rattle.base.specs.Base.{if}
use Rattle.base.proofs.Tests.{both, both_left, both_right, is_true}
use Rattle.answer.specs.Answer.{Answer}
use Rattle.slip.specs.Slip.{HasSlip, slip}
use Rattle.slip.specs.Calls.{Follows}
use Rattle.slip.specs.Limits.{limits_of, Limits, Within, answer_told, block_told}
use Rattle.slip.proofs.Within.{within_front, within_test, within_of, filled}
use Rattle.slip.proofs.Shape.{map_of, after_map, slip_is, Shaped, shaped, told}

pub record Row (l : Limits) : Type 0 where
  pub most : l.size ≤ 5
  pub lows : length l.least ≡ 5
  pub highs : length l.most ≡ 5
  pub self : Within l.least l.most l.least

row_test : Limits → Bool
row_test l = both (leb l.size 5) (both (eqb (length l.least) 5) (both (eqb (length l.most) 5) (within_test l.least l.most l.least)))

row_of : (l : Limits) → T (row_test l) → Row l
unfolding row_test
row_of l t =
    let u = both_right (leb l.size 5) _ t in
    let v = both_right (eqb (length l.least) 5) _ u in
    record {
      most = leb-true _ 5 (is_true _ (both_left (leb l.size 5) _ t));
      lows = eqb-true _ 5 (is_true _ (both_left (eqb (length l.least) 5) _ u));
      highs = eqb-true _ 5 (is_true _ (both_left (eqb (length l.most) 5) _ v));
      self = within_of _ _ _ (both_right (eqb (length l.most) 5) _ v);
    }

passes : (P : Limits → Type 0) (t : Bool) (x y : Limits) → P x → P y → P (if t x y)
passes P true x y p q = p
passes P false x y p q = q

-- what holds of each line, and of the last, holds of any
pub every_row : (P : Limits → Type 0) (m : ℕ) → P (limits_of 3) → P (limits_of 11) → P (limits_of 15) → P (limits_of 17) → P (limits_of 21)
    → P (limits_of 0) → P (limits_of m)
unfolding limits_of
every_row P m a b c d e f =
    passes P (eqb m 3) _ _ a (passes P (eqb m 11) _ _ b (passes P (eqb m 15) _ _ c (passes P (eqb m 17) _ _ d (passes P (eqb m 21) _ _ e f))))

pub table : (m : ℕ) → Row (limits_of m)
unfolding limits_of row_test within_test
table m = row_of (limits_of m) (every_row (λ l. T (row_test l)) m tt tt tt tt tt tt)

-- bytes within their limits behind a map go on to a slip, whatever they are
goes_on : (m : ℕ) (bs : List ℕ) → (limits_of m).size ≢ 0 → length bs ≤ (limits_of m).size → Within (limits_of m).least (limits_of m).most bs
    → (cs : List ℕ) × (k : ℕ) × (a : Answer) × HasSlip k a × (slip k a ≡ m ∷ (bs ++ cs)) × (length (bs ++ cs) ≡ (limits_of m).size)
goes_on m bs some l w =
    let t = table m in
    let f = filled (limits_of m).least (limits_of m).most (limits_of m).size bs t.self l (omega (arith, t.most, t.lows)) w in
    let d = told m (bs ++ f.0) (record { some = some; long = f.2; within = f.1 }) in
    (f.0, block_told (m ∷ (bs ++ f.0)), answer_told (m ∷ (bs ++ f.0)), d.0, sym d.1, f.2)

-- and with which byte
pub more_follows : (m : ℕ) (bs : List ℕ) → length bs < (limits_of m).size → Within (limits_of m).least (limits_of m).most bs → (x : ℕ) × Follows (m ∷ bs) x
more_follows m bs l w = go g.0 g.4 g.5
  where
    g : (cs : List ℕ) × (k : ℕ) × (a : Answer) × HasSlip k a × (slip k a ≡ m ∷ (bs ++ cs)) × (length (bs ++ cs) ≡ (limits_of m).size)
    g = goes_on m bs (λ e. omega (arith, e, l)) (omega (arith, l)) w

    go : (cs : List ℕ) → slip g.1 g.2 ≡ m ∷ (bs ++ cs) → length (bs ++ cs) ≡ (limits_of m).size → (x : ℕ) × Follows (m ∷ bs) x
    go [] e n = absurd (omega (arith, n, length-append bs [], l))
    go (x ∷ cs) e n = (x, record { block = g.1; answer = g.2; has = g.3; rest = cs; begins = e })

pub first_follows : (m : ℕ) → (limits_of m).size ≢ 0 → Follows [] m
first_follows m some =
    let g = goes_on m [] some (omega arith) tt in
    record { block = g.1; answer = g.2; has = g.3; rest = g.0; begins = g.4 }

pub behind_follows : (m : ℕ) (bs : List ℕ) (x : ℕ) → length bs < (limits_of m).size → Within (limits_of m).least (limits_of m).most (bs ++ (x ∷ []))
    → Follows (m ∷ bs) x
behind_follows m bs x l w =
    let g = goes_on m (bs ++ (x ∷ [])) (λ e. omega (arith, e, l)) (rw (length-append bs (x ∷ [])) (omega (arith, l))) w in
    record {
      block = g.1;
      answer = g.2;
      has = g.3;
      rest = g.0;
      begins = g.4 ∙ ap (λ (c : List ℕ). m ∷ c) (append_assoc bs (x ∷ []) g.0);
    }

pub follows_first : (m : ℕ) → Follows [] m → (limits_of m).size ≢ 0
follows_first m f =
    let e = sym (slip_is f.block f.answer f.has) ∙ f.begins in
    subst (λ (u : ℕ). (limits_of u).size ≢ 0) (ap (λ (c : List ℕ). get_or c 0 0) e) (shaped f.block f.answer f.has).some

pub follows_behind : (m : ℕ) (bs : List ℕ) (x : ℕ) → Follows (m ∷ bs) x
    → (length bs < (limits_of m).size) × Within (limits_of m).least (limits_of m).most (bs ++ (x ∷ []))
follows_behind m bs x f = (
  omega (arith, length-append bs (x ∷ f.rest), s.long),
  within_front (limits_of m).least (limits_of m).most (bs ++ (x ∷ [])) f.rest
      (subst (Within (limits_of m).least (limits_of m).most) (sym (append_assoc bs (x ∷ []) f.rest)) s.within),
)
  where
    e : map_of f.answer ∷ after_map f.block f.answer ≡ m ∷ (bs ++ (x ∷ f.rest))
    e = sym (slip_is f.block f.answer f.has) ∙ f.begins

    s : Shaped m (bs ++ (x ∷ f.rest))
    s =
        subst (λ (u : ℕ). Shaped u (bs ++ (x ∷ f.rest))) (ap (λ (c : List ℕ). get_or c 0 0) e)
        (subst (Shaped (map_of f.answer)) (ap (drop 1) e) (shaped f.block f.answer f.has))
