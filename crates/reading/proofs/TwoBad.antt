-- Two bad chips, no marks.
--
--   swapped        the two chips may be named in either order
--   two_changed    two bytes are changed
--   set_block      a block with one byte set; two_set: with two, which are then bad
--   only_lawful    every member of S is the lawful block: it and that block differ in one card and in the two chips at most
--   one_card       where the lawful block is a member, both chips are on one card; on_card, member: and only there
--   not_chips      a change in two chips is not of the chip kind
--   reads_card, reads_none   the reading, of one card and of two; read_so: exactly
--   in_order, counted_two, can_be_bad, within_reach, two_bad_read, no_marks, two_bad_built_in   THE STATEMENTS
use mathlib.Core.Path.{◌≡◌, refl, sym, ap, ap₂, ◌∙◌, subst}
use mathlib.Core.Logic.{◌≢◌, ◌⊎◌, inl, inr, ◌↔◌}
use mathlib.Core.List.{List, [], ◌∷◌}
use Prim.Native.Nat.{ℕ, ◌/◌, ◌<◌, ◌≤◌}
use native.Mathlib.Omega.{arith}
use lib.ListN.{length, set, length-set}
use lib.Seq.{get_or-set_same, get_or-set_other}
use Rattle.std.proofs.lemmas.Bool.{cases_eq, cases_lt}
use Rattle.base.specs.Base.{In}
use Rattle.base.proofs.Few.{few_two}
use Rattle.base.proofs.Those.{rising_one}
use Rattle.answer.specs.Answer.{Answer, in_card, refused}
use Rattle.code.specs.Block.{byte, Block, Lawful, changes, differing, DifferAt}
use Rattle.code.specs.Labels.{built_in, LabelSet}
use Rattle.code.proofs.BuiltIn.{built_in_set}
use Rattle.code.proofs.Differing.{differing_exactly}
use Rattle.code.proofs.Few.{widen, between}
use Rattle.code.proofs.Unique.{alike}
use Rattle.marks.specs.Mark.{of_chips}
use Rattle.marks.specs.Marks.{marked_chips}
use Rattle.std.specs.Prelude.{None}
use Rattle.marks.specs.declared.Marks.{Marks}
use Rattle.marks.proofs.Laws.{of_few}
use Rattle.reading.specs.Allowed.{ChipKind, CardKind}
use Rattle.reading.specs.Reading.{S, Reads}
use Rattle.reading.specs.TwoBad.{TwoBad, InOrder, CountedTwo, CanBeBad, TwoSay, WithinReach, TwoBadRead, NoMarks, TwoBadBuiltIn}
use Rattle.reading.proofs.Agree.{reads_only}
use Rattle.reading.proofs.Limits.{unmarked_limit}
use Rattle.reading.proofs.Searches.{covered}

-- ---- two chips, and two bytes that differ
swapped : (b x : List ℕ) (p q : ℕ) → TwoBad b x p q → TwoBad b x q p
swapped b x p q t = record {
  positions = (t.positions.1, t.positions.0);
  different = λ e. t.different (sym e);
  changed = (t.changed.1, t.changed.0);
  others = widen (λ r. In r (p ∷ q ∷ [])) (λ r. In r (q ∷ p ∷ [])) b x (λ r l i. turned r i) t.others;
}
  where
    turned : (r : ℕ) → In r (p ∷ q ∷ []) → In r (q ∷ p ∷ [])
    turned r (inl e) = inr (inl e)
    turned r (inr (inl e)) = inl e
    turned r (inr (inr z)) = absurd z

pub in_order : InOrder
in_order b x p q = (to, from)
  where
    to : differing b x ≡ p ∷ q ∷ [] → TwoBad b x p q × (p < q)
    to e =
        let w = subst (DifferAt b x) e (differing_exactly b x) in
        let at_p = (w.exactly p).0 (inl refl) in
        let at_q = (w.exactly q).0 (inr (inl refl)) in
        let less = w.rising.0 q (inl refl) in (
          record {
            positions = (at_p.0, at_q.0);
            different = λ z. omega (arith, less, z);
            changed = (at_p.1, at_q.1);
            others = λ r l. each r l (w.exactly r).1 (cases_eq (byte b r) (byte x r));
          },
          less,
        )
      where
        each : (r : ℕ) → r < 45 → ((r < 45) × (byte b r ≢ byte x r) → In r (p ∷ q ∷ [])) → (byte b r ≡ byte x r) ⊎ (byte b r ≢ byte x r)
            → (byte b r ≡ byte x r) ⊎ In r (p ∷ q ∷ [])
        each r l f (inl z) = inl z
        each r l f (inr n) = inr (f (l, n))

    from : TwoBad b x p q × (p < q) → differing b x ≡ p ∷ q ∷ []
    from (t, less) =
        rising_one (differing b x) (p ∷ q ∷ []) (differing_exactly b x).rising (rises, ((λ r i. absurd i), tt))
        (λ r. (
          (λ i. let w = ((differing_exactly b x).exactly r).0 i in listed r w.1 (t.others r w.0)),
          λ i. ((differing_exactly b x).exactly r).1 (differs r i),
        ))
      where
        rises : (r : ℕ) → (r ≡ q) ⊎ ⊥ → p < r
        rises r (inl e) = omega (arith, e, less)
        rises r (inr z) = absurd z

        listed : (r : ℕ) → byte b r ≢ byte x r → (byte b r ≡ byte x r) ⊎ In r (p ∷ q ∷ []) → In r (p ∷ q ∷ [])
        listed r n (inl e) = absurd (n e)
        listed r n (inr i) = i

        differs : (r : ℕ) → In r (p ∷ q ∷ []) → (r < 45) × (byte b r ≢ byte x r)
        differs r (inl e) = subst (λ (z : ℕ). (z < 45) × (byte b z ≢ byte x z)) (sym e) (t.positions.0, t.changed.0)
        differs r (inr (inl e)) = subst (λ (z : ℕ). (z < 45) × (byte b z ≢ byte x z)) (sym e) (t.positions.1, t.changed.1)
        differs r (inr (inr z)) = absurd z

-- two bytes are changed
two_changed : (b x : List ℕ) (p q : ℕ) → TwoBad b x p q → changes b x ≡ 2
two_changed b x p q t = pick (cases_lt p q)
  where
    pick : (p < q) ⊎ (q ≤ p) → changes b x ≡ 2
    pick (inl l) = sym (differing_exactly b x).many ∙ ap length ((in_order b x p q).1 (t, l))
    pick (inr l) =
        sym (differing_exactly b x).many ∙ ap length ((in_order b x q p).1 (swapped b x p q t, less (cases_eq p q)))
      where
        less : (p ≡ q) ⊎ (p ≢ q) → q < p
        less (inl e) = absurd (t.different e)
        less (inr n) = omega (arith, l, n)

pub counted_two : CountedTwo
counted_two b x = (λ e. go (differing b x) refl ((differing_exactly b x).many ∙ e), λ w. two_changed b x w.0 w.1 w.2)
  where
    go : (l : List ℕ) → differing b x ≡ l → length l ≡ 2 → (p : ℕ) × (q : ℕ) × TwoBad b x p q
    go [] e n = absurd (omega (arith, n))
    go (p ∷ []) e n = absurd (omega (arith, n))
    go (p ∷ q ∷ []) e n = (p, q, ((in_order b x p q).0 e).0)
    go (p ∷ q ∷ r ∷ l) e n = absurd (omega (arith, n))

-- ---- any two chips can be so changed
set_block : (x : List ℕ) (p v : ℕ) → p < 45 → v < 256 → Block x → Block (set x p v)
set_block x p v hp hv bx = record { long = length-set x p v ∙ bx.long; bytes = λ r l. at r l (cases_eq r p) }
  where
    at : (r : ℕ) → r < 45 → (r ≡ p) ⊎ (r ≢ p) → byte (set x p v) r < 256
    at r l (inl e) = subst (λ (z : ℕ). z < 256) (sym (ap (byte (set x p v)) e ∙ get_or-set_same x p v 0 (omega (arith, bx.long, hp)))) hv
    at r l (inr n) = subst (λ (z : ℕ). z < 256) (sym (get_or-set_other x p r v 0 n)) (bx.bytes r l)

two_set : (x : List ℕ) → length x ≡ 45 → (p q v w : ℕ) → p < 45 → q < 45 → p ≢ q → byte x p ≢ v → byte x q ≢ w → TwoBad (set (set x p v) q w) x p q
two_set x long p q v w hp hq ne nv nw = record {
  positions = (hp, hq);
  different = ne;
  changed = ((λ e. nv (sym e ∙ at_p)), λ e. nw (sym e ∙ at_q));
  others = λ r l. each r (cases_eq r p) (cases_eq r q);
}
  where
    at_p : byte (set (set x p v) q w) p ≡ v
    at_p = get_or-set_other (set x p v) q p w 0 ne ∙ get_or-set_same x p v 0 (omega (arith, long, hp))

    at_q : byte (set (set x p v) q w) q ≡ w
    at_q = get_or-set_same (set x p v) q w 0 (omega (arith, length-set x p v, long, hq))

    each : (r : ℕ) → (r ≡ p) ⊎ (r ≢ p) → (r ≡ q) ⊎ (r ≢ q) → (byte (set (set x p v) q w) r ≡ byte x r) ⊎ In r (p ∷ q ∷ [])
    each r (inl e) o = inr (inl e)
    each r (inr n) (inl e) = inr (inr (inl e))
    each r (inr n) (inr m) = inl (get_or-set_other (set x p v) q r w 0 m ∙ get_or-set_other x p r v 0 n)

pub can_be_bad : CanBeBad
can_be_bad x bx p q v w hp hq ne hv hw nv nw =
    (two_set x bx.long p q v w hp hq ne nv nw, set_block (set x p v) q w hq hw (set_block x p v hp hv bx))

-- ---- the reading, from the distance: two lawful blocks that differ only in one card and in two chips are one
module _ (ls : List ℕ) (ok : LabelSet ls) (x : List ℕ) (bx : Block x) (lx : Lawful ls x) (b : List ℕ) (p q : ℕ) (t : TwoBad b x p q) where
  only_lawful : (y : List ℕ) → S ls None [] b y → y ≡ x
  only_lawful y s =
      let v = covered ls [] b y s in
      sym (alike ls ok v.0 v.1 (p ∷ q ∷ []) (few_two p q t.positions.0 t.positions.1 t.different) x y bx lx s.block s.lawful
      (widen (λ r. In r (p ∷ q ∷ []) ⊎ ((r / 9 ≡ v.0) ⊎ ⊥)) (λ r. (r / 9 ≡ v.0) ⊎ In r (p ∷ q ∷ [])) x y (each v.0)
      (between (λ r. In r (p ∷ q ∷ [])) (λ r. (r / 9 ≡ v.0) ⊎ ⊥) b x y t.others v.2.only)))
    where
      each : (j r : ℕ) → r < 45 → In r (p ∷ q ∷ []) ⊎ ((r / 9 ≡ j) ⊎ ⊥) → (r / 9 ≡ j) ⊎ In r (p ∷ q ∷ [])
      each j r l (inl i) = inr i
      each j r l (inr (inl e)) = inl e
      each j r l (inr (inr z)) = absurd z

  -- both chips are then on the card by which it is reached
  one_card : S ls None [] b x → p / 9 ≡ q / 9
  one_card s =
      let v = covered ls [] b x s in
      on v.0 p t.changed.0 (v.2.only p t.positions.0) ∙ sym (on v.0 q t.changed.1 (v.2.only q t.positions.1))
    where
      on : (j r : ℕ) → byte b r ≢ byte x r → (byte b r ≡ byte x r) ⊎ ((r / 9 ≡ j) ⊎ ⊥) → r / 9 ≡ j
      on j r n (inl e) = absurd (n e)
      on j r n (inr (inl e)) = e
      on j r n (inr (inr z)) = absurd z

  on_card : p / 9 ≡ q / 9 → CardKind (p / 9) [] b x
  on_card e = widen (λ r. In r (p ∷ q ∷ [])) (λ r. (r / 9 ≡ p / 9) ⊎ ⊥) b x (λ r l i. inl (there r i)) t.others
    where
      there : (r : ℕ) → In r (p ∷ q ∷ []) → r / 9 ≡ p / 9
      there r (inl i) = ap (λ (z : ℕ). z / 9) i
      there r (inr (inl i)) = ap (λ (z : ℕ). z / 9) i ∙ sym e
      there r (inr (inr z)) = absurd z

  card_below : p / 9 < 5
  card_below = let l = t.positions.0 in omega arith

  member : p / 9 ≡ q / 9 → S ls None [] b x
  member e = record { block = bx; lawful = lx; allowed = inr (p / 9, card_below, on_card e) }

  not_chips : ChipKind [] b x → ⊥
  not_chips k = omega (arith, two_changed b x p q t, unmarked_limit b x k)

  reads_card : p / 9 ≡ q / 9 → (out : List ℕ) → Reads ls None [] b out (in_card (p / 9) 2) x
  reads_card e out = ((member e, only_lawful), sym (two_changed b x p q t), not_chips, (card_below, on_card e))

  reads_none : p / 9 ≢ q / 9 → (out : List ℕ) → Reads ls None [] b out (refused 10) out
  reads_none n out = (refl, (λ y s. n (one_card (subst (S ls None [] b) (only_lawful y s) s))), refl)

  read_so : (out : List ℕ) (a : Answer) (out' : List ℕ) → Reads ls None [] b out a out' ↔ TwoSay p q x out a out'
  read_so out a out' = (to, from)
    where
      pick : Reads ls None [] b out a out' → (p / 9 ≡ q / 9) ⊎ (p / 9 ≢ q / 9) → TwoSay p q x out a out'
      pick h (inl e) = let w = (reads_only ls None [] b out (in_card (p / 9) 2) x (reads_card e out) a out').0 h in inl (e, w.0, w.1)
      pick h (inr n) = let w = (reads_only ls None [] b out (refused 10) out (reads_none n out) a out').0 h in inr (n, w.0, w.1)

      to : Reads ls None [] b out a out' → TwoSay p q x out a out'
      to h = pick h (cases_eq (p / 9) (q / 9))

      from : TwoSay p q x out a out' → Reads ls None [] b out a out'
      from (inl (e, i, o)) = (reads_only ls None [] b out (in_card (p / 9) 2) x (reads_card e out) a out').1 (i, o)
      from (inr (n, i, o)) = (reads_only ls None [] b out (refused 10) out (reads_none n out) a out').1 (i, o)

pub within_reach : WithinReach
within_reach ls ok x bx lx b p q t y = (
  (λ s. let e = only_lawful ls ok x bx lx b p q t y s in (e, one_card ls ok x bx lx b p q t (subst (S ls None [] b) e s))),
  λ w. subst (S ls None [] b) (sym w.0) (member ls ok x bx lx b p q t w.1),
)

pub two_bad_read : TwoBadRead
two_bad_read = read_so

-- ---- under a mark record
pub no_marks : NoMarks
no_marks m l = (
  (λ w. sym (of_few m l) ∙ ap₂ of_chips w.0 w.1),
  λ e. (ap (λ (k : Marks). k.card) e, ap marked_chips e),
)

pub two_bad_built_in : TwoBadBuiltIn
two_bad_built_in x bx lx b p q t out a out' = two_bad_read built_in built_in_set x bx lx b p q t out a out'
