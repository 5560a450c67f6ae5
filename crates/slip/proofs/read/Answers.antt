-- What was seen of the slip, where the reader stops.
use mathlib.Core.Path.{◌≡◌, sym, ap, subst}
use mathlib.Core.Bool.{true}
use mathlib.Core.List.{List}
use mathlib.Core.Logic.{◌≢◌, ◌⊎◌, inl, inr}
use Prim.Native.Nat.{ℕ, ◌+◌, ◌≤◌, ◌<◌}
use native.Mathlib.Omega.{arith}
use native.Mathlib.Nat.{eq-or-lt_of_le}
use lib.ListN.{length, get_or, length-take}
use Rattle.std.proofs.lemmas.Grind.{common_steps}
use Rattle.std.proofs.lemmas.Map.Keys.{le_from_is_le}
use Rattle.std.specs.Cmp.{nat_cmp_is}
use Rattle.std.specs.Ordering.{is_le, nat_cmp}
use Rattle.std.proofs.Common.{Less, Equal}
use Rattle.slip.specs.Calls.{from_to}
use Rattle.slip.specs.Limits.{limits_of}
use Rattle.slip.specs.declared.limits.Allowed.{Allowed}
use Rattle.slip.proofs.Judging.{Said, in_use, none_said, said_fits, said_size, said_some, said_least, said_most}
use Rattle.slip.proofs.Judging.{cut_first, bad_map, Judged, judged_more, cut_within, bad_byte, handed, read_slip}
use Rattle.slip.proofs.read.Goals as goal

pub returns-then-at-n : goal.returns-then-at-n
returns-then-at-n c = cut_first _ _ c.if-at-n.true

pub returns-in_default : goal.returns-in_default
returns-in_default c = bad_map _ _ c.if-at-n.false (none_said _ c.in_default.ensures)

pub returns-then-cut : goal.returns-then-cut
returns-then-cut c =
    cut_within _ _ c.if-at-n.false _ _ c.loop-i.invariant (omega (arith, c.loop-i-test.true, said_size _ _ c.in-Some.ensures))
    (omega (arith, c.if-cut.true))

-- at most, as a comparison says it
upto : (a b : ℕ) → a ≤ b → is_le (nat_cmp a b) ≡ true
upto a b h = go (eq-or-lt_of_le h)
  where
    go : (a ≡ b) ⊎ (a < b) → is_le (nat_cmp a b) ≡ true
    go (inl e) = ap is_le (sym (nat_cmp_is a b Equal e))
    go (inr l) = ap is_le (sym (nat_cmp_is a b Less l))

pub returns-then-not-contains : goal.returns-then-not-contains
returns-then-not-contains c =
    let s = c.in-Some.ensures in
    let t = c.loop-i-test.true in
    let x = get_or c.args.slips.now (c.args.at + 1 + c.loop-i.i) 0 in
    bad_byte _ _ c.if-at-n.false _ _ c.loop-i.invariant (omega (arith, t, said_size _ _ s)) c.if-cut.false
    (λ w.
    let low : c.new.result.start ≤ x = omega (arith, w.0, c.new.ensures.start, said_least _ _ s c.loop-i.i t) in
    let high : x ≤ c.new.result.end = omega (arith, w.1, c.new.ensures.end, said_most _ _ s c.loop-i.i t) in
    grind (arith, common_steps, upto)) _ (omega arith)

pub loop-i-preserved : goal.loop-i-preserved
loop-i-preserved c =
    let s = c.in-Some.ensures in
    let t = c.loop-i-test.true in
    let d = c.if-not-contains.ensures.cases in
    let x = get_or c.args.slips.now (c.args.at + 1 + c.loop-i.i) 0 in
    let low = le_from_is_le c.new.result.start x d.0 in
    let high = le_from_is_le x c.new.result.end d.1 in
    subst (Judged c.args.slips.now c.args.at (c.loop-i.i + 1)) (omega arith)
    (judged_more _ _ c.if-at-n.false _ _ c.loop-i.invariant (omega (arith, t, said_size _ _ s)) c.if-cut.false
    (omega (arith, low, c.new.ensures.start, said_least _ _ s c.loop-i.i t)) (omega (arith, high, c.new.ensures.end, said_most _ _ s c.loop-i.i t)))

-- after the loop: all of the slip is there
ended : (l : List (ℕ × ℕ)) (s : List ℕ) (i j : ℕ) → length l ≤ j → j ≤ length l → Judged s i j (i + 1 + j)
    → Judged s i (length l) (i + 1 + length l)
ended l s i j a b g =
    let e : j ≡ length l = omega (arith, a, b) in
    subst (λ (n : ℕ). Judged s i n (i + 1 + n)) e g

-- the map and three bytes or more
whole : (a : Allowed) (s : List ℕ) (i j : ℕ) → i < length s → Said a (get_or s i 0) → length (in_use a) ≤ j → j ≤ length (in_use a)
    → Judged s i j (i + 1 + j)
    → let b = from_to s i (i + 1 + length (in_use a)) in
    (length b ≡ 1 + (limits_of (get_or b 0 0)).size) × ((limits_of (get_or b 0 0)).size ≢ 0) × (4 ≤ length b)
whole a s i j h e l m g = handed s i h (length (in_use a)) _ (ended _ s i j l m g) (said_some a _ e) (omega (arith, said_size a _ e))

pub reading_in-requires : goal.reading_in-requires
reading_in-requires c =
    let w = whole _ _ _ _ c.if-at-n.false c.in-Some.ensures c.loop-i-test.false c.loop-i.auto.i-end c.loop-i.invariant in
    (w.0, w.1)

pub bounds-slip-1 : goal.bounds-slip-1
bounds-slip-1 c =
    omega (arith, (whole _ _ _ _ c.if-at-n.false c.in-Some.ensures c.loop-i-test.false c.loop-i.auto.i-end c.loop-i.invariant).2)

pub bounds-slip-2 : goal.bounds-slip-2
bounds-slip-2 c =
    omega (arith, (whole _ _ _ _ c.if-at-n.false c.in-Some.ensures c.loop-i-test.false c.loop-i.auto.i-end c.loop-i.invariant).2)

pub returns : goal.returns
returns c =
    let o = c.in-Some.ensures in
    let g = ended _ _ _ _ c.loop-i-test.false c.loop-i.auto.i-end c.loop-i.invariant in
    read_slip _ _ c.if-at-n.false _ _ g (said_some _ _ o) (omega (arith, said_size _ _ o)) _ _ (omega (arith, c.block_number.ensures)) c.reading_in.ensures

pub slice_bounds-each-end : goal.slice_bounds-each-end
slice_bounds-each-end c = said_fits _ _ c.in-Some.ensures

pub slice_bounds-limits-end : goal.slice_bounds-limits-end
slice_bounds-limits-end c = omega (arith, length-take c.in-Some.allowed.size c.in-Some.allowed.each, said_fits _ _ c.in-Some.ensures)
