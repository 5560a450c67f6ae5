-- A block copied sixteen bytes at a time.
--
--   Front from n to   the first n bytes are there
--   front_more        sixteen more, from a place that is already reached
--   three_moves       from 0, 16 and 29, and all are there
use mathlib.Core.Path.{◌≡◌, refl, sym, ap, ap₂, ◌∙◌, subst}
use mathlib.Core.List.{List, ◌++◌}
use Prim.Native.Nat.{ℕ, ◌+◌, ◌≤◌}
use native.Mathlib.Omega.{arith}
use lib.ListN.{length, take, drop, length-append, length-drop}
use lib.Seq.{length-take-le, take_all, take-append-add, take_at, take-add, take-take}

-- the first n bytes are there
record Front (from : List ℕ) (n : ℕ) (to : List ℕ) : Type 0 where
  long : length to ≡ 45
  front : take n to ≡ take n from

front_start : (from to : List ℕ) → length to ≡ 45 → Front from 0 to
front_start from to l = record { long = l; front = refl }

front_all : (from to : List ℕ) (n : ℕ) → length from ≡ 45 → 45 ≤ n → Front from n to → to ≡ from
front_all from to n l h w = sym (take_all n to (omega (arith, w.long, h))) ∙ w.front ∙ take_all n from (omega (arith, l, h))

front_less : (from to : List ℕ) (at n : ℕ) → at ≤ n → Front from n to → take at to ≡ take at from
front_less from to at n h w = sym (take-take at n to h) ∙ ap (take at) w.front ∙ take-take at n from h

-- sixteen more
abbrev moved : List ℕ → ℕ → List ℕ → List ℕ
moved from at to = take at to ++ (take 16 (drop at from) ++ drop (at + 16) to)

front_more : (from to : List ℕ) (at n : ℕ) → length from ≡ 45 → at + 16 ≤ 45 → at ≤ n → Front from n to → Front from (at + 16) (moved from at to)
front_more from to at n l h g w = record {
  long =
      length-append (take at to) (x ++ rest)
      ∙ (rw (length-append x rest, length-drop (at + 16) to) (omega (arith, before, sixteen, w.long, h)));
  front =
      ap (λ (n : ℕ). take (n + 16) (moved from at to)) (sym before)
      ∙ take-append-add (take at to) (x ++ rest) 16
      ∙ ap₂ (λ (u v : List ℕ). u ++ v) (front_less from to at n g w) (take_at x rest 16 sixteen)
      ∙ sym (take-add at 16 from);
}
  where
    x : List ℕ
    x = take 16 (drop at from)

    rest : List ℕ
    rest = drop (at + 16) to

    before : length (take at to) ≡ at
    before = length-take-le at to (omega (arith, w.long, h))

    sixteen : length x ≡ 16
    sixteen = length-take-le 16 (drop at from) (rw length-drop (omega (arith, l, h)))

pub three_moves : (from to : List ℕ) → length from ≡ 45 → length to ≡ 45 → (x y z : List ℕ) → x ≡ moved from 0 to → y ≡ moved from 16 x → z ≡ moved from 29 y
    → z ≡ from
three_moves from to l k x y z e f g =
    let a = front_more from to 0 0 l (omega arith) (omega arith) (front_start from to k) in
    let b = front_more from x 16 16 l (omega arith) (omega arith) (subst (Front from 16) (sym e) a) in
    let c = front_more from y 29 32 l (omega arith) (omega arith) (subst (Front from 32) (sym f) b) in
    front_all from z 45 l (omega arith) (subst (Front from 45) (sym g) c)
