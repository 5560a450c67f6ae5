-- The four bytes of the code are its parts, as the header's functions take them out, and told as the definition has it.
use mathlib.Core.Path.{◌≡◌, sym, ap, ◌∙◌}
use mathlib.Core.List.{List}
use mathlib.Core.Logic.{◌≢◌}
use Prim.Native.Nat.{ℕ}
use native.Mathlib.Omega.{arith}
use Rattle.std.proofs.Common.{rules, slice_index_or}
use Rattle.capi.proofs.Slips.{told_several, told_refused, told_clean, told_chips, told_card}
use Rattle.capi.proofs.encode.reading_in.Goals as goal

-- byte i of the four
part : (l m : List ℕ) (i : ℕ) → l ≡ m → slice_index_or l i 0 ≡ slice_index_or m i 0
part l m i e = ap (λ (x : List ℕ). slice_index_or x i 0) e

pub returns-in-0 : goal.returns-in-0
returns-in-0 c =
    let e = c.to_le_bytes.ensures in
    let n : slice_index_or c.to_le_bytes.result 0 0 ≡ 0 = search rules in
    let k : slice_index_or c.to_le_bytes.result 1 0 ≡ 0 = search rules in
    told_clean c.args.c (omega (arith, c.ranges.c)) (sym (part _ _ 0 e) ∙ n) (sym (part _ _ 1 e) ∙ k)

pub returns-in-0-2 : goal.returns-in-0-2
returns-in-0-2 c =
    let e = c.to_le_bytes.ensures in
    let n : slice_index_or c.to_le_bytes.result 0 0 ≡ 0 = search rules in
    let k : slice_index_or c.to_le_bytes.result 1 0 ≡ 1 = search rules in
    rw e (told_chips c.args.c (omega (arith, c.ranges.c)) (sym (part _ _ 0 e) ∙ n) (sym (part _ _ 1 e) ∙ k))

pub returns-in-0-3 : goal.returns-in-0-3
returns-in-0-3 c =
    let e = c.to_le_bytes.ensures in
    let n : slice_index_or c.to_le_bytes.result 0 0 ≡ 0 = search rules in
    let f : slice_index_or c.to_le_bytes.result 1 0 ≢ 0 = search rules in
    let g : slice_index_or c.to_le_bytes.result 1 0 ≢ 1 = search rules in
    rw e (told_card c.args.c (omega (arith, c.ranges.c)) (sym (part _ _ 0 e) ∙ n) (λ z. f (part _ _ 1 e ∙ z)) (λ z. g (part _ _ 1 e ∙ z)))

pub returns-in-11 : goal.returns-in-11
returns-in-11 c =
    let e = c.to_le_bytes.ensures in
    let n : slice_index_or c.to_le_bytes.result 0 0 ≡ 11 = search rules in
    rw e (told_several c.args.c (omega (arith, c.ranges.c)) (sym (part _ _ 0 e) ∙ n))

pub returns-in_default : goal.returns-in_default
returns-in_default c =
    let e = c.to_le_bytes.ensures in
    let f : slice_index_or c.to_le_bytes.result 0 0 ≢ 0 = search rules in
    let g : slice_index_or c.to_le_bytes.result 0 0 ≢ 11 = search rules in
    rw e (told_refused c.args.c (omega (arith, c.ranges.c)) (λ z. f (part _ _ 0 e ∙ z)) (λ z. g (part _ _ 0 e ∙ z)))
