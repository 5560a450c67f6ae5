-- What is written is the text of the whole input.
--
--   front      the bytes read are the first 46,085 of those that the reader has left
--   answered   the part of the output that is written is a text that is printed of them, and so of the whole input
use Rattle.std.proofs.Common.{◌≡◌, ℕ, ◌≤◌, List, [], ◌++◌, length, take, drop, sym, ap, ◌∙◌}
use Rattle.std.specs.Prelude.{Option, None, Some, IfSome, OnOk, Result, Ok, Err}
use Rattle.std.specs.Option.{option_map}
use Rattle.std.specs.Io.KnownBytes.{Appends}
use Rattle.std.specs.Io.Take.{take_limit, take_inner, take_remaining}
use Rattle.std.specs.declared.io.traits.Take.{Take}
use Rattle.std.proofs.Math.Seq.{take_at}
use Rattle.program.specs.Program.{SayDone}
use Rattle.program.proofs.Cut.{cut}
use Rattle.cabinet.specs.Written.{Written}

pub front : {R : Type 0} (remaining : R → Option (List ℕ)) (from : R) (t : Take R) (b items start : List ℕ) → take_limit t ≡ 46085 → take_inner t ≡ from
    → start ≡ [] → b ≡ items → IfSome (take_remaining remaining t) (λ xs. items ≡ start ++ xs)
    → IfSome (option_map (take 46085) (remaining from)) (λ xs. b ≡ xs)
front remaining from t b items start limit inner none same h = rw (same, ← limit, ← inner) (rw none at h)

module _ {E : Type 0} {b b' out out' : List ℕ} {n : ℕ} (old new : Option (List ℕ)) (r : Result Unit E) (big : 16384 ≤ length out)
    (d : SayDone b out n b' out') where
  written : (input : List ℕ) → b ≡ take 46085 input → Appends old new (take n out') → Written input old new
  written input e a =
      let w = d.said big in
      let text = w.0 in
      let is : take n out' ≡ text = ap (take n) w.3 ∙ take_at text (drop n out) n (sym w.2) in
      (text, cut input text (rw e at w.1), rw is at a)

  pub answered : (known : Option (List ℕ)) → IfSome (option_map (take 46085) known) (λ xs. b ≡ xs) → OnOk r (Appends old new (take n out'))
      → IfSome known (λ input. OnOk r (Written input old new))
  answered None h a = tt
  answered (Some input) h a = on_ok r a
    where
      on_ok : (q : Result Unit E) → OnOk q (Appends old new (take n out')) → OnOk q (Written input old new)
      on_ok (Ok x) k = written input h k
      on_ok (Err x) k = tt
