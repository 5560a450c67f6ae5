-- Text put into lent bytes piece by piece.
--
--   kept      the bytes stay as many
--   joined    a piece, and another after it, are the two texts put at once; added: so of what is added to a `Text`
--   nothing   no text; nothing_added: so for a `Text`
--   whole     text that has room, put at the front
use Prim.Native.Nat.{ℕ, ◌+◌, ◌-◌, ◌≤◌, ◌<◌}
use mathlib.Core.Path.{◌≡◌, refl, ◌∙◌}
use mathlib.Core.Logic.{⊎_elim}
use mathlib.Core.List.{List, [], ◌++◌, append_assoc}
use native.Mathlib.Nat.{eq-zero-or-pos}
use native.Mathlib.Omega.{arith}
use lib.ListN.{length, take, drop, length-append}
use lib.Seq.{take-append-add, drop-drop}
use Rattle.std.proofs.lemmas.Grind.{common_steps}
use Rattle.text.specs.Put.{room, Put, Added}
use Rattle.text.specs.declared.Text.{Text}

pub kept : {text out out' : List ℕ} {at next : ℕ} → Put text out at next out' → length out' ≡ length out
kept p = grind (arith, common_steps, p.place, p.bytes)

module _ {a b out o₁ o₂ : List ℕ} {at n₁ n₂ : ℕ} (p : Put a out at n₁ o₁) (q : Put b o₁ n₁ n₂ o₂) where
  -- the second piece has no room, or is empty
  none_left : n₁ ≡ n₂ → Put (a ++ b) out at n₂ o₂
  none_left e =
      let l = kept p in
      record {
        place = simp length-append (omega (arith, p.place, q.place, l));
        bytes = grind (arith, common_steps, p.bytes, q.bytes, p.place, q.place, l);
      }

  -- the first piece stands whole, and the second begins behind it
  some_left : n₁ < n₂ → Put (a ++ b) out at n₂ o₂
  some_left h =
      let l = kept p in
      let m = room o₁ n₁ b in
      let all : room out at a ≡ length a = omega (arith, p.place, q.place, l) in
      let both : room out at (a ++ b) ≡ length a + m = simp length-append (omega (arith, p.place, q.place, l)) in
      let before : take n₁ o₁ ≡ take at out ++ a = grind (arith, common_steps, p.place, p.bytes, all) in
      let behind : drop n₁ o₁ ≡ drop n₁ out = grind (arith, common_steps, p.place, p.bytes, all) in
      let after : drop n₂ o₁ ≡ drop n₂ out = rw (q.place, ← drop-drop m n₁ o₁, behind, drop-drop) in
      record {
        place = simp length-append (omega (arith, p.place, q.place, l));
        bytes = rw (q.bytes, before, after, both, take-append-add) (simp append_assoc);
      }

  pub joined : Put (a ++ b) out at n₂ o₂
  joined = ⊎_elim (λ z. none_left (omega (arith, p.place, q.place))) (λ l. some_left (omega arith)) (eq-zero-or-pos (n₂ - n₁))

pub added : {a b : List ℕ} {t u v : Text} → Added a t u → Added b u v → Added (a ++ b) t v
added p q = record { put = joined p.put q.put; same_out = q.same_out ∙ p.same_out }

pub nothing : (out : List ℕ) (at : ℕ) → Put [] out at at out
nothing out at = grind (arith, common_steps)

pub nothing_added : (t : Text) → Added [] t t
nothing_added t = record { put = nothing _ _; same_out = refl }

pub whole : {text out out' : List ℕ} {next : ℕ} → Put text out 0 next out' → length text ≤ length out → (next ≡ length text) × (out' ≡ text ++ drop next out)
whole p h = grind (arith, common_steps, p.place, p.bytes)
