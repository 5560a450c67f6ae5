-- Columns of which no sum of some is 0 are free: none is 0 when its turn comes to be eliminated.
--
--   Clear a c ps     no sum of a and some of the columns c p is 0
--   Apart c ps       no sum of some of the columns is 0
--   free             such columns are free (Eliminate.antt), in any field
use mathlib.Core.Logic.{◌≢◌}
use mathlib.Core.Path.{◌≡◌, subst}
use mathlib.Core.List.{List, [], ◌∷◌}
use Prim.Native.Nat.{ℕ, ◌<◌, ◌^◌}
use Rattle.field.specs.Field.{◌⊕◌}
use Rattle.field.proofs.Xor.{add_comm, add_lt, sums}
use Rattle.field.proofs.IsField.{IsField}
use Rattle.field.proofs.Ring.{ring, zero_divisor}
use Rattle.code.proofs.Eliminate.{pass, next, next_below, Free, Below}

abbrev pub Clear : ℕ → (ℕ → ℕ) → List ℕ → Type 0
Clear a c [] = a ≢ 0
Clear a c (p ∷ ps) = Clear a c ps × Clear (a ⊕ c p) c ps

abbrev pub Apart : (ℕ → ℕ) → List ℕ → Type 0
Apart c [] = Unit {0}
Apart c (p ∷ ps) = Clear (c p) c ps × Apart c ps

module _ (w : ℕ) (◌·◌ : ℕ → ℕ → ℕ) (F : IsField w ◌·◌) where
  infixl 70 ◌·◌
  pass_add : (d a b : ℕ) → pass ◌·◌ d (a ⊕ b) ≡ pass ◌·◌ d a ⊕ pass ◌·◌ d b
  pass_add d a b = simp (ring, F)

  clear_alone : (a : ℕ) (c : ℕ → ℕ) (ps : List ℕ) → Clear a c ps → a ≢ 0
  clear_alone a c [] h = h
  clear_alone a c (p ∷ ps) h = clear_alone a c ps h.0

  clear_pass : (d a : ℕ) (c : ℕ → ℕ) (ps : List ℕ) → d < 2 ^ w → a < 2 ^ w → Below w c → Clear a c ps → Clear (a ⊕ d) c ps
      → Clear (pass ◌·◌ d a) (λ q. pass ◌·◌ d (c q)) ps
  clear_pass d a c [] hd ha hc h g = λ z. g (zero_divisor w ◌·◌ F a (a ⊕ d) ha (add_lt w a d ha hd) h z)
  clear_pass d a c (p ∷ ps) hd ha hc h g = (
    clear_pass d a c ps hd ha hc h.0 g.0,
    subst (λ (x : ℕ). Clear x (λ q. pass ◌·◌ d (c q)) ps) (pass_add d a (c p))
        (clear_pass d (a ⊕ c p) c ps hd (add_lt w a (c p) ha (hc p)) hc h.1
        (subst (λ (x : ℕ). Clear x c ps) (let e : (a ⊕ d) ⊕ c p ≡ (a ⊕ c p) ⊕ d = simp sums in e) g.1)),
  )

  apart_pass : (d : ℕ) (c : ℕ → ℕ) (ps : List ℕ) → d < 2 ^ w → Below w c → Clear d c ps → Apart c ps → Apart (λ q. pass ◌·◌ d (c q)) ps
  apart_pass d c [] hd hc h g = tt
  apart_pass d c (p ∷ ps) hd hc h g = (
    clear_pass d (c p) c ps hd (hc p) hc g.0 (subst (λ (x : ℕ). Clear x c ps) (add_comm d (c p)) h.1),
    apart_pass d c ps hd hc h.0 g.1,
  )

  pub free : (c : ℕ → ℕ) (ps : List ℕ) → Below w c → Apart c ps → Free ◌·◌ c ps
  free c [] hc h = tt
  free c (p ∷ ps) hc h = (clear_alone (c p) c ps h.0, free (next ◌·◌ c p) ps (next_below w ◌·◌ F c p) (apart_pass (c p) c ps (hc p) hc h.0 h.1))
