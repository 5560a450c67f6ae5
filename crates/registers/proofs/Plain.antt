-- Order 1 in plain words, shown of the definitions.
--
--   raised_exactly, command_figures, told_figures, bits_after, write_numbers, read_numbers, twelve_bytes, each_byte, fresh_bytes, bytes_back
--   cells_are    all the bytes of a list, from one on
--   told_front   four of eight bytes written one by one; read_is: the byte at an address, looked up
use Prim.Native.Nat.{ℕ, zero, suc, ◌+◌, ◌≤◌, ◌<◌}
use mathlib.Core.Path.{◌≡◌, refl, sym, ap, ◌∙◌, subst}
use mathlib.Core.Logic.{◌≢◌, ◌⊎◌, inl, inr, ◌↔◌}
use mathlib.Core.Bool.{false}
use mathlib.Core.List.{List, ◌∷◌, ◌++◌}
use native.Mathlib.Decide.{dec_lt}
use native.Mathlib.Numerals.{add-one}
use native.Mathlib.Omega.{arith}
use lib.Dec.{ltb}
use lib.ListN.{length, get_or, set, drop}
use lib.Seq.{drop-cons, drop-length, get_or-append-add}
use borrow.Author.Tests.{lt-ltb, le-ltb}
use Rattle.std.proofs.lemmas.Bool.{cases_eq}
use Rattle.marks.specs.Marks.{bytes}
use Rattle.marks.proofs.Laws.{bytes_marks_in}
use Rattle.std.specs.Int.Bits.{bit_or}
use Rattle.std.specs.declared.option.Option.{Option}
use Rattle.std.specs.declared.result.Result.{Result}
use Rattle.std.specs.Prelude.{None, Some, Err}
use Rattle.std.specs.Borrow.{Bor}
use Rattle.std.specs.Option.{ok_or, option_copied}
use Rattle.std.specs.Slice.{IsItemAt}
use Rattle.answer.specs.declared.Refusal.{Refusal}
use Rattle.registers.specs.Registers.{raised, register_bytes, registers_in, cells, with_bits}
use Rattle.registers.specs.Write.{command_of, is_unknown, after_command, value_said, read_value}
use Rattle.registers.specs.declared.answers.Told.{Told}
use Rattle.registers.specs.Plain.{RaisedExactly, BitsAfter, WriteNumbers, ReadNumbers}
use Rattle.registers.specs.Plain.{CommandFigures, ToldFigures, TwelveBytes, EachByte, FreshBytes, BytesBack}
use Rattle.registers.specs.declared.Registers.{Registers}
use Rattle.registers.specs.Write.{Byte, Refused}
use Rattle.registers.proofs.Digits.{with_at, without_at, share_true, share_found}
use Rattle.registers.proofs.Commands.{unknown}
use Rattle.registers.proofs.Writes.{above_11, read_13, plain_0, unknown_14, command_0}

pub raised_exactly : RaisedExactly
unfolding raised
raised_exactly r = ((λ e. share_true 8 _ _ e), λ w. share_found 8 _ _ w.0 w.1 w.2 w.3)

pub command_figures : CommandFigures
unfolding command_of
command_figures = record { one = refl; two = refl; three = refl; four = refl; five = refl; six = λ x. refl }

pub told_figures : ToldFigures
told_figures = record {
  clean = (refl, refl, refl);
  chips = (refl, refl, refl);
  card = (refl, refl, refl);
  marked = (refl, refl, refl);
  none = (refl, refl, refl);
  several = (refl, refl, refl);
  others = (refl, refl, refl);
}

pub bits_after : (i x v : ℕ) → BitsAfter i x v
bits_after i x v = record { set = with_at i x v; cleared = without_at i x v }

-- ---- the numbers of a write
known_number : (r : Registers) (v : ℕ) → 1 ≤ v → v ≤ 6 → is_unknown (command_of r v) ≡ false
unfolding command_of
known_number r zero lo hi = absurd (omega arith)
known_number r (suc zero) lo hi = refl
known_number r (suc (suc zero)) lo hi = refl
known_number r (suc (suc (suc zero))) lo hi = refl
known_number r (suc (suc (suc (suc zero)))) lo hi = refl
known_number r (suc (suc (suc (suc (suc zero))))) lo hi = refl
known_number r (suc (suc (suc (suc (suc (suc zero)))))) lo hi = refl
known_number r (suc (suc (suc (suc (suc (suc (suc v))))))) lo hi = absurd (omega arith)

-- a number that is given, with its cause; and one that is not, without
given : {P : Type 0} {w n : ℕ} → w ≡ n → P → (w ≡ n) ↔ P
given e p = ((λ z. p), λ z. e)

other : {P : Type 0} (w k n : ℕ) → w ≡ k → k ≢ n → (P → ⊥) → (w ≡ n) ↔ P
other w k n e d never = ((λ z. absurd (d (sym e ∙ z))), λ p. absurd (never p))

module _ (r : Registers) (a v : ℕ) where
  abbrev ReadOnly : Type 0
  ReadOnly = (a ≡ 4) ⊎ ((a ≡ 5) ⊎ ((8 ≤ a) × (a ≤ 11)))

  abbrev Accepted : Type 0
  Accepted = ((a ≡ 0) × (1 ≤ v) × (v ≤ 6)) ⊎ (((1 ≤ a) × (a ≤ 3)) ⊎ ((a ≡ 6) ⊎ (a ≡ 7)))

  not_read_only : a ≢ 4 → a ≢ 5 → (8 ≤ a → a ≤ 11 → ⊥) → ReadOnly → ⊥
  not_read_only m n o (inl e) = m e
  not_read_only m n o (inr (inl e)) = n e
  not_read_only m n o (inr (inr (h, i))) = o h i

  not_accepted : (a ≡ 0 → 1 ≤ v → v ≤ 6 → ⊥) → (1 ≤ a → a ≤ 3 → ⊥) → a ≢ 6 → a ≢ 7 → Accepted → ⊥
  not_accepted c d m n (inl (e, h, i)) = c e h i
  not_accepted c d m n (inr (inl (h, i))) = d h i
  not_accepted c d m n (inr (inr (inl e))) = m e
  not_accepted c d m n (inr (inr (inr e))) = n e

  above : 12 ≤ a → WriteNumbers r a v
  above h =
      let e = above_11 r v a h in
      record {
        twelve = given e h;
        thirteen = other _ 12 13 e (λ z. omega arith) (not_read_only (λ z. omega arith) (λ z. omega arith) (λ x y. omega arith));
        fourteen = other _ 12 14 e (λ z. omega arith) (λ w. omega (arith, w.0));
        accepted = other _ 12 0 e (λ z. omega arith) (not_accepted (λ x y z. omega arith) (λ x y. omega arith) (λ z. omega arith) (λ z. omega arith));
      }

  read_only : ReadOnly → 4 ≤ a → a < 12 → a ≢ 6 → a ≢ 7 → WriteNumbers r a v
  read_only w lo hi m n =
      let e = read_13 r v a lo hi m n in
      record {
        twelve = other _ 13 12 e (λ z. omega arith) (λ z. omega arith);
        thirteen = given e w;
        fourteen = other _ 13 14 e (λ z. omega arith) (λ z. omega (arith, z.0));
        accepted = other _ 13 0 e (λ z. omega arith) (not_accepted (λ x y z. omega arith) (λ x y. omega arith) m n);
      }

  plain : a ≢ 0 → a < 8 → a ≢ 4 → a ≢ 5 → Accepted → WriteNumbers r a v
  plain z h m n w =
      let e = plain_0 r v a z h m n in
      record {
        twelve = other _ 0 12 e (λ q. omega arith) (λ q. omega arith);
        thirteen = other _ 0 13 e (λ q. omega arith) (not_read_only m n (λ x y. omega arith));
        fourteen = other _ 0 14 e (λ q. omega arith) (λ q. z q.0);
        accepted = given e w;
      }

module _ (r : Registers) (v : ℕ) where
  not_a_command : (v ≡ 0) ⊎ (6 < v) → WriteNumbers r 0 v
  not_a_command w =
      let e = unknown_14 r v (unknown r v (λ z. six w 1 (omega arith) (omega arith) z) (λ z. six w 2 (omega arith) (omega arith) z)
      (λ z. six w 3 (omega arith) (omega arith) z) (λ z. six w 4 (omega arith) (omega arith) z) (λ z. six w 5 (omega arith) (omega arith) z)
      (λ z. six w 6 (omega arith) (omega arith) z)) in
      record {
        twelve = other _ 14 12 e (λ z. omega arith) (λ z. omega arith);
        thirteen = other _ 14 13 e (λ z. omega arith) (not_read_only r 0 v (λ z. omega arith) (λ z. omega arith) (λ x y. omega arith));
        fourteen = given e (refl, w);
        accepted = other _ 14 0 e (λ z. omega arith)
            (not_accepted r 0 v (λ x lo hi. six w v lo hi refl) (λ x y. omega arith) (λ z. omega arith) (λ z. omega arith));
      }
    where
      six : (v ≡ 0) ⊎ (6 < v) → (n : ℕ) → 1 ≤ n → n ≤ 6 → v ≢ n
      six (inl e) n lo hi z = omega arith
      six (inr h) n lo hi z = omega arith

  a_command : 1 ≤ v → v ≤ 6 → WriteNumbers r 0 v
  a_command lo hi =
      let e = command_0 r v (known_number r v lo hi) in
      record {
        twelve = other _ 0 12 e (λ z. omega arith) (λ z. omega arith);
        thirteen = other _ 0 13 e (λ z. omega arith) (not_read_only r 0 v (λ z. omega arith) (λ z. omega arith) (λ x y. omega arith));
        fourteen = other _ 0 14 e (λ z. omega arith) (λ w. not w.1);
        accepted = given e (inl (refl, lo, hi));
      }
    where
      not : (v ≡ 0) ⊎ (6 < v) → ⊥
      not (inl e) = omega arith
      not (inr h) = omega arith

pub write_numbers : (r : Registers) (a v : ℕ) → WriteNumbers r a v
write_numbers r zero v = at (cases_eq v 0) (dec_lt 6 v)
  where
    at : (v ≡ 0) ⊎ (v ≢ 0) → Dec (6 < v) → WriteNumbers r 0 v
    at (inl e) d = not_a_command r v (inl e)
    at (inr n) (yes h) = not_a_command r v (inr h)
    at (inr n) (no h) = a_command r v (omega arith) (omega arith)
write_numbers r (suc a) v = at (dec_lt 11 (suc a)) (cases_eq (suc a) 4) (cases_eq (suc a) 5) (cases_eq (suc a) 6) (cases_eq (suc a) 7)
  where
    at : Dec (11 < suc a) → (suc a ≡ 4) ⊎ (suc a ≢ 4) → (suc a ≡ 5) ⊎ (suc a ≢ 5) → (suc a ≡ 6) ⊎ (suc a ≢ 6) → (suc a ≡ 7) ⊎ (suc a ≢ 7)
        → WriteNumbers r (suc a) v
    at (yes h) s t u w = above r (suc a) v h
    at (no h) (inl e) t u w = read_only r (suc a) v (inl e) (omega arith) (omega arith) (λ z. omega arith) (λ z. omega arith)
    at (no h) (inr d) (inl e) u w = read_only r (suc a) v (inr (inl e)) (omega arith) (omega arith) (λ z. omega arith) (λ z. omega arith)
    at (no h) (inr d) (inr f) (inl e) w = plain r (suc a) v (λ z. omega arith) (omega arith) d f (inr (inr (inl e)))
    at (no h) (inr d) (inr f) (inr g) (inl e) = plain r (suc a) v (λ z. omega arith) (omega arith) d f (inr (inr (inr e)))
    at (no h) (inr d) (inr f) (inr g) (inr i) = rest (dec_lt (suc a) 8)
      where
        rest : Dec (suc a < 8) → WriteNumbers r (suc a) v
        rest (yes l) = plain r (suc a) v (λ z. omega arith) l d f (inr (inl (omega arith, omega arith)))
        rest (no l) = read_only r (suc a) v (inr (inr (omega arith, omega arith))) (omega arith) (omega arith) g i

pub read_numbers : (r : Registers) (a : ℕ) → ReadNumbers r a
unfolding read_value
read_numbers r a = at (dec_lt 11 a)
  where
    at : Dec (11 < a) → ReadNumbers r a
    at (yes h) = record { twelve = ((λ e. h), λ z. simp (lt-ltb 11 a h)); byte = λ l. absurd (omega arith) }
    at (no h) =
        let e : ltb 11 a ≡ false = le-ltb 11 a (omega arith) in
        record { twelve = ((λ q. absurd (differ (sym (simp e at q)))), λ l. absurd (h l)); byte = λ l. simp e }
      where
        differ : {x n : ℕ} → Refused n ≡ Byte x → ⊥
        differ q = let z : ◌≡◌ {A = ℕ} 0 1 = cc in omega arith

-- ---- twelve bytes
-- byte i of n, from p on
cells_at : (b l : List ℕ) (p n i : ℕ) → i < n → get_or (cells b p n ++ l) i 0 ≡ get_or b (p + i) 0
cells_at b l p zero i h = absurd (omega arith)
cells_at b l p (suc n) zero h = ap (λ (k : ℕ). get_or b k 0) (let e : p ≡ p + 0 = omega arith in e)
cells_at b l p (suc n) (suc i) h = cells_at b l (p + 1) n i (omega arith) ∙ ap (λ (k : ℕ). get_or b k 0) (let e : p + 1 + i ≡ p + suc i = omega arith in e)

pub each_byte : (r : Registers) → EachByte r
each_byte r = record {
  below_8 = λ a h. cells_at r.front (bytes r.marks) 0 8 a h ∙ ap (λ (k : ℕ). get_or r.front k 0) (let e : 0 + a ≡ a = omega arith in e);
  mark_record = λ i. get_or-append-add (cells r.front 0 8) (bytes r.marks) i 0;
}

pub fresh_bytes : FreshBytes
fresh_bytes = refl

pub twelve_bytes : TwelveBytes
twelve_bytes r = refl

-- from p on there are n
pub cells_are : (n p : ℕ) (b : List ℕ) → length b ≡ p + n → cells b p n ≡ drop p b
cells_are zero p b e = sym (ap (λ (k : ℕ). drop k b) (let q : p ≡ length b = omega arith in q) ∙ drop-length b)
cells_are (suc n) p b e =
    ap (λ (l : List ℕ). get_or b p 0 ∷ l) (cells_are n (p + 1) b (omega arith) ∙ ap (λ (k : ℕ). drop k b) (add-one p)) ∙ sym (drop-cons b p 0 (omega arith))

pub bytes_back : BytesBack
unfolding registers_in
bytes_back b e = ap (λ (l : List ℕ). cells b 0 8 ++ l) (bytes_marks_in (cells b 8 4) refl) ∙ cells_are 12 0 b e

-- ---- as the code reads and writes them
-- four of eight written one by one
pub told_front : (r : Registers) (v : ℕ) (t : Told) → length r.front ≡ 8
    → record {
      front = set (set (set (set r.front 0 v) 4 t.answer) 5 t.detail) 7
          (bit_or (get_or (set (set (set r.front 0 v) 4 t.answer) 5 t.detail) 7 0) t.bit);
      marks = r.marks;
    } ≡ after_command r v t r.marks
unfolding with_bits
told_front r v t e =
    subst (λ (l : List ℕ). record {
      front = set (set (set (set l 0 v) 4 t.answer) 5 t.detail) 7 (bit_or (get_or (set (set (set l 0 v) 4 t.answer) 5 t.detail) 7 0) t.bit);
      marks = r.marks;
    } ≡ after_command (record { front = l; marks = r.marks }) v t r.marks)
    (cells_are 8 0 r.front e) refl

-- the byte at an address, where one stands there, or else the refusal with number 12
found : (r : Registers) (a : ℕ) (g : Option (Bor ℕ)) (e : Refusal) → value_said (Err e) ≡ Refused 12 → IsItemAt (register_bytes r) a g
    → value_said (ok_or (option_copied g) e) ≡ read_value r a
unfolding read_value
found r a None e n h = simp (lt-ltb 11 a (omega (arith, h.3))) n
found r a (Some x) e n h = simp (le-ltb 11 a (omega (arith, h.3.0)), h.4 (omega arith) 0)

pub read_is : (r : Registers) (a : ℕ) (b : List ℕ) (g : Option (Bor ℕ)) (o : Option ℕ) (x : Result ℕ Refusal) (e : Refusal) → b ≡ register_bytes r
    → IsItemAt b a g → o ≡ option_copied g → x ≡ ok_or o e → value_said (Err e) ≡ Refused 12 → value_said x ≡ read_value r a
read_is r a b g o x e p h q s n =
    ap value_said (s ∙ ap (λ (y : Option ℕ). ok_or y e) q) ∙ found r a g e n (subst (λ (l : List ℕ). IsItemAt l a g) p h)
