-- What a register write leaves, in plain words: a command, one that places a mark which is there, and a write to another byte.
--
--   one_bit, two_bit   the bit that a command sets
--   commands_leave, command_again, again_figures, stores_leave
use Prim.Native.Nat.{ℕ, zero, suc, ◌+◌, ◌*◌, ◌%◌, ◌^◌, ◌≤◌, ◌<◌}
use mathlib.Core.Path.{◌≡◌, refl, sym, ap, ap₂, ◌∙◌, subst}
use mathlib.Core.Logic.{◌≢◌, ◌⊎◌, inl, inr}
use mathlib.Core.Bool.{Bool, false, ◌||◌}
use mathlib.Core.List.{List, [], ◌∷◌}
use native.Mathlib.Nat.{div-eq_of_lt, pow-succ'}
use native.Mathlib.Omega.{arith}
use lib.Dec.{eqb}
use lib.ListN.{length}
use lib.Pow.{pow_pos}
use lib.Seq.{get_or-set_same, get_or-set_other}
use borrow.Author.Tests.{eq-eqb, ne_eqb}
use Rattle.base.specs.Base.{if, In}
use Rattle.answer.specs.Answer.{Answer, number, done, clean, in_chips, in_card, counted, refused, refused_card}
use Rattle.answer.proofs.Causes.{by_accepted}
use Rattle.marks.specs.Marks.{LawfulMarks, of_bytes}
use Rattle.marks.specs.declared.Marks.{Marks}
use Rattle.marks.specs.declared.MarkCall.TheVariants.{PlaceChip}
use Rattle.marks.proofs.Again.{mark_again}
use Rattle.registers.specs.Registers.{register_bytes, register, is_set, with_bits, without_bits}
use Rattle.registers.specs.Write.{command_of, Runs, answer_byte, detail_byte, pending_bit, ran, stored, write_cause, WriteDone}
use Rattle.registers.specs.Plain.{answer_in, CommandLeaves, CommandsLeave, CommandAgain, AgainFigures}
use Rattle.registers.specs.Plain.{StoresLeave}
use Rattle.registers.specs.declared.Registers.{Registers}
use Rattle.registers.specs.Write.{Command}
use Rattle.registers.specs.Write.{Mark}
use Rattle.registers.proofs.Digits.{with_at, without_at}
use Rattle.registers.proofs.Commands.{Comes, runs_come, Eleven, runs_eleven, refused_keeps}
use Rattle.registers.proofs.Writes.{known_0}
use Rattle.registers.proofs.Plain.{write_numbers}

-- ---- the registers after a command
one_bit : (i : ℕ) → is_set i 1 ≡ eqb i 0
one_bit zero = refl
one_bit (suc i) = ap (λ (n : ℕ). eqb (n % 2) 1) (div-eq_of_lt (below i)) ∙ sym (ne_eqb (suc i) 0 (λ z. omega arith))
  where
    below : (i : ℕ) → 1 < 2 ^ suc i
    below i = omega (arith, pow-succ' 2 i, pow_pos i)

two_bit : (i : ℕ) → is_set i 2 ≡ eqb i 1
two_bit zero = refl
two_bit (suc zero) = refl
two_bit (suc (suc i)) = ap (λ (n : ℕ). eqb (n % 2) 1) (div-eq_of_lt (below i)) ∙ sym (ne_eqb (suc (suc i)) 1 (λ z. omega arith))
  where
    below : (i : ℕ) → 2 < 2 ^ suc (suc i)
    below i = omega (arith, pow-succ' 2 (suc i), pow-succ' 2 i, pow_pos i)

pub commands_leave : CommandsLeave
unfolding WriteDone
commands_leave r v bank out win x r' bank' out' win' z w =
    let d = (by_accepted (write_cause r 0 v) x _ _ z w).1 in
    ran_leaves r v bank out win d.0 d.1 bank' out' win' d.2 r' d.3
  where
    ran_leaves : (r : Registers) (v : ℕ) (bank out win : List ℕ) (a : Answer) (m : Marks) (bank' out' win' : List ℕ)
        → Runs r.marks (command_of r v) bank out win a m bank' out' win'
        → (r' : Registers) → r' ≡ ran r v a m → CommandLeaves r v bank out win r' bank' out' win'
    ran_leaves r v bank out win a m bank' out' win' d r' e = rw e (record {
      call = subst (λ (b : Answer). Runs r.marks (command_of r v) bank out win b m bank' out' win') (sym h.back) d;
      command = refl;
      others = kept;
      done = λ n i. with_at i (register r 7) (pending_bit a) ∙ ap (λ (t : Bool). is_set i (register r 7) || t) (first i (number_is n));
      refused = λ n.
          let k = refused_keeps r.marks (command_of r v) bank out win a m bank' out' win' d (λ q. n (number_is' q)) in (
            h.refusal (λ q. n (number_is' q)) ∙ ap (λ (b : Answer). 16 + number b) (sym h.back),
            card a refl (λ q. n (number_is' q)) (runs_eleven r.marks (command_of r v) bank out win a m bank' out' win' d),
            λ i. with_at i (register r 7) (pending_bit a) ∙ ap (λ (t : Bool). is_set i (register r 7) || t) (second i (λ q. n (number_is' q))),
            k.0,
            k.1,
            k.2,
            k.3,
          );
    })
      where
        h : Comes a
        h = runs_come r.marks (command_of r v) bank out win a m bank' out' win' d

        number_is : number (answer_in (answer_byte a) (detail_byte a)) ≡ 0 → number a ≡ 0
        number_is n = sym (ap number h.back) ∙ n

        number_is' : number a ≡ 0 → number (answer_in (answer_byte a) (detail_byte a)) ≡ 0
        number_is' q = ap number h.back ∙ q

        -- byte 5 of a refusal
        card : (b : Answer) → a ≡ b → number a ≢ 0 → Eleven a
            → (detail_byte a ≡ 0) ⊎ ((j : ℕ) × (answer_in (answer_byte a) (detail_byte a) ≡ refused_card 11 j) × (detail_byte a ≡ 16 * j))
        card clean q n g = absurd (n (ap number q))
        card (in_chips i) q n g = absurd (n (ap number q))
        card (in_card j i) q n g = absurd (n (ap number q))
        card done q n g = absurd (n (ap number q))
        card (counted u w x y z) q n g = absurd (n (ap number q))
        card (refused i) q n g = inl (ap detail_byte q)
        card (refused_card i j) q n g =
            inr (j, h.back ∙ q ∙ ap (λ (k : ℕ). refused_card k j) (subst Eleven q g), ap detail_byte q)

        kept : (i : ℕ) → In i (1 ∷ 2 ∷ 3 ∷ 6 ∷ []) → register (ran r v a m) i ≡ register r i
        kept i (inl q) = rw q refl
        kept i (inr (inl q)) = rw q refl
        kept i (inr (inr (inl q))) = rw q refl
        kept i (inr (inr (inr (inl q)))) = rw q refl
        kept i (inr (inr (inr (inr q)))) = absurd q

        first : (i : ℕ) → number a ≡ 0 → is_set i (pending_bit a) ≡ eqb i 0
        first i q = ap (is_set i) (h.bit ∙ ap (λ (t : Bool). if t 1 2) (eq-eqb (number a) 0 q)) ∙ one_bit i

        second : (i : ℕ) → number a ≢ 0 → is_set i (pending_bit a) ≡ eqb i 1
        second i q = ap (is_set i) (h.bit ∙ ap (λ (t : Bool). if t 1 2) (ne_eqb (number a) 0 q)) ∙ two_bit i

-- ---- the registers after a command that places a mark which is there
pub command_again : CommandAgain
unfolding WriteDone
command_again r v c bank out win x r' bank' out' win' l e i w =
    let written = by_accepted (write_cause r 0 v) x _ _ (known_0 r v (Mark c) e refl) w in
    let d = written.1 in
    let call = subst (λ (y : Command). Runs r.marks y bank out win d.0 d.1 bank' out' win') e d.2 in
    let h = mark_again r.marks c d.0 d.1 l i call.0 in
    let is : r' ≡ ran r v done r.marks = d.3 ∙ ap₂ (ran r v) h.0 h.1 in
    rw is (
      written.0,
      refl,
      refl,
      λ j. with_at j (register r 7) 1 ∙ ap (λ (t : Bool). is_set j (register r 7) || t) (one_bit j),
      call.1,
      call.2,
      call.3,
    )

pub again_figures : AgainFigures
unfolding of_bytes command_of with_bits
again_figures bank out win x r' bank' out' win' w =
    ap register_bytes (command_again _ 3 (PlaceChip 44) bank out win x r' bank' out' win' lawful refl (inl refl) w).1
  where
    lawful : LawfulMarks (of_bytes (255 ∷ 1 ∷ 44 ∷ 255 ∷ []))
    lawful = record {
      card = tt;
      count = omega arith;
      first = inl (omega arith, omega arith);
      second = inr (omega arith, refl);
      differ = λ e. absurd (omega (arith, e));
    }

-- ---- the registers after a write to another byte
pub stores_leave : StoresLeave
unfolding WriteDone
stores_leave r zero v bank out win x r' bank' out' win' l z c w = absurd (z refl)
stores_leave r (suc a) v bank out win x r' bank' out' win' l z c w =
    let d = (by_accepted (write_cause r (suc a) v) x _ _ c w).1 in
    rw d.0 (record {
      written = λ n. at v (ne_eqb (suc a) 7 n);
      cleared = λ e i. ap (is_set i) (seven e) ∙ without_at i (register r 7) v;
      others = λ i n. get_or-set_other r.front (suc a) i _ 0 n;
      marks = refl;
      lent = (d.1, d.2, d.3);
    })
  where
    -- the address is below 8, since 12 and 13 are not given
    below_8 : ((suc a ≡ 0) × (1 ≤ v) × (v ≤ 6)) ⊎ (((1 ≤ suc a) × (suc a ≤ 3)) ⊎ ((suc a ≡ 6) ⊎ (suc a ≡ 7))) → suc a < 8
    below_8 (inl e) = absurd (z e.0)
    below_8 (inr (inl h)) = omega arith
    below_8 (inr (inr (inl q))) = omega arith
    below_8 (inr (inr (inr q))) = omega arith

    inside : suc a < length r.front
    inside = omega (arith, l, below_8 ((write_numbers r (suc a) v).accepted.0 c))

    at : (y : ℕ) → eqb (suc a) 7 ≡ false → register (stored r (suc a) v) (suc a) ≡ v
    at y e = get_or-set_same r.front (suc a) _ 0 inside ∙ ap (λ (t : Bool). if t (without_bits (register r 7) v) v) e

    seven : suc a ≡ 7 → register (stored r (suc a) v) 7 ≡ without_bits (register r 7) v
    seven e =
        ap (λ (k : ℕ). register (stored r (suc a) v) k) (sym e) ∙ get_or-set_same r.front (suc a) _ 0 inside
        ∙ ap (λ (t : Bool). if t (without_bits (register r 7) v) v) (eq-eqb (suc a) 7 e)
