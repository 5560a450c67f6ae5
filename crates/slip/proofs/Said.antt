-- What every caller of write and read learns of what they return, in plain words; and that it is decided.
--
--   write_says, read_says      what the caller learns; write_exactly, read_exactly: each answer exactly when
--   wrote_apart, found_apart   results that say the same are the same
--   writes_one, reads_one      two outcomes of a call are equal
use contract.Lifetimes
use borrow.Fn.Kinds
use borrow.Fn.World
use denote.Triple.Clauses
use Prim.Native.Nat.{ℕ, ◌+◌, ◌≤◌, ◌<◌}
use mathlib.Core.Path.{◌≡◌, refl, sym, ap, ap₂, subst}
use mathlib.Core.Logic.{inl, inr}
use mathlib.Core.List.{List}
use native.Mathlib.Omega.{arith}
use lib.ListN.{length}
use Rattle.std.specs.declared.result.Result.{Result}
use Rattle.std.specs.Prelude.{Ok, Err}
use Rattle.answer.specs.Answer.{Answer, refusal_number}
use Rattle.answer.specs.declared.Refusal.{Refusal}
use Rattle.answer.specs.declared.Refusal.TheVariants.{SlipCutOff, NoSuchSlip, NoRoom}
use Rattle.answer.proofs.Said.{refusals_apart}
use Rattle.reading.specs.Reading.{reading_answer}
use Rattle.reading.specs.declared.Kind.TheVariants.{Clean}
use Rattle.slip.specs.declared.SlipRead.{SlipRead}
use Rattle.slip.specs.declared.NoSlip.{NoSlip}
use Rattle.slip.specs.Slip.{HasSlip, slip}
use Rattle.slip.specs.Calls.{WriteSlipDone, ReadSlipDone, CutOff, Against}
use Rattle.slip.specs.Wrote.{Wrote, wrote_said, WroteApart}
use Rattle.slip.specs.Wrote.{Next, Refused}
use Rattle.slip.specs.Found.{Found, found_said, FoundApart}
use Rattle.slip.specs.Found.{Slip, Refused as RefusedAt}
use Rattle.slip.specs.Said.{WritesSlip, ReadsSlip, WritesExactly, ReadsExactly, WritesOne, ReadsOne, none_read}
use Rattle.slip.proofs.Decided.{write_decided, read_decided}
use Rattle.slip.proofs.Tied.{write_tied, read_tied}
use Rattle.slip.specs.contracts.write as write
use Rattle.slip.proofs.write.Kinds as write_kinds
use Rattle.slip.proofs.write.Reads as write_reads
use Rattle.slip.specs.contracts.read as read
use Rattle.slip.proofs.read.Kinds as read_kinds
use Rattle.slip.proofs.read.Reads as read_reads

-- ---- the contract, and the statement by cases
module _ (s : List ℕ) (i k : ℕ) (a : Answer) where
  wrote_plain : (r : Result ℕ Refusal) (s' : List ℕ) → WriteSlipDone s i k a (wrote_said r) s' → WritesSlip s i k a r s'
  unfolding WriteSlipDone
  wrote_plain (Ok n) s' d = d
  wrote_plain (Err e) s' (inl (z, f), b) = (inl (refusals_apart e NoSuchSlip z, f), b)
  wrote_plain (Err e) s' (inr (z, h, l), b) = (inr (refusals_apart e NoRoom z, h, l), b)

  plain_wrote : (r : Result ℕ Refusal) (s' : List ℕ) → WritesSlip s i k a r s' → WriteSlipDone s i k a (wrote_said r) s'
  unfolding WriteSlipDone
  plain_wrote (Ok n) s' d = d
  plain_wrote (Err e) s' (inl (z, f), b) = (inl (ap refusal_number z, f), b)
  plain_wrote (Err e) s' (inr (z, h, l), b) = (inr (ap refusal_number z, h, l), b)

module _ (s : List ℕ) (i : ℕ) where
  found_plain : (r : Result SlipRead NoSlip) (s' : List ℕ) → ReadSlipDone s i (found_said r) s' → ReadsSlip s i r s'
  unfolding ReadSlipDone
  found_plain (Ok x) s' d = d
  found_plain (Err e) s' (inl (z, g), b) = (inl (refusals_apart e.refusal SlipCutOff z, g), b)
  found_plain (Err e) s' (inr (z, g), b) = (inr (refusals_apart e.refusal NoSuchSlip z, g), b)

  plain_found : (r : Result SlipRead NoSlip) (s' : List ℕ) → ReadsSlip s i r s' → ReadSlipDone s i (found_said r) s'
  unfolding ReadSlipDone
  plain_found (Ok x) s' d = d
  plain_found (Err e) s' (inl (z, g), b) = (inl (ap refusal_number z, g), b)
  plain_found (Err e) s' (inr (z, g), b) = (inr (ap refusal_number z, g), b)

-- ---- of every caller
-- write: slice, offset, block number, reading
pub write_says : (κs : Lifetimes.Lfts 1) (a : World.ArgsD write.signature κs) (r : World.ResD write.signature κs)
    (s : Clauses.AtExit (Kinds.ended_of 1 write_kinds.ps write_kinds.r) κs) → write_reads.Learnt κs a r s
    → WritesSlip a.0.now a.1.0 a.1.1.0 (reading_answer a.1.1.1.0) r s.0.now
write_says κs a r s l = wrote_plain _ _ _ _ r _ (write_tied κs a r s l)

-- read: slice, offset
pub read_says : (κs : Lifetimes.Lfts 1) (a : World.ArgsD read.signature κs) (r : World.ResD read.signature κs)
    (ws : Clauses.Lasts (Kinds.ended_of 1 read_kinds.ps read_kinds.r) κs a)
    → let s = Clauses.at_exit (Kinds.ended_of 1 read_kinds.ps read_kinds.r) κs a ws in read_reads.Learnt κs a r s
    → ReadsSlip a.0.now a.1.0 r s.0.now
read_says κs a r ws l = found_plain _ _ r _ (read_tied κs a r ws l)

-- ---- answers that say the same
-- what a Wrote holds
next_in : Wrote → ℕ
next_in (Next n) = n
next_in (Refused n) = 0

is_next : Wrote → Type 0
is_next (Next n) = Unit {0}
is_next (Refused n) = ⊥

refused_in : Wrote → ℕ
refused_in (Next n) = 0
refused_in (Refused n) = n

pub wrote_apart : WroteApart
unfolding next_in is_next refused_in
wrote_apart (Ok n) (Ok n') e = ap Ok (ap next_in e)
wrote_apart (Ok n) (Err r) e = absurd (subst is_next e tt)
wrote_apart (Err r) (Ok n) e = absurd (subst is_next (sym e) tt)
wrote_apart (Err r) (Err r') e = ap Err (refusals_apart r r' (ap refused_in e))

-- what a Found holds
slip_in : Found → SlipRead
slip_in (Slip k r n) = record { block = k; reading = r; next = n }
slip_in (RefusedAt n p) = record { block = 0; reading = Ok Clean; next = 0 }

is_slip : Found → Type 0
is_slip (Slip k r n) = Unit {0}
is_slip (RefusedAt n p) = ⊥

cause_in : Found → ℕ
cause_in (Slip k r n) = 0
cause_in (RefusedAt n p) = n

place_in : Found → ℕ
place_in (Slip k r n) = 0
place_in (RefusedAt n p) = p

pub found_apart : FoundApart
unfolding slip_in is_slip cause_in place_in
found_apart (Ok x) (Ok x') e = ap Ok (ap slip_in e)
found_apart (Ok x) (Err n) e = absurd (subst is_slip e tt)
found_apart (Err n) (Ok x) e = absurd (subst is_slip (sym e) tt)
found_apart (Err n) (Err n') e =
    ap Err (ap₂ none_read (refusals_apart n.refusal n'.refusal (ap cause_in e)) (ap place_in e))

-- ---- decided
pub writes_one : WritesOne
writes_one s i k a r r' s' s'' d d' =
    let w = write_decided s i k a (wrote_said r) (wrote_said r') s' s'' (plain_wrote s i k a r s' d) (plain_wrote s i k a r' s'' d') in
    (wrote_apart r r' w.0, w.1)

pub reads_one : ReadsOne
reads_one s i r r' s' s'' d d' =
    let w = read_decided s i (found_said r) (found_said r') s' s'' (plain_found s i r s' d) (plain_found s i r' s'' d') in
    (found_apart r r' w.0, w.1)

-- ---- exactly when
module _ (s : List ℕ) (i k : ℕ) (a : Answer) where
  is_written : (n : ℕ) (s' : List ℕ) → WritesSlip s i k a (Ok n) s' → HasSlip k a × (n ≡ i + length (slip k a)) × (n ≤ length s)
  is_written n s' (h, e, l, b) = (h, e, l)

  has_none : (s' : List ℕ) → WritesSlip s i k a (Err NoSuchSlip) s' → HasSlip k a → ⊥
  has_none s' (inl (z, f), b) = f
  has_none s' (inr (z, h, l), b) = absurd (omega (arith, ap refusal_number z))

  has_no_room : (s' : List ℕ) → WritesSlip s i k a (Err NoRoom) s' → HasSlip k a × (length s < i + length (slip k a))
  has_no_room s' (inl (z, f), b) = absurd (omega (arith, ap refusal_number z))
  has_no_room s' (inr (z, h, l), b) = (h, l)

  pub writes_exactly : (r : Result ℕ Refusal) (s' : List ℕ) → WritesSlip s i k a r s' → WritesExactly s i k a r
  writes_exactly r s' d = record {
    written = λ n. (λ e. is_written n s' (of_it _ e), λ (h, e, l). so (Ok n) _ (h, e, l, refl));
    no_slip = (λ e. has_none s' (of_it _ e), λ f. so (Err NoSuchSlip) s (inl (refl, f), refl));
    no_room = (λ e. has_no_room s' (of_it _ e), λ (h, l). so (Err NoRoom) s (inr (refl, h, l), refl));
  }
    where
      of_it : (r' : Result ℕ Refusal) → r ≡ r' → WritesSlip s i k a r' s'
      of_it r' e = subst (λ (x : Result ℕ Refusal). WritesSlip s i k a x s') e d

      so : (r' : Result ℕ Refusal) (s'' : List ℕ) → WritesSlip s i k a r' s'' → r ≡ r'
      so r' s'' d' = (writes_one s i k a r r' s' s'' d d').0

module _ (s : List ℕ) (i : ℕ) where
  is_cut : (p : ℕ) (s' : List ℕ) → ReadsSlip s i (Err (none_read SlipCutOff p)) s' → CutOff s i p
  is_cut p s' (inl (z, g), b) = g
  is_cut p s' (inr (z, g), b) = absurd (omega (arith, ap refusal_number z))

  is_against : (p : ℕ) (s' : List ℕ) → ReadsSlip s i (Err (none_read NoSuchSlip p)) s' → Against s i p
  is_against p s' (inl (z, g), b) = absurd (omega (arith, ap refusal_number z))
  is_against p s' (inr (z, g), b) = g

  pub reads_exactly : (r : Result SlipRead NoSlip) (s' : List ℕ) → ReadsSlip s i r s' → ReadsExactly s i r
  reads_exactly r s' d = record {
    found = λ x. (λ e. (of_it (Ok x) e).0, λ g. so (Ok x) (g, refl));
    cut_off = λ p. (λ e. is_cut p s' (of_it _ e), λ g. so (Err (none_read SlipCutOff p)) (inl (refl, g), refl));
    no_slip = λ p. (λ e. is_against p s' (of_it _ e), λ g. so (Err (none_read NoSuchSlip p)) (inr (refl, g), refl));
  }
    where
      of_it : (r' : Result SlipRead NoSlip) → r ≡ r' → ReadsSlip s i r' s'
      of_it r' e = subst (λ (x : Result SlipRead NoSlip). ReadsSlip s i x s') e d

      so : (r' : Result SlipRead NoSlip) → ReadsSlip s i r' s → r ≡ r'
      so r' d' = (reads_one s i r r' s' s d d').0

pub write_exactly : (κs : Lifetimes.Lfts 1) (a : World.ArgsD write.signature κs) (r : World.ResD write.signature κs)
    (s : Clauses.AtExit (Kinds.ended_of 1 write_kinds.ps write_kinds.r) κs) → write_reads.Learnt κs a r s
    → WritesExactly a.0.now a.1.0 a.1.1.0 (reading_answer a.1.1.1.0) r
write_exactly κs a r s l = writes_exactly _ _ _ _ r _ (write_says κs a r s l)

pub read_exactly : (κs : Lifetimes.Lfts 1) (a : World.ArgsD read.signature κs) (r : World.ResD read.signature κs)
    (ws : Clauses.Lasts (Kinds.ended_of 1 read_kinds.ps read_kinds.r) κs a)
    → let s = Clauses.at_exit (Kinds.ended_of 1 read_kinds.ps read_kinds.r) κs a ws in read_reads.Learnt κs a r s
    → ReadsExactly a.0.now a.1.0 r
read_exactly κs a r ws l = reads_exactly _ _ r _ (read_says κs a r ws l)
