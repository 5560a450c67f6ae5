-- The answers: a refusal with no change, and a correction with the change that makes it.
--
--   refusal, correction         the two ways in which an answer comes about
--   alone_counted               how many bytes a card's rows are; known_beside: what is known of a block beside a card
--   unlawful_decodes, lawful_decodes   the contract, from the marks' cause
use mathlib.Core.Logic.{inl}
use mathlib.Core.Path.{◌≡◌, refl, sym, ap, ◌∙◌, subst}
use mathlib.Core.List.{List}
use Prim.Native.Nat.{ℕ}
use native.Mathlib.Omega.{arith}
use Rattle.base.specs.Base.{tally}
use Rattle.answer.specs.Answer.{number, refused, refusal_number}
use Rattle.answer.specs.declared.Refusal.{Refusal}
use Rattle.answer.proofs.Causes.{number_given}
use Rattle.code.specs.Labels.{built_in, LabelSet}
use Rattle.marks.specs.Marks.{marked_chips, marks_cause}
use Rattle.std.specs.declared.option.Option.{Option}
use Rattle.marks.specs.declared.Marks.{Marks}
use Rattle.marks.proofs.Laws.{lawful_cause}
use Rattle.sums.specs.Sums.{rows_of}
use Rattle.sums.specs.declared.Sums.{Sums}
use Rattle.change.specs.Change.{applied, no_change, nonzero_at, weight, WellFormed}
use Rattle.change.specs.declared.Change.{Change}
use Rattle.change.proofs.Made.{applied_none}
use Rattle.reading.specs.Reading.{reading_answer, Reads}
use Rattle.reading.specs.declared.Kind.{Kind}
use Rattle.reading.specs.declared.Kind.TheVariants.{Clean, Chips, OneCard}
use Rattle.std.specs.Prelude.{Ok, Err, IsErrAnd}
use Rattle.reading.specs.declared.Fault.{Fault}
use Rattle.reading.specs.declared.Fault.TheVariants.{Refused}
use Rattle.decode.specs.Equations.{KnownAt, rows_only}
use Rattle.decode.specs.Search.{Known, SumsAt}
use Rattle.decode.specs.Decode.{Answers, Decodes}
use Rattle.decode.specs.Decode.{Decoded, reading_of, change_of}

corrected : (k : Kind) → number (reading_answer (Ok k)) ≡ 0
corrected Clean = refl
corrected (Chips n) = refl
corrected (OneCard j n) = refl

none_formed : WellFormed no_change
none_formed = record { card = omega arith; first = inl refl; second = inl refl }

module _ (ls : List ℕ) (c : Option ℕ) (ps : List ℕ) (s : Sums) where
  faulty : (f : Fault) → ((b : List ℕ) → Known ls b s → Reads ls c ps b b (reading_answer (Err f)) b) → Answers ls c ps s (Err f)
  faulty f h = record {
    reads = λ b known. subst (Reads ls c ps b b (reading_answer (Err f))) (sym (applied_none b)) (h b known);
    unchanged = λ n. refl;
    formed = none_formed;
  }

  pub refusal : (r : Decoded) (f : Fault) → r ≡ Err f → ((b : List ℕ) → Known ls b s → Reads ls c ps b b (reading_answer (Err f)) b)
      → Answers ls c ps s r
  refusal r f e h = subst (Answers ls c ps s) (sym e) (faulty f h)

  pub correction : (k : Kind) (d : Change) → WellFormed d → ((b : List ℕ) → Known ls b s → Reads ls c ps b b (reading_answer (Ok k)) (applied b d))
      → Answers ls c ps s (Ok (record { kind = k; change = d }))
  correction k d w h = record { reads = h; unchanged = λ n. absurd (n (corrected k)); formed = w }

-- ---- as the code goes
pub alone_counted : (z : List ℕ) (j : ℕ) → weight (rows_only z j) ≡ tally 9 (nonzero_at z)
unfolding weight
alone_counted z j = omega arith

pub known_beside : (ls b : List ℕ) → LabelSet ls → (s : Sums) → Known ls b s → (j t₁ t₂ : ℕ) → SumsAt ls s j t₁ t₂ → KnownAt ls b (rows_of s) j t₁ t₂
known_beside ls b ok s k j t₁ t₂ h = record { set = ok; block = k.block; rows = k.sums.rows; sums = h b k }

-- ---- under a mark record
module _ (s : Sums) (m : Marks) where
  unlawful : (e : Refusal) → refusal_number e ≡ marks_cause m → Decodes s m (Err (Refused (refusal_number e)))
  unlawful e q = record {
    reads = λ lawful b bb h. absurd (number_given e (q ∙ lawful_cause m lawful));
    unlawful = λ z. ap refused q;
    unchanged = λ z. refl;
    formed = none_formed;
  }

  -- why the marks are not lawful is handed on
  pub unlawful_decodes : (r : Decoded) (e : Refusal) → refusal_number e ≡ marks_cause m → IsErrAnd r (λ (f : Fault). f ≡ Refused (refusal_number e))
      → Decodes s m r
  unlawful_decodes (Ok d) e q h = absurd h
  unlawful_decodes (Err f) e q h = subst (λ (x : Fault). Decodes s m (Err x)) (sym h) (unlawful e q)

module _ (s : Sums) (m : Marks) (r : Decoded) where
  pub lawful_decodes : marks_cause m ≡ 0 → (ls : List ℕ) → ls ≡ built_in → (c : Option ℕ) → m.card ≡ c → (ps : List ℕ) → ps ≡ marked_chips m
      → Answers ls c ps s r → Decodes s m r
  lawful_decodes z ls e c q ps p a = record {
    reads = λ lawful b bb h.
        subst (λ (x : Option ℕ). Reads built_in x (marked_chips m) b b (reading_answer (reading_of r)) (applied b (change_of r))) (sym q)
        (subst (λ (x : List ℕ). Reads built_in c x b b (reading_answer (reading_of r)) (applied b (change_of r))) p
        ((subst (λ (x : List ℕ). Answers x c ps s r) e a).reads b (record { block = bb; sums = h })));
    unlawful = λ n. absurd (n z);
    unchanged = a.unchanged;
    formed = a.formed;
  }
