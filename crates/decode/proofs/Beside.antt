-- The search beside a marked card: at most one lawful block is allowed, so that one that is found is the one.
--
--   none_reads, none_answers     no search beside the card reaches a lawful block
--   found_reads, found_answers   one does: the block is told by what is changed of the card
--   unmarked_answers             the marked chips on the card make no difference
--   beside_marked                with a chip marked off the card, there is one search: with the marked chips
--   fails_at                     with none marked, the search with chip f fails where the card alone does, and the sums are no multiple of f's column
--   first_zero, first_nonzero    the card alone fails; alone_fits: it doesn't, where both sums are 0
use mathlib.Core.Logic.{◌≢◌, ◌⊎◌, inl, inr}
use mathlib.Core.Path.{◌≡◌, refl, sym, ap, ap₂, ◌∙◌, subst}
use mathlib.Core.Bool.{Bool, true, false, ◌&&◌}
use mathlib.Core.List.{List, [], ◌∷◌}
use Prim.Native.Nat.{ℕ, zero, suc, ◌/◌, ◌<◌, ◌≤◌}
use native.Mathlib.Omega.{arith}
use lib.Dec.{eqb}
use borrow.Author.Tests.{ne_eqb}
use Rattle.std.proofs.lemmas.Bool.{cases_eq}
use Rattle.base.specs.Base.{tally, Few}
use Rattle.field.specs.Field.{◌·◌}
use Rattle.field.proofs.Gf256.{field}
use Rattle.field.proofs.Ring.{mul_zero}
use Rattle.answer.specs.Answer.{refused}
use Rattle.code.specs.Block.{Block, changes, OneMember}
use Rattle.code.specs.Labels.{entry, LabelSet}
use Rattle.code.specs.Reach.{rules, Beside, keep, Reached}
use Rattle.code.proofs.Few.{keep_beside, keep_all}
use Rattle.std.specs.Prelude.{Some}
use Rattle.sums.specs.Sums.{rows_of}
use Rattle.sums.specs.declared.Sums.{Sums}
use Rattle.change.specs.Change.{applied, nonzero_at, weight}
use Rattle.change.specs.declared.Change.{Change}
use Rattle.change.proofs.Weight.{changes_weight, unmoved, moved}
use Rattle.reading.specs.Reading.{S, reading_answer, Reads}
use Rattle.reading.specs.declared.Kind.{Kind}
use Rattle.std.specs.Prelude.{Ok, Err}
use Rattle.reading.specs.declared.Fault.TheVariants.{Refused}
use Rattle.reading.proofs.Searches.{beside_chips, beside_few, covered_beside, covers_beside}
use Rattle.reading.proofs.Facts.{card_one, as_unmarked}
use Rattle.decode.specs.Equations.{fits_by, Within, Solves, chips_off}
use Rattle.decode.specs.declared.chips.OffCard.{OffCard}
use Rattle.decode.specs.declared.chips.OffCard.TheVariants.{Zero, One, Two}
use Rattle.decode.specs.Search.{SumsAt, chips_kind, card_kind}
use Rattle.decode.specs.Decode.{Answers}
use Rattle.decode.specs.Decode.{Decoded, reading_of, change_of}
use Rattle.decode.proofs.Describe.{unsolved}
use Rattle.decode.proofs.Answer.{refusal, correction, known_beside}
use Rattle.decode.proofs.Marked.{on, off as off_j}
use Rattle.decode.proofs.Kind.{formed, card_changed, card_kept}
use Rattle.decode.proofs.Cards.{from_keep, to_keep}

-- no chip of the card is marked
module _ (ls : List ℕ) (ok : LabelSet ls) (b : List ℕ) (j : ℕ) (hj : j < 5) (ps : List ℕ) (beside : Beside j ps) where
  pub none_reads : ((f : ℕ) → f < 45 → (x : List ℕ) → Reached ls j (beside_chips ps f) b x → ⊥) → Reads ls (Some j) ps b b (refused 10) b
  none_reads h = (refl, (λ y m. let w = covered_beside j b y ls ps beside.1 m in h w.0 w.1 y w.2), refl)

  module _ (bb : Block b) (f : ℕ) (hf : f < 45) (d : Change) (w : Within j (keep j (beside_chips ps f)) d)
      (r : Reached ls j (keep j (beside_chips ps f)) b (applied b d)) where
    off : Beside j (keep j (beside_chips ps f))
    off = keep_beside j (beside_chips ps f) (beside_few ps beside.0 f hf)

    member : S ls (Some j) ps b (applied b d)
    member = covers_beside j b (applied b d) ls ps beside.1 f (from_keep ls j (beside_chips ps f) b (applied b d) r)

    one : OneMember (S ls (Some j) ps b) (applied b d)
    one = (member, λ y m. card_one ls ok ps beside.0 b j hj y (applied b d) m member)

    n_is : weight d ≡ changes b (applied b d)
    n_is = sym (changes_weight d (formed d j hj (keep j (beside_chips ps f)) w off) b bb.long)

    pub found_reads : Reads ls (Some j) ps b b (reading_answer (Ok (card_kind j (tally 9 (nonzero_at d.rows)) (weight d)))) (applied b d)
    found_reads = go (tally 9 (nonzero_at d.rows)) refl
      where
        chips : tally 9 (nonzero_at d.rows) ≡ 0 → (n : ℕ) → weight d ≡ n → Reads ls (Some j) ps b b (reading_answer (Ok (chips_kind n))) (applied b d)
        chips z zero e = (one, unmoved d (formed d j hj (keep j (beside_chips ps f)) w off) b bb.long e)
        chips z (suc n) e = (
          one,
          moved d (formed d j hj (keep j (beside_chips ps f)) w off) b bb.long (subst (λ (k : ℕ). 1 ≤ k) (sym e) (omega arith)),
          sym e ∙ n_is,
          (member.allowed, card_kept d j hj (keep j (beside_chips ps f)) w off b bb.long z),
        )

        go : (own : ℕ) → tally 9 (nonzero_at d.rows) ≡ own → Reads ls (Some j) ps b b (reading_answer (Ok (card_kind j own (weight d)))) (applied b d)
        go zero e = chips e (weight d) refl
        go (suc own) e = (
          one,
          n_is,
          (λ c. c.1 (card_changed d j hj (keep j (beside_chips ps f)) w off b bb.long (subst (λ (k : ℕ). 1 ≤ k) (sym e) (omega arith)))),
          refl,
        )

-- ---- for every block with these sums
module _ (ls : List ℕ) (ok : LabelSet ls) (s : Sums) (j : ℕ) (hj : j < 5) (ps : List ℕ) (beside : Beside j ps) (t₁ t₂ : ℕ) (at : SumsAt ls s j t₁ t₂) where
  off_at : (f : ℕ) → f < 45 → Beside j (keep j (beside_chips ps f))
  off_at f hf = keep_beside j (beside_chips ps f) (beside_few ps beside.0 f hf)

  pub none_answers : ((f : ℕ) → f < 45 → fits_by ls j (keep j (beside_chips ps f)) t₁ t₂ ≡ false)
      → (r : Decoded) → r ≡ Err (Refused 10) → Answers ls (Some j) ps s r
  none_answers h r e =
      refusal ls (Some j) ps s r (Refused 10) e
      (λ b k. none_reads ls ok b j hj ps beside
      (λ f hf x y. unsolved ls b (rows_of s) j hj t₁ t₂ (known_beside ls b ok s k j t₁ t₂ at) (keep j (beside_chips ps f)) (off_at f hf) (h f hf) x
      (to_keep ls j (beside_chips ps f) b x y)))

  pub found_answers : (f : ℕ) → f < 45 → (d : Change) → Solves ls (rows_of s) j (keep j (beside_chips ps f)) t₁ t₂ d
      → (kind : Kind) → kind ≡ card_kind j (tally 9 (nonzero_at d.rows)) (weight d)
      → Answers ls (Some j) ps s (Ok (record { kind = kind; change = d }))
  found_answers f hf d v kind q =
      subst (λ (x : Kind). Answers ls (Some j) ps s (Ok (record { kind = x; change = d }))) (sym q)
      (correction ls (Some j) ps s (card_kind j (tally 9 (nonzero_at d.rows)) (weight d)) d
      (formed d j hj (keep j (beside_chips ps f)) v.within (off_at f hf))
      (λ b k. found_reads ls ok b j hj ps beside k.block f hf d v.within (v.reached b (known_beside ls b ok s k j t₁ t₂ at))))

-- ---- any marks
pub unmarked_answers : (ls : List ℕ) → LabelSet ls → (j : ℕ) → j < 5 → (ps : List ℕ) → Few rules ps → (s : Sums) (r : Decoded)
    → Answers ls (Some j) (keep j ps) s r → Answers ls (Some j) ps s r
unmarked_answers ls ok j hj ps few s r a = record {
  reads = λ b k. (as_unmarked ls ok j hj b ps few b (reading_answer (reading_of r)) (applied b (change_of r))).1 (a.reads b k);
  unchanged = a.unchanged;
  formed = a.formed;
}

pub beside_marked : (j : ℕ) (w : OffCard) → Beside j (chips_off w) → w ≢ Zero → (f : ℕ) → keep j (beside_chips (chips_off w) f) ≡ chips_off w
beside_marked j Zero o ne f = absurd (ne refl)
beside_marked j (One p) o ne f = keep_all j (p ∷ []) o.1
beside_marked j (Two p q) o ne f = keep_all j (p ∷ q ∷ []) o.1

-- ---- no chip marked
module _ (ls : List ℕ) (j t₁ t₂ : ℕ) where
  pub fails_at : (f : ℕ) → fits_by ls j [] t₁ t₂ ≡ false → (f / 9 ≢ j → t₂ ≢ entry ls j f · t₁) → fits_by ls j (keep j (f ∷ [])) t₁ t₂ ≡ false
  unfolding fits_by
  fails_at f h g = pick (cases_eq (f / 9) j)
    where
      pick : (f / 9 ≡ j) ⊎ (f / 9 ≢ j) → fits_by ls j (keep j (f ∷ [])) t₁ t₂ ≡ false
      pick (inl e) = subst (λ (qs : List ℕ). fits_by ls j qs t₁ t₂ ≡ false) (on f j e) h
      pick (inr n) = subst (λ (qs : List ℕ). fits_by ls j qs t₁ t₂ ≡ false) (off_j f j n) (ne_eqb t₂ (entry ls j f · t₁) (g n))

  -- the first sum is 0, and the second is not
  pub first_zero : t₁ ≡ 0 → t₂ ≢ 0 → (f : ℕ) → fits_by ls j (keep j (f ∷ [])) t₁ t₂ ≡ false
  unfolding fits_by
  first_zero e n f =
      fails_at f (ap (λ (t : Bool). eqb t₁ 0 && t) (ne_eqb t₂ 0 n) ∙ right (eqb t₁ 0))
      (λ z q. n (q ∙ ap (λ (x : ℕ). entry ls j f · x) e ∙ mul_zero 8 ◌·◌ field (entry ls j f)))
    where
      right : (t : Bool) → t && false ≡ false
      right true = refl
      right false = refl

  pub alone_fits : t₁ ≡ 0 → t₂ ≡ 0 → fits_by ls j [] t₁ t₂ ≡ true
  unfolding fits_by
  alone_fits e q = ap₂ (λ (x y : ℕ). eqb x 0 && eqb y 0) e q

  pub first_nonzero : t₁ ≢ 0 → fits_by ls j [] t₁ t₂ ≡ false
  unfolding fits_by
  first_nonzero n = ap (λ (t : Bool). t && eqb t₂ 0) (ne_eqb t₁ 0 n)
