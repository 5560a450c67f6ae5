-- Cards alone, where no chip is marked: each takes the rows themselves.
--
--   sums_at                        the word that gathers the rows by card j's words makes the sums those of its reduced matrix
--   alone_is                       the test of the two sums; paired_test: as the code makes it
--   alone_at                       it is that card j takes all of the label sums
--   only_card                      under the built-in labels a card that fits, and takes an amount other than 0, is the only one
--   found_chips, found_card        a card that fits, by how many rows are not 0; passed_card: one that does not
--   second_card                    a second one that fits
--   card_answers                   the answer, where one card fits
use mathlib.Core.Logic.{◌≢◌, ◌⊎◌, inl, inr}
use mathlib.Core.Path.{◌≡◌, refl, sym, ap, ap₂, ◌∙◌, subst}
use mathlib.Core.Bool.{Bool, true, false, ◌&&◌}
use mathlib.Core.List.{List, []}
use Prim.Native.Nat.{ℕ, zero, suc, ◌+◌, ◌*◌, ◌^◌, ◌<◌, ◌≤◌}
use native.Mathlib.Omega.{arith}
use lib.Dec.{eqb}
use Rattle.std.proofs.lemmas.Bool.{cases_eq}
use Rattle.std.specs.Prelude.{Option, Some, None}
use borrow.Author.Tests.{eq-eqb, ne_eqb}
use Rattle.base.specs.Base.{tally}
use Rattle.base.proofs.Tally.{tally_ext}
use Rattle.field.specs.Field.{◌⊕◌}
use Rattle.field.proofs.Xor.{add_self, eq_of_sum}
use Rattle.answer.specs.Answer.{in_card}
use Rattle.code.specs.Labels.{built_in, LabelSet}
use Rattle.code.specs.Reach.{keep, Reached}
use Rattle.code.proofs.BuiltIn.{built_in_set}
use Rattle.std.specs.Prelude.{None}
use Rattle.pairs.specs.Words.{spread, gathered, at_point, paired}
use Rattle.sums.specs.Sums.{rows_of, taken}
use Rattle.sums.specs.declared.Sums.{Sums}
use Rattle.pairs.proofs.Points.{at_point_below}
use Rattle.pairs.proofs.Fold.{paired_digits}
use Rattle.sums.proofs.Next.{next_taken, next_fixed}
use Rattle.sums.proofs.Syndrome.{reduced_sums}
use Rattle.change.specs.Change.{applied, nonzero_at, weight, WellFormed}
use Rattle.change.specs.declared.Change.{Change}
use Rattle.reading.specs.Allowed.{ChipKind}
use Rattle.reading.specs.Reading.{Reads, Reaches}
use Rattle.reading.specs.declared.Kind.{Kind}
use Rattle.reading.specs.declared.Kind.TheVariants.{OneCard}
use Rattle.std.specs.Prelude.{Ok}
use Rattle.reading.proofs.Facts.{reaches, reached_by}
use Rattle.reading.proofs.Named.{all_or_one}
use Rattle.decode.specs.Equations.{fits_by, rows_only, Within}
use Rattle.decode.specs.Search.{Known, SumsAt, Alone, stray, strays, chips_kind, Looked, LookedTwice}
use Rattle.decode.specs.Decode.{Answers}
use Rattle.decode.proofs.Describe.{unsolved, solves_none}
use Rattle.decode.proofs.Answer.{correction, alone_counted, known_beside}
use Rattle.decode.proofs.Cards.{to_keep, passed, first_found, second_found, not_chips, card_reads, chips_reads}

pub sums_at : (ls : List ℕ) → LabelSet ls → (s : Sums) (j : ℕ) → j < 5 → (words : List ℕ) → words ≡ spread ls
    → (u : ℕ) → u ≡ gathered (rows_of s) words j → SumsAt ls s j (s.once ⊕ at_point 2 8 u) (s.squared ⊕ at_point 4 8 u)
sums_at ls ok s j hj words w u e b k = reduced_sums ls b ok k.block s k.sums j hj words w u e

sum_test : (a b : ℕ) → eqb (b ⊕ a) 0 ≡ eqb a b
sum_test a b = go (cases_eq a b)
  where
    go : (a ≡ b) ⊎ (a ≢ b) → eqb (b ⊕ a) 0 ≡ eqb a b
    go (inl e) = eq-eqb (b ⊕ a) 0 (ap (λ (x : ℕ). b ⊕ x) e ∙ add_self b) ∙ sym (eq-eqb a b e)
    go (inr n) = ne_eqb (b ⊕ a) 0 (λ z. n (sym (eq_of_sum b a z))) ∙ sym (ne_eqb a b n)

pub alone_is : (ls : List ℕ) → LabelSet ls → (s : Sums) (j : ℕ) → j < 5 → (a c : ℕ) → SumsAt ls s j (s.once ⊕ a) (s.squared ⊕ c)
    → (t : Bool) → t ≡ eqb a s.once && eqb c s.squared → Alone ls s j t
unfolding fits_by
alone_is ls ok s j hj a c h t e = record {
  found = λ q b k. (solves_none ls (rows_of s) j hj t₁ t₂ (test ∙ q)).reached b (known_beside ls b ok s k j t₁ t₂ h);
  none = λ q b k. unsolved ls b (rows_of s) j hj t₁ t₂ (known_beside ls b ok s k j t₁ t₂ h) [] (tt, tt) (test ∙ q);
}
  where
    t₁ : ℕ
    t₁ = s.once ⊕ a

    t₂ : ℕ
    t₂ = s.squared ⊕ c

    test : eqb (s.once ⊕ a) 0 && eqb (s.squared ⊕ c) 0 ≡ t
    test = ap₂ (λ (x y : Bool). x && y) (sum_test a s.once) (sum_test c s.squared) ∙ sym e

-- the test as the code makes it: both at once
pub paired_test : (a b c d x y : ℕ) → a < 2 ^ 8 → b < 2 ^ 8 → x ≡ paired a c → y ≡ paired b d → eqb x y ≡ eqb a b && eqb c d
paired_test a b c d x y ha hb ex ey = go (cases_eq a b) (cases_eq c d)
  where
    is : (m : x ≡ y) → c * 2 ^ 32 + a ≡ d * 2 ^ 32 + b
    is m = sym (paired_digits a c ha) ∙ sym ex ∙ m ∙ ey ∙ paired_digits b d hb

    go : (a ≡ b) ⊎ (a ≢ b) → (c ≡ d) ⊎ (c ≢ d) → eqb x y ≡ eqb a b && eqb c d
    go (inl e) (inl q) =
        eq-eqb x y (ex ∙ ap₂ paired e q ∙ sym ey) ∙ sym (ap₂ (λ (s t : Bool). s && t) (eq-eqb a b e) (eq-eqb c d q))
    go (inl e) (inr n) =
        ne_eqb x y (λ m. n (omega (arith, is m, ha, hb))) ∙ sym (ap₂ (λ (s t : Bool). s && t) (eq-eqb a b e) (ne_eqb c d n))
    go (inr n) q = ne_eqb x y (λ m. n (omega (arith, is m, ha, hb))) ∙ sym (ap (λ (t : Bool). t && eqb c d) (ne_eqb a b n))

-- card j takes all of the label sums exactly where it alone reaches a lawful block
pub alone_at : (s : Sums) → s.once < 2 ^ 8 → (j : ℕ) → j < 5 → Alone built_in s j (eqb (taken s j) (paired s.once s.squared))
alone_at s h j hj =
    let u : ℕ = gathered (rows_of s) (spread built_in) j in
    alone_is built_in built_in_set s j hj (at_point 2 8 u) (at_point 4 8 u) (sums_at built_in built_in_set s j hj (spread built_in) refl u refl) _
    (paired_test (at_point 2 8 u) s.once (at_point 4 8 u) s.squared (taken s j) (paired s.once s.squared) (at_point_below 2 8 u) h refl refl)

-- ---- under the built-in labels a card that takes an amount other than 0 is the only one
module _ (s : Sums) (once : s.once < 2 ^ 8) (high : s.high < 2 ^ 8) (b : List ℕ) (known : Known built_in b s) where
  takes : (j : ℕ) → j < 5 → (x : List ℕ) → Reached built_in j [] b x → taken s j ≡ paired s.once s.squared
  takes j hj x r = pick (cases_eq (taken s j) (paired s.once s.squared))
    where
      pick : (taken s j ≡ paired s.once s.squared) ⊎ (taken s j ≢ paired s.once s.squared) → taken s j ≡ paired s.once s.squared
      pick (inl e) = e
      pick (inr n) = absurd ((alone_at s once j hj).none (ne_eqb _ _ n) b known x r)

  first_two : Reaches built_in [] b 0 → Reaches built_in [] b 1 → taken s 0 ≡ 0
  first_two r q =
      let v = (reached_by built_in [] b 0 r).1 in
      let w = (reached_by built_in [] b 1 q).1 in
      next_fixed (gathered (rows_of s) (spread built_in) 0)
      (next_taken s 0 high (omega arith) ∙ takes 1 (omega arith) w.0 w.1 ∙ sym (takes 0 (omega arith) v.0 v.1))

  pub only_card : (j : ℕ) → j < 5 → taken s j ≢ 0 → Looked built_in [] b j None → Looked built_in [] b (j + 1) (Some j) → Looked built_in [] b 5 (Some j)
  only_card j hj ne before (below, (y, q, n), none) = (hj, (y, q, n), λ i l other x r. contrary j hj ne before q i l other x r)
    where
      contrary : (j : ℕ) → j < 5 → taken s j ≢ 0 → Looked built_in [] b j None → Reached built_in j [] b y → (i : ℕ) → i < 5 → (i ≡ j → ⊥)
          → (x : List ℕ) → Reached built_in i [] b x → ⊥
      contrary zero hj ne before q i l other x r =
          let all = all_or_one b known.block i 0 other (reaches built_in [] b i l x r) (reaches built_in [] b 0 hj y q) in
          ne (first_two (all 0 (omega arith)) (all 1 (omega arith)))
      contrary (suc j) hj ne before q i l other x r =
          let all = all_or_one b known.block i (suc j) other (reaches built_in [] b i l x r) (reaches built_in [] b (suc j) hj y q) in
          let w = (reached_by built_in [] b 0 (all 0 (omega arith))).1 in
          before 0 (omega arith) (λ z. z) w.0 w.1

-- ---- rows
strays_alone : (z : List ℕ) (j : ℕ) → strays (rows_only z j) [] ≡ tally 9 (nonzero_at z)
unfolding stray
strays_alone z j = tally_ext 9 (λ i. nonzero_at z i && true) (nonzero_at z) (λ i l. right (nonzero_at z i))
  where
    right : (t : Bool) → t && true ≡ t
    right true = refl
    right false = refl

within_alone : (z : List ℕ) (j : ℕ) (qs : List ℕ) → Within j qs (rows_only z j)
within_alone z j qs = record { card = refl; first = inl refl; second = inl refl }

rows_formed : (z : List ℕ) (j : ℕ) → j < 5 → WellFormed (rows_only z j)
rows_formed z j h = record { card = h; first = inl refl; second = inl refl }

-- ---- a turn: z are the rows, and n of them are not 0
module _ (ls : List ℕ) (ok : LabelSet ls) (s : Sums) (n : ℕ) (en : n ≡ weight (rows_only (rows_of s) 0)) where
  n_is : n ≡ tally 9 (nonzero_at (rows_of s))
  n_is = en ∙ alone_counted (rows_of s) 0

  module _ (j : ℕ) (hj : j < 5) (t : Bool) (h : Alone ls s j t) where
    same_n : n ≡ weight (rows_only (rows_of s) j)
    same_n = n_is ∙ sym (alone_counted (rows_of s) j)

    kept : t ≡ true → (b : List ℕ) → Known ls b s → Reached ls j (keep j []) b (applied b (rows_only (rows_of s) j))
    kept e b k = to_keep ls j [] b (applied b (rows_only (rows_of s) j)) (h.found e b k)

    pub found_chips : t ≡ true → n ≤ 1 → (kind : Kind) → kind ≡ chips_kind n → (d : Change) → d ≡ rows_only (rows_of s) j
        → Answers ls None [] s (Ok (record { kind = kind; change = d }))
    unfolding keep
    found_chips e l kind q d qd =
        subst (λ (x : Change). Answers ls None [] s (Ok (record { kind = kind; change = x }))) (sym qd)
        (subst (λ (x : Kind). Answers ls None [] s (Ok (record { kind = x; change = rows_only (rows_of s) j }))) (sym (q ∙ ap chips_kind same_n))
        (correction ls None [] s (chips_kind (weight (rows_only (rows_of s) j))) (rows_only (rows_of s) j) (rows_formed (rows_of s) j hj)
        (λ b k. chips_reads ls ok [] tt b k.block j hj (rows_only (rows_of s) j) (within_alone (rows_of s) j []) (kept e b k)
        (omega (arith, strays_alone (rows_of s) j, n_is)))))

    not_by_chips : t ≡ true → 2 ≤ n → (b : List ℕ) → Known ls b s → ChipKind [] b (applied b (rows_only (rows_of s) j)) → ⊥
    not_by_chips e l b k =
        not_chips ls ok [] tt b k.block j hj (rows_only (rows_of s) j) (within_alone (rows_of s) j (keep j [])) (kept e b k)
        (omega (arith, strays_alone (rows_of s) j, n_is))

    pub found_card : t ≡ true → 2 ≤ n → (b : List ℕ) → Known ls b s → Looked ls [] b j None → Looked ls [] b (j + 1) (Some j)
    found_card e l b k = first_found ls ok [] tt b j (applied b (rows_only (rows_of s) j)) (h.found e b k) (not_by_chips e l b k)

    pub second_card : t ≡ true → (b : List ℕ) → Known ls b s → (card : ℕ) → Looked ls [] b j (Some card) → LookedTwice ls [] b card
    second_card e b k card = second_found ls ok [] tt b j hj (applied b (rows_only (rows_of s) j)) (h.found e b k) card

    pub passed_card : t ≡ false → (b : List ℕ) → Known ls b s → (found : Option ℕ) → Looked ls [] b j found → Looked ls [] b (j + 1) found
    passed_card e b k found = passed ls ok [] tt b j found (h.none e b k)

    pub card_answers : t ≡ true → ((b : List ℕ) → Known ls b s → Looked ls [] b 5 (Some j)) → (d : Change) → d ≡ rows_only (rows_of s) j
        → Answers ls None [] s (Ok (record { kind = OneCard j n; change = d }))
    unfolding keep
    card_answers e looked d qd =
        subst (λ (x : Change). Answers ls None [] s (Ok (record { kind = OneCard j n; change = x }))) (sym qd)
        (correction ls None [] s (OneCard j n) (rows_only (rows_of s) j) (rows_formed (rows_of s) j hj)
        (λ b k. subst (λ (x : ℕ). Reads ls None [] b b (in_card j x) (applied b (rows_only (rows_of s) j))) (sym same_n)
        (card_reads ls ok [] tt b k.block j hj (rows_only (rows_of s) j) (within_alone (rows_of s) j []) (kept e b k) (looked b k))))
