-- What `decode` gives is decided: two outcomes for the same sums and marks answer alike, do the same to every block, and list the
-- same positions.
--
--   acts_alike      changes that make the same of one block make the same of every block
--   decodes_agree   of sums that are a block's
--   decodes_one     THE STATEMENT: all sums are
use Prim.Native.Nat.{ℕ, zero, suc, ◌<◌, ◌^◌}
use mathlib.Core.Path.{◌≡◌, refl, sym, ap, ◌∙◌}
use mathlib.Core.Logic.{◌≢◌, ◌⊎◌, inl, inr}
use mathlib.Core.Bool.{Bool}
use mathlib.Core.List.{List}
use native.Mathlib.Omega.{arith}
use lib.ListN.{length}
use borrow.Author.Tests.{ne_eqb}
use Rattle.std.proofs.lemmas.Bool.{cases_eq}
use Rattle.base.specs.Base.{if}
use Rattle.answer.specs.Answer.{Answer, number, refused}
use Rattle.field.specs.Field.{◌⊕◌}
use Rattle.field.proofs.Xor.{add_self_left}
use Rattle.code.specs.Block.{byte, Block, block_of, zeros, differing}
use Rattle.code.specs.Labels.{built_in}
use Rattle.code.proofs.BuiltIn.{built_in_set}
use Rattle.code.proofs.Blocks.{same_block}
use Rattle.marks.specs.Marks.{marks_cause}
use Rattle.marks.specs.declared.Marks.{Marks}
use Rattle.marks.proofs.Laws.{cause_lawful}
use Rattle.sums.specs.Sums.{IsSums}
use Rattle.sums.specs.declared.Sums.{Sums}
use Rattle.sums.proofs.Onto.{every_sums}
use Rattle.change.specs.Change.{adds, applied, WellFormed, places, ordered, positions, filled, Listed}
use Rattle.change.specs.declared.Change.{Change}
use Rattle.change.specs.declared.Positions.{Positions}
use Rattle.change.proofs.Made.{applied_long, applied_at}
use Rattle.change.proofs.Listed.{filled_positions}
use Rattle.reading.specs.Reading.{reading_answer}
use Rattle.reading.proofs.Agree.{under_agree}
use Rattle.decode.specs.Decode.{Decodes}
use Rattle.decode.specs.Decode.{Decoded, reading_of, change_of}

acts_alike : (d d' : Change) (b : List ℕ) → length b ≡ 45 → applied b d ≡ applied b d' → (c : List ℕ) → applied c d ≡ applied c d'
unfolding applied
acts_alike d d' b l e c = pick (cases_eq (length c) 45)
  where
    added : (p : ℕ) → p < 45 → adds d p ≡ adds d' p
    added p h =
        sym (add_self_left (byte b p) (adds d p))
        ∙ ap (λ (x : ℕ). byte b p ⊕ x) (sym (applied_at b d l p h) ∙ ap (λ (x : List ℕ). byte x p) e ∙ applied_at b d' l p h)
        ∙ add_self_left (byte b p) (adds d' p)

    other : (x : Change) → length c ≢ 45 → applied c x ≡ c
    other x n = ap (λ (t : Bool). if t (block_of (λ r. byte c r ⊕ adds x r)) c) (ne_eqb (length c) 45 n)

    pick : (length c ≡ 45) ⊎ (length c ≢ 45) → applied c d ≡ applied c d'
    pick (inl k) =
        same_block (applied c d) (applied c d') (applied_long c d k) (applied_long c d' k)
        (λ p h. applied_at c d k p h ∙ ap (λ (x : ℕ). byte c p ⊕ x) (added p h) ∙ sym (applied_at c d' k p h))
    pick (inr n) = other d n ∙ sym (other d' n)

-- the answers, what the changes make of any bytes, and the positions that `changed` lists
pub record SameOutcome (r r' : Decoded) : Type 0 where
  pub answer : reading_answer (reading_of r) ≡ reading_answer (reading_of r')
  pub made : (c : List ℕ) → applied c (change_of r) ≡ applied c (change_of r')
  pub listed : (ps ps' : Positions) → Listed (change_of r) ps → Listed (change_of r') ps' → ps ≡ ps'

list_alike : (d d' : Change) → WellFormed d → WellFormed d' → applied zeros d ≡ applied zeros d' → (ps ps' : Positions) → Listed d ps → Listed d' ps' → ps ≡ ps'
list_alike d d' w w' e ps ps' l l' = l.whole ∙ ap filled (is d ps l ∙ same_list ∙ sym (is d' ps' l')) ∙ sym l'.whole
  where
    is : (d : Change) (ps : Positions) → Listed d ps → places (ordered d) ≡ positions ps
    is d ps l = sym (ap positions l.whole ∙ filled_positions (places (ordered d)))

    same_list : positions ps ≡ positions ps'
    same_list = l.changed w zeros refl ∙ ap (differing zeros) e ∙ sym (l'.changed w' zeros refl)

pub decodes_agree : (s : Sums) (m : Marks) (r r' : Decoded) → Decodes s m r → Decodes s m r' → (b : List ℕ) → Block b → IsSums built_in b s → SameOutcome r r'
decodes_agree s m r r' w v b bb is = go (marks_cause m) refl
  where
    outcome : reading_answer (reading_of r) ≡ reading_answer (reading_of r') → ((c : List ℕ) → applied c (change_of r) ≡ applied c (change_of r')) → SameOutcome r r'
    outcome a h = record { answer = a; made = h; listed = list_alike (change_of r) (change_of r') w.formed v.formed (h zeros) }

    go : (n : ℕ) → marks_cause m ≡ n → SameOutcome r r'
    go zero e =
        let l = cause_lawful m e in
        let g = under_agree m b b (reading_answer (reading_of r)) (reading_answer (reading_of r')) (applied b (change_of r)) (applied b (change_of r'))
        (w.reads l b bb is) (v.reads l b bb is) in
        outcome g.0 (acts_alike (change_of r) (change_of r') b bb.long g.1)
    go (suc n) e =
        let ne : marks_cause m ≢ 0 = λ z. omega (arith, e, z) in
        let k = w.unlawful ne in
        let k' = v.unlawful ne in
        let refuses : (x : Answer) → x ≡ refused (marks_cause m) → number x ≢ 0 = λ x q z. ne (sym (ap number q) ∙ z) in
        let none = w.unchanged (refuses (reading_answer (reading_of r)) k) in
        let none' = v.unchanged (refuses (reading_answer (reading_of r')) k') in
        outcome (k ∙ sym k') (λ c. ap (applied c) (none ∙ sym none'))

pub decodes_one : (s : Sums) → s.low < 2 ^ 64 → s.high < 2 ^ 8 → s.once < 2 ^ 8 → s.squared < 2 ^ 8 → (m : Marks) (r r' : Decoded)
    → Decodes s m r → Decodes s m r' → SameOutcome r r'
decodes_one s low high once squared m r r' w v =
    let e = every_sums built_in built_in_set s low high once squared in
    decodes_agree s m r r' w v e.0 e.1 e.2
