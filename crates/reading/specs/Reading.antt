-- The set S, and what a reading says. Demand 3, first sentence; document 01, "What a reading says"; document 02, order 6.
--
--   LawfulIn            the lawful blocks that P holds of
--   S labels c ps b     the lawful blocks that differ from b only as the marks allow
--   Reaches             a card-kind change of card j reaches a lawful block; LowestReaching: and of no card below j
--   OnCard              the card that a corrected block is told by
--   Reading, reading_answer   what the code says of a block, and the answer that it stands for
--   ReadsBy             what a reading of b says, out being what was lent for output and out' what it holds then: of any set P of
--                       blocks, K telling those that a change of the chip kind reaches, and N the card that is named with 11
--   Reads               the same of S and of the lowest card
--   ReadsUnder          the same under a mark record, with the built-in labels
use Rattle.std.specs.Prelude.{◌≡◌, ◌≢◌, List, ℕ, ◌<◌}
use Rattle.answer.specs.Answer.{Answer, done, clean, in_chips, in_card, counted, refused, refused_card}
use Rattle.code.specs.Block.{Block, Lawful, changes, OneMember, NoMember, TwoMembers}
use Rattle.code.specs.Labels.{built_in}
use Rattle.marks.specs.Marks.{marked_chips}
use Rattle.std.specs.declared.option.Option.{Option}
use Rattle.std.specs.Prelude.{None, Some}
use Rattle.marks.specs.declared.Marks.{Marks}
use Rattle.reading.specs.Allowed.{CardKind, Allowed, OfChipKind}
use Rattle.std.specs.declared.result.Result.{Result}
use Rattle.std.specs.Prelude.{Ok, Err}
use Rattle.reading.specs.declared.Kind.{Kind}
use Rattle.reading.specs.declared.Kind.TheVariants.{Clean, Chips, OneCard}
use Rattle.reading.specs.declared.Fault.{Fault}
use Rattle.reading.specs.declared.Fault.TheVariants.{Several, Refused}

pub record LawfulIn (labels : List ℕ) (P : List ℕ → Type 0) (x : List ℕ) : Type 0 where
  pub block : Block x
  pub lawful : Lawful labels x
  pub allowed : P x

abbrev pub S : List ℕ → Option ℕ → List ℕ → List ℕ → List ℕ → Type 0
S labels c ps b x = LawfulIn labels (Allowed c ps b) x

-- "whose card-kind change reaches a lawful block"
abbrev pub Reaches : List ℕ → List ℕ → List ℕ → ℕ → Type 0
Reaches labels ps b j = (j < 5) × ((y : List ℕ) × Block y × Lawful labels y × CardKind j ps b y)

-- order 6: "the lowest-numbered one"
abbrev pub LowestReaching : List ℕ → List ℕ → List ℕ → ℕ → Type 0
LowestReaching labels ps b j = Reaches labels ps b j × ((i : ℕ) → i < j → Reaches labels ps b i → ⊥)

-- "the card that holds all the unmarked changed bytes"; "With card j marked it is card j"
abbrev pub OnCard : Option ℕ → ℕ → List ℕ → List ℕ → List ℕ → Type 0
OnCard None j ps b x = (j < 5) × CardKind j ps b x
OnCard (Some m) j ps b x = j ≡ m

-- the numbers and values of the code's answer; "none" is 10, and "several" 11 with a card
abbrev pub Reading : Type 0
Reading = Result Kind Fault

abbrev pub reading_answer : Reading → Answer
reading_answer (Ok Clean) = clean
reading_answer (Ok (Chips n)) = in_chips n
reading_answer (Ok (OneCard j n)) = in_card j n
reading_answer (Err (Several j)) = refused_card 11 j
reading_answer (Err (Refused n)) = refused n

-- corrected: the output is the one member, told by its kind, n being the number of bytes changed;
-- 10: there is no member; 11: there are two members or more, and the card is the one that N names; with both the output is as before
abbrev pub ReadsBy : (List ℕ → Type 0) → (List ℕ → Type 0) → (ℕ → Type 0) → Option ℕ → List ℕ → List ℕ → List ℕ → Answer → List ℕ → Type 0
ReadsBy P K N c ps b out clean out' = OneMember P out' × (out' ≡ b)
ReadsBy P K N c ps b out (in_chips n) out' = OneMember P out' × (out' ≢ b) × (n ≡ changes b out') × K out'
ReadsBy P K N c ps b out (in_card j n) out' = OneMember P out' × (n ≡ changes b out') × (K out' → ⊥) × OnCard c j ps b out'
ReadsBy P K N c ps b out (refused n) out' = (n ≡ 10) × NoMember P × (out' ≡ out)
ReadsBy P K N c ps b out (refused_card n j) out' = (n ≡ 11) × TwoMembers P × N j × (out' ≡ out)
ReadsBy P K N c ps b out done out' = ⊥
ReadsBy P K N c ps b out (counted v w x y z) out' = ⊥

abbrev pub Reads : List ℕ → Option ℕ → List ℕ → List ℕ → List ℕ → Answer → List ℕ → Type 0
Reads labels c ps b out a out' = ReadsBy (S labels c ps b) (OfChipKind c ps b) (LowestReaching labels ps b) c ps b out a out'

abbrev pub ReadsUnder : Marks → List ℕ → List ℕ → Answer → List ℕ → Type 0
ReadsUnder m b out a out' = Reads built_in m.card (marked_chips m) b out a out'
