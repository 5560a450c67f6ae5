-- Demand 3, first sentence, demand 2, second sentence, and order 6, as statements about every reading that is not refused.
--
--   AcceptedExactly   not refused, exactly when
--   ReadsExactly      corrected, "none" and "several", each exactly when; NamesExactly: "several" with card j, exactly when
--   CleanExactly      clean exactly for the lawful blocks
use Rattle.std.specs.Prelude.{◌↔◌, ◌≡◌, List, ℕ, length, take}
use Rattle.answer.specs.Answer.{Answer, clean, refused_card, number}
use Rattle.marks.specs.Marks.{marked_chips, LawfulMarks}
use Rattle.marks.specs.declared.Marks.{Marks}
use Rattle.code.specs.Block.{Block, Lawful, OneMember, NoMember, TwoMembers}
use Rattle.code.specs.Labels.{built_in}
use Rattle.reading.specs.Reading.{S, LowestReaching}
use Rattle.block.specs.Read.{read_cause, mend_cause, ReadDone, record_in}

-- the set S of a block under a mark record
abbrev pub Fits : Marks → List ℕ → List ℕ → Type 0
Fits m b x = S built_in m.card (marked_chips m) b x

-- Whether a reading is refused by its arguments is known from their lengths and the marks alone.
abbrev pub AcceptedExactly : Type 0
AcceptedExactly = (n : ℕ) (m : Marks) (o : ℕ)
    → ((read_cause n m o ≡ 0) ↔ ((n ≡ 45) × (o ≡ 45) × LawfulMarks m)) × ((mend_cause n m ≡ 0) ↔ ((n ≡ 45) × LawfulMarks m))

-- "corrected exactly when S has one member, and to that member, refused as "none" exactly when S is empty, and as "several" exactly when S has two or more"
abbrev pub ReadsExactly : Type 0
ReadsExactly = (b : List ℕ) (m : Marks) (out : List ℕ) (a : Answer) (b' out' : List ℕ) → read_cause (length b) m (length out) ≡ 0
    → ReadDone b m out a b' out'
    → (number a ≡ 0 ↔ ((x : List ℕ) × OneMember (Fits m b) x))
    × (number a ≡ 0 → OneMember (Fits m b) out')
    × (number a ≡ 10 ↔ NoMember (Fits m b))
    × (number a ≡ 11 ↔ TwoMembers (Fits m b))

-- order 6: "the lowest-numbered one whose card-kind change reaches a lawful block"
abbrev pub NamesExactly : Type 0
NamesExactly = (b : List ℕ) (m : Marks) (out : List ℕ) (a : Answer) (b' out' : List ℕ) → read_cause (length b) m (length out) ≡ 0
    → ReadDone b m out a b' out' → (j : ℕ) → (a ≡ refused_card 11 j) ↔ (TwoMembers (Fits m b) × LowestReaching built_in (marked_chips m) b j)

-- "Each block that meets them reads as its first 34 bytes and is reported clean, and no other block is."
abbrev pub CleanExactly : Type 0
CleanExactly = (b : List ℕ) (m : Marks) (out : List ℕ) (a : Answer) (b' out' : List ℕ) → Block b → read_cause (length b) m (length out) ≡ 0
    → ReadDone b m out a b' out' → (a ≡ clean ↔ Lawful built_in b) × (a ≡ clean → record_in out' a ≡ take 34 b)
