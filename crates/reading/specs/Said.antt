-- What a reading says in the code's own words: none of these cites `reading_answer`, by which the contracts speak of it.
--
--   ReadsAs m b out r out'   the reading r of b under the marks m, where nothing is refused; out is what was lent for output, and out' what it
--                            holds then
--   ReadingSays n U D r      of a call whose cause has the number n: where n is 0 it is not refused, and D; else r is that refusal, and U
use Rattle.std.specs.Prelude.{◌≡◌, ◌≢◌, ◌⊎◌, List, ℕ, Ok, Err}
use Rattle.code.specs.Block.{changes, OneMember, NoMember, TwoMembers}
use Rattle.code.specs.Labels.{built_in}
use Rattle.marks.specs.Marks.{marked_chips}
use Rattle.marks.specs.declared.Marks.{Marks}
use Rattle.reading.specs.Allowed.{OfChipKind}
use Rattle.reading.specs.Reading.{Reading, S, LowestReaching, OnCard}
use Rattle.reading.specs.declared.Kind.TheVariants.{Clean, Chips, OneCard}
use Rattle.reading.specs.declared.Fault.TheVariants.{Several, Refused}

-- the lawful blocks that differ from b as the marks allow
abbrev pub Fits : Marks → List ℕ → List ℕ → Type 0
Fits m b x = S built_in m.card (marked_chips m) b x

abbrev pub InChips : Marks → List ℕ → List ℕ → Type 0
InChips m b x = OfChipKind m.card (marked_chips m) b x

abbrev pub ReadsAs : Marks → List ℕ → List ℕ → Reading → List ℕ → Type 0
ReadsAs m b out (Ok Clean) out' = OneMember (Fits m b) out' × (out' ≡ b)
ReadsAs m b out (Ok (Chips n)) out' = OneMember (Fits m b) out' × (out' ≢ b) × (n ≡ changes b out') × InChips m b out'
ReadsAs m b out (Ok (OneCard j n)) out' =
    OneMember (Fits m b) out' × (n ≡ changes b out') × (InChips m b out' → ⊥) × OnCard m.card j (marked_chips m) b out'
ReadsAs m b out (Err (Several j)) out' = TwoMembers (Fits m b) × LowestReaching built_in (marked_chips m) b j × (out' ≡ out)
ReadsAs m b out (Err (Refused n)) out' = (n ≡ 10) × NoMember (Fits m b) × (out' ≡ out)

abbrev pub ReadingSays : ℕ → Type 0 → Type 0 → Reading → Type 0
ReadingSays n unchanged did (Ok k) = (n ≡ 0) × did
ReadingSays n unchanged did (Err (Several j)) = (n ≡ 0) × did
ReadingSays n unchanged did (Err (Refused c)) = ((n ≡ 0) × did) ⊎ ((n ≢ 0) × (c ≡ n) × unchanged)
