-- One reading of a block settles its row: a block has one reading (reading, Agree.antt).
--
--   Exactly told     a reading says what the row tells, no less and no more, and the cards that fit are those that it tells
--   one_answer       corrected, from one such reading
--   no_member        none, where S is empty
--   two_members      several, where S has two members
use mathlib.Core.Logic.{◌↔◌}
use mathlib.Core.Path.{refl}
use mathlib.Core.List.{List}
use Prim.Native.Nat.{ℕ}
use Rattle.base.specs.Base.{In}
use Rattle.answer.specs.Answer.{Answer, refused, refused_card}
use Rattle.code.specs.Block.{NoMember, TwoMembers}
use Rattle.code.specs.Labels.{built_in}
use Rattle.std.specs.declared.option.Option.{Option}
use Rattle.reading.specs.Reading.{S, Reaches, LowestReaching, Reads}
use Rattle.reading.proofs.Agree.{reads_only}
use Rattle.table.specs.Table.{Told, Is, Fitting}
use Rattle.table.specs.Table.Told.{corrected, none, several}

module _ (c : Option ℕ) (ps b : List ℕ) where
  abbrev Says : List ℕ → Answer → List ℕ → Type 0
  Says out a x = Reads built_in c ps b out a x

  unfoldable pub Exactly : Told → Type 0
  Exactly told = ((out : List ℕ) (a : Answer) (x : List ℕ) → Says out a x ↔ Is told out a x) × Fitting told ps b

  pub one_answer : (a : Answer) (y : List ℕ) → ((out : List ℕ) → Says out a y) → Exactly (corrected a y)
  unfolding Exactly
  one_answer a y h = (λ out. reads_only built_in c ps b out a y (h out), tt)

  pub no_member : NoMember (S built_in c ps b) → Exactly none
  unfolding Exactly
  no_member h = (λ out. reads_only built_in c ps b out (refused 10) out (refl, h, refl), tt)

  pub two_members : TwoMembers (S built_in c ps b) → (j : ℕ) → LowestReaching built_in ps b j
      → (js : List ℕ) → ((i : ℕ) → Reaches built_in ps b i ↔ In i js) → Exactly (several j js)
  unfolding Exactly
  two_members two j h js f = (λ out. reads_only built_in c ps b out (refused_card 11 j) out (refl, two, h, refl), f)
