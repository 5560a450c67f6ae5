-- What may be said of the table of words, from outside this crate.
--
--   WordTable P   P holds of every card and its nine words, by all that a caller of `card_words` learns
use contract.Lifetimes
use borrow.Fn.Kinds
use borrow.Fn.World
use denote.Triple.Clauses
use mathlib.Core.List.{List}
use Prim.Native.Nat.{ℕ}
use Rattle.sums.specs.contracts.words.card_words as card_words
use Rattle.sums.proofs.words.card_words.Kinds as card_words_kinds
use Rattle.sums.proofs.words.card_words.Reads as card_words_reads

abbrev pub WordTable : (ℕ → List ℕ → Type 0) → Type 0
WordTable P = (κs : Lifetimes.Lfts 0) (a : World.ArgsD card_words.signature κs) (r : World.ResD card_words.signature κs)
    (s : Clauses.AtExit (Kinds.ended_of 0 card_words_kinds.ps card_words_kinds.r) κs) → card_words_reads.Learnt κs a r s → P a.0 r
