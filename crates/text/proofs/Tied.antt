-- What every caller of `put`, `number`, `labelled` and `number_line` gets: any text or number may be put at any place of any output.
-- `..-tied`: what the caller learns; `..-asks`: the caller owes nothing. Where a contract is changed, this file is refused.
use contract.Lifetimes
use borrow.Fn.Kinds
use borrow.Fn.World
use denote.Triple.Clauses
use mathlib.Core.Path.{◌≡◌, refl}
use mathlib.Core.List.{◌++◌}
use Rattle.text.specs.Text.{ascii, decimal}
use Rattle.text.specs.Put.{Added}
use Rattle.text.specs.contracts.Text.put as put
use Rattle.text.proofs.Text.put.Kinds as put_kinds
use Rattle.text.proofs.Text.put.Reads as put_reads
use Rattle.text.specs.contracts.Text.number as number
use Rattle.text.proofs.Text.number.Kinds as number_kinds
use Rattle.text.proofs.Text.number.Reads as number_reads
use Rattle.text.specs.contracts.Text.labelled as labelled
use Rattle.text.proofs.Text.labelled.Kinds as labelled_kinds
use Rattle.text.proofs.Text.labelled.Reads as labelled_reads
use Rattle.text.specs.contracts.Text.number_line as number_line
use Rattle.text.proofs.Text.number_line.Kinds as number_line_kinds
use Rattle.text.proofs.Text.number_line.Reads as number_line_reads

-- the text so far, and the piece
pub put_tied : (κs : Lifetimes.Lfts 3) (a : World.ArgsD put.signature κs) (r : World.ResD put.signature κs)
    (ws : Clauses.Lasts (Kinds.ended_of 3 put_kinds.ps put_kinds.r) κs a)
    → let s = Clauses.at_exit (Kinds.ended_of 3 put_kinds.ps put_kinds.r) κs a ws in put_reads.Learnt κs a r s
    → Added a.1.0.now a.0.now s.0.now × (s.1.0.now ≡ a.1.0.now)
put_tied κs a r ws l = (l, refl)

pub put_asks : (κs : Lifetimes.Lfts 3) (a : World.ArgsD put.signature κs) → put_reads.Asked κs a
put_asks κs a = tt

-- the text so far, and the number
pub number_tied : (κs : Lifetimes.Lfts 2) (a : World.ArgsD number.signature κs) (r : World.ResD number.signature κs)
    (ws : Clauses.Lasts (Kinds.ended_of 2 number_kinds.ps number_kinds.r) κs a)
    → let s = Clauses.at_exit (Kinds.ended_of 2 number_kinds.ps number_kinds.r) κs a ws in number_reads.Learnt κs a r s
    → Added (decimal a.1.0) a.0.now s.0.now
number_tied κs a r ws l = l

pub number_asks : (κs : Lifetimes.Lfts 2) (a : World.ArgsD number.signature κs) → number_reads.Asked κs a
number_asks κs a = tt

-- the text so far, the word and the number
pub labelled_tied : (κs : Lifetimes.Lfts 3) (a : World.ArgsD labelled.signature κs) (r : World.ResD labelled.signature κs)
    (ws : Clauses.Lasts (Kinds.ended_of 3 labelled_kinds.ps labelled_kinds.r) κs a)
    → let s = Clauses.at_exit (Kinds.ended_of 3 labelled_kinds.ps labelled_kinds.r) κs a ws in labelled_reads.Learnt κs a r s
    → Added (a.1.0.now ++ decimal a.1.1.0) a.0.now s.0.now × (s.1.0.now ≡ a.1.0.now)
labelled_tied κs a r ws l = (l, refl)

pub labelled_asks : (κs : Lifetimes.Lfts 3) (a : World.ArgsD labelled.signature κs) → labelled_reads.Asked κs a
labelled_asks κs a = tt

-- the text so far, the word and the number
pub number_line_tied : (κs : Lifetimes.Lfts 3) (a : World.ArgsD number_line.signature κs) (r : World.ResD number_line.signature κs)
    (ws : Clauses.Lasts (Kinds.ended_of 3 number_line_kinds.ps number_line_kinds.r) κs a)
    → let s = Clauses.at_exit (Kinds.ended_of 3 number_line_kinds.ps number_line_kinds.r) κs a ws in number_line_reads.Learnt κs a r s
    → Added (a.1.0.now ++ (decimal a.1.1.0 ++ ascii "\n")) a.0.now s.0.now × (s.1.0.now ≡ a.1.0.now)
number_line_tied κs a r ws l = (l, refl)

pub number_line_asks : (κs : Lifetimes.Lfts 3) (a : World.ArgsD number_line.signature κs) → number_line_reads.Asked κs a
number_line_asks κs a = tt
