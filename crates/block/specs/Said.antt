-- What the calls on one block return, in the code's own words: none of these cites the definition of the answer that it stands for. A reading
-- with a window, and one that mends, are told of a bank's calls.
--
--   ReadSays    a block read into an output, which holds out' after the call
--   LookSays    a block read, and nothing written
use Rattle.std.specs.Prelude.{◌≡◌, ℕ, List, [], length}
use Rattle.marks.specs.declared.Marks.{Marks}
use Rattle.reading.specs.Reading.{Reading}
use Rattle.reading.specs.Said.{ReadsAs, ReadingSays}
use Rattle.block.specs.Read.{read_cause, mend_cause}

abbrev pub ReadSays : List ℕ → Marks → List ℕ → Reading → List ℕ → Type 0
ReadSays b m out r out' = ReadingSays (read_cause (length b) m (length out)) (out' ≡ out) (ReadsAs m b out r out') r

abbrev pub LookSays : List ℕ → Marks → Reading → Type 0
LookSays b m r = ReadingSays (mend_cause (length b) m) (Unit {0}) ((x : List ℕ) × ReadsAs m b [] r x) r
