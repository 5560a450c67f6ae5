-- What the bank program writes.
--
--   Written input old new   what the writer holds has grown by a text that is printed of the whole input
use Rattle.std.specs.Prelude.{ℕ, List, Option}
use Rattle.std.specs.Io.KnownBytes.{Appends}
use Rattle.program.specs.Program.{Prints}

abbrev pub Written : List ℕ → Option (List ℕ) → Option (List ℕ) → Type 0
Written input old new = (text : List ℕ) × Prints input text × Appends old new text
