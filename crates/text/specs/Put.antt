-- Text that is put into lent bytes: what each function ensures that writes a piece of it.
--
--   room out at text   how many bytes of the text there is room for in out, from at on
--   Put                out with those bytes of the text from at on, the others as before; next is the place after them
--   Added              the text is put at the place of a `Text`, which then stands after it, in the same lent bytes
use Rattle.std.specs.Prelude.{ℕ, ◌+◌, ◌-◌, min, ◌≡◌, List, ◌++◌, length, take, drop}
use Rattle.text.specs.declared.Text.{Text}

abbrev pub room : List ℕ → ℕ → List ℕ → ℕ
room out at text = min (length text) (length out - at)

pub record Put (text out : List ℕ) (at next : ℕ) (out' : List ℕ) : Type 0 where
  pub place : next ≡ at + room out at text
  pub bytes : out' ≡ take at out ++ (take (room out at text) text ++ drop next out)

pub record Added (text : List ℕ) (old new : Text) : Type 0 where
  pub put : Put text old.out.now old.at new.at new.out.now
  pub same_out : new.out.ghost_name ≡ old.out.ghost_name
