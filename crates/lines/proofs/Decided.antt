-- The sound line of five totals, and the bytes that it is put into, are decided.
--
--   one_figure         five totals have one figure
--   sound_decided      their sound line, put at a place of the same bytes, leaves the same place and the same bytes
use mathlib.Core.Path.{◌≡◌}
use mathlib.Core.List.{List}
use Prim.Native.Nat.{ℕ, ◌+◌, ◌*◌}
use Rattle.rounding.proofs.Halves.{rounds_agree}
use Rattle.lines.specs.Lines.{SoundFigure, sound_line, SoundPut}
use Rattle.text.proofs.Decided.{put_text_decided}

module _ (v w x y z : ℕ) where
  pub one_figure : (p q : ℕ) → SoundFigure v w x y z p → SoundFigure v w x y z q → p ≡ q
  one_figure p q f g = rounds_agree (1000 * (v + w + x)) (v + w + x + y + z) p q f g

  pub sound_decided : (out : List ℕ) (at n n' : ℕ) (o o' : List ℕ) → SoundPut v w x y z out at n o → SoundPut v w x y z out at n' o' → (n ≡ n') × (o ≡ o')
  sound_decided out at n n' o o' p q =
      let e = one_figure p.figure q.figure p.rounded q.rounded in
      put_text_decided (sound_line q.figure) out at n n' o o' (rw e at p.put) q.put
