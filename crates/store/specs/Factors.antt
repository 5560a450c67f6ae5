-- The four factors by which the two label sums give bytes 34 and 35. With D and E the entries of chips 34 and 35 in card 4's reduced matrix and
-- T = 1 / (D · E · (D + E)), byte 34 is T·E² times the first sum plus T·E times the second, byte 35 is T·D² times the first plus T·D times the second.
--
--   D, E                the two entries
--   Factors             f, g, h, k are T·E², T·E, T·D², T·D
use Rattle.std.specs.Prelude.{◌≡◌, List, ℕ}
use Rattle.field.specs.Field.{◌⊕◌, ◌·◌}
use Rattle.code.specs.Labels.{entry}

abbrev pub D : List ℕ → ℕ
D labels = entry labels 4 34

abbrev pub E : List ℕ → ℕ
E labels = entry labels 4 35

pub record Factors (labels : List ℕ) (f g h k : ℕ) : Type 0 where
  pub T : ℕ
  pub one : T · ((D labels · E labels) · (D labels ⊕ E labels)) ≡ 1
  pub f_is : f ≡ T · (E labels · E labels)
  pub g_is : g ≡ T · E labels
  pub h_is : h ≡ T · (D labels · D labels)
  pub k_is : k ≡ T · D labels
