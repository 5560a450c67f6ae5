-- The slips, byte by byte: what may stand behind each map.
--
--   Limits            how many bytes stand behind a map, and the least and the most that each may be
--   limits n lo hi    n bytes, with these limits
--   limits_of m        how many bytes stand behind the map m, and the least and the most that each may be; no byte behind any other number
--   allowed l          the same as the code's table has them, pairs of the least and the most; none where no byte stands behind
--   allowed_of m       those of the map m
--   limits_said o      back again
--   Within lo hi bs    each of the bytes bs is at least the one of lo and at most the one of hi in its place
--   block_told, answer_told   what the bytes of a slip tell
use Rattle.std.specs.Prelude.{ℕ, ◌+◌, ◌*◌, ◌≤◌, List, [], ◌∷◌, eqb, get_or, map, Some, None}
use Rattle.std.specs.declared.option.Option.{Option}
use Rattle.base.specs.Base.{if}
use Rattle.answer.specs.Answer.{Answer, clean, in_chips, in_card, refused, refused_card}
use Rattle.slip.specs.declared.limits.Allowed.{Allowed}

pub record Limits : Type 0 where
  pub size : ℕ
  pub least : List ℕ
  pub most : List ℕ

-- of n bytes behind the map
abbrev pub limits : ℕ → List ℕ → List ℕ → Limits
limits n lo hi = record { size = n; least = lo; most = hi }

-- low byte and high byte of the block number; then kind, card, n, refusal, those of them that the map has
unfoldable pub limits_of : ℕ → Limits
limits_of m =
    if (eqb m 3) (limits 3 (0 ∷ 0 ∷ 0 ∷ 0 ∷ 0 ∷ []) (255 ∷ 3 ∷ 0 ∷ 0 ∷ 0 ∷ []))
    (if (eqb m 11) (limits 4 (0 ∷ 0 ∷ 1 ∷ 1 ∷ 0 ∷ []) (255 ∷ 3 ∷ 1 ∷ 2 ∷ 0 ∷ []))
    (if (eqb m 15) (limits 5 (0 ∷ 0 ∷ 2 ∷ 0 ∷ 1 ∷ []) (255 ∷ 3 ∷ 2 ∷ 4 ∷ 11 ∷ []))
    (if (eqb m 17) (limits 3 (0 ∷ 0 ∷ 10 ∷ 0 ∷ 0 ∷ []) (255 ∷ 3 ∷ 10 ∷ 0 ∷ 0 ∷ []))
    (if (eqb m 21) (limits 4 (0 ∷ 0 ∷ 0 ∷ 11 ∷ 0 ∷ []) (255 ∷ 3 ∷ 4 ∷ 11 ∷ 0 ∷ []))
    (limits 0 (0 ∷ 0 ∷ 0 ∷ 0 ∷ 0 ∷ []) (0 ∷ 0 ∷ 0 ∷ 0 ∷ 0 ∷ []))))))

-- the same as the code's table has it: pairs of the least and the most, and none where no slip has the map
abbrev pub pairs : List ℕ → List ℕ → List (ℕ × ℕ)
pairs [] hi = []
pairs (l ∷ lo) [] = []
pairs (l ∷ lo) (h ∷ hi) = (l, h) ∷ pairs lo hi

abbrev pub allowed : Limits → Option Allowed
allowed l = if (eqb l.size 0) None (Some (record { size = l.size; each = pairs l.least l.most }))

abbrev pub allowed_of : ℕ → Option Allowed
allowed_of m = allowed (limits_of m)

-- and back
abbrev pub limits_said : Option Allowed → Limits
limits_said None = limits 0 (0 ∷ 0 ∷ 0 ∷ 0 ∷ 0 ∷ []) (0 ∷ 0 ∷ 0 ∷ 0 ∷ 0 ∷ [])
limits_said (Some b) = limits b.size (map (λ p. p.0) b.each) (map (λ p. p.1) b.each)

abbrev pub Within : List ℕ → List ℕ → List ℕ → Type 0
Within lo hi [] = Unit {0}
Within [] hi (x ∷ bs) = ⊥
Within (l ∷ lo) [] (x ∷ bs) = ⊥
Within (l ∷ lo) (h ∷ hi) (x ∷ bs) = (l ≤ x) × (x ≤ h) × Within lo hi bs

abbrev pub block_told : List ℕ → ℕ
block_told bs = get_or bs 1 0 + 256 * get_or bs 2 0

unfoldable pub answer_told : List ℕ → Answer
answer_told bs =
    if (eqb (get_or bs 0 0) 3) clean
    (if (eqb (get_or bs 0 0) 11) (in_chips (get_or bs 4 0))
    (if (eqb (get_or bs 0 0) 15) (in_card (get_or bs 4 0) (get_or bs 5 0))
    (if (eqb (get_or bs 0 0) 17) (refused (get_or bs 3 0)) (refused_card 11 (get_or bs 3 0)))))
