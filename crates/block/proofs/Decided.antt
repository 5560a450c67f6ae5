-- What a call on a block does is decided: two outcomes on the same bytes agree in the answer and in every byte.
--
--   read_decided, noted_decided, mend_decided, look_decided, four_unclean_decided
--   changed_agree, unread_window   what is added to a window; on a refusal nothing
use Prim.Native.Nat.{ℕ, ◌*◌}
use mathlib.Core.Path.{◌≡◌, refl, sym, ap, ap₂, ◌∙◌}
use mathlib.Core.Logic.{◌≢◌, ◌⊎◌, inl, inr}
use mathlib.Core.List.{List, []}
use lib.ListN.{length, take, drop}
use Rattle.std.proofs.lemmas.Bool.{cases_eq}
use Rattle.answer.specs.Answer.{Answer, done, clean, in_chips, in_card, counted, refused, refused_card, number}
use Rattle.answer.proofs.Causes.{Agreed, by_agree, by_same}
use Rattle.marks.specs.declared.Marks.{Marks}
use Rattle.sums.proofs.Decided.{four_digits}
use Rattle.reading.proofs.Agree.{under_agree}
use Rattle.window.specs.Window.{added}
use Rattle.window.proofs.Runs.{added_none}
use Rattle.block.specs.Read.{read_cause, mend_cause, ReadDone, NotedDone, MendDone, LookDone, ReadsClean, FourUnclean, changed_at}

pub read_decided : (b : List ℕ) (m : Marks) (out : List ℕ) (a a' : Answer) (x x' y y' : List ℕ) → ReadDone b m out a x y → ReadDone b m out a' x' y'
    → Agreed a a' y y' × (x ≡ x')
read_decided b m out a a' x x' y y' w v = (
  by_agree (read_cause (length b) m (length out)) a a' out y y' _ _ w.output v.output (under_agree m b out a a' y y'),
  w.received ∙ sym v.received,
)

-- a refusal adds nothing
pub unread_window : (a : Answer) (w b x : List ℕ) → number a ≢ 0 → added w (changed_at a b x) ≡ w
unread_window clean w b x n = absurd (n refl)
unread_window (in_chips i) w b x n = absurd (n refl)
unread_window (in_card j i) w b x n = absurd (n refl)
unread_window done w b x n = absurd (n refl)
unread_window (counted i j k l o) w b x n = absurd (n refl)
unread_window (refused i) w b x n = added_none w
unread_window (refused_card i j) w b x n = added_none w

-- what is added is decided by the answer and the bytes
pub changed_agree : (a a' : Answer) → a ≡ a' → (b x x' : List ℕ) → x ≡ x' → changed_at a b x ≡ changed_at a' b x'
changed_agree a a' e b x x' q = ap₂ (λ (c : Answer) (y : List ℕ). changed_at c b y) e q

pub noted_decided : (b : List ℕ) (m : Marks) (out w : List ℕ) (a a' : Answer) (x x' y y' z z' : List ℕ) → NotedDone b m out w a x y z
    → NotedDone b m out w a' x' y' z' → Agreed a a' y y' × (x ≡ x') × (z ≡ z')
noted_decided b m out w a a' x x' y y' z z' h g =
    let d = read_decided b m out a a' x x' y y' h.read g.read in
    (d.0, d.1, h.window ∙ ap (added w) (changed_agree a a' d.0.0 b y y' d.0.1) ∙ sym g.window)

pub mend_decided : (b : List ℕ) (m : Marks) (w : List ℕ) (a a' : Answer) (x x' z z' : List ℕ) → MendDone b m w a x z → MendDone b m w a' x' z'
    → Agreed a a' x x' × (z ≡ z')
mend_decided b m w a a' x x' z z' h g =
    let d = by_agree (mend_cause (length b) m) a a' b x x' _ _ h.block g.block (under_agree m b b a a' x x') in
    (d, h.window ∙ ap (added w) (changed_agree a a' d.0 b x x' d.1) ∙ sym g.window)

pub look_decided : (b : List ℕ) (m : Marks) (a a' : Answer) (x x' : List ℕ) → LookDone b m a x → LookDone b m a' x' → Agreed a a' x x'
look_decided b m a a' x x' w v = (
  by_same (mend_cause (length b) m) a a' _ _ w.answer v.answer (λ d d'. (under_agree m b [] a a' d.0 d'.0 d.1 d'.1).0),
  w.received ∙ sym v.received,
)

pub four_unclean_decided : (b : List ℕ) (r r' : ℕ) (x x' : List ℕ) → FourUnclean b r x → FourUnclean b r' x' → (r ≡ r') × (x ≡ x')
four_unclean_decided b r r' x x' w v = (pick (cases_eq (length b) 180), w.kept ∙ sym v.kept)
  where
    pick : (length b ≡ 180) ⊎ (length b ≢ 180) → r ≡ r'
    pick (inl e) = four_digits (λ k. ReadsClean (take 45 (drop (45 * k) b))) r r' w.below v.below (w.four e) (v.four e)
    pick (inr e) = w.other e ∙ sym (v.other e)
