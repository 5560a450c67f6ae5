-- The window of a run.
--
--   added_none      nothing added changes nothing
--   added_long      as many bytes stay; added_last: of 64 bytes, what is added to them and then the last 64
--   window_long     a run's window is 64 bytes; window_empty: that of no run is fresh
--   window_more     THE LAW: the window of a longer run is that of the run with the rest added
use mathlib.Core.Logic.{◌⊎◌, inl, inr}
use mathlib.Core.Path.{◌≡◌, refl, sym, ap, ◌∙◌}
use mathlib.Core.List.{List, [], ◌++◌, append_assoc, append-nil}
use Prim.Native.Nat.{ℕ, ◌+◌, ◌-◌, ◌<◌, ◌≤◌}
use native.Mathlib.Omega.{arith}
use lib.ListN.{length, drop, replicate, length-append, length-drop}
use lib.Seq.{drop-append-le, drop-append-add, drop-drop}
use Rattle.std.proofs.lemmas.Bool.{cases_lt}
use Rattle.base.proofs.Lists.{drop_replicate}
use Rattle.window.specs.Window.{last_64, window_of, fresh_window, added}

pub added_none : (w : List ℕ) → added w [] ≡ w
unfolding added
added_none w = append-nil w

pub added_last : (w ps : List ℕ) → length w ≡ 64 → added w ps ≡ last_64 (w ++ ps)
unfolding added
added_last w ps l = let e : length ps ≡ length (w ++ ps) - 64 = rw (length-append w ps) (omega arith) in ap (λ (n : ℕ). drop n (w ++ ps)) e

pub added_long : (w ps : List ℕ) → length (added w ps) ≡ length w
unfolding added
added_long w ps = rw (length-drop (length ps) (w ++ ps), length-append w ps) (omega arith)

-- ---- the window of a run
-- 64 times 255 and the run, without as many of the first
window_drop : (run : List ℕ) → window_of run ≡ drop (length run) (fresh_window ++ run)
unfolding window_of
window_drop run = pick (cases_lt 64 (length run))
  where
    pick : (64 < length run) ⊎ (length run ≤ 64) → window_of run ≡ drop (length run) (fresh_window ++ run)
    pick (inl h) =
        let e : 64 - length run ≡ 0 = omega arith in
        let f : length run ≡ length fresh_window + (length run - 64) = omega arith in
        ap (λ (n : ℕ). replicate n 255 ++ last_64 run) e
        ∙ sym (ap (λ (n : ℕ). drop n (fresh_window ++ run)) f ∙ drop-append-add fresh_window run (length run - 64))
    pick (inr h) =
        let e : length run - 64 ≡ 0 = omega arith in
        ap (λ (n : ℕ). replicate (64 - length run) 255 ++ drop n run) e
        ∙ sym (drop-append-le (length run) fresh_window run h ∙ ap (λ (l : List ℕ). l ++ run) (drop_replicate (length run) 64 255))

pub window_long : (run : List ℕ) → length (window_of run) ≡ 64
window_long run =
    ap length (window_drop run) ∙ length-drop (length run) (fresh_window ++ run)
    ∙ ap (λ (n : ℕ). n - length run) (length-append fresh_window run) ∙ (let e : 64 + length run - length run ≡ 64 = omega arith in e)

pub window_empty : window_of [] ≡ fresh_window
unfolding window_of
window_empty = refl

pub window_more : (run ps : List ℕ) → added (window_of run) ps ≡ window_of (run ++ ps)
unfolding added
window_more run ps =
    ap (λ (w : List ℕ). drop (length ps) (w ++ ps)) (window_drop run)
    ∙ ap (drop (length ps)) (sym (drop-append-le (length run) (fresh_window ++ run) ps (omega (arith, length-append fresh_window run)))
    ∙ ap (drop (length run)) (append_assoc fresh_window run ps))
    ∙ drop-drop (length ps) (length run) (fresh_window ++ (run ++ ps))
    ∙ ap (λ (n : ℕ). drop n (fresh_window ++ (run ++ ps))) (sym (length-append run ps))
    ∙ sym (window_drop (run ++ ps))
