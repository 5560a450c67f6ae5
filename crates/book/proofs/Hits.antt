-- One block of the book, while it is put and hit.
--
--   Holds n k m good now b   a book of n blocks with the marks m, whose block k was put as good and is held as now
--   puts       a put that is not refused; put_from: what the book says of it; put_holds: the block is held as it was put
--   hit_holds  a hit on the block sets its byte
use Prim.Native.Nat.{ℕ, ◌*◌, ◌/◌, ◌%◌, ◌≤◌, ◌<◌}
use mathlib.Core.Path.{◌≡◌, refl, sym, ap, ◌∙◌, subst}
use mathlib.Core.List.{List, []}
use native.Mathlib.Omega.{arith}
use lib.ListN.{length, set, length-set}
use lib.Seq.{get_or-set_same}
use Rattle.answer.specs.Answer.{done}
use Rattle.answer.proofs.Causes.{by_accepted}
use Rattle.marks.specs.Marks.{fresh_marks}
use Rattle.marks.specs.declared.Marks.{Marks}
use Rattle.code.specs.Block.{OneMember, Stored}
use Rattle.code.specs.Labels.{built_in}
use Rattle.bank.specs.Calls.{put_cause}
use Rattle.bank.proofs.Accepted.{accepts}
use Rattle.book.specs.Book.{put, call, hit, Seen, Book, size, marks_of, held_at, with_both, with_held, Step}
use Rattle.book.specs.Kept.{good_at}

pub record Holds (n k : ℕ) (m : Marks) (good now : List ℕ) (b : Book) : Type 0 where
  pub many : length b.held ≡ n
  pub marks : marks_of b ≡ m
  pub kept : good_at b k ≡ good
  pub held : held_at b k ≡ now

module _ (n k : ℕ) (hi : n ≤ 1024) (hk : k < n) (rec : List ℕ) (lr : length rec ≡ 34) where
  pub puts : put_cause (45 * n) k (length rec) ≡ 0
  puts = (accepts (45 * n) k (length rec) 45 fresh_marks).put.1 ((n, omega arith, hi, refl), omega arith, lr)

  pub put_from : (b : Book) → length b.held ≡ n → (s : Seen) (b' : Book) → Step b (call (put k rec)) s b'
      → (good : List ℕ) × Stored built_in rec good × (b' ≡ with_both b k good)
  put_from b many s b' w =
      let a = w.says.0 in
      let z : put_cause (size b) k (length rec) ≡ 0 = ap (λ (l : ℕ). put_cause (45 * l) k (length rec)) many ∙ puts in
      let d = by_accepted _ a (b' ≡ b) ((a ≡ done) × ((y : List ℕ) × OneMember (Stored built_in rec) y × (b' ≡ with_both b k y))) z w.says.2.1 in
      (d.1.0, d.1.1.0, d.1.2)

  pub put_holds : (b : Book) → length b.held ≡ n → length b.good ≡ n → (s : Seen) (b' : Book) → Step b (call (put k rec)) s b'
      → (good : List ℕ) × Stored built_in rec good × Holds n k (marks_of b) good good b'
  put_holds b many goods s b' w =
      let d = put_from b many s b' w in (
        d.0,
        d.1,
        subst (Holds n k (marks_of b) d.0 d.0) (sym d.2) (record {
          many = length-set b.held k d.0 ∙ many;
          marks = refl;
          kept = get_or-set_same b.good k d.0 [] (omega (arith, hk, goods));
          held = get_or-set_same b.held k d.0 [] (omega (arith, hk, many));
        }),
      )

pub hit_holds : (n k : ℕ) → k < n → (m : Marks) (good now : List ℕ) (i x : ℕ) → i / 45 ≡ k → (b : Book) → Holds n k m good now b → (s : Seen) (b' : Book)
    → Step b (hit i x) s b' → Holds n k m good (set now (i % 45) x) b'
hit_holds n k hk m good now i x e b h s b' w = subst (Holds n k m good (set now (i % 45) x)) (sym w.says.2) (record {
  many = length-set b.held (i / 45) _ ∙ h.many;
  marks = h.marks;
  kept = h.kept;
  held =
      ap (λ (c : ℕ). held_at (with_held b c (set (held_at b c) (i % 45) x)) k) e
      ∙ get_or-set_same b.held k (set (held_at b k) (i % 45) x) [] (omega (arith, hk, h.many))
      ∙ ap (λ (y : List ℕ). set y (i % 45) x) h.held;
})
