-- One call, of the book and of its contract: what it says in the book, and the state that the book is in after it.
--
--   Landed b τ       the state τ is that of the book b, whose blocks are 45 long
--   output_long      what a reading leaves in an output of 45 bytes
--   Next             what a call says in the book, and that the state is that of the book after it
--   settled          refused, so nothing changed; or done, and the book's own next book
--   read_at          block k of the bank is the block that the book holds; put_at: and so it is after it is put
--   added_next       what is added to the window is added to the run; refused_next: a refused call adds nothing
--   ..-next          for each kind of call, from its contract; hit_next: a hit
use Prim.Native.Nat.{ℕ, zero, suc, ◌+◌, ◌*◌, ◌/◌, ◌%◌, ◌<◌}
use mathlib.Core.Path.{◌≡◌, refl, sym, ap, ap₂, ◌∙◌, subst}
use mathlib.Core.List.{List, [], ◌++◌}
use native.Mathlib.Omega.{arith}
use lib.ListN.{length, set, length-set}
use Rattle.answer.specs.Answer.{Answer, done, clean, in_chips, in_card, counted, refused, refused_card, By}
use Rattle.answer.proofs.Causes.{by_map}
use Rattle.marks.specs.Mark.{mark_cause, marked, MarkDone}
use Rattle.marks.specs.declared.Marks.{Marks}
use Rattle.marks.specs.declared.MarkCall.{MarkCall}
use Rattle.code.specs.Block.{OneMember, Stored, zeros}
use Rattle.code.specs.Labels.{built_in}
use Rattle.reading.specs.Reading.{ReadsUnder}
use Rattle.window.specs.Window.{window_of, added, ClearWindowDone}
use Rattle.window.proofs.Runs.{added_none, window_empty, window_more}
use Rattle.block.specs.Read.{changed_at}
use Rattle.bank.proofs.Done.{block_back}
use Rattle.bank.specs.Calls.{block, with_block, clear_cause, put_cause, get_cause, patrol_cause, report_cause}
use Rattle.bank.specs.Calls.{ClearDone, PutDone, GetDone, PatrolDone, ReportDone}
use Rattle.book.specs.Book.{Call, clear, put, get, patrol, report, mark, clear_window}
use Rattle.book.specs.Book.{State, state, with_record}
use Rattle.book.specs.Book.{Book, zero_book, flat, state_of}
use Rattle.book.specs.Book.{many, size, marks_of, held_at, with_marks, with_held, with_both, with_run, noted}
use Rattle.book.specs.Book.{CallSays}
use Rattle.book.proofs.Blocks.{EachLong, each_replicate, each_set, each_at, length_flat, replicate_flat, block_flat, patch_flat, hit_flat}
use Rattle.book.proofs.Causes.{put_none, get_none, patrol_none}

pub record Landed (b : Book) (τ : State) : Type 0 where
  pub state : τ ≡ state_of b
  pub long : EachLong 45 b.held

-- the book's own bank with other blocks
landed : (b : Book) (bank win : List ℕ) → bank ≡ flat b.held → win ≡ window_of b.run → EachLong 45 b.held → Landed b (state bank b.rest win)
landed b bank win e f l = record { state = ap₂ (λ (x y : List ℕ). state x b.rest y) e f; long = l }

-- what a reading leaves in an output of 45 bytes is 45 bytes
pub output_long : (m : Marks) (b out : List ℕ) (a : Answer) (x : List ℕ) → ReadsUnder m b out a x → length out ≡ 45 → length x ≡ 45
output_long m b out clean x w h = w.0.0.block.long
output_long m b out (in_chips n) x w h = w.0.0.block.long
output_long m b out (in_card j n) x w h = w.0.0.block.long
output_long m b out (refused n) x w h = ap length w.2 ∙ h
output_long m b out (refused_card n j) x w h = ap length w.3 ∙ h
output_long m b out done x w h = absurd w
output_long m b out (counted u v y z o) x w h = absurd w

-- what a call says in the book, b' being the book after it
abbrev pub Next : Book → Call → Answer → List ℕ → State → Type 0
Next b c a out τ = (b' : Book) × CallSays b c a out b' × Landed b' τ

-- ---- one call on the book's own bank
module _ (b : Book) (long : EachLong 45 b.held) where
  pub size_flat : length (flat b.held) ≡ size b
  size_flat = length_flat 45 b.held long

  settled : (n : ℕ) (a : Answer) (τ : State) (D : Type 0) (D' : Book → Type 0) → By n a (τ ≡ state_of b) D
      → (n ≡ 0 → D → (b' : Book) × D' b' × Landed b' τ) → (b' : Book) × By n a (b' ≡ b) (D' b') × Landed b' τ
  settled zero a τ D D' w f = f refl w
  settled (suc n) a τ D D' (e, u) f = (b, (e, refl), record { state = u; long = long })

  -- the window of the book's run
  abbrev pub W : List ℕ
  W = window_of b.run

  unchanged : (bank : List ℕ) → bank ≡ flat b.held → state bank b.rest W ≡ state_of b
  unchanged bank e = ap (λ (x : List ℕ). state x b.rest W) e

  read_at : (k : ℕ) → k < many b → block (flat b.held) k ≡ held_at b k
  read_at k h = block_flat 45 b.held k long h

  put_at : (k : ℕ) → k < many b → (x bank : List ℕ) → bank ≡ with_block (flat b.held) k x → bank ≡ flat (set b.held k x)
  put_at k h x bank e = e ∙ patch_flat 45 b.held k x long h

  pub clear_next : (a : Answer) (bank : List ℕ) → ClearDone (flat b.held) a bank → Next b clear a [] (state bank b.rest W)
  unfolding ClearDone
  clear_next a bank w =
      let n = clear_cause (size b) in
      let v = settled n a (state bank b.rest W) _ (λ b'. (a ≡ done) × (b' ≡ zero_book (many b) b.rest b.run))
      (by_map n a _ _ _ _ (unchanged bank) (λ z d. d) (rw size_flat at w))
      (λ z d. (
        zero_book (many b) b.rest b.run,
        (d.0, refl),
        landed (zero_book (many b) b.rest b.run) bank W (d.1 ∙ replicate_flat 45 (many b) 0) refl
            (each_replicate 45 (many b) zeros refl),
      )) in
      (v.0, (refl, v.1), v.2)

  pub put_next : (k : ℕ) (rec : List ℕ) (a : Answer) (bank rec' : List ℕ) → PutDone (flat b.held) k rec a bank rec'
      → Next b (put k rec) a [] (state bank b.rest W)
  put_next k rec a bank rec' w =
      let n = put_cause (size b) k (length rec) in
      let v = settled n a (state bank b.rest W) _ (λ b'. (a ≡ done) × ((x : List ℕ) × OneMember (Stored built_in rec) x × (b' ≡ with_both b k x)))
      (by_map n a _ _ _ _ (unchanged bank) (λ z d. d) (rw size_flat at w.put))
      (λ z d. let x = d.1.0 in let one = d.1.1 in (
        with_both b k x,
        (d.0, (x, one, refl)),
        landed (with_both b k x) bank W (put_at k (put_none (many b) k (length rec) z).1 x bank d.1.2) refl
            (each_set 45 b.held k x long one.0.block.long),
      )) in
      (v.0, (refl, v.1), v.2)

  -- what is added to the window is added to the run
  added_next : (win ps qs : List ℕ) → win ≡ added W ps → ps ≡ qs → win ≡ window_of (b.run ++ qs)
  added_next win ps qs e f = e ∙ ap (added W) f ∙ window_more b.run qs

  -- a refused call adds nothing
  refused_next : (a : Answer) (n : ℕ) (win x y : List ℕ) → a ≡ refused (suc n) → win ≡ added W (changed_at a x y) → win ≡ W
  refused_next a n win x y e f = f ∙ ap (λ (c : Answer). added W (changed_at c x y)) e ∙ added_none W

  pub get_next : (k : ℕ) (out : List ℕ) (a : Answer) (bank out' win : List ℕ) → GetDone (flat b.held) k (marks_of b) out W a bank out' win
      → Next b (get k out) a out' (state bank b.rest win)
  get_next k out a bank out' win w =
      go (get_cause (size b) k (marks_of b) (length out)) refl
      (subst (λ (n : ℕ). By (get_cause n k (marks_of b) (length out)) a (out' ≡ out) (ReadsUnder (marks_of b) (block (flat b.held) k) out a out'))
      size_flat w.output)
    where
      go : (n : ℕ) → get_cause (size b) k (marks_of b) (length out) ≡ n
          → By n a (out' ≡ out) (ReadsUnder (marks_of b) (block (flat b.held) k) out a out')
          → (b' : Book) × By n a ((b' ≡ b) × (out' ≡ out))
          (ReadsUnder (marks_of b) (held_at b k) out a out' × (b' ≡ noted b (changed_at a (held_at b k) out'))) × Landed b' (state bank b.rest win)
      go zero z d =
          let e = read_at k (get_none (many b) k (marks_of b) (length out) z).1 in (
            noted b (changed_at a (held_at b k) out'),
            (subst (λ (l : List ℕ). ReadsUnder (marks_of b) l out a out') e d, refl),
            landed (noted b (changed_at a (held_at b k) out')) bank win w.kept
                (added_next win _ _ w.window (ap (λ (l : List ℕ). changed_at a l out') e)) long,
          )
      go (suc n) z (e, u) = (b, (e, (refl, u)), landed b bank win w.kept (refused_next a n win _ _ e w.window) long)

  pub patrol_next : (k : ℕ) (a : Answer) (bank win : List ℕ) → PatrolDone (flat b.held) k (marks_of b) W a bank win
      → Next b (patrol k) a [] (state bank b.rest win)
  patrol_next k a bank win w =
      let v = go (patrol_cause (size b) k (marks_of b)) refl
      (subst (λ (n : ℕ). By (patrol_cause n k (marks_of b)) a (bank ≡ flat b.held) Mended) size_flat w.mended) in
      (v.0, (refl, v.1), v.2)
    where
      Mended : Type 0
      Mended = (x : List ℕ) × ReadsUnder (marks_of b) (block (flat b.held) k) (block (flat b.held) k) a x × (bank ≡ with_block (flat b.held) k x)

      go : (n : ℕ) → patrol_cause (size b) k (marks_of b) ≡ n → By n a (bank ≡ flat b.held) Mended
          → (b' : Book) × By n a (b' ≡ b)
          ((x : List ℕ) × ReadsUnder (marks_of b) (held_at b k) (held_at b k) a x × (b' ≡ noted (with_held b k x) (changed_at a (held_at b k) x)))
          × Landed b' (state bank b.rest win)
      go zero z (x, d, q) =
          let inside = (patrol_none (many b) k (marks_of b) z).0 in
          let e = read_at k inside in
          let r = subst (λ (l : List ℕ). ReadsUnder (marks_of b) l l a x) e d in
          let l = output_long (marks_of b) (held_at b k) (held_at b k) a x r (each_at 45 b.held k long inside) in
          let there = ap (λ (y : List ℕ). block y k) q ∙ block_back (flat b.held) k x (omega (arith, size_flat)) l in (
            noted (with_held b k x) (changed_at a (held_at b k) x),
            (x, r, refl),
            landed (noted (with_held b k x) (changed_at a (held_at b k) x)) bank win (put_at k inside x bank q)
                (added_next win _ _ w.window (ap₂ (λ (y y' : List ℕ). changed_at a y y') e there)) (each_set 45 b.held k x long l),
          )
      go (suc n) z (e, u) = (b, (e, refl), landed b bank win u (refused_next a n win _ _ e w.window) long)

  pub report_next : (a : Answer) (bank : List ℕ) → ReportDone (flat b.held) (marks_of b) a bank → Next b report a [] (state bank b.rest W)
  report_next a bank w =
      let n = report_cause (size b) (marks_of b) in
      let e : size b / 45 ≡ many b = omega arith in (
        b,
        (
          refl,
          refl,
          by_map n a _ _ _ _ (λ u. u) (λ z d. (d.0, (λ k h. rw (read_at k h) at (d.1 k (rw e h))), rw e at d.2))
              (rw size_flat at w.answer),
        ),
        landed b bank W w.kept refl long,
      )

  pub mark_next : (c : MarkCall) (a : Answer) (m : Marks) → MarkDone (marks_of b) c a m
      → Next b (mark c) a [] (state (flat b.held) (with_record b.rest m) W)
  unfolding MarkDone
  mark_next c a m w =
      let n = mark_cause (marks_of b) c in
      let v = settled n a (state (flat b.held) (with_record b.rest m) W) _ (λ b'. (a ≡ done) × (b' ≡ with_marks b (marked (marks_of b) c)))
      (by_map n a _ _ _ _ (λ u. ap (λ (x : Marks). state (flat b.held) (with_record b.rest x) W) u) (λ z d. d) w)
      (λ z d. (
        with_marks b (marked (marks_of b) c),
        (d.0, refl),
        record {
          state = ap (λ (x : Marks). state (flat b.held) (with_record b.rest x) W) d.1;
          long = long;
        },
      )) in
      (v.0, (refl, v.1), v.2)

  pub clear_window_next : (a : Answer) (win : List ℕ) → ClearWindowDone a win → Next b clear_window a [] (state (flat b.held) b.rest win)
  clear_window_next a win (d, e) = (with_run b [], (refl, d, refl), landed (with_run b []) (flat b.held) win refl (e ∙ sym window_empty) long)

  -- byte j of block k is set
  pub hit_next : (i x : ℕ) → i < size b → Landed (with_held b (i / 45) (set (held_at b (i / 45)) (i % 45) x)) (state (set (flat b.held) i x) b.rest W)
  hit_next i x h =
      let k = i / 45 in
      let inside : i / 45 < many b = omega arith in
      let at : i ≡ 45 * (i / 45) + i % 45 = omega arith in
      landed (with_held b (i / 45) (set (held_at b (i / 45)) (i % 45) x)) (set (flat b.held) i x) W
      (ap (λ (p : ℕ). set (flat b.held) p x) at ∙ hit_flat 45 b.held (i / 45) (i % 45) x long inside (omega arith)) refl
      (each_set 45 b.held (i / 45) _ long (length-set (held_at b (i / 45)) (i % 45) x ∙ each_at 45 b.held (i / 45) long inside))
