-- Demand 3, last sentence: where the damage is allowed, a get gives the record last put, or "several".
--
--   Kept n k rec b     a book of n blocks whose good block k is lawful and begins with rec
--   ..-kept            so it is after each kind of entry, and after any list, rec being the record last put
--   kept_after         and so it is in the book of every list
--   ReadBy, get_reads  what a get reads, by the call and by the command, whose answer comes back from the registers (comes)
--   get_in_list        the same in any list, the good block being that of the record last put
--   gives              what a reading gives of a block whose damage is allowed: its good block is in S
--   corrected_exactly  which answers are "corrected"
--   gets_last_put      THE STATEMENT
use Prim.Native.Nat.{ℕ, zero, suc, ◌*◌, ◌/◌, ◌≤◌, ◌<◌}
use mathlib.Core.Path.{◌≡◌, refl, sym, ap, ◌∙◌, subst}
use mathlib.Core.Bool.{◌&&◌, false≢true}
use mathlib.Core.List.{List, [], ◌∷◌, ◌++◌}
use mathlib.Core.Logic.{◌⊎◌, inl, inr, by_cases, ◌↔◌}
use native.Mathlib.Omega.{arith}
use native.Mathlib.Decide.{ℕ_discrete}
use lib.Dec.{eqb}
use lib.ListN.{length, take, replicate, length-set, length-replicate, get_or-replicate}
use lib.Seq.{get_or-set_same, get_or-set_other}
use borrow.Author.Tests.{eq-eqb, ne_eqb}
use Rattle.base.specs.Base.{if}
use Rattle.answer.specs.Answer.{Answer, done, clean, in_chips, in_card, counted, refused, refused_card, By}
use Rattle.answer.proofs.Causes.{by_accepted}
use Rattle.marks.specs.Marks.{CardInRange, LawfulMarks, marked_chips}
use Rattle.marks.specs.Mark.{mark_cause, marked}
use Rattle.std.specs.declared.option.Option.{Option}
use Rattle.std.specs.Prelude.{None, Some}
use Rattle.marks.specs.declared.Marks.{Marks}
use Rattle.marks.proofs.Laws.{cause_lawful, few_chips}
use Rattle.code.specs.Block.{Stored, TwoMembers, OneMember, zeros}
use Rattle.code.specs.Labels.{built_in}
use Rattle.code.proofs.BuiltIn.{built_in_set}
use Rattle.code.proofs.Members.{zero_stored}
use Rattle.reading.specs.Reading.{S, ReadsUnder}
use Rattle.reading.proofs.Facts.{chip_one, card_one}
use Rattle.reading.proofs.Gives.{reads_give}
use Rattle.bank.specs.Calls.{clear_cause, put_cause, get_cause, patrol_cause, class}
use Rattle.registers.specs.Registers.{fresh_registers}
use Rattle.registers.specs.Write.{command_of, write_cause}
use Rattle.registers.specs.Plain.{last_answer}
use Rattle.registers.specs.Write.{Command}
use Rattle.registers.specs.Write.{Get, Patrol, Mark, Unknown}
use Rattle.registers.proofs.Commands.{Comes, reading_comes}
use Rattle.registers.proofs.Writes.{known_0}
use Rattle.book.specs.Book.{clear, put, get, patrol, report, mark, clear_window, Entry, call, write, hit, says, Seen, State, Rest, rest_of}
use Rattle.book.specs.Book.{Book, zero_book, fresh_book, many, size, registers_of, marks_of, held_at}
use Rattle.book.specs.Book.{with_marks, with_held, with_both, with_front, with_run, noted, CallSays, CommandSays, WriteSays, Step, Booked}
use Rattle.book.specs.Kept.{record_after, last_put, good_at, DamageAllowed, DamageOfChipKind, GetOf, by_call, by_command}
use Rattle.book.specs.Kept.{Corrected, Answers, GivesRecord, GetsLastPut}
use Rattle.book.proofs.Causes.{clear_none, get_none}

-- ---- the good block, entry by entry
pub record Kept (n k : ℕ) (rec : List ℕ) (b : Book) : Type 0 where
  pub held : length b.held ≡ n
  pub good : length b.good ≡ n
  pub stored : Stored built_in rec (good_at b k)

module _ (n k : ℕ) (lo : 1 ≤ n) (hi : n ≤ 1024) (inside : k < n) where
  zeros_kept : (w : Rest) (run : List ℕ) → Kept n k (replicate 34 0) (zero_book n w run)
  zeros_kept w run = record {
    held = length-replicate n zeros;
    good = length-replicate n zeros;
    stored = rw (get_or-replicate n k zeros [] inside) (zero_stored built_in);
  }

  module _ {rec : List ℕ} {b : Book} (g : Kept n k rec b) where
    clear_kept : (a : Answer) (b' : Book) → By (clear_cause (size b)) a (b' ≡ b) ((a ≡ done) × (b' ≡ zero_book (many b) b.rest b.run))
        → Kept n k (replicate 34 0) b'
    clear_kept a b' w =
        let e = by_accepted (clear_cause (45 * n)) a (b' ≡ b) ((a ≡ done) × (b' ≡ zero_book n b.rest b.run)) (clear_none n lo hi) (rw g.held at w) in
        rw e.1 (zeros_kept b.rest b.run)

    put_kept : (z j : ℕ) (new : List ℕ) (a : Answer) (b' : Book)
        → By z a (b' ≡ b) ((a ≡ done) × ((x : List ℕ) × OneMember (Stored built_in new) x × (b' ≡ with_both b j x)))
        → Kept n k (if (eqb z 0 && eqb j k) new rec) b'
    put_kept zero j new a b' (d, (x, one, e)) = rw e (record {
      held = length-set b.held j x ∙ g.held;
      good = length-set b.good j x ∙ g.good;
      stored = by_cases (ℕ_discrete j k)
          (λ i. rw (eq-eqb j k i, i, get_or-set_same b.good k x [] (omega (arith, g.good))) one.0)
          (λ i. rw (ne_eqb j k i, get_or-set_other b.good j k x [] (λ q. i (sym q))) g.stored);
    })
    put_kept (suc z) j new a b' (d, e) = rw (e, ne_eqb (suc z) 0 (omega arith)) g

    -- the good blocks are left alone, by a call that is refused and by one that is not
    kept_by : (z : ℕ) (a : Answer) (b' : Book) (D : Type 0) → (D → Kept n k rec b') → By z a (b' ≡ b) D → Kept n k rec b'
    kept_by zero a b' D f d = f d
    kept_by (suc z) a b' D f (d, e) = rw e g

    marks_kept : (m : Marks) (b' : Book) → b' ≡ with_marks b m → Kept n k rec b'
    marks_kept m b' e = rw e (record { held = g.held; good = g.good; stored = g.stored })

    front_kept : (f : List ℕ) (b' : Book) → b' ≡ with_front b f → Kept n k rec b'
    front_kept f b' e = rw e (record { held = g.held; good = g.good; stored = g.stored })

    -- nor does the run
    run_kept : (l : List ℕ) (b' : Book) → b' ≡ with_run b l → Kept n k rec b'
    run_kept l b' e = rw e (record { held = g.held; good = g.good; stored = g.stored })

    get_kept : (z : ℕ) (a : Answer) (b' : Book) (O D : Type 0) (ps : List ℕ) → By z a ((b' ≡ b) × O) (D × (b' ≡ noted b ps)) → Kept n k rec b'
    get_kept zero a b' O D ps (d, e) = run_kept (b.run ++ ps) b' e
    get_kept (suc z) a b' O D ps (d, e) = rw e.0 g

    mended_kept : (j : ℕ) (x ps : List ℕ) (b' : Book) → b' ≡ noted (with_held b j x) ps → Kept n k rec b'
    mended_kept j x ps b' e = rw e (record { held = length-set b.held j x ∙ g.held; good = g.good; stored = g.stored })

    held_kept : (j : ℕ) (x : List ℕ) (b' : Book) → b' ≡ with_held b j x → Kept n k rec b'
    held_kept j x b' e = rw e (record { held = length-set b.held j x ∙ g.held; good = g.good; stored = g.stored })

    -- a command leaves the good blocks to the call that it stands for, and no such call changes them
    command_kept : (c : Command) (lent : List ℕ) (a : Answer) (out : List ℕ) (b' : Book) → CommandSays b c lent a out b' → Kept n k rec b'
    command_kept (Get j) lent a out b' w = get_kept (get_cause (size b) j (marks_of b) (length lent)) a b' _ _ _ w
    command_kept (Patrol j) lent a out b' w = kept_by (patrol_cause (size b) j (marks_of b)) a b' _ (λ d. mended_kept j d.0 _ b' d.2) w.0.1
    command_kept (Mark c) lent a out b' w =
        kept_by (mark_cause (marks_of b) c) a b' _ (λ d. marks_kept (marked (marks_of b) c) b' d.1) w.0.1
    command_kept Unknown lent a out b' w = absurd w

  write_kept : (p v : ℕ) (lent out : List ℕ) {rec : List ℕ} {b : Book} (b' : Book) → Kept n k rec b → WriteSays b p v lent out b' → Kept n k rec b'
  write_kept zero v lent out {b = b} b' g (a, c, w, e) = front_kept (command_kept g (command_of (registers_of b) v) lent a out c w) _ b' e
  write_kept (suc p) v lent out b' g w = front_kept g _ b' w.0

  refused_or : (z : ℕ) (x : Answer) {rec : List ℕ} {b : Book} (b' : Book) (O D : Type 0) → Kept n k rec b → (D → Kept n k rec b')
      → By z x ((b' ≡ b) × O) ((x ≡ done) × D) → Kept n k rec b'
  refused_or zero x b' O D g f w = f w.1
  refused_or (suc z) x b' O D g f (e, w) = rw w.0 g

  -- one entry, any list
  entry_kept : (e : Entry) (s : Seen) {rec : List ℕ} {b b' : Book} → Kept n k rec b → Step b e s b' → Kept n k (record_after n k e rec) b'
  entry_kept (call clear) s {b' = b'} g w = clear_kept g w.says.0 b' w.says.2.1
  entry_kept (call (put j new)) s {b' = b'} g w = put_kept g (put_cause (45 * n) j (length new)) j new w.says.0 b' (rw g.held at w.says.2.1)
  entry_kept (call (get j out)) s {b = b} {b' = b'} g w =
      get_kept g (get_cause (size b) j (marks_of b) (length out)) w.says.0 b' _ _ _ w.says.2
  entry_kept (call (patrol j)) s {b = b} {b' = b'} g w =
      kept_by g (patrol_cause (size b) j (marks_of b)) w.says.0 b' _ (λ d. mended_kept g j d.0 _ b' d.2) w.says.2.1
  entry_kept (call report) s g w = rw w.says.2.1 g
  entry_kept (call (mark c)) s {b = b} {b' = b'} g w =
      kept_by g (mark_cause (marks_of b) c) w.says.0 b' _ (λ d. marks_kept g (marked (marks_of b) c) b' d.1) w.says.2.1
  entry_kept (call clear_window) s {b' = b'} g w = run_kept g [] b' w.says.2.2
  entry_kept (write p v lent) s {b = b} {b' = b'} g w =
      refused_or (write_cause (registers_of b) p v) w.says.0 b' _ _ g (write_kept p v lent s.output b' g) w.says.2
  entry_kept (hit i x) s {b' = b'} g w = held_kept g (i / 45) _ b' w.says.2

  all_kept : (es : List Entry) (ss : List Seen) {rec : List ℕ} {b b'' : Book} → Kept n k rec b → Booked b es ss b'' → Kept n k (last_put n k rec es) b''
  unfolding last_put
  all_kept [] [] g Booked.end = g
  all_kept (e ∷ es) (s ∷ ss) g (Booked.then w r) = all_kept es ss (entry_kept e s g w) r
  all_kept [] (s ∷ ss) g w = elim w [ ]
  all_kept (e ∷ es) [] g w = elim w [ ]

-- every book of n blocks that a list leads to
pub kept_after : (n k : ℕ) → 1 ≤ n → n ≤ 1024 → k < n → (es : List Entry) (ss : List Seen) (b : Book) → Booked (fresh_book n) es ss b
    → Kept n k (last_put n k (replicate 34 0) es) b
kept_after n k lo hi hk es ss b w = all_kept n k lo hi hk es ss (zeros_kept n k lo hi hk (rest_of fresh_registers) []) w

-- ---- the reading behind a get, by the call and by the command
-- what such an entry answers, and what it read
abbrev pub ReadBy : Book → ℕ → List ℕ → Entry → Seen → Type 0
ReadBy b k out e s = (a : Answer) × Answers e s a × ReadsUnder (marks_of b) (held_at b k) out a s.output

module _ (b : Book) (k : ℕ) (lawful : LawfulMarks (marks_of b)) where
  read_at : (out : List ℕ) (a : Answer) (x : List ℕ) (b' : Book) → get_cause (size b) k (marks_of b) (length out) ≡ 0 → CallSays b (get k out) a x b'
      → ReadsUnder (marks_of b) (held_at b k) out a x
  read_at out a x b' z w = (by_accepted _ a _ _ z w).0

  pub comes : (out : List ℕ) (a : Answer) (x : List ℕ) → ReadsUnder (marks_of b) (held_at b k) out a x → Comes a
  comes out a x w = reading_comes (10 ∷ []) refl a (reads_give (10 ∷ []) (inl refl) (marks_of b) lawful (held_at b k) out a x w)

  pub get_reads : (out : List ℕ) (e : Entry) → GetOf b k out e → (s : Seen) (b' : Book) → Step b e s b'
      → get_cause (size b) k (marks_of b) (length out) ≡ 0 → ReadBy b k out e s
  get_reads out e by_call s b' t z = (t.says.0, t.says.1, read_at out t.says.0 s.output b' z t.says.2)
  get_reads out e (by_command v c) s b' t z =
      let x = t.says.0 in
      let d = by_accepted _ x _ _ (known_0 (registers_of b) v (Get k) c refl) t.says.2 in
      let a = d.1.0 in
      let y = d.1.1 in
      let r = read_at out a s.output y z (subst (λ (q : Command). CommandSays b q out a s.output y) c d.1.2) in
      let told : last_answer s.after.rest.registers ≡ a =
      ap (λ (τ : State). last_answer τ.rest.registers) t.after ∙ ap (λ (q : Book). last_answer (registers_of q)) d.1.3
      ∙ (comes out a s.output r).back in
      (a, (t.says.1 ∙ ap says d.0, told), r)

-- the same in any list: the good block is that of the record last put
pub get_in_list : (n : ℕ) → 1 ≤ n → n ≤ 1024 → (es : List Entry) (ss : List Seen) (b : Book) → Booked (fresh_book n) es ss b
    → (k : ℕ) (out : List ℕ) (e : Entry) → GetOf b k out e → (s : Seen) (b' : Book) → Step b e s b' → get_cause (45 * n) k (marks_of b) (length out) ≡ 0
    → LawfulMarks (marks_of b) × Stored built_in (last_put n k (replicate 34 0) es) (good_at b k) × ReadBy b k out e s
get_in_list n lo hi es ss b w k out e o s b' t z =
    let f = get_none n k (marks_of b) (length out) z in
    let g = kept_after n k lo hi f.1 es ss b w in
    let l = cause_lawful (marks_of b) f.2 in
    (l, g.stored, get_reads b k l out e o s b' t (ap (λ (m : ℕ). get_cause (45 * m) k (marks_of b) (length out)) g.held ∙ z))

-- ---- a reading of a block whose damage is allowed
module _ (b : Book) (k : ℕ) (rec : List ℕ) (lawful : LawfulMarks (marks_of b)) (good : Stored built_in rec (good_at b k)) (damage : DamageAllowed b k) where
  Fits : List ℕ → Type 0
  Fits x = S built_in (marks_of b).card (marked_chips (marks_of b)) (held_at b k) x

  member : Fits (good_at b k)
  unfolding Fits
  member = record { block = good.block; lawful = good.lawful; allowed = damage }

  no_card : (c : Option ℕ) → (marks_of b).card ≡ c → CardInRange c → TwoMembers Fits → (marks_of b).card ≡ None
  unfolding Fits
  no_card None e h w = e
  no_card (Some j) e h (x, y, sx, sy, ne) =
      let at : (x : List ℕ) → S built_in (marks_of b).card (marked_chips (marks_of b)) (held_at b k) x
      → S built_in (Some j) (marked_chips (marks_of b)) (held_at b k) x =
      λ x s. subst (λ (c : Option ℕ). S built_in c (marked_chips (marks_of b)) (held_at b k) x) e s in
      absurd (ne (card_one built_in built_in_set (marked_chips (marks_of b)) (few_chips (marks_of b) lawful) (held_at b k) j h x y (at x sx) (at y sy)))

  no_chips : TwoMembers Fits → DamageOfChipKind b k → ⊥
  unfolding Fits
  no_chips (x, y, sx, sy, ne) c =
      let one = chip_one built_in built_in_set (marked_chips (marks_of b)) (few_chips (marks_of b) lawful) (held_at b k) (marks_of b).card
      lawful.card (good_at b k) member c in
      ne (one.1 x sx ∙ sym (one.1 y sy))

  -- the record, or 11
  Given : Answer → List ℕ → Type 0
  Given a x = (Corrected a × (take 34 x ≡ rec)) ⊎ ((j : ℕ) × (a ≡ refused_card 11 j) × ((marks_of b).card ≡ None) × (DamageOfChipKind b k → ⊥))

  gives : (out : List ℕ) (a : Answer) (x : List ℕ) → ReadsUnder (marks_of b) (held_at b k) out a x → Given a x
  unfolding Fits Given
  gives out clean x w = inl (refl, ap (take 34) (sym (w.0.1 (good_at b k) member)) ∙ good.begins)
  gives out (in_chips n) x w = inl (refl, ap (take 34) (sym (w.0.1 (good_at b k) member)) ∙ good.begins)
  gives out (in_card j n) x w = inl (refl, ap (take 34) (sym (w.0.1 (good_at b k) member)) ∙ good.begins)
  gives out (refused n) x w = absurd (w.1 (good_at b k) member)
  gives out (refused_card n j) x w =
      inr (j, ap (λ (i : ℕ). refused_card i j) w.0, no_card (marks_of b).card refl lawful.card w.1, no_chips w.1)
  gives out done x w = absurd w
  gives out (counted u v y z o) x w = absurd w

  -- of an entry that answers so
  answered : (e : Entry) (s : Seen) (a : Answer) → Answers e s a → Given a s.output → GivesRecord b k rec e s
  unfolding Given
  answered e s a q (inl w) = inl (a, q, w.0, w.1)
  answered e s a q (inr (j, f, w, v)) = inr (j, subst (Answers e s) f q, w, v)

-- "corrected" is what a report counts as clean, chips or card
pub corrected_exactly : (a : Answer) → Corrected a ↔ (class a < 3)
corrected_exactly clean = ((λ u. omega arith), λ h. refl)
corrected_exactly (in_chips n) = ((λ u. omega arith), λ h. refl)
corrected_exactly (in_card j n) = ((λ u. omega arith), λ h. refl)
corrected_exactly done = ((λ u. absurd (false≢true u)), λ h. absurd (omega arith))
corrected_exactly (counted v w x y z) = ((λ u. absurd (false≢true u)), λ h. absurd (omega arith))
corrected_exactly (refused n) = ((λ u. absurd (false≢true u)), λ h. absurd (omega arith))
corrected_exactly (refused_card n j) = ((λ u. absurd (false≢true u)), λ h. absurd (omega arith))

pub gets_last_put : GetsLastPut
gets_last_put n lo hi es ss b w k out e o s b' t z d =
    let g = get_in_list n lo hi es ss b w k out e o s b' t z in
    let rec = last_put n k (replicate 34 0) es in
    let a = g.2.0 in
    answered b k rec g.0 g.1 d e s a g.2.1 (gives b k rec g.0 g.1 d out a s.output g.2.2)
