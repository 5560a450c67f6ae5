-- The book says one thing: two bookings of one list agree in all that is seen, and in the book at the end.
--
--   call_agree, command_agree, write_agree, step_agree   one call, command, register write, entry, of one book
--   agree          any list, from any book
--   one_book       THE STATEMENT; two_cabinets: so that a list, run twice, shows the same
use Prim.Native.Nat.{ℕ, zero, suc}
use mathlib.Core.Path.{◌≡◌, refl, sym, ap, ap₂, ◌∙◌, subst}
use mathlib.Core.List.{List, [], ◌∷◌}
use lib.ListN.{length}
use Rattle.answer.specs.Answer.{Answer, done, By}
use Rattle.answer.proofs.Causes.{by_agree}
use Rattle.marks.specs.Mark.{mark_cause}
use Rattle.reading.specs.Reading.{ReadsUnder}
use Rattle.reading.proofs.Agree.{under_agree}
use Rattle.block.specs.Read.{changed_at}
use Rattle.block.proofs.Decided.{changed_agree}
use Rattle.bank.specs.Calls.{clear_cause, put_cause, get_cause, patrol_cause, report_cause}
use Rattle.bank.proofs.Each.{counts_agree}
use Rattle.registers.specs.Write.{command_of, ran, write_cause}
use Rattle.registers.specs.Write.{Command}
use Rattle.registers.specs.Write.{Get, Patrol, Mark, Unknown}
use Rattle.book.specs.Book.{Call, clear, put, get, patrol, report, mark, clear_window, Entry, call, write, hit, says, Seen}
use Rattle.book.specs.Book.{Book, fresh_book, many, size, registers_of, marks_of, held_at, with_front, with_both, with_held, noted}
use Rattle.book.specs.Book.{CallSays, CommandSays, WriteSays, Step, Booked, OneBook, TwoCabinets}
use Rattle.book.proofs.Whole.{whole}

-- answer, output and book after it
record Same (a a' : Answer) (out out' : List ℕ) (x x' : Book) : Type 0 where
  answer : a ≡ a'
  output : out ≡ out'
  book : x ≡ x'

module _ (b : Book) where
  -- ---- one call
  call_agree : (c : Call) (a a' : Answer) (out out' : List ℕ) (x x' : Book) → CallSays b c a out x → CallSays b c a' out' x' → Same a a' out out' x x'
  call_agree clear a a' out out' x x' (o, w) (o', v) =
      let g = by_agree (clear_cause (size b)) a a' b x x' _ _ w v (λ d d'. (d.0 ∙ sym d'.0, d.1 ∙ sym d'.1)) in
      record { answer = g.0; output = o ∙ sym o'; book = g.1 }
  call_agree (put k rec) a a' out out' x x' (o, w) (o', v) =
      let g = by_agree (put_cause (size b) k (length rec)) a a' b x x' _ _ w v
      (λ d d'. (d.0 ∙ sym d'.0, d.1.2 ∙ ap (with_both b k) (sym (d.1.1.1 d'.1.0 d'.1.1.0)) ∙ sym d'.1.2)) in
      record { answer = g.0; output = o ∙ sym o'; book = g.1 }
  call_agree (get k lent) a a' out out' x x' w v = go (get_cause (size b) k (marks_of b) (length lent)) w v
    where
      go : (n : ℕ) → By n a ((x ≡ b) × (out ≡ lent)) (ReadsUnder (marks_of b) (held_at b k) lent a out × (x ≡ noted b (changed_at a (held_at b k) out)))
          → By n a' ((x' ≡ b) × (out' ≡ lent)) (ReadsUnder (marks_of b) (held_at b k) lent a' out' × (x' ≡ noted b (changed_at a' (held_at b k) out')))
          → Same a a' out out' x x'
      go zero (d, e) (d', e') =
          let g = under_agree (marks_of b) (held_at b k) lent a a' out out' d d' in
          record { answer = g.0; output = g.1; book = e ∙ ap (noted b) (changed_agree a a' g.0 (held_at b k) out out' g.1) ∙ sym e' }
      go (suc n) (e, (f, o)) (e', (f', o')) = record { answer = e ∙ sym e'; output = o ∙ sym o'; book = f ∙ sym f' }
  call_agree (patrol k) a a' out out' x x' (o, w) (o', v) =
      let g = by_agree (patrol_cause (size b) k (marks_of b)) a a' b x x' _ _ w v
      (λ d d'. let r = under_agree (marks_of b) (held_at b k) (held_at b k) a a' d.0 d'.0 d.1 d'.1 in
      let same = changed_agree a a' r.0 (held_at b k) d.0 d'.0 r.1 in
      (r.0, d.2 ∙ ap₂ (λ (y ps : List ℕ). noted (with_held b k y) ps) r.1 same ∙ sym d'.2)) in
      record { answer = g.0; output = o ∙ sym o'; book = g.1 }
  call_agree report a a' out out' x x' (o, e, w) (o', e', v) = record {
    answer = counts_agree (held_at b) (many b) (marks_of b) (report_cause (size b) (marks_of b)) a a' w v;
    output = o ∙ sym o';
    book = e ∙ sym e';
  }
  call_agree (mark c) a a' out out' x x' (o, w) (o', v) =
      let g = by_agree (mark_cause (marks_of b) c) a a' b x x' _ _ w v (λ d d'. (d.0 ∙ sym d'.0, d.1 ∙ sym d'.1)) in
      record { answer = g.0; output = o ∙ sym o'; book = g.1 }
  call_agree clear_window a a' out out' x x' (o, e, f) (o', e', f') = record { answer = e ∙ sym e'; output = o ∙ sym o'; book = f ∙ sym f' }

  -- ---- one command, one register write
  command_agree : (c : Command) (lent : List ℕ) (a a' : Answer) (out out' : List ℕ) (x x' : Book) → CommandSays b c lent a out x
      → CommandSays b c lent a' out' x' → Same a a' out out' x x'
  command_agree (Get k) lent a a' out out' x x' w v = call_agree (get k lent) a a' out out' x x' w v
  command_agree (Patrol k) lent a a' out out' x x' (w, o) (v, p) =
      let g = call_agree (patrol k) a a' [] [] x x' w v in
      record { answer = g.answer; output = o ∙ sym p; book = g.book }
  command_agree (Mark c) lent a a' out out' x x' (w, o) (v, p) =
      let g = call_agree (mark c) a a' [] [] x x' w v in
      record { answer = g.answer; output = o ∙ sym p; book = g.book }
  command_agree Unknown lent a a' out out' x x' w v = absurd w

  writes_agree : (p v : ℕ) (lent out out' : List ℕ) (x x' : Book) → WriteSays b p v lent out x → WriteSays b p v lent out' x' → (out ≡ out') × (x ≡ x')
  writes_agree zero v lent out out' x x' (a, y, w, e) (a', y', u, f) =
      let g = command_agree (command_of (registers_of b) v) lent a a' out out' y y' w u in
      (g.output, e ∙ ap₂ (λ (c : Answer) (z : Book). with_front z (ran (registers_of b) v c (marks_of z)).front) g.answer g.book ∙ sym f)
  writes_agree (suc p) v lent out out' x x' (e, o) (f, q) = (o ∙ sym q, e ∙ sym f)

  write_agree : (p v : ℕ) (lent : List ℕ) (y y' : Answer) (out out' : List ℕ) (x x' : Book)
      → By (write_cause (registers_of b) p v) y ((x ≡ b) × (out ≡ lent)) ((y ≡ done) × WriteSays b p v lent out x)
      → By (write_cause (registers_of b) p v) y' ((x' ≡ b) × (out' ≡ lent)) ((y' ≡ done) × WriteSays b p v lent out' x') → Same y y' out out' x x'
  write_agree p v lent y y' out out' x x' w u = by (write_cause (registers_of b) p v) w u
    where
      by : (n : ℕ) → By n y ((x ≡ b) × (out ≡ lent)) ((y ≡ done) × WriteSays b p v lent out x)
          → By n y' ((x' ≡ b) × (out' ≡ lent)) ((y' ≡ done) × WriteSays b p v lent out' x') → Same y y' out out' x x'
      by zero (e, w) (f, u) =
          let g = writes_agree p v lent out out' x x' w u in
          record { answer = e ∙ sym f; output = g.0; book = g.1 }
      by (suc n) (e, (g, o)) (f, (k, q)) = record { answer = e ∙ sym f; output = o ∙ sym q; book = g ∙ sym k }

  -- ---- one entry: what is seen, by its parts
  same_seen : (s s' : Seen) (x x' : Book) (e : Entry) → Step b e s x → Step b e s' x' → s.said ≡ s'.said → s.output ≡ s'.output → x ≡ x' → s ≡ s'
  same_seen s s' x x' e w v i o q =
      rw (i, o, w.after, v.after, w.interrupt, v.interrupt, w.proposal, v.proposal, q) refl

  step_agree : (e : Entry) (s s' : Seen) (x x' : Book) → Step b e s x → Step b e s' x' → (s ≡ s') × (x ≡ x')
  step_agree (call c) s s' x x' w v =
      let g = call_agree c w.says.0 v.says.0 s.output s'.output x x' w.says.2 v.says.2 in
      (same_seen s s' x x' (call c) w v (w.says.1 ∙ ap says g.answer ∙ sym v.says.1) g.output g.book, g.book)
  step_agree (write p y lent) s s' x x' w v =
      let g = write_agree p y lent w.says.0 v.says.0 s.output s'.output x x' w.says.2 v.says.2 in
      (same_seen s s' x x' (write p y lent) w v (w.says.1 ∙ ap says g.answer ∙ sym v.says.1) g.output g.book, g.book)
  step_agree (hit i y) s s' x x' w v =
      let q = w.says.2 ∙ sym v.says.2 in
      (same_seen s s' x x' (hit i y) w v (w.says.0 ∙ sym v.says.0) (w.says.1 ∙ sym v.says.1) q, q)

-- ---- any list
pub agree : (es : List Entry) (ss ss' : List Seen) (b x x' : Book) → Booked b es ss x → Booked b es ss' x' → (ss ≡ ss') × (x ≡ x')
agree [] [] [] b x x' Booked.end Booked.end = (refl, refl)
agree (e ∷ es) (s ∷ ss) (s' ∷ ss') b x x' (Booked.then {b' = y} w r) (Booked.then {b' = y'} v q) =
    let g = step_agree b e s s' y y' w v in
    let t = agree es ss ss' y x x' r (subst (λ (z : Book). Booked z es ss' x') (sym g.1) q) in
    (ap₂ (λ (a : Seen) (l : List Seen). a ∷ l) g.0 t.0, t.1)
agree [] [] (s' ∷ ss') b x x' w v = elim v [ ]
agree [] (s ∷ ss) ss' b x x' w v = elim w [ ]
agree (e ∷ es) [] ss' b x x' w v = elim w [ ]
agree (e ∷ es) (s ∷ ss) [] b x x' w v = elim v [ ]

pub one_book : OneBook
one_book n es ss ss' b b' w v = agree es ss ss' (fresh_book n) b b' w v

pub two_cabinets : TwoCabinets
two_cabinets n lo hi es ss ss' r r' =
    let w = whole n lo hi es ss r in
    let v = whole n lo hi es ss' r' in
    (one_book n es ss ss' w.0 v.0 w.1 v.1).0
