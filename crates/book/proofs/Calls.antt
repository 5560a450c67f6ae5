-- Demand 3, last sentence, of the calls: the whole list is in the book, the book says one thing, and it gives the record.
--
--   last                  the last entry of a list, taken off
--   calls_give_last_put   THE STATEMENT
use Prim.Native.Nat.{suc}
use mathlib.Core.Path.{◌≡◌, refl, sym, ap, ◌∙◌, subst}
use mathlib.Core.List.{List, [], ◌∷◌, ◌++◌}
use native.Mathlib.Omega.{arith}
use lib.ListN.{length, length-append}
use Rattle.book.specs.Book.{Entry, Seen, Book, Booked, Step}
use Rattle.book.specs.Kept.{CallsGiveLastPut}
use Rattle.book.proofs.Whole.{whole}
use Rattle.book.proofs.Record.{gets_last_put}
use Rattle.book.proofs.Agree.{one_book}

-- as many are seen as there are entries
as_many : (es : List Entry) (ss : List Seen) {b b' : Book} → Booked b es ss b' → length es ≡ length ss
as_many [] [] Booked.end = refl
as_many (e ∷ es) (s ∷ ss) (Booked.then w r) = ap suc (as_many es ss r)
as_many [] (s ∷ ss) w = elim w [ ]
as_many (e ∷ es) [] w = elim w [ ]

pub last : (es : List Entry) (ss : List Seen) (e : Entry) (s : Seen) {b b'' : Book} → Booked b (es ++ (e ∷ [])) (ss ++ (s ∷ [])) b''
    → (b' : Book) × Booked b es ss b' × Step b' e s b''
last [] [] e s {b = b} (Booked.then w Booked.end) = (b, Booked.end, w)
last [] (y ∷ ss) e s (Booked.then w r) = absurd (let h = as_many [] (ss ++ (s ∷ [])) r ∙ length-append ss (s ∷ []) in omega (arith, h))
last (x ∷ es) [] e s (Booked.then w r) = absurd (let h = sym (as_many (es ++ (e ∷ [])) [] r) ∙ length-append es (e ∷ []) in omega (arith, h))
last (x ∷ es) (y ∷ ss) e s (Booked.then w r) = let v = last es ss e s r in (v.0, Booked.then w v.1, v.2)

pub calls_give_last_put : CallsGiveLastPut
calls_give_last_put n lo hi es ss k out e s r b w o z d =
    let v = whole n lo hi (es ++ (e ∷ [])) (ss ++ (s ∷ [])) r in
    let l = last es ss e s v.1 in
    let q = (one_book n es ss ss l.0 b l.1 w).1 in
    gets_last_put n lo hi es ss b w k out e o s v.0 (subst (λ (x : Book). Step x e s v.0) q l.2) z d
