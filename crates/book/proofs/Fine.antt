-- A bank of whole blocks of bytes, and what keeps it one: for Runs.antt, and so for the statement that every list can be run.
--
--   bytes-..       bytes stay bytes: of a part, of two lists, after one is set
--   Fine n bank    a bank of n blocks of bytes; of zeros; with a block of it replaced
--   part-..        block k of it is a block
--   output_bytes   a reading leaves bytes
use Prim.Native.Nat.{ℕ, ◌+◌, ◌-◌, ◌*◌, ◌≤◌, ◌<◌}
use mathlib.Core.Path.{◌≡◌, sym, ap, ◌∙◌, subst}
use mathlib.Core.List.{List, ◌++◌}
use native.Mathlib.Decide.{dec_lt, ℕ_discrete}
use native.Mathlib.Omega.{arith}
use lib.ListN.{length, get_or, set, take, drop, replicate, length-append, length-take, length-drop}
use lib.ListN.{length-set, length-replicate, get_or-replicate, get_or-append}
use lib.Seq.{get_or-append-add, get_or-take, get_or-drop, get_or-set_same, get_or-set_other}
use Rattle.answer.specs.Answer.{Answer, done, clean, in_chips, in_card, counted, refused, refused_card}
use Rattle.marks.specs.declared.Marks.{Marks}
use Rattle.code.specs.Block.{Block}
use Rattle.reading.specs.Reading.{ReadsUnder}
use Rattle.bank.specs.Calls.{block, with_block}
use Rattle.book.specs.Possible.{Bytes}

-- ---- bytes
bytes_append : (a b : List ℕ) → Bytes a → Bytes b → Bytes (a ++ b)
bytes_append a b ha hb p h = go (dec_lt p (length a))
  where
    go : Dec (p < length a) → get_or (a ++ b) p 0 < 256
    go (yes l) = subst (λ (v : ℕ). v < 256) (sym (get_or-append a b 0 p l)) (ha p l)
    go (no n) =
        let e : p ≡ length a + (p - length a) = omega arith in
        let l : p - length a < length b = omega (arith, length-append a b) in
        subst (λ (v : ℕ). v < 256) (sym (ap (λ (i : ℕ). get_or (a ++ b) i 0) e ∙ get_or-append-add a b (p - length a) 0)) (hb (p - length a) l)

bytes_take : (n : ℕ) (a : List ℕ) → Bytes a → Bytes (take n a)
bytes_take n a h p l =
    let m : length (take n a) ≤ length a = simp length-take (omega arith) in
    let i : p < n = omega (arith, simp length-take at l) in
    subst (λ (v : ℕ). v < 256) (sym (get_or-take n a p 0 i)) (h p (omega arith))

bytes_drop : (n : ℕ) (a : List ℕ) → Bytes a → Bytes (drop n a)
bytes_drop n a h p l = rw get_or-drop (h (n + p) (omega (arith, simp length-drop at l)))

pub bytes_set : (a : List ℕ) (i x : ℕ) → Bytes a → x < 256 → Bytes (set a i x)
bytes_set a i x h hx p l = go (ℕ_discrete p i)
  where
    m : p < length a
    m = rw length-set at l

    go : Dec (p ≡ i) → get_or (set a i x) p 0 < 256
    go (yes e) = rw (e, get_or-set_same a i x 0 (subst (λ (q : ℕ). q < length a) e m)) hx
    go (no n) = subst (λ (v : ℕ). v < 256) (sym (get_or-set_other a i p x 0 n)) (h p m)

-- ---- a bank of n blocks
pub record Fine (n : ℕ) (bank : List ℕ) : Type 0 where
  pub long : length bank ≡ 45 * n
  pub bytes : Bytes bank

pub fine_zeros : (n l : ℕ) → l ≡ 45 * n → Fine n (replicate l 0)
fine_zeros n l e = record {
  long = length-replicate l 0 ∙ e;
  bytes = λ p h. subst (λ (v : ℕ). v < 256) (sym (get_or-replicate l p 0 0 (rw length-replicate at h))) (omega arith);
}

module _ (n k : ℕ) (bank : List ℕ) (inside : k < n) (f : Fine n bank) where
  pub part_long : length (block bank k) ≡ 45
  part_long = rw (length-take, length-drop) (omega (arith, f.long))

  pub part_bytes : Bytes (block bank k)
  part_bytes = bytes_take 45 (drop (45 * k) bank) (bytes_drop (45 * k) bank f.bytes)

  pub part_block : Block (block bank k)
  part_block = record { long = part_long; bytes = λ p h. part_bytes p (subst (λ (l : ℕ). p < l) (sym part_long) h) }

  pub fine_with : (x : List ℕ) → length x ≡ 45 → Bytes x → Fine n (with_block bank k x)
  fine_with x lx bx = record {
    long = simp (length-append, length-take, length-drop) (omega (arith, f.long, lx));
    bytes = bytes_append (take (45 * k) bank) (x ++ drop (45 * k + 45) bank) (bytes_take (45 * k) bank f.bytes)
        (bytes_append x (drop (45 * k + 45) bank) bx (bytes_drop (45 * k + 45) bank f.bytes));
  }

pub block_bytes : (x : List ℕ) → Block x → Bytes x
block_bytes x b p h = b.bytes p (subst (λ (l : ℕ). p < l) b.long h)

pub output_bytes : (m : Marks) (b out : List ℕ) (a : Answer) (x : List ℕ) → ReadsUnder m b out a x → Bytes out → Bytes x
output_bytes m b out clean x w h = block_bytes x w.0.0.block
output_bytes m b out (in_chips n) x w h = block_bytes x w.0.0.block
output_bytes m b out (in_card j n) x w h = block_bytes x w.0.0.block
output_bytes m b out (refused n) x w h = subst Bytes (sym w.2) h
output_bytes m b out (refused_card n j) x w h = subst Bytes (sym w.3) h
output_bytes m b out done x w h = absurd w
output_bytes m b out (counted u v y z o) x w h = absurd w
