-- What the two calls say is decided.
--
--   one_outcome     bytes begin with the slip of one outcome at most
--   reading_of      the Reading that stands for a reading's answer; reading_one, answer_of: it is that one
--   write_decided   two outcomes of a write agree; read_decided: and of a read
use Prim.Native.Nat.{ℕ, suc, ◌+◌, ◌-◌, ◌≤◌, ◌<◌}
use mathlib.Core.Path.{◌≡◌, refl, sym, ap, ap₂, ◌∙◌, subst}
use mathlib.Core.Logic.{◌⊎◌, inl, inr}
use mathlib.Core.List.{List, [], ◌∷◌, ◌++◌, append_assoc, append-nil}
use native.Mathlib.Omega.{arith}
use lib.ListN.{length, get_or, take, drop, length-append, length-take, length-drop, take-append-drop}
use lib.Seq.{take-length, take-take, split_at, get_or-take, get_or-drop}
use Rattle.std.proofs.lemmas.Bool.{cases_lt}
use Rattle.answer.specs.Answer.{Answer, done, clean, in_chips, in_card, counted, refused, refused_card}
use Rattle.reading.specs.Reading.{reading_answer}
use Rattle.reading.specs.declared.Kind.TheVariants.{Clean, Chips, OneCard}
use Rattle.reading.specs.Reading.{Reading}
use Rattle.std.specs.Prelude.{Ok, Err}
use Rattle.reading.specs.declared.Fault.TheVariants.{Several, Refused as RefusedWith}
use Rattle.slip.specs.Slip.{InRanges, HasSlip, slip}
use Rattle.slip.specs.Calls.{from_to, WriteSlipDone, Follows, CutOff, Against, ReadSlipDone}
use Rattle.slip.specs.Plain.{OneOutcome, WriteDecided, ReadDecided}
use Rattle.slip.specs.Limits.{answer_told, block_told}
use Rattle.slip.specs.Wrote.{Next, Refused}
use Rattle.slip.specs.Found.{Found}
use Rattle.slip.specs.Found.{Slip, Refused as RefusedAt}
use Rattle.slip.proofs.Shape.{block_back, answer_back}

-- ---- one outcome
pub one_outcome : OneOutcome
one_outcome k k' a a' h h' l l' e =
    (sym (block_back k a h l) ∙ ap block_told e ∙ block_back k' a' h' l', sym (answer_back k a h l) ∙ ap answer_told e ∙ answer_back k' a' h' l')

-- the Reading that stands for a reading's answer; what is no reading's is not asked for
unfoldable pub reading_of : Answer → Reading
reading_of clean = Ok Clean
reading_of (in_chips n) = Ok (Chips n)
reading_of (in_card j n) = Ok (OneCard j n)
reading_of (refused n) = Err (RefusedWith n)
reading_of (refused_card n j) = Err (Several j)
reading_of done = Err (RefusedWith 0)
reading_of (counted v w x y z) = Err (RefusedWith 0)

reading_back : (r : Reading) → reading_of (reading_answer r) ≡ r
unfolding reading_of
reading_back (Ok Clean) = refl
reading_back (Ok (Chips n)) = refl
reading_back (Ok (OneCard j n)) = refl
reading_back (Err (Several j)) = refl
reading_back (Err (RefusedWith n)) = refl

-- a Reading by its answer
pub reading_one : (r r' : Reading) → reading_answer r ≡ reading_answer r' → r ≡ r'
reading_one r r' e = sym (reading_back r) ∙ ap reading_of e ∙ reading_back r'

pub answer_of : (a : Answer) → InRanges a → reading_answer (reading_of a) ≡ a
unfolding reading_of
answer_of clean h = refl
answer_of (in_chips n) h = refl
answer_of (in_card j n) h = refl
answer_of (refused r) h = refl
answer_of (refused_card r j) h = ap (λ (x : ℕ). refused_card x j) (sym h.0)
answer_of done h = absurd h
answer_of (counted v w x y z) h = absurd h

-- ---- writing
pub write_decided : WriteDecided
unfolding WriteSlipDone
write_decided s i k a (Next n) (Next n') s' s'' (h, e, l, b) (h', e', l', b') =
    (ap Next (e ∙ sym e'), b ∙ ap (λ (x : ℕ). take i s ++ (slip k a ++ drop x s)) (e ∙ sym e') ∙ sym b')
write_decided s i k a (Next n) (Refused n') s' s'' (h, e, l, b) (inl (z, f), b') = absurd (f h)
write_decided s i k a (Next n) (Refused n') s' s'' (h, e, l, b) (inr (z, f, m), b') = absurd (omega (arith, e, l, m))
write_decided s i k a (Refused n) (Next n') s' s'' (inl (z, f), b) (h, e, l, b') = absurd (f h)
write_decided s i k a (Refused n) (Next n') s' s'' (inr (z, f, m), b) (h, e, l, b') = absurd (omega (arith, e, l, m))
write_decided s i k a (Refused n) (Refused n') s' s'' (inl (z, f), b) (inl (z', f'), b') = (ap Refused (z ∙ sym z'), b ∙ sym b')
write_decided s i k a (Refused n) (Refused n') s' s'' (inl (z, f), b) (inr (z', h, m), b') = absurd (f h)
write_decided s i k a (Refused n) (Refused n') s' s'' (inr (z, h, m), b) (inl (z', f), b') = absurd (f h)
write_decided s i k a (Refused n) (Refused n') s' s'' (inr (z, f, m), b) (inr (z', f', m'), b') = (ap Refused (z ∙ sym z'), b ∙ sym b')

-- ---- reading
-- where a slip begins with R, each byte of R may follow those before it
inside : (R cs : List ℕ) (k : ℕ) (a : Answer) → HasSlip k a → slip k a ≡ R ++ cs → (q : ℕ) → q < length R → Follows (take q R) (get_or R q 0)
inside R cs k a h e q l = record {
  block = k;
  answer = a;
  has = h;
  rest = drop (suc q) R ++ cs;
  begins = e ∙ ap (λ (x : List ℕ). x ++ cs) (split_at R q 0 l) ∙ append_assoc (take q R) (get_or R q 0 ∷ drop (suc q) R) cs;
}

module _ (s : List ℕ) (i : ℕ) where
  -- no slip begins with more than the bytes before a cause of 16
  no_further : (p : ℕ) → Against s i p → (n : ℕ) → p - i < n → (cs : List ℕ) (k : ℕ) (a : Answer) → HasSlip k a → slip k a ≡ take n (drop i s) ++ cs → ⊥
  no_further p g n l cs k a h e =
      let f = inside (take n (drop i s)) cs k a h e (p - i) (omega (arith, l, length-take n (drop i s), length-drop i s, g.below, g.from)) in
      let t = take-take (p - i) n (drop i s) (omega (arith, l)) in
      g.here (subst (Follows (from_to s i p)) byte (subst (λ (b : List ℕ). Follows b (get_or (take n (drop i s)) (p - i) 0)) t f))
    where
      byte : get_or (take n (drop i s)) (p - i) 0 ≡ get_or s p 0
      byte =
          get_or-take n (drop i s) (p - i) 0 l ∙ get_or-drop i s (p - i) 0
          ∙ ap (λ (x : ℕ). get_or s x 0) (let q : i + (p - i) ≡ p = omega (arith, g.from) in q)

  -- where a slip stands, no slip begins with its bytes and goes on
  no_longer : (k : ℕ) (a : Answer) (n : ℕ) → HasSlip k a → take n (drop i s) ≡ slip k a → (q x : ℕ) → n ≤ q → Follows (take q (drop i s)) x → ⊥
  no_longer k a n h e q x l f =
      let c = x ∷ f.rest in
      let d = drop n (take q (drop i s)) in
      let o = one_outcome k f.block a f.answer h f.has (d ++ c) [] (sym (append-nil _ ∙ f.begins ∙ split)) in
      let same : slip k a ≡ slip f.block f.answer = ap₂ slip o.0 o.1 in
      omega (arith, ap length (same ∙ f.begins ∙ split), length-append (slip k a) (d ++ c), length-append d c)
    where
      split : take q (drop i s) ++ (x ∷ f.rest) ≡ slip k a ++ (drop n (take q (drop i s)) ++ (x ∷ f.rest))
      split =
          let d = drop n (take q (drop i s)) in
          let front = sym (take-append-drop n (take q (drop i s))) ∙ ap (λ (b : List ℕ). b ++ d) (take-take n q (drop i s) l ∙ e) in
          ap (λ (b : List ℕ). b ++ (x ∷ f.rest)) front ∙ append_assoc (slip k a) d (x ∷ f.rest)

  -- the slice's end is no earlier than any cause of 16 in it
  cut_all : (x : ℕ) → Follows (drop i s) x → Follows (take (length (drop i s)) (drop i s)) x
  cut_all x f = subst (λ (b : List ℕ). Follows b x) (sym (take-length (drop i s))) f

  -- a slip, and a cause of 16 or of 15
  not_both : (k : ℕ) (a : Answer) (n : ℕ) → HasSlip k a → n ≡ i + length (slip k a) → from_to s i n ≡ slip k a → (p : ℕ) → Against s i p → ⊥
  not_both k a n h e b p g = go (cases_lt (p - i) (n - i))
    where
      go : (p - i < n - i) ⊎ (n - i ≤ p - i) → ⊥
      go (inl l) = no_further p g (n - i) l [] k a h (sym b ∙ sym (append-nil _))
      go (inr l) = no_longer k a (n - i) h b (p - i) g.so_far.0 l g.so_far.1

  not_cut : (k : ℕ) (a : Answer) (n : ℕ) → HasSlip k a → n ≡ i + length (slip k a) → from_to s i n ≡ slip k a → (p : ℕ) → CutOff s i p → ⊥
  not_cut k a n h e b p (q, (x, f)) =
      no_longer k a (n - i) h b (length (drop i s)) x
      (omega (arith, e, ap length b, length-take (n - i) (drop i s))) (cut_all x f)

  cut_or_against : (p q : ℕ) → CutOff s i p → Against s i q → ⊥
  cut_or_against p q (e, (x, f)) g =
      no_further q g (length (drop i s)) (omega (arith, length-drop i s, g.from, g.below)) (x ∷ c.rest) c.block c.answer c.has c.begins
    where
      c : Follows (take (length (drop i s)) (drop i s)) x
      c = cut_all x f

  earlier : (p q : ℕ) → Against s i p → Against s i q → p < q → ⊥
  earlier p q g g' l =
      let f = g'.so_far.1 in
      no_further p g (q - i) (omega (arith, l, g.from)) (g'.so_far.0 ∷ f.rest) f.block f.answer f.has f.begins

  one_cause : (p q : ℕ) → Against s i p → Against s i q → p ≡ q
  one_cause p q g g' = go (cases_lt p q) (cases_lt q p)
    where
      go : (p < q) ⊎ (q ≤ p) → (q < p) ⊎ (p ≤ q) → p ≡ q
      go (inl l) r = absurd (earlier p q g g' l)
      go (inr l) (inl r) = absurd (earlier q p g' g r)
      go (inr l) (inr r) = omega (arith, l, r)

  one_slip : (k k' n n' : ℕ) (r r' : Reading) (s' s'' : List ℕ) → ReadSlipDone s i (Slip k r n) s' → ReadSlipDone s i (Slip k' r' n') s''
      → Slip k r n ≡ Slip k' r' n'
  unfolding ReadSlipDone
  one_slip k k' n n' r r' s' s'' ((h, e, b), z) ((h', e', b'), z') =
      ap₂ (λ (x : ℕ) (y : Reading). Slip x y n) o.0 (reading_one r r' o.1)
      ∙ ap (Slip k' r') (e ∙ ap (λ (l : List ℕ). i + length l) (ap₂ slip o.0 o.1) ∙ sym e')
    where
      all : (k : ℕ) (a : Answer) (n : ℕ) → from_to s i n ≡ slip k a → slip k a ++ drop (n - i) (drop i s) ≡ drop i s
      all k a n b = ap (λ (l : List ℕ). l ++ drop (n - i) (drop i s)) (sym b) ∙ take-append-drop (n - i) (drop i s)

      o : (k ≡ k') × (reading_answer r ≡ reading_answer r')
      o = one_outcome k k' (reading_answer r) (reading_answer r') h h' (drop (n - i) (drop i s)) (drop (n' - i) (drop i s))
          (all k (reading_answer r) n b ∙ sym (all k' (reading_answer r') n' b'))

  agree : (f f' : Found) (s' s'' : List ℕ) → ReadSlipDone s i f s' → ReadSlipDone s i f' s'' → (f ≡ f') × (s' ≡ s'')
  unfolding ReadSlipDone
  agree (Slip k r n) (Slip k' r' n') s' s'' d d' = (one_slip k k' n n' r r' s' s'' d d', d.1 ∙ sym d'.1)
  agree (Slip k r n) (RefusedAt c p) s' s'' ((h, e, b), z) (inl (e', g), z') = absurd (not_cut k (reading_answer r) n h e b p g)
  agree (Slip k r n) (RefusedAt c p) s' s'' ((h, e, b), z) (inr (e', g), z') = absurd (not_both k (reading_answer r) n h e b p g)
  agree (RefusedAt c p) (Slip k r n) s' s'' (inl (e', g), z') ((h, e, b), z) = absurd (not_cut k (reading_answer r) n h e b p g)
  agree (RefusedAt c p) (Slip k r n) s' s'' (inr (e', g), z') ((h, e, b), z) = absurd (not_both k (reading_answer r) n h e b p g)
  agree (RefusedAt c p) (RefusedAt c' p') s' s'' (inl (e, g), z) (inl (e', g'), z') =
      (ap₂ RefusedAt (e ∙ sym e') (g.0 ∙ sym g'.0), z ∙ sym z')
  agree (RefusedAt c p) (RefusedAt c' p') s' s'' (inl (e, g), z) (inr (e', g'), z') = absurd (cut_or_against p p' g g')
  agree (RefusedAt c p) (RefusedAt c' p') s' s'' (inr (e, g), z) (inl (e', g'), z') = absurd (cut_or_against p' p g' g)
  agree (RefusedAt c p) (RefusedAt c' p') s' s'' (inr (e, g), z) (inr (e', g'), z') = (ap₂ RefusedAt (e ∙ sym e') (one_cause p p' g g'), z ∙ sym z')

pub read_decided : ReadDecided
read_decided = agree
