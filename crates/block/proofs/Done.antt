-- What is read of a block, from its sums: the calls' contracts, by what the code found.
--
--   deliver            a reading into one output is one into any other
--   clean_read         a block whose eleven sums are 0 reads as clean; clean_exactly_at: a part of more bytes does exactly where it is lawful
--   decoded_read       a block whose sums are not is read as the decoder says
--   read_done, mend_done, look_done   the contracts, where nothing is refused
--   read_handed, mend_handed, look_handed   the same of what a check refuses
--   fault_corrects     a fault of the decoder corrects nothing
--   clean_accepted, clean_refused   what a clean block reads as; clean_looked, clean_mended: the contracts of it
--   made_lawful        a correction is made under lawful marks alone
--   corrects_read, fault_mended, decoded_looked   what the decoder says of any marks: read into an output, not mended, only looked at
--   clean_noted, decoded_noted, refused_noted   the positions that are added to a window
use mathlib.Core.Logic.{◌≢◌, ◌↔◌, ◌⊎◌, inl, inr}
use mathlib.Core.Path.{◌≡◌, refl, sym, ap, ◌∙◌, subst}
use mathlib.Core.Bool.{Bool, true, false}
use mathlib.Core.List.{List, []}
use Prim.Native.Nat.{ℕ, ◌+◌, ◌<◌, ◌≤◌}
use native.Mathlib.Omega.{arith}
use borrow.Author.Tests.{eq-eqb, ne_eqb}
use lib.ListN.{length, take, drop, length-drop}
use lib.Seq.{get_or-take, get_or-drop, length-take-le}
use Rattle.std.proofs.lemmas.Bool.{cases_eq}
use Rattle.base.specs.Base.{if}
use Rattle.answer.specs.Answer.{Answer, done, clean, in_chips, in_card, counted, refused, refused_card, number, By, refusal_number}
use Rattle.answer.specs.declared.Refusal.{Refusal}
use Rattle.answer.proofs.Causes.{by_done, by_refused, number_given}
use Rattle.marks.specs.Marks.{fresh_marks, marked_chips, marks_cause}
use Rattle.marks.specs.declared.Marks.{Marks}
use Rattle.marks.proofs.Laws.{fresh_lawful, lawful_cause, cause_lawful, few_chips}
use Rattle.code.specs.Block.{byte, Block, Lawful, differing}
use Rattle.code.specs.Labels.{built_in}
use Rattle.code.proofs.BuiltIn.{built_in_set}
use Rattle.code.proofs.Differing.{differing_same}
use Rattle.sums.specs.Sums.{IsSums, all_zero}
use Rattle.sums.specs.declared.Sums.{Sums}
use Rattle.sums.proofs.Zero.{zero_lawful}
use Rattle.std.specs.Prelude.{Ok, Err, IsErrAnd}
use Rattle.reading.specs.Reading.{Reading, reading_answer, ReadsUnder}
use Rattle.reading.specs.declared.Kind.{Kind}
use Rattle.reading.specs.declared.Kind.TheVariants.{Clean, Chips, OneCard}
use Rattle.reading.specs.declared.Fault.{Fault}
use Rattle.reading.specs.declared.Fault.TheVariants.{Several, Refused}
use Rattle.reading.proofs.Handed.{by_handed}
use Rattle.reading.proofs.Facts.{clean_reads, clean_lawful}
use Rattle.change.specs.Change.{applied, no_change, WellFormed, positions, Listed}
use Rattle.change.specs.declared.Change.{Change}
use Rattle.change.specs.declared.Positions.{Positions}
use Rattle.change.proofs.Made.{applied_none}
use Rattle.window.specs.Window.{added}
use Rattle.window.proofs.Runs.{added_none}
use Rattle.decode.specs.declared.Correction.{Correction}
use Rattle.decode.specs.Decode.{Decodes}
use Rattle.decode.specs.Decode.{Decoded, reading_of, change_of}
use Rattle.block.specs.Read.{read_cause, mend_cause, ReadDone, MendDone, LookDone, ReadsClean, is_corrected, changed_at}
use Rattle.block.specs.Steps.{clean_under, delivered}
use Rattle.block.proofs.Causes.{read_marks, mend_marks}

pub deliver : (m : Marks) (b o : List ℕ) (a : Answer) (x : List ℕ) → ReadsUnder m b o a x → (out : List ℕ) → ReadsUnder m b out a (delivered a x out)
deliver m b o clean x w out = w
deliver m b o (in_chips n) x w out = w
deliver m b o (in_card j n) x w out = w
deliver m b o (refused n) x w out = (w.0, w.1, refl)
deliver m b o (refused_card n j) x w out = (w.0, w.1, w.2, refl)
deliver m b o done x w out = absurd w
deliver m b o (counted u v y z q) x w out = absurd w

-- ---- what the sums say, of the 45 bytes b under lawful marks
module _ (m : Marks) (lawful : marks_cause m ≡ 0) (b : List ℕ) (bb : Block b) (s : Sums) (sums : IsSums built_in b s) where
  pub clean_read : all_zero s ≡ true → (out : List ℕ) → ReadsUnder m b out clean b
  clean_read z out =
      let l = cause_lawful m lawful in
      clean_reads built_in built_in_set (marked_chips m) (few_chips m l) b m.card l.card bb (zero_lawful built_in b s sums z) out

  pub decoded_read : (d : Decoded) → Decodes s m d → ReadsUnder m b b (reading_answer (reading_of d)) (applied b (change_of d))
  decoded_read d w = w.reads (cause_lawful m lawful) b bb sums

-- ---- blocks one after the other
part_block : (b : List ℕ) → ((p : ℕ) → byte b p < 256) → (q : ℕ) → q + 45 ≤ length b → Block (take 45 (drop q b))
part_block b hb q room = record {
  long = length-take-le 45 (drop q b) (rw length-drop (omega (arith, room)));
  bytes = λ p h. subst (λ (x : ℕ). x < 256) (sym (get_or-take 45 (drop q b) p 0 h ∙ get_or-drop q b p 0)) (hb (q + p));
}

pub clean_exactly_at : (b : List ℕ) → ((p : ℕ) → byte b p < 256) → (q : ℕ) → q + 45 ≤ length b
    → Lawful built_in (take 45 (drop q b)) ↔ ReadsClean (take 45 (drop q b))
clean_exactly_at b hb q room = (
  forth,
  λ h. clean_lawful built_in fresh_marks.card (marked_chips fresh_marks) x [] x (h fresh_marks (lawful_cause fresh_marks fresh_lawful)),
)
  where
    x : List ℕ
    x = take 45 (drop q b)

    forth : Lawful built_in (take 45 (drop q b)) → ReadsClean (take 45 (drop q b))
    forth law m lawful =
        let l = cause_lawful m lawful in
        clean_reads built_in built_in_set (marked_chips m) (few_chips m l) (take 45 (drop q b)) m.card l.card (part_block b hb q room) law []

-- ---- faults
not_corrected : (f : Fault) → is_corrected (reading_answer (Err f)) ≡ false
not_corrected (Several j) = refl
not_corrected (Refused n) = refl

pub fault_corrects : (d : Decoded) (f : Fault) → d ≡ Err f → false ≡ is_corrected (reading_answer (reading_of d))
fault_corrects d f e = sym (ap (λ (x : Decoded). is_corrected (reading_answer (reading_of x))) e ∙ not_corrected f)

pub handed_noted : (r : Reading) (e : Refusal) → IsErrAnd r (λ (f : Fault). f ≡ Refused (refusal_number e)) → (w b x : List ℕ)
    → w ≡ added w (changed_at (reading_answer r) b x)
handed_noted (Ok k) e h w b x = absurd h
handed_noted (Err f) e h w b x = sym (ap (λ (y : Fault). added w (changed_at (reading_answer (Err y)) b x)) h ∙ added_none w)

-- ---- the contracts
pub read_done : (b : List ℕ) (m : Marks) (out : List ℕ) (a : Answer) (out' : List ℕ) → read_cause (length b) m (length out) ≡ 0 → ReadsUnder m b out a out'
    → ReadDone b m out a b out'
read_done b m out a out' e w = record { received = refl; output = by_done _ a (out' ≡ out) (ReadsUnder m b out a out') e w }

pub mend_done : (b : List ℕ) (m : Marks) (w : List ℕ) (a : Answer) (b' w' : List ℕ) → mend_cause (length b) m ≡ 0 → ReadsUnder m b b a b'
    → w' ≡ added w (changed_at a b b') → MendDone b m w a b' w'
mend_done b m w a b' w' e v q = record { block = by_done _ a (b' ≡ b) (ReadsUnder m b b a b') e v; window = q }

-- what a check refuses is handed on
pub read_handed : (b : List ℕ) (m : Marks) (out : List ℕ) (r : Reading) (e : Refusal) → IsErrAnd r (λ (f : Fault). f ≡ Refused (refusal_number e))
    → refusal_number e ≡ read_cause (length b) m (length out) → ReadDone b m out (reading_answer r) b out
read_handed b m out r e h q =
    record { received = refl; output = by_handed r e _ (out ≡ out) (ReadsUnder m b out (reading_answer r) out) h q refl }

pub mend_handed : (b : List ℕ) (m : Marks) (w : List ℕ) (r : Reading) (e : Refusal) → IsErrAnd r (λ (f : Fault). f ≡ Refused (refusal_number e))
    → refusal_number e ≡ mend_cause (length b) m → MendDone b m w (reading_answer r) b w
mend_handed b m w r e h q = record {
  block = by_handed r e _ (b ≡ b) (ReadsUnder m b b (reading_answer r) b) h q refl;
  window = handed_noted r e h w b b;
}

pub look_handed : (b : List ℕ) (m : Marks) (r : Reading) (e : Refusal) → IsErrAnd r (λ (f : Fault). f ≡ Refused (refusal_number e))
    → refusal_number e ≡ mend_cause (length b) m → LookDone b m (reading_answer r) b
look_handed b m r e h q =
    record { received = refl; answer = by_handed r e _ (Unit {0}) ((x : List ℕ) × ReadsUnder m b [] (reading_answer r) x) h q tt }

pub look_done : (b : List ℕ) (m : Marks) (a : Answer) (o x : List ℕ) → mend_cause (length b) m ≡ 0 → ReadsUnder m b o a x → LookDone b m a b
look_done b m a o x e w = record {
  received = refl;
  answer = by_done _ a (Unit {0}) ((x : List ℕ) × ReadsUnder m b [] a x) e
      (delivered a x [], deliver m b o a x w []);
}

-- what stays where the block is not corrected
pub left : (a : Answer) (x out : List ℕ) (t : Bool) → t ≡ is_corrected a → t ≡ false → out ≡ delivered a x out
left a x out t e h = sym (ap (λ (u : Bool). if u x out) (sym e ∙ h))

-- an output that took what was delivered is what would be delivered to it
pub delivered_twice : (a : Answer) (x out out' : List ℕ) → out' ≡ delivered a x out → out' ≡ delivered a x out'
delivered_twice a x out out' e = go (is_corrected a) e
  where
    go : (t : Bool) → out' ≡ if t x out → out' ≡ if t x out'
    go true q = q
    go false q = refl

pub applied_delivered : (a : Answer) (b x : List ℕ) → b ≡ x → b ≡ delivered a x b
applied_delivered a b x e = go (is_corrected a)
  where
    go : (t : Bool) → b ≡ if t x b
    go true = e
    go false = refl

-- ---- the window
-- a clean block changes nothing
pub clean_noted : (w b x : List ℕ) → x ≡ b → w ≡ added w (changed_at clean b x)
clean_noted w b x e = sym (ap (added w) (ap (differing b) e ∙ differing_same b) ∙ added_none w)

-- nor does a block that isn't corrected
pub refused_noted : (a : Answer) (t : Bool) → t ≡ is_corrected a → t ≡ false → (w b x : List ℕ) → w ≡ added w (changed_at a b x)
refused_noted a t e h w b x = sym (ap (λ (u : Bool). added w (if u (differing b x) [])) (sym e ∙ h) ∙ added_none w)

-- the positions of the change are those that the corrected block differs at; a refusal has no change
listed_changed : (m : Marks) (b : List ℕ) → length b ≡ 45 → (d : Change) → WellFormed d → (a : Answer) → ReadsUnder m b b a (applied b d)
    → (number a ≢ 0 → d ≡ no_change) → (ps : Positions) → Listed d ps → (x : List ℕ) → x ≡ delivered a (applied b d) x → positions ps ≡ changed_at a b x
listed_changed m b l d f a v u ps h x q = go a v u q
  where
    there : positions ps ≡ differing b (applied b d)
    there = h.changed f b l

    none : d ≡ no_change → positions ps ≡ []
    none e = there ∙ ap (differing b) (ap (applied b) e ∙ applied_none b) ∙ differing_same b

    go : (a : Answer) → ReadsUnder m b b a (applied b d) → (number a ≢ 0 → d ≡ no_change) → x ≡ delivered a (applied b d) x → positions ps ≡ changed_at a b x
    go clean v u q = there ∙ ap (differing b) (sym q)
    go (in_chips n) v u q = there ∙ ap (differing b) (sym q)
    go (in_card j n) v u q = there ∙ ap (differing b) (sym q)
    go (refused n) v u q = none (u (λ z. omega (arith, v.0, z)))
    go (refused_card n j) v u q = none (u (λ z. omega (arith, v.0, z)))
    go done v u q = absurd v
    go (counted i j k n o) v u q = absurd v

module _ (m : Marks) (lawful : marks_cause m ≡ 0) (b : List ℕ) (bb : Block b) (s : Sums) (sums : IsSums built_in b s) (d : Decoded) (c : Decodes s m d) where
  pub decoded_noted : (ps : Positions) → Listed (change_of d) ps → (w w' x : List ℕ)
      → x ≡ delivered (reading_answer (reading_of d)) (applied b (change_of d)) x → w' ≡ added w (positions ps)
      → w' ≡ added w (changed_at (reading_answer (reading_of d)) b x)
  decoded_noted ps h w w' x q e =
      e ∙ ap (added w) (listed_changed m b bb.long (change_of d) c.formed (reading_answer (reading_of d)) (decoded_read m lawful b bb s sums d c)
      c.unchanged ps h x q)

-- ---- a clean block, under any marks
clean_lawful_marks : (m : Marks) → marks_cause m ≡ 0 → clean_under m ≡ clean
clean_lawful_marks m e = ap (λ (t : Bool). if t clean (refused (marks_cause m))) (eq-eqb (marks_cause m) 0 e)

clean_unlawful_marks : (m : Marks) → marks_cause m ≢ 0 → clean_under m ≡ refused (marks_cause m)
clean_unlawful_marks m ne = ap (λ (t : Bool). if t clean (refused (marks_cause m))) (ne_eqb (marks_cause m) 0 ne)

pub clean_accepted : (m : Marks) → marks_cause m ≡ 0 → clean ≡ clean_under m
clean_accepted m e = sym (clean_lawful_marks m e)

pub clean_refused : (r : Reading) (e : Refusal) (m : Marks) → IsErrAnd r (λ (f : Fault). f ≡ Refused (refusal_number e))
    → refusal_number e ≡ marks_cause m → reading_answer r ≡ clean_under m
clean_refused (Ok k) e m h q = absurd h
clean_refused (Err f) e m h q =
    ap (λ (y : Fault). reading_answer (Err y)) h ∙ ap refused q ∙ sym (clean_unlawful_marks m (λ z. number_given e (q ∙ z)))

module _ (m : Marks) (b : List ℕ) (bb : Block b) (s : Sums) (sums : IsSums built_in b s) (z : all_zero s ≡ true) (a : Answer) (e : a ≡ clean_under m) where
  pub clean_looked : LookDone b m a b
  clean_looked = go (cases_eq (marks_cause m) 0)
    where
      go : (marks_cause m ≡ 0) ⊎ (marks_cause m ≢ 0) → LookDone b m a b
      go (inl l) =
          rw (e ∙ clean_lawful_marks m l) (look_done b m clean b b (mend_marks (length b) m bb.long ∙ l) (clean_read m l b bb s sums z b))
      go (inr u) = rw (e ∙ clean_unlawful_marks m u) (record {
        received = refl;
        answer = by_refused _ (marks_cause m) (Unit {0}) ((x : List ℕ) × ReadsUnder m b [] (refused (marks_cause m)) x)
            (mend_marks (length b) m bb.long) u tt;
      })

  -- the window stays, as nothing is changed
  pub clean_mended : (w : List ℕ) → MendDone b m w a b w
  clean_mended w = go (cases_eq (marks_cause m) 0)
    where
      go : (marks_cause m ≡ 0) ⊎ (marks_cause m ≢ 0) → MendDone b m w a b w
      go (inl l) = rw (e ∙ clean_lawful_marks m l)
          (mend_done b m w clean b w (mend_marks (length b) m bb.long ∙ l) (clean_read m l b bb s sums z b) (clean_noted w b b refl))
      go (inr u) = rw (e ∙ clean_unlawful_marks m u) (record {
        block = by_refused _ (marks_cause m) (b ≡ b) (ReadsUnder m b b (refused (marks_cause m)) b) (mend_marks (length b) m bb.long) u refl;
        window = sym (added_none w);
      })

-- ---- under any marks, where the lengths are right: the decoder says which marks it refuses
made : (k : Kind) → number (reading_answer (Ok k)) ≡ 0
made Clean = refl
made (Chips n) = refl
made (OneCard j n) = refl

-- it corrects under lawful marks alone
pub made_lawful : (s : Sums) (m : Marks) (d : Correction) → Decodes s m (Ok d) → marks_cause m ≡ 0
made_lawful s m d w = go (cases_eq (marks_cause m) 0)
  where
    go : (marks_cause m ≡ 0) ⊎ (marks_cause m ≢ 0) → marks_cause m ≡ 0
    go (inl e) = e
    go (inr z) = sym (ap number (w.unlawful z)) ∙ made d.kind

module _ (m : Marks) (b : List ℕ) (long : length b ≡ 45) (bytes : (p : ℕ) → p < 45 → byte b p < 256)
    (s : Sums) (sums : IsSums built_in b s) (d : Decoded) (c : Decodes s m d) where
  abbrev said : Answer
  said = reading_answer (reading_of d)

  block : Block b
  block = record { long = long; bytes = bytes }

  -- what a call does, whose causes are the marks' alone: of unlawful ones, and of lawful ones
  by_marks : (n : ℕ) (unchanged did : Type 0) → n ≡ marks_cause m → (said ≡ refused (marks_cause m) → unchanged)
      → (ReadsUnder m b b said (applied b (change_of d)) → did) → By n said unchanged did
  by_marks n unchanged did q u f = go (cases_eq (marks_cause m) 0)
    where
      go : (marks_cause m ≡ 0) ⊎ (marks_cause m ≢ 0) → By n said unchanged did
      go (inl e) = by_done n said unchanged did (q ∙ e) (f (decoded_read m e b block s sums d c))
      go (inr z) =
          let w = c.unlawful z in
          subst (λ (a : Answer). By n a unchanged did) (sym w) (by_refused n (marks_cause m) unchanged did q z (u w))

  pub corrects_read : (out : List ℕ) → length out ≡ 45 → (out' : List ℕ) → out' ≡ delivered said (applied b (change_of d)) out
      → ReadDone b m out said b out'
  corrects_read out l out' q = record {
    received = refl;
    output = by_marks _ (out' ≡ out) (ReadsUnder m b out said out') (read_marks (length b) m (length out) long l)
        (λ w. q ∙ ap (λ (a : Answer). delivered a (applied b (change_of d)) out) w)
        (λ w. rw q (deliver m b b said (applied b (change_of d)) w out));
  }

  -- neither block nor window is touched where the block isn't corrected
  pub fault_mended : (f : Fault) → d ≡ Err f → (w : List ℕ) → MendDone b m w said b w
  fault_mended f e w = record {
    block = by_marks _ (b ≡ b) (ReadsUnder m b b said b) (mend_marks (length b) m long) (λ v. refl)
        (λ v. subst (λ (y : List ℕ). ReadsUnder m b b said y) (sym (left said (applied b (change_of d)) b _ (fault_corrects d f e) refl))
        (deliver m b b said (applied b (change_of d)) v b));
    window = refused_noted said _ (fault_corrects d f e) refl w b b;
  }

  pub decoded_looked : LookDone b m said b
  decoded_looked = record {
    received = refl;
    answer = by_marks _ (Unit {0}) ((x : List ℕ) × ReadsUnder m b [] said x) (mend_marks (length b) m long) (λ w. tt)
        (λ w. (delivered said (applied b (change_of d)) [], deliver m b b said (applied b (change_of d)) w []));
  }
