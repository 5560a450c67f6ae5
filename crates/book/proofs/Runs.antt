-- Every list that can be asked for can be run: there is what is seen of it, by the contracts. So that the whole list is about something.
--
--   either         a call is refused, and what was lent stays; or it can be done
--   ..-runs        each kind of entry
--   any_list       THE STATEMENT
--   any_call, any_write, any_hit   nothing more is asked of an entry than that bytes are bytes, and that a hit lies in the bank; any_entries: of a list
use Prim.Native.Nat.{ℕ, zero, suc, ◌*◌, ◌<◌}
use mathlib.Core.Path.{◌≡◌, refl, sym, ap, ◌∙◌, subst}
use mathlib.Core.Bool.{false, true≢false}
use mathlib.Core.List.{List, [], ◌∷◌}
use native.Mathlib.Decide.{dec_lt}
use native.Mathlib.Omega.{arith}
use lib.ListN.{length, set, replicate}
use lib.ListN.{length-set}
use Rattle.answer.specs.Answer.{Answer, done, refused, By}
use Rattle.answer.proofs.Causes.{by_map}
use Rattle.marks.specs.Marks.{marks_cause, marked_chips}
use Rattle.marks.specs.Mark.{mark_cause, marked, MarkDone}
use Rattle.marks.specs.declared.Marks.{Marks}
use Rattle.marks.proofs.Laws.{cause_lawful, few_chips}
use Rattle.code.specs.Block.{Block, OneMember, Stored}
use Rattle.code.specs.Labels.{built_in}
use Rattle.code.proofs.BuiltIn.{built_in_set}
use Rattle.code.proofs.Stored.{stored_exists}
use Rattle.reading.specs.Reading.{ReadsUnder}
use Rattle.reading.proofs.Exists.{reads_exist}
use Rattle.bank.specs.Calls.{blocks, block, with_block, clear_cause, put_cause, get_cause, patrol_cause, report_cause}
use Rattle.bank.specs.Calls.{ClearDone, EachReads, CountsEach, totals}
use Rattle.window.specs.Window.{fresh_window, added}
use Rattle.block.specs.Read.{changed_at}
use Rattle.registers.specs.Write.{command_of, is_unknown, Runs, told_by, ran, stored, write_cause}
use Rattle.registers.specs.declared.Registers.{Registers}
use Rattle.registers.specs.Write.{Command}
use Rattle.registers.specs.Write.{Get, Patrol, Mark, Unknown}
use Rattle.registers.proofs.Writes.{unknown_14, write_refused, write_stored, command_done}
use Rattle.book.specs.Book.{Call, clear, put, get, patrol, report, mark, clear_window, Entry, call, write, hit}
use Rattle.book.specs.Book.{State, says, nothing_said, Seen, state, seen, rest_of, in_force, with_record, fresh_state}
use Rattle.book.specs.Book.{EntryDone, Ran}
use Rattle.book.specs.Possible.{Bytes, Possible, AllPossible, AnyList}
use Rattle.book.proofs.Next.{output_long}
use Rattle.book.proofs.Causes.{put_none, get_none, patrol_none, report_none}
use Rattle.book.proofs.Fine.{Fine, bytes_set, fine_zeros, part_long, part_bytes, part_block, fine_with, block_bytes, output_bytes}

-- ---- one call
-- what stays where it is refused has the property P, and so has what it leaves where it is done
either : {X : Type 0} (P : X → Type 0) (z : ℕ) (old : X) (D : Answer → X → Type 0) → P old → (z ≡ 0 → (a : Answer) × (x : X) × D a x × P x)
    → (a : Answer) × (x : X) × By z a (x ≡ old) (D a x) × P x
either P zero old D p f = f refl
either P (suc z) old D p f = (refused (suc z), old, (refl, refl), p)

reading : (m : Marks) (b out : List ℕ) → marks_cause m ≡ 0 → Block b → (a : Answer) × (x : List ℕ) × ReadsUnder m b out a x
reading m b out e bb =
    let l = cause_lawful m e in
    reads_exist built_in built_in_set (marked_chips m) (few_chips m l) b bb m.card l.card out

record Run (n : ℕ) (σ : State) (e : Entry) : Type 0 where
  sees : Seen
  done : EntryDone σ e sees
  fine : Fine n sees.after.bank

module _ (n : ℕ) (σ : State) (f : Fine n σ.bank) where
  m : Marks
  m = in_force σ.rest

  -- each block of the bank has a reading
  each_reading : marks_cause m ≡ 0 → (g : ℕ → Answer) × EachReads (block σ.bank) (blocks σ.bank) m g
  each_reading e = ((λ k. (at k (dec_lt k n)).0), λ k h. (at k (dec_lt k n)).1 h)
    where
      at : (k : ℕ) → Dec (k < n) → (a : Answer) × (k < blocks σ.bank → (x : List ℕ) × ReadsUnder m (block σ.bank k) [] a x)
      at k (yes l) = let r = reading m (block σ.bank k) [] e (part_block n k σ.bank l f) in (r.0, λ h. (r.1, r.2))
      at k (no l) = (refused 0, λ h. absurd (omega (arith, f.long)))

  call_runs : (c : Call) → Possible n (call c) → Run n σ (call c)
  unfolding ClearDone MarkDone m
  call_runs clear h =
      let r = either (Fine n) (clear_cause (length σ.bank)) σ.bank (λ a x. (a ≡ done) × (x ≡ replicate (length σ.bank) 0)) f
      (λ z. (done, replicate (length σ.bank) 0, (refl, refl), fine_zeros n (length σ.bank) f.long)) in
      record { sees = seen (says r.0) [] (state r.1 σ.rest σ.window); done = (r.0, r.1, r.2, refl); fine = r.3 }
  call_runs (put k rec) h =
      let r = either (Fine n) (put_cause (length σ.bank) k (length rec)) σ.bank
      (λ a y. (a ≡ done) × ((x : List ℕ) × OneMember (Stored built_in rec) x × (y ≡ with_block σ.bank k x))) f (λ z.
      let w = put_none n k (length rec) (rw f.long at z) in
      let s = stored_exists built_in built_in_set rec w.0 (λ p l. h p (subst (λ (i : ℕ). p < i) (sym w.0) l)) in (
        done,
        with_block σ.bank k s.0,
        (refl, (s.0, s.1, refl)),
        fine_with n k σ.bank w.1 f s.0 s.1.0.block.long
            (block_bytes s.0 s.1.0.block),
      )) in
      record {
        sees = seen (says r.0) [] (state r.1 σ.rest σ.window);
        done = (r.0, r.1, rec, record { lent = refl; put = r.2 }, refl);
        fine = r.3;
      }
  call_runs (get k out) h =
      let r = either (λ o. Unit {0}) (get_cause (length σ.bank) k m (length out)) out (λ a x. ReadsUnder m (block σ.bank k) out a x) tt (λ z.
      let w = get_none n k m (length out) (rw f.long at z) in
      let s = reading m (block σ.bank k) out w.2 (part_block n k σ.bank w.1 f) in
      (s.0, s.1, s.2, tt)) in
      let win = added σ.window (changed_at r.0 (block σ.bank k) r.1) in
      record {
        sees = seen (says r.0) r.1 (state σ.bank σ.rest win);
        done =
            (r.0, σ.bank, r.1, win, record { kept = refl; output = r.2; window = refl }, refl);
        fine = f;
      }
  call_runs (patrol k) h =
      let r = either (Fine n) (patrol_cause (length σ.bank) k m) σ.bank
      (λ a y. (x : List ℕ) × ReadsUnder m (block σ.bank k) (block σ.bank k) a x × (y ≡ with_block σ.bank k x)) f (λ z.
      let w = patrol_none n k m (rw f.long at z) in
      let s = reading m (block σ.bank k) (block σ.bank k) w.1 (part_block n k σ.bank w.0 f) in
      let l = part_long n k σ.bank w.0 f in (
        s.0,
        with_block σ.bank k s.1,
        (s.1, s.2, refl),
        fine_with n k σ.bank w.0 f s.1
            (output_long m (block σ.bank k) (block σ.bank k) s.0 s.1 s.2 l)
            (output_bytes m (block σ.bank k) (block σ.bank k) s.0 s.1 s.2 (part_bytes n k σ.bank w.0 f)),
      )) in
      let win = added σ.window (changed_at r.0 (block σ.bank k) (block r.1 k)) in
      record {
        sees = seen (says r.0) [] (state r.1 σ.rest win);
        done = (r.0, r.1, win, record { mended = r.2; window = refl }, refl);
        fine = r.3;
      }
  call_runs report h =
      let r = either {X = Unit {0}} (λ x. Unit {0}) (report_cause (length σ.bank) m) tt
      (λ a x. CountsEach (block σ.bank) (blocks σ.bank) m a) tt (λ z.
      let w = each_reading (report_none n m (rw f.long at z)) in
      (totals w.0 (blocks σ.bank), tt, (w.0, w.1, refl), tt)) in
      record {
        sees = seen (says r.0) [] (state σ.bank σ.rest σ.window);
        done = (r.0, σ.bank, record { kept = refl; answer = by_map (report_cause (length σ.bank) m) r.0 _ _ _ _ (λ u. tt) (λ z d. d) r.2 }, refl);
        fine = f;
      }
  call_runs (mark c) h =
      let r = either (λ x. Unit {0}) (mark_cause m c) m (λ a x. (a ≡ done) × (x ≡ marked m c)) tt (λ z. (done, marked m c, (refl, refl), tt)) in
      record { sees = seen (says r.0) [] (state σ.bank (with_record σ.rest r.1) σ.window); done = (r.0, r.1, r.2, refl); fine = f }
  call_runs clear_window h = record {
    sees = seen (says done) [] (state σ.bank σ.rest fresh_window);
    done = (done, fresh_window, (refl, refl), refl);
    fine = f;
  }

  r : Registers
  r = σ.rest.registers

  -- what the registers hold after a command, and what is seen of it
  commanded : (v : ℕ) (out : List ℕ) (c : Command) → command_of r v ≡ c → (a : Answer) (m' : Marks) (bank' out' win' : List ℕ)
      → Runs (in_force σ.rest) c σ.bank out σ.window a m' bank' out' win' → Fine n bank' → Run n σ (write 0 v out)
  unfolding r
  commanded v out c e a m' bank' out' win' w g = record {
    sees = seen (says done) out' (state bank' (rest_of (ran r v a m')) win');
    done = (
      done,
      ran r v a m',
      bank',
      out',
      win',
      command_done r v σ.bank out σ.window c (sym e) a m' bank' out' win' w (told_by a) refl _ refl done refl _ refl,
      refl,
    );
    fine = g;
  }

  command_runs : (v : ℕ) (out : List ℕ) (c : Command) → command_of r v ≡ c → is_unknown c ≡ false → Run n σ (write 0 v out)
  unfolding r
  command_runs v out (Get k) e h =
      let q = call_runs (get k out) tt in
      let d = q.done in
      commanded v out (Get k) e d.0 (in_force σ.rest) d.1 d.2 d.3 (d.4, refl) (subst (λ (s : Seen). Fine n s.after.bank) d.5 q.fine)
  command_runs v out (Patrol k) e h =
      let q = call_runs (patrol k) tt in
      let d = q.done in
      commanded v out (Patrol k) e d.0 (in_force σ.rest) d.1 out d.2 (d.3, refl, refl)
      (subst (λ (s : Seen). Fine n s.after.bank) d.4 q.fine)
  command_runs v out (Mark c) e h =
      let d = (call_runs (mark c) tt).done in
      commanded v out (Mark c) e d.0 d.1 σ.bank out σ.window (d.2, refl, refl, refl) f
  command_runs v out Unknown e h = absurd (true≢false h)

  write_runs : (a v : ℕ) (out : List ℕ) → Run n σ (write a v out)
  unfolding r
  write_runs a v out = by (write_cause r a v) refl a refl
    where
      known : (c : Command) → command_of r v ≡ c → write_cause r 0 v ≡ 0 → is_unknown c ≡ false
      known (Get k) e z = refl
      known (Patrol k) e z = refl
      known (Mark c) e z = refl
      known Unknown e z = absurd (let k = unknown_14 r v e in omega (arith, z, k))

      by : (z : ℕ) → write_cause r a v ≡ z → (p : ℕ) → a ≡ p → Run n σ (write a v out)
      by zero e zero q =
          subst (λ (i : ℕ). Run n σ (write i v out)) (sym q)
          (command_runs v out (command_of r v) refl (known (command_of r v) refl (sym (ap (λ (i : ℕ). write_cause r i v) q) ∙ e)))
      by zero e (suc p) q = record {
        sees = seen (says done) out (state σ.bank (rest_of (stored r a v)) σ.window);
        done = (
          done,
          stored r a v,
          σ.bank,
          out,
          σ.window,
          write_stored r v σ.bank out σ.window a _ done _ refl refl refl e (λ w. omega (arith, w, q)),
          refl,
        );
        fine = f;
      }
      by (suc z) e p q = record {
        sees = seen (says (refused (suc z))) out (state σ.bank σ.rest σ.window);
        done = (
          refused (suc z),
          r,
          σ.bank,
          out,
          σ.window,
          write_refused r v σ.bank out σ.window a (suc z) (refused (suc z)) r refl refl e (λ w. omega (arith, w)),
          refl,
        );
        fine = f;
      }

  runs : (e : Entry) → Possible n e → Run n σ e
  runs (call c) h = call_runs c h
  runs (write a v out) h = write_runs a v out
  runs (hit i x) h = record {
    sees = seen nothing_said [] (state (set σ.bank i x) σ.rest σ.window);
    done = (subst (λ (l : ℕ). i < l) (sym f.long) h.0, h.1, refl);
    fine = record { long = length-set σ.bank i x ∙ f.long; bytes = bytes_set σ.bank i x f.bytes h.1 };
  }

-- ---- any list
runs_all : (n : ℕ) (σ : State) → Fine n σ.bank → (es : List Entry) → AllPossible n es → (ss : List Seen) × Ran σ es ss
runs_all n σ f [] h = ([], Ran.end)
runs_all n σ f (e ∷ es) h =
    let r = runs n σ f e h.0 in
    let w = runs_all n r.sees.after r.fine es h.1 in
    (r.sees ∷ w.0, Ran.then r.done w.1)

pub any_list : AnyList
any_list n es h = runs_all n (fresh_state n) (fine_zeros n (45 * n) refl) es h

-- ---- nothing more is asked of an entry than that bytes are bytes, and that a hit lies in the bank
pub any_call : (n : ℕ) (c : Call) → ((k : ℕ) (rec : List ℕ) → c ≡ put k rec → Bytes rec) → Possible n (call c)
any_call n clear h = tt
any_call n (put k rec) h = h k rec refl
any_call n (get k out) h = tt
any_call n (patrol k) h = tt
any_call n report h = tt
any_call n (mark c) h = tt
any_call n clear_window h = tt

pub any_write : (n a v : ℕ) (out : List ℕ) → Possible n (write a v out)
any_write n a v out = tt

pub any_hit : (n i x : ℕ) → i < 45 * n → x < 256 → Possible n (hit i x)
any_hit n i x l h = (l, h)

-- and of a list no more than of its entries
pub any_entries : (n : ℕ) → AllPossible n [] × ((e : Entry) (es : List Entry) → Possible n e → AllPossible n es → AllPossible n (e ∷ es))
any_entries n = (tt, λ e es p ps. (p, ps))
