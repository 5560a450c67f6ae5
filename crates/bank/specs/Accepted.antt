-- When a call on a bank is not refused, in plain words.
--
--   FitBank n     n bytes are a bank: 1 to 1,024 blocks of 45 bytes
--   Accepts       each call, exactly when
use Rattle.std.specs.Prelude.{ℕ, ◌*◌, ◌/◌, ◌≤◌, ◌<◌, ◌≡◌, ◌↔◌}
use Rattle.marks.specs.Marks.{LawfulMarks}
use Rattle.marks.specs.declared.Marks.{Marks}
use Rattle.bank.specs.Calls.{clear_cause, put_cause, get_cause, patrol_cause, report_cause}

abbrev pub FitBank : ℕ → Type 0
FitBank n = (c : ℕ) × (1 ≤ c) × (c ≤ 1024) × (n ≡ 45 * c)

-- n is the bank's length, k the block's number, r the record's length, o the output's
pub record Accepts (n k r o : ℕ) (m : Marks) : Type 0 where
  pub clear : (clear_cause n ≡ 0) ↔ FitBank n
  pub put : (put_cause n k r ≡ 0) ↔ (FitBank n × (k < n / 45) × (r ≡ 34))
  pub get : (get_cause n k m o ≡ 0) ↔ (FitBank n × (k < n / 45) × LawfulMarks m × (o ≡ 45))
  pub patrol : (patrol_cause n k m ≡ 0) ↔ (FitBank n × (k < n / 45) × LawfulMarks m)
  pub report : (report_cause n m ≡ 0) ↔ (FitBank n × LawfulMarks m)
