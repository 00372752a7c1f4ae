-- "1 before 2 before the walk": what a run reports, by the code that was found before it. Assumes nothing.
use mathlib.Core.Path.{◌≡◌, refl, sym, ◌∙◌}
use mathlib.Core.Bool.{Bool, true, false, not, cond, ◌&&◌}
use mathlib.Core.List.{List}
use Prim.Native.Nat.{ℕ, ◌≤◌}
use native.Mathlib.Omega.{arith}
use lib.ListN.{length}
use lib.Dec.{leb}
use borrow.Author.Tests.{leb-true, not-true, not-false}
use Rattle.rows.specs.Limits.{most_text_bytes, most_error_words}
use Rattle.rows.proofs.Every.{and_left, and_right}
use Rattle.tables.specs.Tables.{Tables}
use Rattle.tables.specs.Lawful.{lawful, table_code, lawful_buffers, lawful_choices}
use Rattle.std.specs.Prelude.{Option, Some, None}
use Rattle.codes.specs.declared.outcome.Outcome.{Outcome}
use Rattle.codes.specs.declared.outcome.Outcome.TheVariants.{Unlawful, AsksForSchema}
use Rattle.codes.specs.declared.report.Reported.{Reported}
use Rattle.codes.specs.Outcome.{code_of}
use Rattle.graphql.specs.Run.{Choices, Res, stop, failed, done}
use Rattle.graphql.specs.Data.{Data}
use Rattle.graphql.specs.Complete.{execute}
use Rattle.graphql.specs.Report.{walk, Report, refused, fitted, introspects, report, report_unbounded, Reports}
use Rattle.walking.specs.declared.state.State.{State}
use Rattle.walking.specs.declared.state.Done.{Done}
use Rattle.walking.specs.Gives.{as_data, Gives}
use Rattle.running.specs.Running.{refusal_of, at_start}
use Rattle.running.specs.Reporting.{ReportsEnd}

-- ---- Which code it is

module _ (T : Tables) {code : ℕ} (e : code ≡ table_code T) where
  broken : (code ≡ 0 → ⊥) → lawful T ≡ false
  unfolding table_code
  broken z = go (lawful T) e
    where
      go : (b : Bool) → code ≡ cond b 0 1 → b ≡ false
      go true h = absurd (z h)
      go false h = refl

  sound : code ≡ 0 → lawful T ≡ true
  unfolding table_code
  sound z = go (lawful T) e
    where
      go : (b : Bool) → code ≡ cond b 0 1 → b ≡ true
      go true h = refl
      go false h = absurd (omega arith)

  module _ (choices text errors : ℕ) where
    pub refusal_tables : (code ≡ 0 → ⊥) → Some Unlawful ≡ refusal_of T choices text errors
    unfolding refusal_of
    refusal_tables z = rw (broken z)

    module _ (z : code ≡ 0) {b c : Bool} (be : b ≡ lawful_buffers text errors) (ce : c ≡ lawful_choices choices) where
      pub refusal_sizes : not (b && c) ≡ true → Some Unlawful ≡ refusal_of T choices text errors
      unfolding refusal_of
      refusal_sizes t = rw (sound z, ← be, ← ce, not-true (b && c) t)

      pub refusal_schema : not (b && c) ≡ false → {i : Bool} → i ≡ introspects T.selections → i ≡ true
          → Some AsksForSchema ≡ refusal_of T choices text errors
      unfolding refusal_of
      refusal_schema t ie it = rw (sound z, ← be, ← ce, not-false (b && c) t, ← ie, it)

      pub refusal_none : not (b && c) ≡ false → {i : Bool} → i ≡ introspects T.selections → i ≡ false
          → None ≡ refusal_of T choices text errors
      unfolding refusal_of
      refusal_none t ie it = rw (sound z, ← be, ← ce, not-false (b && c) t, ← ie, it)

-- ---- What it says of the report

-- the three tests of the definition, one behind the other
as_one : (a b c d : Bool) (w : Report) → cond c (cond (a && b) (cond d (refused 2) w) (refused 1)) (refused 1)
    ≡ cond (a && (b && c)) (cond d (refused 2) w) (refused 1)
as_one true true true d w = refl
as_one true true false d w = refl
as_one true false true d w = refl
as_one true false false d w = refl
as_one false b true d w = refl
as_one false b false d w = refl

refused_by : (p d : Bool) {o : Outcome} (w : Report) → Some o ≡ cond p (cond d (Some AsksForSchema) None) (Some Unlawful)
    → cond p (cond d (refused 2) w) (refused 1) ≡ refused (code_of o)
refused_by true true {o} w e = let z : o ≡ AsksForSchema = cc in rw z
refused_by true false w e = absurd (let z : ◌≡◌ {A = ℕ} 0 1 = cc in omega arith)
refused_by false d {o} w e = let z : o ≡ Unlawful = cc in rw z

walked_by : (p d : Bool) (w : Report) → None ≡ cond p (cond d (Some AsksForSchema) None) (Some Unlawful) → cond p (cond d (refused 2) w) (refused 1) ≡ w
walked_by true true w e = absurd (let z : ◌≡◌ {A = ℕ} 0 1 = cc in omega arith)
walked_by true false w e = refl
walked_by false d w e = absurd (let z : ◌≡◌ {A = ℕ} 0 1 = cc in omega arith)

all_hold : (p d : Bool) → None ≡ cond p (cond d (Some AsksForSchema) None) (Some Unlawful) → p ≡ true
all_hold true d e = refl
all_hold false d e = absurd (let z : ◌≡◌ {A = ℕ} 0 1 = cc in omega arith)

-- None: everything is lawful.
module _ (T : Tables) (n t e : ℕ) {o : Option Outcome} (r : o ≡ refusal_of T n t e) (z : o ≡ None) where
  all_lawful : (lawful T && (lawful_buffers t e && lawful_choices n)) ≡ true
  unfolding refusal_of
  all_lawful = all_hold (lawful T && (lawful_buffers t e && lawful_choices n)) (introspects T.selections) (sym z ∙ r)

  pub tables_lawful : lawful T ≡ true
  tables_lawful = and_left (lawful T) (lawful_buffers t e && lawful_choices n) all_lawful

  both_lawful : lawful_buffers t e ≡ true
  both_lawful = and_left (lawful_buffers t e) (lawful_choices n) (and_right (lawful T) (lawful_buffers t e && lawful_choices n) all_lawful)

  text_lawful : t ≤ most_text_bytes
  unfolding lawful_buffers
  text_lawful = leb-true t most_text_bytes (and_left (leb t most_text_bytes) (leb e most_error_words) both_lawful)

  errors_lawful : e ≤ most_error_words
  unfolding lawful_buffers
  errors_lawful = leb-true e most_error_words (and_right (leb t most_text_bytes) (leb e most_error_words) both_lawful)

module _ (T : Tables) (choices : Choices) (t e : ℕ) {o : Option Outcome} (r : o ≡ refusal_of T (length choices) t e) where
  abbrev walked : Report
  walked = fitted t e (walk (record { tables = T }) choices)

  reported_as : report (record { tables = T }) t e choices
      ≡ cond (lawful T && (lawful_buffers t e && lawful_choices (length choices))) (cond (introspects T.selections) (refused 2) walked) (refused 1)
  unfolding report report_unbounded
  reported_as = as_one (lawful T) (lawful_buffers t e) (lawful_choices (length choices)) (introspects T.selections) walked

  -- Refused.
  pub report_refused : {why : Outcome} {handed : Reported} {text' errors' : List ℕ} → o ≡ Some why → Reports t e (refused (code_of why)) handed text' errors'
      → Reports t e (report (record { tables = T }) t e choices) handed text' errors'
  unfolding refusal_of
  report_refused z h =
      rw (reported_as, refused_by (lawful T && (lawful_buffers t e && lawful_choices (length choices))) (introspects T.selections) walked (sym z ∙ r)) h

  -- Walked.
  report_walked : o ≡ None → report (record { tables = T }) t e choices ≡ walked
  unfolding refusal_of
  report_walked z =
      reported_as ∙ walked_by (lawful T && (lawful_buffers t e && lawful_choices (length choices))) (introspects T.selections) walked (sym z ∙ r)

-- ---- A walk keeps the sizes of its buffers

text_long : {cs text errors text' errors' : List ℕ} {s : State} (x : Res Data) {d : Done} → Gives as_data cs text errors s x d text' errors'
    → length text' ≡ length text
text_long (stop code log) g = g.wrote
text_long (failed r log c) g = g.wrote.long
text_long (done a log c) g = g.wrote.long

module _ (T : Tables) (choices text errors : List ℕ) {o : Option Outcome} (r : o ≡ refusal_of T (length choices) (length text) (length errors)) (z : o ≡ None)
    {d : Done} {text' errors' : List ℕ} (g : Gives as_data choices text errors at_start (execute (record { tables = T }) choices) d text' errors') where
  pub sizes_kept : (length text' ≤ most_text_bytes) × (length errors' ≤ most_error_words)
  sizes_kept =
      let t : length text' ≡ length text = text_long (execute (record { tables = T }) choices) g in (
        omega (arith, text_lawful T (length choices) (length text) (length errors) r z),
        omega (arith, g.noted.long, errors_lawful T (length choices) (length text) (length errors) r z),
      )

  pub report_answered : {handed : Reported} {text'' errors'' : List ℕ} → ReportsEnd text' errors' d handed text'' errors''
      → Reports (length text) (length errors) (report (record { tables = T }) (length text) (length errors) choices) handed text'' errors''
  unfolding walk
  report_answered h =
      rw (report_walked T choices (length text) (length errors) r z)
      (h.reports choices text errors at_start (execute (record { tables = T }) choices) refl refl g)
