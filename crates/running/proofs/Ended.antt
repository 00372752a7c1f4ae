-- From what the walk left in the two buffers to what is handed back. Assumes nothing.
use mathlib.Core.Path.{◌≡◌, refl, ap, ◌∙◌}
use mathlib.Core.Logic.{⊎_elim}
use mathlib.Core.List.{List, [], ◌∷◌}
use Prim.Native.Nat.{ℕ, ◌-◌, ◌≤◌, ◌<◌}
use native.Mathlib.Omega.{arith}
use borrow.Author.Tests.{le-leb, lt-leb}
use lib.ListN.{length, take, replicate}
use lib.Seq.{take_at, length-take-le}
use borrow.Enum.Refused.{Among, opened}
use denote.Enum.Declared.{tag_of}
use Rattle.writing.specs.Wrote.{Wrote, Writes, zeroed_from}
use Rattle.tokens.specs.Literal.{null_name}
use Rattle.codes.specs.declared.outcome.Outcome.TheVariants.{Answered, TextTooLong, RecordsTooLong}
use Rattle.codes.specs.declared.report.Reported.{Reported}
use Rattle.codes.specs.Outcome.{code_of}
use Rattle.graphql.specs.Run.{Reach, here, past_list, Log, Choices, Res, stop, failed, done}
use Rattle.graphql.specs.Data.{Data, nulled, print_data}
use Rattle.graphql.specs.Report.{records_of, words_of, answered_with, ended, refused, fitted, filled, Reports}
use Rattle.walking.specs.declared.state.Kind.{Kind}
use Rattle.walking.specs.declared.state.Failure.{Failure}
use Rattle.walking.specs.declared.state.Failure.TheVariants.{Stop}
use Rattle.std.specs.Prelude.{Ok, Err}
use Rattle.walking.specs.declared.state.Done.{Done}
use Rattle.walking.specs.Gives.{Completed, as_data, answer_of}
use Rattle.walking.proofs.Ends.{placed_of}
use Rattle.walking.specs.contracts.state.Failure.{the_type as failures}
use Rattle.running.specs.Reporting.{Counts, ReportsWritten, ReportsEnd}

-- All is zero.
pub refuse_reports : (text errors : List ℕ) {text' errors' : List ℕ} (code : ℕ) → text' ≡ zeroed_from 0 text → errors' ≡ zeroed_from 0 errors
    → Reports (length text) (length errors) (refused code) (record { code = code; bytes = 0; words = 0; records = 0 }) text' errors'
unfolding refused filled
refuse_reports text errors code e f = record { code = refl; bytes = refl; words = refl; records = refl; text_is = e; errors_are = f }

-- ---- What was written, against its buffer

-- a position past the end, and one within it
module _ {before text out : List ℕ} {at : ℕ} (w : Wrote before text 0 at out) where
  overran : length text < at → length before < length out
  overran h = omega (arith, w.long, w.moved)

  reached : at ≤ length text → at ≡ length out
  reached h = omega (arith, w.long, w.moved)

  shown_alone : at ≤ length text → take at text ≡ out
  shown_alone h = w.shown (omega (arith, w.long))

  -- what is cleared behind it is what a buffer holds
  cleared : {text' : List ℕ} → at ≤ length text → text' ≡ zeroed_from at text → text' ≡ filled (length before) out
  unfolding filled
  cleared h e = e ∙ rw (shown_alone h, reached h, w.long)

-- the records that stand in the words before those that were cleared
counted : {noted errors errors' : List ℕ} {errs n : ℕ} (log : Log) → Wrote noted errors 0 errs (words_of (records_of log)) → errs ≤ length errors
    → errors' ≡ zeroed_from errs errors → Counts errors' errs n → n ≡ length (records_of log)
counted {errors = errors} {errs = errs} log w h e c =
    c.counts (records_of log)
    (ap (take errs) e ∙ take_at (take errs errors) (replicate (length errors - errs) 0) errs (length-take-le errs errors h) ∙ shown_alone w h)

-- ---- The three reports

module _ (t e : ℕ) (d : Data) (log : Log) where
  fitted_not : t < length (print_data d) → fitted t e (answered_with d log) ≡ refused (code_of TextTooLong)
  unfolding fitted
  fitted_not h = rw (lt-leb (length (print_data d)) t h)

  fitted_text : length (print_data d) ≤ t → e < length (words_of (records_of log)) → fitted t e (answered_with d log) ≡ refused (code_of RecordsTooLong)
  unfolding fitted
  fitted_text h k = rw (le-leb (length (print_data d)) t h, lt-leb (length (words_of (records_of log))) e k)

  fitted_both : length (print_data d) ≤ t → length (words_of (records_of log)) ≤ e → fitted t e (answered_with d log)
      ≡ record { code = code_of Answered; text = print_data d; words = words_of (records_of log); records = length (records_of log) }
  unfolding fitted
  fitted_both h k = rw (le-leb (length (print_data d)) t h, le-leb (length (words_of (records_of log))) e k)

module _ {text errors text' errors' : List ℕ} {at errs code : ℕ} {r : Reported} where
  pub report_text_too_long : length text < at → code ≡ code_of TextTooLong → Reports (length text) (length errors) (refused code) r text' errors'
      → ReportsWritten text errors at errs r text' errors'
  report_text_too_long h z told = record {
    reports = λ before noted d log w v.
        let k = rw z at told in
        rw (fitted_not (length before) (length noted) d log (overran w h), ← w.long, ← v.long) k;
  }

  pub report_records_too_long : at ≤ length text → length errors < errs
      → code ≡ code_of RecordsTooLong → Reports (length text) (length errors) (refused code) r text' errors'
      → ReportsWritten text errors at errs r text' errors'
  report_records_too_long h l z told = record {
    reports = λ before noted d log w v.
        let k = rw z at told in
        let fits : length (print_data d) ≤ length before = omega (arith, reached w h, w.long) in
        rw (fitted_text (length before) (length noted) d log fits (overran v l), ← w.long, ← v.long) k;
  }

-- Both fit.
module _ {text errors text' errors' : List ℕ} {at errs code : ℕ} where
  pub report_fits : {n : ℕ} → code ≡ code_of Answered → at ≤ length text → errs ≤ length errors → text' ≡ zeroed_from at text
      → errors' ≡ zeroed_from errs errors → Counts errors' errs n
      → ReportsWritten text errors at errs (record { code = code; bytes = at; words = errs; records = n }) text' errors'
  report_fits c h l e f q = record {
    reports = λ before noted d log w v.
        let fits : length (print_data d) ≤ length before = omega (arith, reached w h, w.long) in
        let fit : length (words_of (records_of log)) ≤ length noted = omega (arith, reached v l, v.long) in
        rw (fitted_both (length before) (length noted) d log fits fit) (record {
          code = c;
          bytes = reached w h;
          words = reached v l;
          records = counted log v l f q;
          text_is = cleared w h e;
          errors_are = cleared v l f;
        });
  }

-- ---- The end of the walk

-- What is written at the beginning: whatever stood there is gone.
rewritten : {before text text' out : List ℕ} {at : ℕ} → length text ≡ length before → Writes text text' 0 at out → Wrote before text' 0 at out
rewritten {before} {text} l w = record {
  long = w.wrote.long ∙ l;
  moved = rw (← l) w.wrote.moved;
  kept = refl;
  shown = λ h. w.wrote.shown (omega arith);
}

stop_of : (x : Res Data) {a : Completed} {code : ℕ} → a ≡ Err (Stop code) → a ≡ answer_of as_data x → (log : Log) × (x ≡ stop code log)
stop_of (stop n w) e h = (w, ap (λ (c : ℕ). stop c w) (cc))
stop_of (failed here w c) e h = absurd (let z : ◌≡◌ {A = ℕ} 0 1 = cc in omega arith)
stop_of (failed past_list w c) e h = absurd (let z : ◌≡◌ {A = ℕ} 0 1 = cc in omega arith)
stop_of (done v w c) e h = absurd (let z : ◌≡◌ {A = ℕ} 0 1 = cc in omega arith)

failed_of : (x : Res Data) {a : Completed} {f : Failure} → Among (0 ∷ 1 ∷ []) (tag_of failures f) → a ≡ Err f → a ≡ answer_of as_data x
    → (r : Reach) × (log : Log) × (c : Choices) × (x ≡ failed r log c)
failed_of (stop n w) {f = f} k e h = absurd (not_stop (cc))
  where
    not_stop : f ≡ Stop n → ⊥
    not_stop z = ⊎_elim (λ h. omega arith) (λ h. omega arith) (opened (rw z at k))
failed_of (failed r w c) k e h = (r, w, c, refl)
failed_of (done v w c) k e h = absurd (let z : ◌≡◌ {A = ℕ} 0 1 = cc in omega arith)

module _ {text errors text' errors' : List ℕ} {d : Done} {r : Reported} where
  pub end_placed : {k : Kind} → d.what ≡ Ok k → ReportsWritten text errors d.state.at d.state.errs r text' errors'
      → ReportsEnd text errors d r text' errors'
  unfolding ended
  end_placed e k = record {
    reports = λ cs before noted s x z y g.
        let p = placed_of as_data x e g.what in
        let h = rw p.3 at g in
        rw p.3 (k.reports before noted p.0 p.1 (rw z at h.wrote) (rw y at h.noted));
  }

  pub end_stopped : {f : Failure} {code : ℕ} → d.what ≡ Err f → f ≡ Stop code
      → Reports (length text) (length errors) (refused code) r text' errors' → ReportsEnd text errors d r text' errors'
  unfolding ended fitted
  end_stopped e q k = record {
    reports = λ cs before noted s x z y g.
        let p = stop_of x (e ∙ ap Err q) g.what in
        let h = rw p.1 at g in
        rw (p.1, ← h.wrote, ← h.noted.long) k;
  }

  pub end_failed : {f : Failure} {text1 : List ℕ} {at : ℕ} → d.what ≡ Err f → Among (0 ∷ 1 ∷ []) (tag_of failures f)
      → Writes text text1 0 at null_name → ReportsWritten text1 errors at d.state.errs r text' errors' → ReportsEnd text errors d r text' errors'
  unfolding ended print_data
  end_failed e o w k = record {
    reports = λ cs before noted s x z y g.
        let p = failed_of x o e g.what in
        let h = rw p.3 at g in
        rw p.3 (k.reports before noted nulled p.1 (rewritten h.wrote.long w) (rw y at h.noted));
  }
