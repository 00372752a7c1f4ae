-- What follows from both contracts: a report's text and words stand at the beginning of the buffers, so what is proved of reports holds for what stands
-- there. Assumes nothing.
use mathlib.Core.Path.{◌≡◌, refl, sym, ap, ◌∙◌, subst}
use mathlib.Core.List.{List, ◌++◌, Permᴰ}
use mathlib.Core.Logic.{∥∥₁_elim}
use Prim.Native.Nat.{ℕ, suc, ◌-◌}
use native.Mathlib.Omega.{arith}
use native.Mathlib.Nat.{ℕ_set}
use lib.ListN.{length, take, replicate, length-append}
use lib.Seq.{take_at}
use Rattle.codes.specs.declared.report.Reported.{Reported}
use Rattle.graphql.specs.Run.{ErrorRecord, Choices}
use Rattle.graphql.specs.Request.{Request}
use Rattle.graphql.specs.Report.{record_words, words_of, filled, Report, report, report_in_order, report_unbounded, Reports}
use Rattle.graphql.specs.Demand3.{Shown}
use Rattle.graphql.proofs.Determined.{run_determined, ordered_run_determined}
use Rattle.graphql.proofs.Demand3.{reports_shown, reports_unbounded, order_hidden, records_kept, none_in_either, nulls_explained}
use Rattle.running.specs.Entries.{RanInOrder, EntryDetermined, OrderedEntryDetermined, EntryAnswers, TextKept, EntryRecordsKept, EntryNullsExplained}

pub ran_in_order : RanInOrder
unfolding report_in_order
ran_in_order Q t e handed text errors k = k

pub entry_determined : EntryDetermined
entry_determined Q t e handed handed' text text' errors errors' = run_determined Q t e handed handed' text text' errors errors'

pub ordered_entry_determined : OrderedEntryDetermined
ordered_entry_determined Q choices t e handed handed' text text' errors errors' = ordered_run_determined Q t e choices handed handed' text text' errors errors'

-- ---- What stands at the beginning of the buffers

front : (size : ℕ) {n : ℕ} {out buffer : List ℕ} → n ≡ length out → buffer ≡ filled size out → take n buffer ≡ out
unfolding filled
front size {n} {out} l e = ap (take n) e ∙ take_at out (replicate (size - length out) 0) n (sym l)

module _ (Q : Request) (c : Choices) (t e : ℕ) {handed : Reported} {text errors : List ℕ} (k : Reports t e (report Q t e c) handed text errors)
    (z : handed.code ≡ 0) where
  unbounded : report Q t e c ≡ report_unbounded Q t e c
  unbounded = reports_unbounded Q t e c (sym k.code ∙ z)

  unbounded_code : (report_unbounded Q t e c).code ≡ 0
  unbounded_code = ap (λ (r : Report). r.code) (sym unbounded) ∙ sym k.code ∙ z

  shown : Shown Q c (report Q t e c)
  shown = subst (Shown Q c) (sym unbounded) (reports_shown Q t e c unbounded_code)

pub entry_answers : EntryAnswers
entry_answers Q c t e handed text errors k z =
    let s = shown Q c t e k z in record {
      tree = s.tree;
      log = s.log;
      walked = s.walked;
      byte_count = k.bytes ∙ ap length s.text_is;
      text_is = front t k.bytes k.text_is ∙ s.text_is;
      word_count = k.words ∙ ap length s.words_are;
      words_are = front e k.words k.errors_are ∙ s.words_are;
      record_count = k.records ∙ s.count_is;
    }

-- ---- (a)

pub text_kept : TextKept
text_kept Q c c' t e t' e' handed handed' text text' errors errors' k k' z z' =
    let same : (report Q t e c).text ≡ (report Q t' e' c').text =
    ap (λ (r : Report). r.text) (unbounded Q c t e k z)
    ∙ order_hidden Q t e t' e' c c' (unbounded_code Q c t e k z) (unbounded_code Q c' t' e' k' z')
    ∙ ap (λ (r : Report). r.text) (sym (unbounded Q c' t' e' k' z'))
    in record {
      bytes_same = k.bytes ∙ ap length same ∙ sym k'.bytes;
      text_same = front t k.bytes k.text_is ∙ same ∙ sym (front t' k'.bytes k'.text_is);
    }

-- ---- (b)

-- records in another order are as many, and have as many words
record AsMany (rs rs' : List ErrorRecord) : Type 0 where
  records : length rs ≡ length rs'
  words : length (words_of rs) ≡ length (words_of rs')

rearranged : {rs rs' : List ErrorRecord} → Permᴰ rs rs' → AsMany rs rs'
unfolding words_of
rearranged Permᴰ.nil = record { records = refl; words = refl }
rearranged (Permᴰ.cons {a = a} {b = b} {l₁ = l} {l₂ = l'} e p) =
    let more = rearranged p in record {
      records = ap suc more.records;
      words = omega (
        arith,
        length-append (record_words a) (words_of l),
        length-append (record_words b) (words_of l'),
        ap (λ (r : ErrorRecord). length (record_words r)) e,
        more.words,
      );
    }
rearranged (Permᴰ.swap {a = a} {b = b} {a' = a'} {b' = b'} {l = l} e f) = record {
  records = refl;
  words = omega (
    arith,
    length-append (record_words a) (record_words b ++ words_of l),
    length-append (record_words b) (words_of l),
    length-append (record_words a') (record_words b' ++ words_of l),
    length-append (record_words b') (words_of l),
    ap (λ (r : ErrorRecord). length (record_words r)) e,
    ap (λ (r : ErrorRecord). length (record_words r)) f,
  );
}
rearranged (Permᴰ.trans p q) =
    let one = rearranged p in
    let other = rearranged q in record { records = one.records ∙ other.records; words = one.words ∙ other.words }

pub entry_records_kept : EntryRecordsKept
entry_records_kept Q c c' handed handed' text text' errors errors' a a' n =
    let none = none_in_either Q c c' a.tree a'.tree a.log a'.log a.walked a'.walked n in
    let p = records_kept Q c c' a.tree a'.tree a.log a'.log a.walked a'.walked n none in
    let many = ∥∥₁_elim p (ℕ_set _ _) (λ d. (rearranged d).records) in
    let words = ∥∥₁_elim p (ℕ_set _ _) (λ d. (rearranged d).words) in
    record {
      records_same = a.record_count ∙ many ∙ sym a'.record_count;
      words_same = a.word_count ∙ words ∙ sym a'.word_count;
      rearranged = p;
    }

-- ---- (c)

pub entry_nulls_explained : EntryNullsExplained
entry_nulls_explained Q c handed text errors a spot = nulls_explained Q c a.tree a.log spot a.walked
