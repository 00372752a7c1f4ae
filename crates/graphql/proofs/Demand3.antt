-- Demand 3. Two runs of one request agree, so their data and, where no selection set is given up, their records are the same; the data of a run
-- stands at the root, so that each of its nulls has its record; and a report of code 0 shows both. Assumes nothing.
use mathlib.Core.Path.{◌≡◌, refl, sym, ap, ◌∙◌, subst}
use mathlib.Core.List.Perm
use mathlib.Core.List.{[]}
use mathlib.Core.Bool.{Bool, true, false, cond, ◌&&◌}
use Prim.Native.Nat.{ℕ}
use native.Mathlib.Omega.{arith}
use lib.ListN.{length}
use lib.Dec.{leb}
use Rattle.tables.specs.Lawful.{lawful, lawful_buffers, lawful_choices}
use Rattle.graphql.specs.Run.{Log, Choices, Res, stop, failed, done}
use Rattle.graphql.specs.Data.{Data, nulled, print_data}
use Rattle.graphql.specs.Request.{Request}
use Rattle.graphql.specs.Complete.{execute}
use Rattle.graphql.specs.Report.{record_of, records_of, words_of, Ended, refused_with, answered_with, ended, walk, Report, refused, fitted, introspects, report, report_unbounded}
use Rattle.graphql.specs.Demand3.{NoneSkipped, Spot, NullAt, itself, spot_of_path, Explained, Shown, OrderHidden, RecordsKept, NoneInEither, NullsExplained, ReportsShown, ReportsUnbounded}
use Rattle.graphql.proofs.Stable.{Refusal, refusal, Agree, stop_l, stop_r, both_failed, both_done, Logs, none_perm, stable_stop}
use Rattle.graphql.proofs.Meets.{Post, p_failed, p_done}
use Rattle.graphql.proofs.Spots.{Hit, hit_explained, DataHere}
use Rattle.graphql.proofs.Order.{execute_stable}
use Rattle.graphql.proofs.Nulls.{execute_gives}

-- ---- What a report of code 0 shows

refusal_not : {s : ℕ} → Refusal s → s ≡ 0 → ⊥
refusal_not (refusal {s = s}) e = omega arith

-- A report of code 0 was refused neither for its buffers, nor before the walk.
accepted : (b b' : Bool) (r : Report) → (cond b (cond b' r (refused 7)) (refused 6)).code ≡ 0 → cond b (cond b' r (refused 7)) (refused 6) ≡ r
unfolding refused
accepted true true r e = refl
accepted true false r e = absurd (omega arith)
accepted false b' r e = absurd (omega arith)

walked : (b b' : Bool) (r : Report) → (cond b (cond b' (refused 2) r) (refused 1)).code ≡ 0 → cond b (cond b' (refused 2) r) (refused 1) ≡ r
unfolding refused
walked true true r e = absurd (omega arith)
walked true false r e = refl
walked false b' r e = absurd (omega arith)

unbounded_is : (Q : Request) (text errors : ℕ) (c : Choices) → (report_unbounded Q text errors c).code ≡ 0 → report_unbounded Q text errors c ≡ fitted text errors (walk Q c)
unfolding report_unbounded
unbounded_is Q text errors c e = walked (lawful Q.tables && lawful_buffers text errors) (introspects Q.tables.selections) _ e

stopped_not : (Q : Request) (c : Choices) (code : ℕ) (x : Res Data) → execute Q c ≡ x → ended x ≡ refused_with code → code ≡ 0 → ⊥
unfolding ended
stopped_not Q c code (stop s w) e r z = refusal_not (stable_stop (execute_stable Q) e) (let same : s ≡ code = cc in same ∙ z)
stopped_not Q c code (failed a w d) e r z = let o : ◌≡◌ {A = ℕ} 0 1 = cc in omega arith
stopped_not Q c code (done a w d) e r z = let o : ◌≡◌ {A = ℕ} 0 1 = cc in omega arith

fitted_shown : (Q : Request) (text errors : ℕ) (c : Choices) (x : Ended) → walk Q c ≡ x → (fitted text errors x).code ≡ 0 → Shown Q c (fitted text errors x)
unfolding fitted refused walk
fitted_shown Q text errors c (refused_with code) w e = absurd (stopped_not Q c code (execute Q c) refl w e)
fitted_shown Q text errors c (answered_with d log) w e =
    let f = accepted (leb (length (print_data d)) text) (leb (length (words_of (records_of log))) errors) _ e in record {
      tree = d;
      log = log;
      walked = w;
      text_is = ap (λ (r : Report). r.text) f;
      words_are = ap (λ (r : Report). r.words) f;
      count_is = ap (λ (r : Report). r.records) f;
    }

pub reports_shown : ReportsShown
reports_shown Q text errors c e =
    let same = unbounded_is Q text errors c e in
    subst (Shown Q c) (sym same) (fitted_shown Q text errors c (walk Q c) refl (subst (λ (r : Report). r.code ≡ 0) same e))

bounded : (b : Bool) (r : Report) → (cond b r (refused 1)).code ≡ 0 → cond b r (refused 1) ≡ r
unfolding refused
bounded true r e = refl
bounded false r e = absurd (omega arith)

pub reports_unbounded : ReportsUnbounded
unfolding report
reports_unbounded Q text errors c e = bounded (lawful_choices (length c)) _ e

-- ---- (a) and (b)

-- what two ends that agree have in common
record Alike (d d' : Data) (log log' : Log) : Type 0 where
  data_same : d ≡ d'
  logs_same : Logs log log'

alike : {x y : Res Data} {d d' : Data} {log log' : Log} → Agree x y → ended x ≡ answered_with d log → ended y ≡ answered_with d' log' → Alike d d' log log'
unfolding ended
alike (stop_l r) e e' = let o : ◌≡◌ {A = ℕ} 0 1 = cc in absurd (omega arith)
alike (stop_r r) e e' = let o : ◌≡◌ {A = ℕ} 0 1 = cc in absurd (omega arith)
alike (both_failed l) e e' = go l e e'
  where
    go : {u w : Log} {d d' : Data} {log log' : Log} → Logs u w → answered_with nulled u ≡ answered_with d log → answered_with nulled w ≡ answered_with d' log' → Alike d d' log log'
    go {u} {w} {d} {d'} {log} {log'} l e e' =
        let a : u ≡ log = cc in
        let b : w ≡ log' = cc in record {
          data_same = cc;
          logs_same = subst (λ (u : Log). Logs u log') a (subst (λ (w : Log). Logs u w) b l);
        }
alike (both_done {a = a} {b = b} s l) e e' = go s l e e'
  where
    go : {a b : Data} {u w : Log} {d d' : Data} {log log' : Log} → a ≡ b → Logs u w → answered_with a u ≡ answered_with d log → answered_with b w ≡ answered_with d' log' → Alike d d' log log'
    go {a} {b} {u} {w} {d} {d'} {log} {log'} s l e e' =
        let x : u ≡ log = cc in
        let y : w ≡ log' = cc in record {
          data_same = cc;
          logs_same = subst (λ (u : Log). Logs u log') x (subst (λ (w : Log). Logs u w) y l);
        }

runs_alike : (Q : Request) (c c' : Choices) {tree tree' : Data} {log log' : Log} → walk Q c ≡ answered_with tree log → walk Q c' ≡ answered_with tree' log' → Alike tree tree' log log'
unfolding walk
runs_alike Q c c' = alike ((execute_stable Q).at c c')

pub order_hidden : OrderHidden
order_hidden Q text errors text' errors' c c' e e' =
    let s = reports_shown Q text errors c e in
    let s' = reports_shown Q text' errors' c' e' in
    s.text_is ∙ (ap print_data (runs_alike Q c c' s.walked s'.walked).data_same ∙ sym s'.text_is)

pub records_kept : RecordsKept
unfolding records_of
records_kept Q c c' tree tree' log log' e e' n n' = Perm.filter_map record_of ((runs_alike Q c c' e e').logs_same n)

pub none_in_either : NoneInEither
none_in_either Q c c' tree tree' log log' e e' n = none_perm n ((runs_alike Q c c' e e').logs_same n)

-- ---- (c)

module _ (Q : Request) {tree : Data} {log : Log} {spot : Spot} where
  null_explained : {w : Log} → Hit Q [] w → answered_with nulled w ≡ answered_with tree log → NullAt tree spot → Explained Q spot log
  null_explained {w} h e x =
      let d : nulled ≡ tree = cc in
      let l : w ≡ log = cc in
      at_root (subst (λ (w : Log). Hit Q [] w) l h) (subst (λ (d : Data). NullAt d spot) (sym d) x)
    where
      at_root : {spot : Spot} → Hit Q [] log → NullAt nulled spot → Explained Q spot log
      at_root h itself = hit_explained Q [] log h

  end_explained : (x : Res Data) → Post (Hit Q []) (DataHere Q []) x → ended x ≡ answered_with tree log → NoneSkipped log → NullAt tree spot → Explained Q spot log
  unfolding ended
  end_explained (stop s w) h e n x = let o : ◌≡◌ {A = ℕ} 0 1 = cc in absurd (omega arith)
  end_explained (failed r w c) (p_failed h) e n x = null_explained h e x
  end_explained (done d w c) (p_done h) e n x =
      let same : d ≡ tree = cc in
      let l : w ≡ log = cc in
      hit_explained Q spot log (go h same l)
    where
      go : {d : Data} {w : Log} → DataHere Q [] d w → d ≡ tree → w ≡ log → Hit Q spot log
      go {d} {w} h same l = (subst (λ (w : Log). DataHere Q [] tree w) l (subst (λ (d : Data). DataHere Q [] d w) same h) n).hit spot x

pub nulls_explained : NullsExplained
unfolding spot_of_path walk
nulls_explained Q c tree log spot e = end_explained Q (execute Q c) ((execute_gives Q).at c) e
