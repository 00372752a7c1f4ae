-- A computation that has come so far: what the code has noted and which choice is next, with what is left to do. Any loop and any sequence of calls
-- over the monad of runs goes by these laws. Assumes nothing.
use mathlib.Core.Path.{◌≡◌, refl, sym, ap, ◌∙◌}
use mathlib.Core.List.{List, [], ◌∷◌, ◌++◌, append_assoc, append-nil, filter_map}
use Prim.Native.Nat.{ℕ}
use lib.ListN.{drop}
use Rattle.writing.specs.Wrote.{Wrote}
use Rattle.writing.proofs.WroteLaws.{stay, back, «then»}
use Rattle.graphql.specs.Run.{Path, Reach, Event, err, given_up, skipped, Log, Choices, Res, stop, failed, done}
use Rattle.graphql.specs.Run.{M, after, pure, onward, ◌>>=◌, lowered, marked, note}
use Rattle.graphql.specs.Report.{record_of, records_of, record_words, words_of}
use Rattle.walking.specs.declared.state.State.{State}
use Rattle.walking.specs.declared.state.Kind.{Kind}
use Rattle.walking.specs.declared.state.Kind.TheVariants as kind
use Rattle.walking.specs.declared.state.Done.{Done}
use Rattle.std.specs.Prelude.{Ok}
use Rattle.walking.specs.Gives.{Completed, View, moved_to, Gives, noted as words}
use Rattle.walking.specs.Settled.{passed_list}
use Rattle.walking.proofs.RunLaws.{after_nil, after_after}
use Rattle.walking.proofs.Ends.{Fall, f_stop, f_failed, placed_of}
use Rattle.walking.proofs.Ended.{lowered_gives, fall_lowered}

-- The records of two logs, one after the other: a step more of what is noted.
pub noted_append : (u w : Log) → words (u ++ w) ≡ words u ++ words w
unfolding records_of record_of words_of filter_map
noted_append [] w = refl
noted_append (err r ∷ u) w = ap (λ (l : List ℕ). record_words r ++ l) (noted_append u w) ∙ sym (append_assoc (record_words r) (words u) (words w))
noted_append (given_up p ∷ u) w = noted_append u w
noted_append (skipped p ∷ u) w = noted_append u w

-- what is said of a value that there is not, does not matter
no_view : {A : Type 0} → View A
no_view = record { says = λ a. kind.Null; show = λ a. [] }

-- The run x is that of `log`, which is noted, and then of m from the choice on.
pub record Sofar (cs : Choices) {A : Type 0} (x : Res A) (errors₀ : List ℕ) (errs₀ : ℕ) (m : M A) (errors : List ℕ) (errs choice : ℕ) : Type 0 where
  pub log : Log
  pub came : x ≡ after log (m (drop choice cs))
  pub noted : Wrote errors₀ errors errs₀ errs (words log)

-- ---- What becomes of the whole where a part has no value

-- y has no value, as x has none: what a caller does with a run that failed
pub data Rides {A B : Type 0} : Res A → Res B → Type 0 where
  r_stop : {s : ℕ} {u w : Log} → words w ≡ words u → Rides (stop s u) (stop s w)
  r_failed : {r : Reach} {u w : Log} {c : Choices} → words w ≡ words u → Rides (failed r u c) (failed r w c)
  r_done : {a : A} {w : Log} {c : Choices} {y : Res B} → Rides (done a w c) y

-- The whole is that run itself.
pub rides_same : {A : Type 0} (x : Res A) → Rides x x
rides_same (stop s w) = r_stop refl
rides_same (failed r w c) = r_failed refl
rides_same (done a w c) = r_done

-- A set is given up, with its failure lowered, and nothing is done with its values.
pub rides_mark : {A B : Type 0} (p : Path) (x : Res A) (k : A → M B) → Rides (lowered x) (onward (marked (given_up p) x) k)
unfolding onward marked lowered records_of record_of filter_map
rides_mark p (stop s w) k = r_stop refl
rides_mark p (failed r w c) k = r_failed refl
rides_mark p (done a w c) k = r_done

ride : {A B : Type 0} {U : View A} {W : View B} {cs t t' e e' : List ℕ} {s : State} {d : Done} {x : Res A} {y : Res B} → Fall x → Rides x y
    → Gives U cs t e s x d t' e' → Gives W cs t e s y d t' e'
ride f_stop (r_stop h) g = record { what = g.what; wrote = g.wrote; noted = rw h g.noted; chosen = refl }
ride f_failed (r_failed h) g = record { what = g.what; wrote = g.wrote; noted = rw h g.noted; chosen = g.chosen }

lost_is : {A B : Type 0} {f : Res B} (k : B → M A) (log : Log) → Fall f → Fall (after log (onward f k))
unfolding onward after
lost_is k log f_stop = f_stop
lost_is k log f_failed = f_failed

lose : {A B : Type 0} {U : View B} (W : View A) {f : Res B} (k : B → M A) (log : Log) {cs t₀ t t' e₀ e e' : List ℕ} {s s' : State} {d : Done}
    → Wrote e₀ e s.errs s'.errs (words log) → Gives U cs t e s' f d t' e' → Fall f → {out : List ℕ} → Wrote t₀ t s.at s'.at out
    → Gives W cs t₀ e₀ s (after log (onward f k)) (record { what = d.what; state = moved_to d.state s.at }) t' e'
unfolding onward after
lose W k log n q f_stop w = record { what = q.what; wrote = q.wrote ∙ w.long; noted = rw noted_append («then» n q.noted); chosen = refl }
lose W k log n q f_failed w = record {
  what = q.what;
  wrote = back («then» w q.wrote);
  noted = rw noted_append («then» n q.noted);
  chosen = q.chosen;
}

-- ---- From the beginning to the end

module _ (cs : Choices) {A : Type 0} where
  -- Where a computation begins.
  pub so_begin : (m : M A) (e : List ℕ) (a c : ℕ) → Sofar cs (m (drop c cs)) e a m e a c
  unfolding records_of words_of filter_map
  so_begin m e a c = record { log = []; came = sym (after_nil (m (drop c cs))); noted = stay e a }

  module _ {x : Res A} {e₀ e : List ℕ} {a₀ a c : ℕ} where
    -- What is left may be put in another way, also from another choice on: by the laws of the monad, or where a choice was taken.
    pub so_is : (m k : M A) (d : ℕ) → Sofar cs x e₀ a₀ m e a c → m (drop c cs) ≡ k (drop d cs) → Sofar cs x e₀ a₀ k e a d
    so_is m k d g h = record { log = g.log; came = g.came ∙ ap (after g.log) h; noted = g.noted }

    -- The first part came to a value, in whatever way.
    pub so_done : {B : Type 0} (m : M B) (k : B → M A) {e' : List ℕ} {a' c' : ℕ} (v : B) (w : Log) (d : Choices) → Sofar cs x e₀ a₀ (m >>= k) e a c
        → m (drop c cs) ≡ done v w d → drop c' cs ≡ d → Wrote e e' a a' (words w) → Sofar cs x e₀ a₀ (k v) e' a' c'
    unfolding ◌>>=◌ onward
    so_done m k v w d g h o n = record {
      log = g.log ++ w;
      came =
          g.came ∙ ap (λ (z : Res _). after g.log (onward z k)) h ∙ after_after g.log w (k v d)
          ∙ ap (λ (z : Choices). after (g.log ++ w) (k v z)) (sym o);
      noted = rw noted_append («then» g.noted n);
    }

    -- An event that is no error record: an item is skipped.
    pub so_note : (v : Event) (m : M A) → words (v ∷ []) ≡ [] → Sofar cs x e₀ a₀ (note v m) e a c → Sofar cs x e₀ a₀ m e a c
    unfolding note
    so_note v m h g = record {
      log = g.log ++ (v ∷ []);
      came = g.came ∙ after_after g.log (v ∷ []) (m (drop c cs));
      noted = rw (noted_append, h, append-nil) g.noted;
    }

    -- Nothing is left: the whole is done.
    pub so_pure : (v : A) (g : Sofar cs x e₀ a₀ (pure v) e a c) → x ≡ done v g.log (drop c cs)
    unfolding pure after
    so_pure v g = g.came ∙ rw append-nil

    -- The end of a set, which was not given up: what comes after it.
    pub so_mark : {B : Type 0} (p : Path) (k : A → M B) (v : A) → Sofar cs x e₀ a₀ (pure v) e a c
        → Sofar cs (onward (marked (given_up p) x) k) e₀ a₀ (k v) e a c
    unfolding onward marked
    so_mark p k v g = record { log = g.log; came = rw (so_pure v g); noted = g.noted }

  -- ---- After a call

  module _ {B : Type 0} {U : View B} {x : Res A} {e₀ e : List ℕ} {a₀ : ℕ} (m : M B) (k : B → M A) {s' : State}
      (g : Sofar cs x e₀ a₀ (m >>= k) e s'.errs s'.choice) {t t' e' : List ℕ} {d : Done}
      (q : Gives U cs t e s' (m (drop s'.choice cs)) d t' e') where
    -- It is known to what value it came.
    pub so_given : {v : B} {w : Log} {l : Choices} → m (drop s'.choice cs) ≡ done v w l
        → Wrote t t' s'.at d.state.at (U.show v) × Sofar cs x e₀ a₀ (k v) e' d.state.errs d.state.choice
    so_given {v} {w} {l} p = let r = rw p at q in (r.wrote, so_done m k v w l g p r.chosen r.noted)

    -- It came to a value.
    pub so_placed : {i : Kind} → d.what ≡ Ok i → (v : B) × (i ≡ U.says v) × Wrote t t' s'.at d.state.at (U.show v)
        × Sofar cs x e₀ a₀ (k v) e' d.state.errs d.state.choice
    so_placed h =
        let p = placed_of U (m (drop s'.choice cs)) h q.what in
        let r = so_given p.3 in
        let z = rw p.3 at q in
        (p.0, kind_is (sym h ∙ z.what), r.0, r.1)
      where
        kind_is : {i j : Kind} → ◌≡◌ {A = Completed} (Ok i) (Ok j) → i ≡ j
        kind_is e = cc

    lost_fall : Fall (m (drop s'.choice cs)) → Fall x
    unfolding ◌>>=◌
    lost_fall f = rw g.came (lost_is k g.log f)

    -- It came to none, and so the whole has none: the text that was written before the call goes back to where the whole began.
    module _ (f : Fall (m (drop s'.choice cs))) {t₀ : List ℕ} {s : State} {out : List ℕ} (z : s.errs ≡ a₀)
        (w : Wrote t₀ t s.at s'.at out) where
      lost_whole : (W : View A) → Gives W cs t₀ e₀ s x (record { what = d.what; state = moved_to d.state s.at }) t' e'
      unfolding ◌>>=◌
      lost_whole W = rw g.came (lose W k g.log (rw z g.noted) q f w)

      pub so_lost : {C : Type 0} {W : View C} {y : Res C} → Rides x y
          → Gives W cs t₀ e₀ s y (record { what = d.what; state = moved_to d.state s.at }) t' e'
      so_lost r = ride (lost_fall f) r (lost_whole no_view)

      -- The same of a set, which lowers its failure.
      pub so_lost_set : {C : Type 0} {W : View C} {y : Res C} → Rides (lowered x) y
          → Gives W cs t₀ e₀ s y (passed_list (record { what = d.what; state = moved_to d.state s.at })) t' e'
      so_lost_set r = ride (fall_lowered (lost_fall f)) r (lowered_gives (lost_whole no_view))

-- Nothing is left, and the text is the value's: the end of a part.
pub so_ends : {A : Type 0} {U : View A} {cs : Choices} {x : Res A} {e₀ e : List ℕ} {a₀ a c top : ℕ} (v : A) → Sofar cs x e₀ a₀ (pure v) e a c
    → {t t' : List ℕ} {s : State} {b : ℕ} → s.errs ≡ a₀ → Wrote t t' s.at b (U.show v)
    → Gives U cs t e₀ s x (record { what = Ok (U.says v); state = record { at = b; errs = a; choice = c; top = top } }) t' e
so_ends {cs = cs} v g z w = rw (so_pure cs v g) (record { what = refl; wrote = w; noted = rw z g.noted; chosen = refl })
