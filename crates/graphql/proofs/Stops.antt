-- Where a part of a run stops, it is with one of the three outcomes: each combinator of `Run` hands on the code with which a part stopped, and the
-- definition halts with these alone. Assumes nothing.
use mathlib.Core.Path.{refl}
use mathlib.Core.Bool.{Bool, true, false}
use mathlib.Core.List.{List, [], ◌∷◌}
use Prim.Native.Nat.{ℕ, zero, suc}
use lib.ListN.{length}
use Rattle.codes.specs.declared.outcome.Outcome.{Outcome}
use Rattle.codes.specs.declared.outcome.Outcome.TheVariants.{TooFar, TooManyFields, VariableInLiteral}
use Rattle.codes.specs.Outcome.{code_of}
use Rattle.graphql.specs.Run.{Path, Event, given_up, Log, Choices, Reach, here, past_list, Res, stop, failed, done, M, after, pure, halt, fail, caught, or_else, lowered, passed, marked, mark, onward, ◌>>=◌, when, note, pick, the, others, put_back, taking, any_order, in_order}
use Rattle.graphql.specs.Request.{Request}
use Rattle.graphql.specs.Complete.{Leaf, Definition, Task, complete_leaf_value, execute_group, execute_selection_set, run}
use Rattle.graphql.specs.Collect.{Group}
use Rattle.rows.specs.declared.layout.Range.{Range}
use Rattle.std.specs.Prelude.{Option}
use Rattle.graphql.specs.Stops.{StopsRun, StopTold, Told, RunTold}
use Rattle.graphql.proofs.Closed.{Closed}
use Rattle.graphql.proofs.Walked.{Kept, leaf_kept, group_kept, set_kept, run_kept, execute_kept}

module _ {A : Type 0} where
  told_pure : (a : A) → Told (pure a)
  unfolding pure
  told_pure a = record { told = λ c. tt }

  pub told_halt : (o : Outcome) → StopsRun o → Told {A = A} (halt (code_of o))
  unfolding halt
  told_halt o s = record { told = λ c. record { outcome = o; stops = s; numbered = refl } }

  told_fail : (r : Reach) (e : Event) → Told {A = A} (fail r e)
  unfolding fail
  told_fail r e = record { told = λ c. tt }

  pub told_when : (b : Bool) {m n : M A} → Told m → Told n → Told (when b m n)
  unfolding when
  told_when true h k = h
  told_when false h k = k

  caught_told : (a : A) (x : Res A) → StopTold x → StopTold (caught a x)
  unfolding caught
  caught_told a (stop code log) t = t
  caught_told a (failed here log c) t = tt
  caught_told a (failed past_list log c) t = tt
  caught_told a (done b log c) t = tt

  told_or_else : (a : A) {m : M A} → Told m → Told (or_else a m)
  unfolding or_else
  told_or_else a h = record { told = λ c. caught_told a _ (h.told c) }

  lowered_told : (x : Res A) → StopTold x → StopTold (lowered x)
  unfolding lowered
  lowered_told (stop code log) t = t
  lowered_told (failed r log c) t = tt
  lowered_told (done a log c) t = tt

  told_passed : {m : M A} → Told m → Told (passed m)
  unfolding passed
  told_passed h = record { told = λ c. lowered_told _ (h.told c) }

  marked_told : (e : Event) (x : Res A) → StopTold x → StopTold (marked e x)
  unfolding marked
  marked_told e (stop code log) t = t
  marked_told e (failed r log c) t = tt
  marked_told e (done a log c) t = tt

  told_mark : (e : Event) {m : M A} → Told m → Told (mark e m)
  unfolding mark
  told_mark e h = record { told = λ c. marked_told e _ (h.told c) }

  after_told : (u : Log) (x : Res A) → StopTold x → StopTold (after u x)
  unfolding after
  after_told u (stop code log) t = t
  after_told u (failed r log c) t = tt
  after_told u (done a log c) t = tt

  told_note : (e : Event) {m : M A} → Told m → Told (note e m)
  unfolding note
  told_note e h = record { told = λ c. after_told _ _ (h.told c) }

module _ {A B : Type 0} {k : A → M B} (h : (a : A) → Told (k a)) where
  onward_told : (x : Res A) → StopTold x → StopTold (onward x k)
  unfolding onward
  onward_told (stop code log) t = t
  onward_told (failed r log c) t = tt
  onward_told (done a log c) t = after_told log _ ((h a).told c)

  told_bind : {m : M A} → Told m → Told (m >>= k)
  unfolding ◌>>=◌
  told_bind g = record { told = λ c. onward_told _ (g.told c) }

picked_told : (n : ℕ) (c : Choices) → StopTold (pick n c)
unfolding pick
picked_told n [] = tt
picked_told n (x ∷ c) = tt

module _ {G B : Type 0} {run : G → M B} (h : (g : G) → Told (run g)) where
  told_in_order : (gs : List G) → Told (in_order run gs)
  unfolding in_order
  told_in_order [] = told_pure []
  told_in_order (g ∷ gs) = told_bind (λ v. told_bind (λ vs. told_pure (v ∷ vs)) (told_in_order gs)) (h g)

  told_taking : (k : ℕ) (gs : List G) → Told (taking run k gs)
  unfolding taking
  told_taking zero gs = told_pure []
  told_taking (suc k) [] = told_pure []
  told_taking (suc k) (g ∷ gs) =
      told_bind (λ i. told_bind (λ v. told_bind (λ vs. told_pure (put_back i v vs)) (told_taking k (others i g gs))) (h (the i g gs)))
      (record { told = picked_told (suc (length gs)) })

  told_any_order : (p : Path) (gs : List G) → Told (any_order run p gs)
  unfolding any_order
  told_any_order p gs = told_mark (given_up p) (told_taking (length gs) gs)

told_closed : (p : Path) → Closed (λ A m. Told m) p
told_closed p = record {
  of_pure = λ a. told_pure a;
  of_far = told_halt TooFar tt;
  of_fields = told_halt TooManyFields tt;
  of_variable_lem = told_halt VariableInLiteral tt;
  of_error = λ e field definition literal. told_fail _ _;
  of_when = λ b h k. told_when b h k;
  of_bind = λ h k. told_bind k h;
  of_in_order = λ h gs. told_in_order h gs;
}

told_kept : Kept (λ A m. Told m)
told_kept = record {
  closed = told_closed;
  of_error_item = λ e field definition literal p. told_fail _ _;
  of_or_else = λ a h. told_or_else a h;
  of_passed = λ h. told_passed h;
  of_note = λ e h. told_note e h;
  of_any_order = λ h p gs. told_any_order h p gs;
}

-- ---- The parts of a run that the walk's contracts speak of, and the run

module _ (Q : Request) where
  pub leaf_told : (ty : ℕ) (l : Leaf) (g : Group) (p : Path) → Told (complete_leaf_value Q ty l g p)
  leaf_told ty l g p = leaf_kept told_kept Q ty l g p

  pub task_told : (room : ℕ) (t : Task) (p : Path) → Told (run Q room t p)
  task_told room t p = run_kept told_kept Q room t p

  pub group_told : (room type : ℕ) (rows : Range) (p : Path) (g : Group) (d : Option Definition) → Told (execute_group Q (run Q room) type rows p g d)
  group_told room type rows p g d = group_kept told_kept Q (task_told room) type rows p g d

  pub set_told : (room type : ℕ) (rows : Range) (selections : List ℕ) (p : Path) → Told (execute_selection_set Q (run Q room) type rows selections p)
  set_told room type rows selections p = set_kept told_kept Q (task_told room) type rows selections p

pub run_told : RunTold
run_told Q = execute_kept told_kept Q
