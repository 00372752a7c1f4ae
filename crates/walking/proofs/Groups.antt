-- The loop over the groups of a set, whatever the run of a group is: what holds at its head, and the turn, the way out and the end. How the code
-- knows which slots are empty and where their entries begin is its own affair. Assumes nothing.
use mathlib.Core.Path.{◌≡◌, refl, sym, ap, ◌∙◌}
use Rattle.std.specs.Prelude.{Option, Some, None}
use mathlib.Core.List.{List, [], ◌∷◌, ◌++◌, map, append_assoc, append-nil}
use Prim.Native.Nat.{ℕ, suc, ◌+◌, ◌≤◌, ◌<◌}
use native.Mathlib.Omega.{arith}
use lib.ListN.{length, take, drop, get_or, set, replicate, length-append, length-set, length-replicate}
use Rattle.writing.specs.Wrote.{Wrote, Closes, Moves}
use Rattle.writing.proofs.WroteLaws.{stay, same, over, «then»}
use Rattle.graphql.specs.Run.{Path, M, Res, Choices, done, pure, pick, mark, ◌>>=◌, taking, any_order}
use Rattle.graphql.specs.Data.{Data, object, Val, fields, print_data}
use Rattle.walking.specs.declared.state.State.{State}
use Rattle.walking.specs.declared.state.Kind.{Kind}
use Rattle.walking.specs.declared.state.Kind.TheVariants as kind
use Rattle.walking.specs.declared.state.Failure.{Failure}
use Rattle.std.specs.Prelude.{Ok, Err}
use Rattle.walking.specs.declared.state.Done.{Done}
use Rattle.walking.specs.Gives.{as_data, as_entry, moved_to, Gives}
use Rattle.walking.specs.Settled.{passed_list}
use Rattle.walking.proofs.Ends.{fall_of}
use Rattle.walking.proofs.Filling.{fill, slot, empties, open_slot, empties_set, empties_all, filling, filling_begin, filling_next, filling_end}
use Rattle.walking.proofs.Slotted.{keyed, slot_entry, slotted, slotted_none, slotted_all, slotted_set}
use Rattle.walking.proofs.Sofar.{Sofar, rides_mark, so_begin, so_is, so_placed, so_lost_set, so_mark, so_ends}

-- what has nothing behind it may be said to stand behind that
swap_empty : {t t' : List ℕ} {a e : ℕ} (xs ys zs : List ℕ) → Wrote t t' a e (xs ++ (ys ++ zs)) → (e ≤ length t → length ys ≡ 0)
    → Wrote t t' a e (xs ++ (zs ++ ys))
swap_empty xs [] zs w h = same (ap (λ (l : List ℕ). xs ++ l) (sym (append-nil zs))) w
swap_empty {t} {e = e} xs (y ∷ ys) zs w h =
    let no : e ≤ length t → ⊥ = λ q. omega (arith, h q) in
    let m = length-append xs ((y ∷ ys) ++ zs) in
    let n = length-append xs (zs ++ (y ∷ ys)) in
    let j = length-append (y ∷ ys) zs in
    let k = length-append zs (y ∷ ys) in
    over _ w (omega arith) (omega (arith, w.moved))

module _ {G : Type 0} (run : G → M Val) (key : G → List ℕ) (z : G) (cs : Choices) (gs : List G) (p : Path) (text₀ errors₀ : List ℕ) (s : State) where
  -- the definition's set
  abbrev pub whole : Res Data
  whole = (any_order run p gs >>= λ vs. pure (object (fields (map key gs) vs))) (drop s.choice cs)

  abbrev groups : Res (List Val)
  groups = taking run (length gs) gs (drop s.choice cs)

  -- So many slots are empty; the entries of the others are written, and what is left is the run of the empty ones.
  pub record Setting (slots : List (Option Val)) (text errors : List ℕ) (at errs choice m : ℕ) : Type 0 where
    pub size : length slots ≡ length gs
    pub free : empties slots ≡ m
    pub so : Sofar cs groups errors₀ s.errs (filling run m gs slots) errors errs choice
    pub wrote : Wrote text₀ text s.at at (slotted key gs slots)

  pub setting_begin : Setting (replicate (length gs) None) text₀ errors₀ s.at s.errs s.choice (length gs)
  setting_begin = record {
    size = length-replicate (length gs) None;
    free = empties_all Val (length gs);
    so = rw (filling_begin run gs (length gs) refl) (so_begin cs (taking run (length gs) gs) errors₀ s.errs s.choice);
    wrote = rw slotted_none (stay text₀ s.at);
  }

  -- the group of the empty slot that has j others before it
  abbrev pub group_at : List (Option Val) → ℕ → G
  group_at slots j = get_or gs (slot slots j) z

  -- After a turn: the value of that slot, whose entry was written from `at` on, and what holds then.
  pub record Turned (slots : List (Option Val)) (j at : ℕ) (text text2 text3 errors2 : List ℕ) (d : Done) (m : ℕ) : Type 0 where
    pub value : Val
    pub entered : Wrote text text2 at d.state.at (slot_entry key (group_at slots j) (Some value))
    pub setting : Setting (set slots (slot slots j) (Some value)) text3 errors2 d.state.at d.state.errs d.state.choice m

  -- That slot is there.
  pub setting_slot : {slots : List (Option Val)} {text errors : List ℕ} {at errs choice m j : ℕ}
      → Setting slots text errors at errs choice (suc m) → j < suc m
      → (slot slots j < length slots) × (get_or slots (slot slots j) None ≡ None)
  setting_slot {slots} {j = j} h lt = open_slot slots j (omega (arith, h.free))

  -- The choice picks an empty slot, and its group is run.
  module _ {slots : List (Option Val)} {text errors : List ℕ} {at errs choice c m j : ℕ} (h : Setting slots text errors at errs choice (suc m))
      (lt : j < suc m) (picked : pick (suc m) (drop choice cs) ≡ done j [] (drop c cs)) where
    next : Sofar cs groups errors₀ s.errs (run (group_at slots j) >>= λ v. filling run m gs (set slots (slot slots j) (Some v))) errors errs c
    next =
        so_is cs _ _ c h.so
        (filling_next run m gs slots j z (sym h.size) h.free lt (drop choice cs) picked)

    module _ {d : Done} {text2 errors2 : List ℕ} {top : ℕ}
        (q : Gives (as_entry (keyed (key (group_at slots j)))) cs text errors (record { at = at; errs = errs; choice = c; top = top })
        (run (group_at slots j) (drop c cs)) d text2 errors2) where
      -- The set is given up.
      pub setting_lost : {f : Failure} → d.what ≡ Err f
          → Gives as_data cs text₀ errors₀ s whole (passed_list (record { what = d.what; state = moved_to d.state s.at })) text2 errors2
      unfolding any_order mark ◌>>=◌
      setting_lost e =
          let f = fall_of (as_entry (keyed (key (group_at slots j)))) (run (group_at slots j) (drop c cs)) e q.what in
          so_lost_set cs (run (group_at slots j)) _ next q f refl h.wrote (rides_mark p groups _)

      before : List ℕ
      before = slotted key gs (take (slot slots j) slots)

      parts : (after : List ℕ) × (slotted key gs slots ≡ before ++ after)
          × ((v : Val) → slotted key gs (set slots (slot slots j) (Some v)) ≡ before ++ (slot_entry key (group_at slots j) (Some v) ++ after))
      unfolding before
      parts = slotted_set key z gs slots (slot slots j) h.size (setting_slot h lt).0 (setting_slot h lt).1

      again : {text3 : List ℕ}
          → ((v : Val) → Wrote text text2 at d.state.at (slot_entry key (group_at slots j) (Some v))
          → Wrote text₀ text3 s.at d.state.at (slotted key gs (set slots (slot slots j) (Some v))))
          → {k : Kind} → d.what ≡ Ok k → Turned slots j at text text2 text3 errors2 d m
      again w e =
          let r = so_placed cs (run (group_at slots j)) _ next q e in
          record {
            value = r.0;
            entered = r.2;
            setting = record {
              size = length-set slots (slot slots j) (Some r.0) ∙ h.size;
              free = let y = empties_set slots j r.0 (omega (arith, h.free)) in omega (arith, y, h.free);
              so = r.3;
              wrote = w r.0 r.2;
            };
          }

      module _ (v : Val) (e : Wrote text text2 at d.state.at (slot_entry key (group_at slots j) (Some v))) where
        entry : List ℕ
        entry = slot_entry key (group_at slots j) (Some v)

        behind : Wrote text₀ text2 s.at d.state.at (before ++ (parts.0 ++ entry))
        unfolding entry
        behind = same (ap (λ (l : List ℕ). l ++ entry) parts.1 ∙ append_assoc before parts.0 entry) («then» h.wrote e)

        exact : d.state.at ≤ length text2 → at ≡ s.at + length before + length parts.0
        exact k =
            let x = ap length parts.1 ∙ length-append before parts.0 in
            omega (arith, x, h.wrote.moved, h.wrote.long, e.moved, e.long)

      -- The entry goes to its place among those that there are.
      pub setting_again : {off : ℕ} {text3 : List ℕ} → Moves text2 off at d.state.at text3
          → (d.state.at ≤ length text2 → off ≡ s.at + length (slotted key gs (take (slot slots j) slots)))
          → {k : Kind} → d.what ≡ Ok k → Turned slots j at text text2 text3 errors2 d m
      unfolding before entry
      setting_again moves offset e =
          again (λ v w. same (sym (parts.2 v)) (moves.moves text₀ before parts.0 (entry v w) s.at (behind v w)
          (λ k. (offset k, exact v w k)))) e

      -- It is in its place: no entry stands behind that.
      pub setting_behind : (d.state.at ≤ length text2 → at ≡ s.at + length (slotted key gs (take (slot slots j) slots)))
          → {k : Kind} → d.what ≡ Ok k → Turned slots j at text text2 text2 errors2 d m
      unfolding before entry
      setting_behind last e =
          again (λ v w. same (sym (parts.2 v)) (swap_empty before parts.0 (entry v w) (behind v w) (λ k. none_behind v w k))) e
        where
          none_behind : (v : Val) (w : Wrote text text2 at d.state.at (slot_entry key (group_at slots j) (Some v))) → d.state.at ≤ length text₀
              → length parts.0 ≡ 0
          none_behind v w k =
              let k' : d.state.at ≤ length text2 = omega (arith, k, (behind v w).long) in
              omega (arith, last k', exact v w k')

  -- No slot is empty, and the brackets are put.
  pub setting_ended : {slots : List (Option Val)} {text text1 errors : List ℕ} {at errs choice end top : ℕ}
      → Setting slots text errors at errs choice 0
      → Closes 123 125 text s.at at text1 end
      → Gives as_data cs text₀ errors₀ s whole
      (record { what = Ok kind.Object; state = record { at = end; errs = errs; choice = choice; top = top } }) text1 errors
  unfolding print_data any_order mark ◌>>=◌
  setting_ended {slots} h close =
      so_ends (object (fields (map key gs) (fill slots []))) (so_mark cs p _ (fill slots []) (rw (filling_end run gs slots) at h.so)) refl
      (rw (slotted_all key gs slots h.size h.free) (close.closes text₀ (slotted key gs slots) h.wrote))
