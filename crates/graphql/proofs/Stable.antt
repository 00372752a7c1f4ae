-- What two runs of one computation, over any two lists of choices, have in common: `Stable`. Each combinator of `Run` keeps it, since only
-- the order in which a selection set takes its groups depends on the choices, and its results are put back in the groups' own order; where
-- two orders fail at different groups, the set itself has failed. Assumes nothing.
use Prim.Native.Nat.{ℕ, zero, suc, ◌≤◌}
use native.Mathlib.Omega.{arith}
use mathlib.Core.Path.{◌≡◌, refl, ap, subst, subst₂, ap₂}
use mathlib.Core.Bool.{Bool, true, false}
use mathlib.Core.List.Perm
use mathlib.Core.List.{List, [], ◌∷◌, ◌++◌, append_assoc, append-nil, Perm, perm_append_comm, mem-append_left, mem-append_right, mem-cons_self, Subset, Subset-refl, Subset-trans, subset-append_right}
use lib.ListN.{length}
use Rattle.graphql.specs.Run.{Path, Event, given_up, Log, Choices, Reach, Res, stop, failed, done, M, after, pure, halt, fail, caught, or_else, lowered, passed, marked, mark, onward, ◌>>=◌, when, note, pick, the, others, put_back, taking, any_order, in_order}
use Rattle.graphql.specs.Run.{here, past_list}
use Rattle.graphql.specs.Demand3.{NoneGivenUp}

-- ---- Logs

abbrev pub Logs : Log → Log → Type 0
Logs u w = NoneGivenUp u → Perm u w

none_left : (u w : Log) → NoneGivenUp (u ++ w) → NoneGivenUp u
none_left u w h = record { none_at = λ p m. h.none_at p (mem-append_left w m) }

none_right : (u w : Log) → NoneGivenUp (u ++ w) → NoneGivenUp w
none_right u w h = record { none_at = λ p m. h.none_at p (mem-append_right u m) }

pub none_perm : {u w : Log} → NoneGivenUp u → Perm u w → NoneGivenUp w
none_perm h q = record { none_at = λ p m. h.none_at p (Perm.subset (Perm.symm q) (given_up p) m) }

logs_append : (u u' w w' : Log) → Logs u u' → Logs w w' → Logs (u ++ w) (u' ++ w')
logs_append u u' w w' h k c = Perm.append (h (none_left u w c)) (k (none_right u w c))

-- ---- Two ends of runs

-- A code that is not 0: those with which a walk stops.
pub data Refusal : ℕ → Type 0 where
  refusal : {s : ℕ} → Refusal (suc s)

pub depth_refused : Refusal 3
depth_refused = refusal

pub fields_refused : Refusal 4
fields_refused = refusal

pub variable_refused : Refusal 5
variable_refused = refusal

-- Unless one is stopped, with a code that is not 0, they are both failed, as far up, or both done with one value, and where no selection
-- set was given up in the one the logs are equal up to their order.
pub data Agree {A : Type 0} : Res A → Res A → Type 0 where
  stop_l : {s : ℕ} {w : Log} {y : Res A} → Refusal s → Agree (stop s w) y
  stop_r : {s : ℕ} {w : Log} {x : Res A} → Refusal s → Agree x (stop s w)
  both_failed : {r : Reach} {u w : Log} {c d : Choices} → Logs u w → Agree (failed r u c) (failed r w d)
  both_done : {a b : A} {u w : Log} {c d : Choices} → a ≡ b → Logs u w → Agree (done a u c) (done b w d)

pub record Stable {A : Type 0} (m : M A) : Type 0 where
  pub at : (c d : Choices) → Agree (m c) (m d)

module _ {A : Type 0} where
  pub stable_pure : (a : A) → Stable (pure a)
  unfolding pure
  stable_pure a = record { at = λ c d. both_done refl (λ _. Perm.rfl) }

  pub stable_halt : (s : ℕ) → Refusal s → Stable {A = A} (halt s)
  unfolding halt
  stable_halt s r = record { at = λ c d. stop_l r }

  pub stable_fail : (r : Reach) (e : Event) → Stable {A = A} (fail r e)
  unfolding fail
  stable_fail r e = record { at = λ c d. both_failed (λ _. Perm.rfl) }

  agree_caught : (a : A) {x y : Res A} → Agree x y → Agree (caught a x) (caught a y)
  unfolding caught
  agree_caught a (stop_l r) = stop_l r
  agree_caught a (stop_r r) = stop_r r
  agree_caught a (both_failed {r = here} l) = both_done refl l
  agree_caught a (both_failed {r = past_list} l) = both_failed l
  agree_caught a (both_done e l) = both_done e l

  pub stable_or_else : (a : A) {m : M A} → Stable m → Stable (or_else a m)
  unfolding or_else
  stable_or_else a h = record { at = λ c d. agree_caught a (h.at c d) }

  agree_lowered : {x y : Res A} → Agree x y → Agree (lowered x) (lowered y)
  unfolding lowered
  agree_lowered (stop_l r) = stop_l r
  agree_lowered (stop_r r) = stop_r r
  agree_lowered (both_failed l) = both_failed l
  agree_lowered (both_done e l) = both_done e l

  pub stable_passed : {m : M A} → Stable m → Stable (passed m)
  unfolding passed
  stable_passed h = record { at = λ c d. agree_lowered (h.at c d) }

  pub stable_when : (b : Bool) {m n : M A} → Stable m → Stable n → Stable (when b m n)
  unfolding when
  stable_when true h k = h
  stable_when false h k = k

  agree_after : {u w : Log} {x y : Res A} → Logs u w → Agree x y → Agree (after u x) (after w y)
  unfolding after
  agree_after k (stop_l r) = stop_l r
  agree_after k (stop_r r) = stop_r r
  agree_after {u} {w} k (both_failed {u = u'} {w = w'} l) = both_failed (logs_append u w u' w' k l)
  agree_after {u} {w} k (both_done {u = u'} {w = w'} e l) = both_done e (logs_append u w u' w' k l)

  pub stable_note : (e : Event) {m : M A} → Stable m → Stable (note e m)
  unfolding note
  stable_note e h = record { at = λ c d. agree_after (λ _. Perm.rfl) (h.at c d) }

module _ {A B : Type 0} where
  agree_onward : {k : A → M B} {x y : Res A} → Agree x y → ((a : A) → Stable (k a)) → Agree (onward x k) (onward y k)
  unfolding onward
  agree_onward (stop_l r) h = stop_l r
  agree_onward (stop_r r) h = stop_r r
  agree_onward (both_failed l) h = both_failed l
  agree_onward {k} (both_done {a} {b} {u} {w} {c} {d} e l) h =
      subst (λ (z : A). Agree (after u (k a c)) (after w (k z d))) e (agree_after l ((h a).at c d))

  pub stable_bind : {m : M A} {k : A → M B} → Stable m → ((a : A) → Stable (k a)) → Stable (m >>= k)
  unfolding ◌>>=◌
  stable_bind h k = record { at = λ c d. agree_onward (h.at c d) k }

module _ {G B : Type 0} {run : G → M B} (h : (g : G) → Stable (run g)) where
  pub stable_in_order : (gs : List G) → Stable (in_order run gs)
  unfolding in_order
  stable_in_order [] = stable_pure []
  stable_in_order (g ∷ gs) = stable_bind (h g) (λ v. stable_bind (stable_in_order gs) (λ vs. stable_pure (v ∷ vs)))

-- ---- What becomes of the groups of one set, in whatever order

perm_front : (u w r : Log) → Perm (u ++ (w ++ r)) (w ++ (u ++ r))
perm_front u w r = rw (← append_assoc u w r, ← append_assoc w u r) (Perm.append_right r (perm_append_comm u w))

module _ {G B : Type 0} (run : G → M B) where
  -- Each group is done, by some choices, with its value, and the logs make up the log given.
  pub data Took : List G → List B → Log → Type 0 where
    nothing : Took [] [] []
    one : {g : G} {gs : List G} {v : B} {vs : List B} {w ws u : Log} {c d : Choices}
        → run g c ≡ done v w d → Took gs vs ws → Perm u (w ++ ws) → Took (g ∷ gs) (v ∷ vs) u

  -- A group fails by some choices, and what it logged is in the log given.
  pub data Broke (u : Log) : List G → Type 0 where
    this : {g : G} {gs : List G} {r : Reach} {w : Log} {c d : Choices} → run g c ≡ failed r w d → Subset w u → Broke u (g ∷ gs)
    later : {g : G} {gs : List G} → Broke u gs → Broke u (g ∷ gs)

  pub data Fate (gs : List G) : Res (List B) → Type 0 where
    f_stop : {g : G} {c : Choices} {s : ℕ} {w u : Log} → run g c ≡ stop s u → Fate gs (stop s w)
    f_failed : {r : Reach} {w : Log} {c : Choices} → Broke w gs → Fate gs (failed r w c)
    f_done : {vs : List B} {w : Log} {c : Choices} → Took gs vs w → Fate gs (done vs w c)

  took_place : (i : ℕ) (g : G) (gs : List G) {v : B} {vs : List B} {w ws : Log} {c d : Choices}
      → run (the i g gs) c ≡ done v w d → Took (others i g gs) vs ws → Took (g ∷ gs) (put_back i v vs) (w ++ ws)
  unfolding the others put_back
  took_place zero g gs e t = one e t Perm.rfl
  took_place (suc i) g [] e nothing = one e nothing Perm.rfl
  took_place (suc i) g (h ∷ hs) {w} e (one {w = w'} {ws = ws'} e' t p) =
      one e' (took_place i h hs e t) (Perm.trans (Perm.append_left w p) (perm_front w w' ws'))

  broke_the : (i : ℕ) (g : G) (gs : List G) {r : Reach} {w : Log} {c d : Choices} → run (the i g gs) c ≡ failed r w d → Broke w (g ∷ gs)
  unfolding the
  broke_the zero g gs {w} e = this e (Subset-refl w)
  broke_the (suc i) g [] {w} e = this e (Subset-refl w)
  broke_the (suc i) g (h ∷ hs) e = later (broke_the i h hs e)

  broke_others : (i : ℕ) (g : G) (gs : List G) {u : Log} → Broke u (others i g gs) → Broke u (g ∷ gs)
  unfolding others
  broke_others zero g gs b = later b
  broke_others (suc i) g [] {u = u} b = elim b [ ]
  broke_others (suc i) g (h ∷ hs) (this e s) = this e s
  broke_others (suc i) g (h ∷ hs) (later b) = later (broke_others i h hs b)

  broke_more : {u w : Log} {gs : List G} → Subset u w → Broke u gs → Broke w gs
  broke_more s (this e t) = this e (Subset-trans t s)
  broke_more s (later b) = later (broke_more s b)

  length_others : (i : ℕ) (g : G) (gs : List G) → length (others i g gs) ≡ length gs
  unfolding others
  length_others zero g gs = refl
  length_others (suc i) g [] = refl
  length_others (suc i) g (h ∷ hs) = ap suc (length_others i h hs)

  fate_place : (i : ℕ) (g : G) (gs : List G) {v : B} {w : Log} {c d : Choices} → run (the i g gs) c ≡ done v w d
      → {y : Res (List B)} → Fate (others i g gs) y → Fate (g ∷ gs) (after w (onward y (λ vs. pure (put_back i v vs))))
  unfolding after onward pure
  fate_place i g gs e (f_stop e') = f_stop e'
  fate_place i g gs {w} e (f_failed {w = u} b) = f_failed (broke_more (subset-append_right w u) (broke_others i g gs b))
  fate_place i g gs e (f_done t) = rw append-nil (f_done (took_place i g gs e t))

  fate_run : (k : ℕ) → ((gs : List G) → length gs ≤ k → (c : Choices) → Fate gs (taking run k gs c))
      → (i : ℕ) (g : G) (gs : List G) → length gs ≤ k → (c : Choices) (x : Res B) → run (the i g gs) c ≡ x
      → Fate (g ∷ gs) (onward x (λ v. taking run k (others i g gs) >>= λ vs. pure (put_back i v vs)))
  unfolding onward ◌>>=◌
  fate_run k ih i g gs l c (stop s w) e = f_stop e
  fate_run k ih i g gs l c (failed r w d) e = f_failed (broke_the i g gs e)
  fate_run k ih i g gs l c (done v w d) e = fate_place i g gs e (ih (others i g gs) (omega (arith, length_others i g gs)) d)

  fate_after : {gs : List G} {x : Res (List B)} → Fate gs x → Fate gs (after [] x)
  unfolding after
  fate_after (f_stop e) = f_stop e
  fate_after (f_failed b) = f_failed b
  fate_after (f_done t) = f_done t

  pub fate : (k : ℕ) (gs : List G) → length gs ≤ k → (c : Choices) → Fate gs (taking run k gs c)
  unfolding taking pure pick onward ◌>>=◌
  fate zero [] l c = f_done nothing
  fate zero (g ∷ gs) l c = absurd (omega arith)
  fate (suc k) [] l c = f_done nothing
  fate (suc k) (g ∷ gs) l [] = fate_after (fate_run k (fate k) 0 g gs (omega arith) [] _ refl)
  fate (suc k) (g ∷ gs) l (x ∷ c) = fate_after (fate_run k (fate k) _ g gs (omega arith) c _ refl)

-- ---- Two fates of one set agree

done_done : {A : Type 0} {a b : A} {u w : Log} {c d : Choices} → Agree (done a u c) (done b w d) → (a ≡ b) × Logs u w
done_done (both_done e l) = (e, l)

failed_done : {A : Type 0} {b : A} {r : Reach} {u w : Log} {c d : Choices} → Agree (failed r u c) (done b w d) → ⊥
failed_done x = elim x [ ]

stopped : {A : Type 0} {s : ℕ} {w : Log} → Agree {A = A} (stop s w) (stop s w) → Refusal s
stopped (stop_l r) = r
stopped (stop_r r) = r

module _ {A : Type 0} {m : M A} (h : Stable m) where
  pub stable_stop : {c : Choices} {s : ℕ} {w : Log} → m c ≡ stop s w → Refusal s
  stable_stop {c} e = stopped (subst₂ Agree e e (h.at c c))

module _ {G B : Type 0} {run : G → M B} (h : (g : G) → Stable (run g)) where
  same : {gs : List G} {vs vs' : List B} {u u' : Log} → Took run gs vs u → Took run gs vs' u' → (vs ≡ vs') × Logs u u'
  same nothing nothing = (refl, λ _. Perm.rfl)
  same (one {g = g} {w = w} {ws = ws} {c = c} e t p) (one {w = w'} {ws = ws'} {c = c'} e' t' p') =
      let a = done_done (subst₂ Agree e e' ((h g).at c c')) in
      let r = same t t' in (
        ap₂ ◌∷◌ a.0 r.0,
        λ k. Perm.trans p (Perm.trans (logs_append w w' ws ws' a.1 r.1 (none_perm k p)) (Perm.symm p')),
      )

  clash : {w : Log} {gs : List G} {vs : List B} {u : Log} → Broke run w gs → Took run gs vs u → ⊥
  clash (this {g = g} {c = c} e s) (one {c = c'} e' t p) = failed_done (subst₂ Agree e e' ((h g).at c c'))
  clash (later b) (one e' t p) = clash b t

  agree_fates : (p : Path) {gs : List G} {x y : Res (List B)} → Fate run gs x → Fate run gs y → Agree (marked (given_up p) x) (marked (given_up p) y)
  unfolding marked
  agree_fates p (f_stop {g = g} e) f = stop_l (stable_stop (h g) e)
  agree_fates p (f_failed b) (f_stop {g = g} e) = stop_r (stable_stop (h g) e)
  agree_fates p (f_failed b) (f_failed b') = both_failed (λ k. absurd (k.none_at p mem-cons_self))
  agree_fates p (f_failed b) (f_done t) = absurd (clash b t)
  agree_fates p (f_done t) (f_stop {g = g} e) = stop_r (stable_stop (h g) e)
  agree_fates p (f_done t) (f_failed b) = absurd (clash b t)
  agree_fates p (f_done t) (f_done t') = both_done (same t t').0 (same t t').1

  pub stable_any_order : (p : Path) (gs : List G) → Stable (any_order run p gs)
  unfolding any_order mark
  stable_any_order p gs = record { at = λ c d. agree_fates p (fate run (length gs) gs (omega arith) c) (fate run (length gs) gs (omega arith) d) }

pub ruleset stable = (stable_pure, stable_halt, depth_refused, fields_refused, variable_refused, stable_fail, stable_or_else, stable_passed, stable_when, stable_note, stable_bind, stable_in_order, stable_any_order)
