-- What one run ensures: `Meets F P m` says that where `m` fails its log is in `F`, and where it is done its value and log are in `P`. Each
-- combinator of `Run` has its rule, since a log only grows. Assumes nothing.
use Prim.Native.Nat.{ℕ}
use native.Mathlib.Omega.{arith}
use mathlib.Core.Path.{subst}
use mathlib.Core.Bool.{Bool, true, false}
use mathlib.Core.List.Perm
use mathlib.Core.List.{List, [], ◌∷◌, ◌++◌, append-nil, Subset, Subset-trans, subset-append_left, subset-append_right, mem-cons_of_mem}
use lib.ListN.{length}
use Rattle.graphql.specs.Run.{Path, Event, given_up, Log, Choices, Reach, here, past_list, Res, stop, failed, done, M, after, pure, halt, fail, caught, or_else, lowered, passed, marked, mark, onward, ◌>>=◌, when, note, any_order, in_order}
use Rattle.graphql.proofs.Stable.{Took, nothing, one, Broke, this, later, Fate, f_stop, f_failed, f_done, fate}

module _ {A : Type 0} where
  pub data Post (F : Log → Type 0) (P : A → Log → Type 0) : Res A → Type 0 where
    p_stop : {s : ℕ} {w : Log} → Post F P (stop s w)
    p_failed : {r : Reach} {w : Log} {c : Choices} → F w → Post F P (failed r w c)
    p_done : {a : A} {w : Log} {c : Choices} → P a w → Post F P (done a w c)

  pub post_done : {F : Log → Type 0} {P : A → Log → Type 0} {a : A} {w : Log} {c : Choices} → Post F P (done a w c) → P a w
  post_done (p_done h) = h

  pub post_failed : {F : Log → Type 0} {P : A → Log → Type 0} {r : Reach} {w : Log} {c : Choices} → Post F P (failed r w c) → F w
  post_failed (p_failed h) = h

  pub record Meets (F : Log → Type 0) (P : A → Log → Type 0) (m : M A) : Type 0 where
    pub at : (c : Choices) → Post F P (m c)

-- A larger log is in `F` too.
abbrev pub Mono : (Log → Type 0) → Type 0
Mono F = (u w : Log) → Subset u w → F u → F w

module _ {A : Type 0} {F : Log → Type 0} {P : A → Log → Type 0} where
  pub meets_pure : (a : A) → P a [] → Meets F P (pure a)
  unfolding pure
  meets_pure a h = record { at = λ c. p_done h }

  pub meets_halt : (s : ℕ) → Meets F P (halt s)
  unfolding halt
  meets_halt s = record { at = λ c. p_stop }

  pub meets_fail : (r : Reach) (e : Event) → F (e ∷ []) → Meets F P (fail r e)
  unfolding fail
  meets_fail r e h = record { at = λ c. p_failed h }

  post_caught : {a : A} {x : Res A} → Post F P x → ((w : Log) → F w → P a w) → Post F P (caught a x)
  unfolding caught
  post_caught p_stop k = p_stop
  post_caught (p_failed {r = here} h) k = p_done (k _ h)
  post_caught (p_failed {r = past_list} h) k = p_failed h
  post_caught (p_done h) k = p_done h

  pub meets_or_else : {a : A} {m : M A} → Meets F P m → ((w : Log) → F w → P a w) → Meets F P (or_else a m)
  unfolding or_else
  meets_or_else h k = record { at = λ c. post_caught (h.at c) k }

  post_lowered : {x : Res A} → Post F P x → Post F P (lowered x)
  unfolding lowered
  post_lowered p_stop = p_stop
  post_lowered (p_failed h) = p_failed h
  post_lowered (p_done h) = p_done h

  pub meets_passed : {m : M A} → Meets F P m → Meets F P (passed m)
  unfolding passed
  meets_passed h = record { at = λ c. post_lowered (h.at c) }

  pub meets_when : (b : Bool) {m n : M A} → Meets F P m → Meets F P n → Meets F P (when b m n)
  unfolding when
  meets_when true h k = h
  meets_when false h k = k

module _ {A : Type 0} {F F' : Log → Type 0} {P P' : A → Log → Type 0} where
  post_weaken : {x : Res A} → ((w : Log) → F w → F' w) → ((a : A) (w : Log) → P a w → P' a w) → Post F P x → Post F' P' x
  post_weaken f g p_stop = p_stop
  post_weaken f g (p_failed h) = p_failed (f _ h)
  post_weaken f g (p_done h) = p_done (g _ _ h)

  pub meets_weaken : {m : M A} → ((w : Log) → F w → F' w) → ((a : A) (w : Log) → P a w → P' a w) → Meets F P m → Meets F' P' m
  meets_weaken f g h = record { at = λ c. post_weaken f g (h.at c) }

  post_after : (u : Log) {x : Res A} → ((w : Log) → F w → F' (u ++ w)) → ((a : A) (w : Log) → P a w → P' a (u ++ w)) → Post F P x → Post F' P' (after u x)
  unfolding after
  post_after u f g p_stop = p_stop
  post_after u f g (p_failed h) = p_failed (f _ h)
  post_after u f g (p_done h) = p_done (g _ _ h)

  pub meets_note : (e : Event) {m : M A} → ((w : Log) → F w → F' (e ∷ w)) → ((a : A) (w : Log) → P a w → P' a (e ∷ w)) → Meets F P m → Meets F' P' (note e m)
  unfolding note
  meets_note e f g h = record { at = λ c. post_after (e ∷ []) f g (h.at c) }

module _ {A B : Type 0} {F : Log → Type 0} {P : A → Log → Type 0} {R : B → Log → Type 0} where
  post_onward : Mono F → {x : Res A} {k : A → M B} → Post F P x → ((a : A) (u : Log) → P a u → Meets F (λ b w. R b (u ++ w)) (k a)) → Post F R (onward x k)
  unfolding onward
  post_onward mf p_stop k = p_stop
  post_onward mf (p_failed h) k = p_failed h
  post_onward mf (p_done {a = a} {w = u} {c = c} h) k = post_after u (λ w. mf w (u ++ w) (subset-append_right u w)) (λ b w q. q) ((k a u h).at c)

  pub meets_bind : Mono F → {m : M A} {k : A → M B} → Meets F P m → ((a : A) (u : Log) → P a u → Meets F (λ b w. R b (u ++ w)) (k a)) → Meets F R (m >>= k)
  unfolding ◌>>=◌
  meets_bind mf h k = record { at = λ c. post_onward mf (h.at c) k }

  post_map : (f : A → B) {x : Res A} → Post F P x → ((a : A) (w : Log) → P a w → R (f a) w) → Post F R (onward x (λ a. pure (f a)))
  unfolding onward after pure
  post_map f p_stop k = p_stop
  post_map f (p_failed h) k = p_failed h
  post_map f (p_done h) k = rw append-nil (p_done (k _ _ h))

  pub meets_map : (f : A → B) {m : M A} → Meets F P m → ((a : A) (w : Log) → P a w → R (f a) w) → Meets F R (m >>= λ a. pure (f a))
  unfolding ◌>>=◌
  meets_map f h k = record { at = λ c. post_map f (h.at c) k }

-- Where what is known of the first value does not speak of the log.
module _ {A B : Type 0} {F : Log → Type 0} {P : A → Type 0} {R : B → Log → Type 0} where
  pub meets_then : Mono F → ((b : B) → Mono (R b)) → {m : M A} {k : A → M B} → Meets F (λ a w. P a) m → ((a : A) → P a → Meets F R (k a)) → Meets F R (m >>= k)
  meets_then mf mr h k = meets_bind mf h (λ a u p. meets_weaken (λ w f. f) (λ b w. mr b w (u ++ w) (subset-append_right u w)) (k a p))

module _ {G B : Type 0} where
  -- `R` of each group and its value.
  abbrev pub Each : (G → B → Log → Type 0) → List G → List B → Log → Type 0
  Each R [] [] w = Unit
  Each R [] (v ∷ vs) w = ⊥
  Each R (g ∷ gs) [] w = ⊥
  Each R (g ∷ gs) (v ∷ vs) w = R g v w × Each R gs vs w

  module _ {F : Log → Type 0} {R : G → B → Log → Type 0} {run : G → M B} (mf : Mono F) (mr : (g : G) (v : B) → Mono (R g v))
      (h : (g : G) → Meets F (R g) (run g)) where
    each_more : (gs : List G) (vs : List B) → Mono (Each R gs vs)
    each_more [] [] u w s k = tt
    each_more [] (v ∷ vs) u w s k = k
    each_more (g ∷ gs) [] u w s k = k
    each_more (g ∷ gs) (v ∷ vs) u w s k = (mr g v u w s k.0, each_more gs vs u w s k.1)

    pub meets_in_order : (gs : List G) → Meets F (Each R gs) (in_order run gs)
    unfolding in_order
    meets_in_order [] = meets_pure [] tt
    meets_in_order (g ∷ gs) =
        meets_bind mf (h g)
        (λ v u p. meets_map (λ vs. v ∷ vs) (meets_in_order gs) (λ vs w k. (mr g v u (u ++ w) (subset-append_left u w) p, each_more gs vs w (u ++ w) (subset-append_right u w) k)))

    took_each : {gs : List G} {vs : List B} {u : Log} → Took run gs vs u → Each R gs vs u
    took_each nothing = tt
    took_each (one {g = g} {gs = gs} {v = v} {vs = vs} {w = w} {ws = ws} {u = u} {c = c} e t p) =
        let s = Perm.subset (Perm.symm p) in (
          mr g v w u (Subset-trans (subset-append_left w ws) s) (post_done (subst (Post F (R g)) e ((h g).at c))),
          each_more gs vs ws u (Subset-trans (subset-append_right w ws) s) (took_each t),
        )

    broke_post : {u : Log} {gs : List G} → Broke run u gs → F u
    broke_post {u} (this {g = g} {w = w} {c = c} e s) = mf w u s (post_failed (subst (Post F (R g)) e ((h g).at c)))
    broke_post (later b) = broke_post b

    fate_post : (p : Path) {gs : List G} {x : Res (List B)} → Fate run gs x → Post F (Each R gs) (marked (given_up p) x)
    unfolding marked
    fate_post p (f_stop e) = p_stop
    fate_post p (f_failed {w = w} b) = p_failed (mf w (given_up p ∷ w) (λ a m. mem-cons_of_mem (given_up p) m) (broke_post b))
    fate_post p (f_done t) = p_done (took_each t)

    pub meets_any_order : (p : Path) (gs : List G) → Meets F (Each R gs) (any_order run p gs)
    unfolding any_order mark
    meets_any_order p gs = record { at = λ c. fate_post p (fate run (length gs) gs (omega arith) c) }

-- Where what is known of each value does not speak of the log.
module _ {B : Type 0} where
  pub data Every (P : B → Type 0) : List B → Type 0 where
    every_nil : Every P []
    every_cons : {b : B} {bs : List B} → P b → Every P bs → Every P (b ∷ bs)

  pub every_append : {P : B → Type 0} {bs ds : List B} → Every P bs → Every P ds → Every P (bs ++ ds)
  every_append every_nil k = k
  every_append (every_cons h r) k = every_cons h (every_append r k)

module _ {G B : Type 0} where
  each_every : (P : B → Type 0) (gs : List G) (vs : List B) (w : Log) → Each (λ g v u. P v) gs vs w → Every P vs
  each_every P [] [] w h = every_nil
  each_every P [] (v ∷ vs) w h = absurd h
  each_every P (g ∷ gs) [] w h = absurd h
  each_every P (g ∷ gs) (v ∷ vs) w h = every_cons h.0 (each_every P gs vs w h.1)

  pub every_in_order : {P : B → Type 0} {F : Log → Type 0} {run : G → M B} → Mono F → ((g : G) → Meets F (λ v w. P v) (run g)) → (gs : List G) → Meets F (λ vs w. Every P vs) (in_order run gs)
  every_in_order {P} mf h gs = meets_weaken (λ w f. f) (λ vs w. each_every P gs vs w) (meets_in_order mf (λ g v u w s k. k) h gs)
