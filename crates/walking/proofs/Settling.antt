-- What becomes of a value that failed, and of an entry, way by way. Assumes nothing.
use mathlib.Core.Path.{◌≡◌, refl, sym, ap, ◌∙◌}
use mathlib.Core.Logic.{⊎_elim}
use mathlib.Core.Bool.{Bool, true, false}
use mathlib.Core.List.{List, [], ◌∷◌}
use Prim.Native.Nat.{ℕ}
use native.Mathlib.Omega.{arith}
use borrow.Enum.Refused.{Among, opened}
use denote.Enum.Declared.{tag_of}
use Rattle.writing.specs.Wrote.{Wrote, Writes}
use Rattle.writing.proofs.WroteLaws.{back, «then»}
use Rattle.tokens.specs.Literal.{null_name}
use Rattle.graphql.specs.Run.{here, past_list, Res, stop, failed, done, caught}
use Rattle.graphql.specs.Data.{nulled, leaf, list, object, Val, absent, val, print_data}
use Rattle.walking.specs.declared.state.State.{State}
use Rattle.walking.specs.declared.state.Kind.{Kind}
use Rattle.walking.specs.declared.state.Kind.TheVariants as kind
use Rattle.walking.specs.declared.state.Failure.{Failure}
use Rattle.walking.specs.declared.state.Failure.TheVariants.{Here, PastList, Stop}
use Rattle.std.specs.Prelude.{Ok, Err}
use Rattle.walking.specs.declared.state.Done.{Done}
use Rattle.walking.specs.Gives.{as_value, as_entry, Completed, moved_to, answer_of, Gives}
use Rattle.walking.specs.Settled.{settled, Nullifies, passed_list, lower, lower_what, Settles}
use Rattle.walking.specs.contracts.state.Failure.{the_type as failures}
use Rattle.walking.specs.contracts.state.Kind.{the_type as kinds}
use Rattle.walking.proofs.Ends.{Fall, f_stop, f_failed, fall_of, here_of}

-- ---- try_nullify

settled_placed : (b : Bool) (x : Res Val) {a : Completed} {k : Kind} → a ≡ Ok k → a ≡ answer_of as_value x → settled b x ≡ x
unfolding caught
settled_placed true x e h = refl
settled_placed false (stop s w) e h = refl
settled_placed false (failed here w c) e h = absurd (let z : ◌≡◌ {A = ℕ} 0 1 = cc in omega arith)
settled_placed false (failed past_list w c) e h = refl
settled_placed false (done v w c) e h = refl

not_here : {f : Failure} → Among (1 ∷ 2 ∷ []) (tag_of failures f) → f ≡ Here → ⊥
not_here k e = ⊎_elim (λ h. omega arith) (λ h. omega arith) (opened (rw e at k))

settled_further : (b : Bool) (x : Res Val) {a : Completed} {f : Failure} → a ≡ Err f → a ≡ answer_of as_value x → Among (1 ∷ 2 ∷ []) (tag_of failures f)
    → settled b x ≡ x
unfolding caught
settled_further true x e h k = refl
settled_further false (stop s w) e h k = refl
settled_further false (failed here w c) {f = f} e h k = absurd (not_here {f = f} k (cc))
settled_further false (failed past_list w c) e h k = refl
settled_further false (done v w c) e h k = refl

module _ {b : Bool} {d : Done} {text : List ℕ} where
  pub nullify_placed : {k : Kind} → d.what ≡ Ok k → Nullifies b d text d text
  nullify_placed e = record { level = refl; long = refl; nullifies = λ cs before errors errors' s x g. rw (settled_placed b x e g.what) g }

  pub nullify_further : {f : Failure} → d.what ≡ Err f → Among (1 ∷ 2 ∷ []) (tag_of failures f) → Nullifies b d text d text
  nullify_further e k = record { level = refl; long = refl; nullifies = λ cs before errors errors' s x g. rw (settled_further b x e g.what k) g }

  pub nullify_non_null : b ≡ true → Nullifies b d text d text
  nullify_non_null e = record { level = refl; long = refl; nullifies = λ cs before errors errors' s x g. rw e g }

  pub nullify_null : {f : Failure} {text' : List ℕ} {a : ℕ} {r : Done} → d.what ≡ Err f → f ≡ Here → b ≡ false
      → Writes text text' d.state.at a null_name → r ≡ record { what = Ok kind.Null; state = moved_to d.state a }
      → Nullifies b d text r text'
  unfolding caught print_data
  nullify_null e h n w q = record {
    level = rw q;
    long = w.wrote.long;
    nullifies = λ cs before errors errors' s x g.
        let p = here_of as_value x (e ∙ ap Err h) g.what in
        let y = rw p.2 at g in
        rw (q, n, p.2) (record { what = refl; wrote = «then» y.wrote w.wrote; noted = y.noted; chosen = y.chosen });
  }

-- ---- past_list

same_what : (d : Done) → d.what ≡ lower_what d.what → d ≡ passed_list d
same_what d e = λ i. record { what = e i; state = d.state }

pub past_placed : (d : Done) {k : Kind} → d.what ≡ Ok k → d ≡ passed_list d
past_placed d e = same_what d (rw e)

other : (f : Failure) → Among (0 ∷ 2 ∷ []) (tag_of failures f) → f ≡ lower f
other Here k = refl
other PastList k = absurd (⊎_elim (λ h. omega arith) (λ h. omega arith) (opened k))
other (Stop code) k = refl

pub past_other : (d : Done) {f : Failure} → d.what ≡ Err f → Among (0 ∷ 2 ∷ []) (tag_of failures f) → d ≡ passed_list d
past_other d {f} e k = same_what d (rw e (ap Err (other f k)))

pub past_past : (d : Done) {f : Failure} → d.what ≡ Err f → f ≡ PastList → record { what = Err Here; state = d.state } ≡ passed_list d
past_past d e k = rw (e, k)

-- ---- settle

module _ {start : ℕ} {d : Done} where
  -- what was written is taken back
  taken_back : {cs text text1 text2 errors errors' label : List ℕ} (s : State) {next : ℕ} {x : Res Val} → Fall x → Wrote text text1 start next label
      → Gives as_value cs text1 errors (moved_to s next) x d text2 errors'
      → Gives (as_entry label) cs text errors (moved_to s start) x (record { what = d.what; state = moved_to d.state start }) text2 errors'
  taken_back s f_stop p g = record { what = g.what; wrote = g.wrote ∙ p.long; noted = g.noted; chosen = g.chosen }
  taken_back s f_failed p g = record { what = g.what; wrote = back («then» p g.wrote); noted = g.noted; chosen = g.chosen }

  pub settle_fails : {f : Failure} {m : State} → d.what ≡ Err f → m ≡ moved_to d.state start
      → Settles start d (record { what = d.what; state = m })
  settle_fails e q = record {
    level = rw q;
    settles = λ cs text text1 text2 errors errors' label s next x p g. rw q (taken_back s (fall_of as_value x e g.what) p g);
  }

  pub settle_kept : {k : Kind} → d.what ≡ Ok k → Among (1 ∷ 2 ∷ 3 ∷ 4 ∷ []) (tag_of kinds k) → Settles start d d
  settle_kept {k} e o = record { level = refl; settles = λ cs text text1 text2 errors errors' label s next x p g. go s x p g e g.what }
    where
      go : {cs text text1 text2 errors errors' label : List ℕ} (s : State) {next : ℕ} (x : Res Val) → Wrote text text1 start next label
          → Gives as_value cs text1 errors (moved_to s next) x d text2 errors' → {a : Completed} → a ≡ Ok k → a ≡ answer_of as_value x
          → Gives (as_entry label) cs text errors (moved_to s start) x d text2 errors'
      go s (stop n w) p g a h = absurd (let z : ◌≡◌ {A = ℕ} 0 1 = cc in omega arith)
      go s (failed r w c) p g a h = absurd (let z : ◌≡◌ {A = ℕ} 0 1 = cc in omega arith)
      go s (done absent w c) p g a h = absurd (kept_not (cc))
        where
          kept_not : k ≡ kind.LeftOut → ⊥
          kept_not z = ⊎_elim (λ h. omega arith) (λ u. ⊎_elim (λ h. omega arith) (λ v. ⊎_elim (λ h. omega arith) (λ h. omega arith) v) u) (opened (rw z at o))
      go s (done (val v) w c) p g a h = record { what = g.what; wrote = «then» p g.wrote; noted = g.noted; chosen = g.chosen }

  pub settle_left_out : {k : Kind} {m : State} → d.what ≡ Ok k → k ≡ kind.LeftOut → m ≡ moved_to d.state start
      → Settles start d (record { what = Ok k; state = m })
  settle_left_out {k} e o q = record {
    level = rw q;
    settles = λ cs text text1 text2 errors errors' label s next x p g. rw (← e, q) (go s x p g (e ∙ ap Ok o) g.what);
  }
    where
      go : {cs text text1 text2 errors errors' label : List ℕ} (s : State) {next : ℕ} (x : Res Val) → Wrote text text1 start next label
          → Gives as_value cs text1 errors (moved_to s next) x d text2 errors' → {a : Completed} → a ≡ Ok kind.LeftOut → a ≡ answer_of as_value x
          → Gives (as_entry label) cs text errors (moved_to s start) x (record { what = d.what; state = moved_to d.state start }) text2 errors'
      go s (stop n w) p g a h = absurd (let z : ◌≡◌ {A = ℕ} 0 1 = cc in omega arith)
      go s (failed r w c) p g a h = absurd (let z : ◌≡◌ {A = ℕ} 0 1 = cc in omega arith)
      go s (done absent w c) p g a h = record { what = g.what; wrote = back («then» p g.wrote); noted = g.noted; chosen = g.chosen }
      go s (done (val nulled) w c) p g a h = absurd (let z : ◌≡◌ {A = ℕ} 0 1 = cc in omega arith)
      go s (done (val (leaf j)) w c) p g a h = absurd (let z : ◌≡◌ {A = ℕ} 0 1 = cc in omega arith)
      go s (done (val (list es)) w c) p g a h = absurd (let z : ◌≡◌ {A = ℕ} 0 1 = cc in omega arith)
      go s (done (val (object fs)) w c) p g a h = absurd (let z : ◌≡◌ {A = ℕ} 0 1 = cc in omega arith)
