-- The loop over the items of a list, whatever the run of an item is: what holds at its head, and the turns, the way out and the end. Assumes nothing.
use mathlib.Core.Path.{◌≡◌, refl, sym, ap, ◌∙◌}
use mathlib.Core.List.{List, [], ◌∷◌, ◌++◌, append_assoc, append-nil}
use Prim.Native.Nat.{ℕ, ◌+◌}
use lib.ListN.{drop}
use Rattle.writing.specs.Wrote.{Wrote, Closes}
use Rattle.writing.proofs.WroteLaws.{stay, same, «then»}
use Rattle.graphql.specs.Run.{M, Choices, pure, ◌>>=◌, in_order}
use Rattle.graphql.specs.Data.{list, Val, absent, val, entries, print_data, print_entries}
use Rattle.walking.specs.declared.state.State.{State}
use Rattle.walking.specs.declared.state.Kind.{Kind}
use Rattle.walking.specs.declared.state.Kind.TheVariants as kind
use Rattle.walking.specs.declared.state.Failure.{Failure}
use Rattle.std.specs.Prelude.{Ok, Err}
use Rattle.walking.specs.declared.state.Done.{Done}
use Rattle.walking.specs.Gives.{as_value, as_entry, labelled, moved_to, Gives}
use Rattle.walking.proofs.RunLaws.{in_end, in_next, in_append}
use Rattle.walking.proofs.Ends.{fall_of}
use Rattle.walking.proofs.Sofar.{Sofar, rides_same, so_begin, so_is, so_placed, so_lost, so_ends}
use Rattle.walking.proofs.Plain.{Plains, plain_in_order, so_plain}

-- what stands before an item
abbrev pub comma : List ℕ
comma = 44 ∷ []

-- the text of more values comes behind that of the first
pub entries_append : (us vs : List Val) → print_entries (entries (us ++ vs)) ≡ print_entries (entries us) ++ print_entries (entries vs)
unfolding entries print_entries
entries_append [] vs = refl
entries_append (absent ∷ us) vs = entries_append us vs
entries_append (val d ∷ us) vs =
    ap (λ (l : List ℕ). 44 ∷ (print_data d ++ l)) (entries_append us vs)
    ∙ ap (λ (l : List ℕ). 44 ∷ l) (sym (append_assoc (print_data d) (print_entries (entries us)) (print_entries (entries vs))))

entry_text : (v : Val) → print_entries (entries (v ∷ [])) ≡ labelled comma v
unfolding entries print_entries
entry_text absent = refl
entry_text (val d) = ap (λ (l : List ℕ). 44 ∷ l) (append-nil (print_data d))

module _ {G : Type 0} (run : G → M Val) where
  -- the list, after the values `vs`, of which these items are left
  unfoldable pub listing : List Val → List G → M Val
  listing vs gs = in_order run gs >>= λ us. pure (val (list (entries (vs ++ us))))

  listing_next : (vs : List Val) (g : G) (gs : List G) → listing vs (g ∷ gs) ≡ (run g >>= λ v. listing (vs ++ (v ∷ [])) gs)
  unfolding listing
  listing_next vs g gs = in_next run g gs _ ∙ simp append_assoc

  listing_more : (vs : List Val) (xs ys : List G) → listing vs (xs ++ ys) ≡ (in_order run xs >>= λ us. listing (vs ++ us) ys)
  unfolding listing
  listing_more vs xs ys = in_append run xs ys _ ∙ simp append_assoc

  listing_end : (vs : List Val) → listing vs [] ≡ pure (val (list (entries vs)))
  unfolding listing
  listing_end vs = in_end run _ ∙ rw append-nil

  module _ (cs : Choices) (gs : List G) (text₀ errors₀ : List ℕ) (s : State) where
    -- Before the items `left`: the text of the values that there are is written, with a comma before each, and what is left is their run.
    pub record Listing (text errors : List ℕ) (at errs choice : ℕ) (left : List G) : Type 0 where
      pub values : List Val
      pub so : Sofar cs (listing [] gs (drop s.choice cs)) errors₀ s.errs (listing values left) errors errs choice
      pub wrote : Wrote text₀ text s.at at (print_entries (entries values))

    pub listing_begin : Listing text₀ errors₀ s.at s.errs s.choice gs
    unfolding entries print_entries
    listing_begin = record { values = []; so = so_begin cs (listing [] gs) errors₀ s.errs s.choice; wrote = stay text₀ s.at }

    -- An item was completed.
    module _ {text errors text' errors' : List ℕ} {s' : State} {g : G} {left : List G} {d : Done}
        (h : Listing text errors s'.at s'.errs s'.choice (g ∷ left))
        (q : Gives (as_entry comma) cs text errors s' (run g (drop s'.choice cs)) d text' errors') where
      next : Sofar cs (listing [] gs (drop s.choice cs)) errors₀ s.errs (run g >>= λ v. listing (h.values ++ (v ∷ [])) left)
          errors s'.errs s'.choice
      next = so_is cs _ _ s'.choice h.so (ap (λ (m : M Val). m (drop s'.choice cs)) (listing_next h.values g left))

      pub listing_again : {k : Kind} → d.what ≡ Ok k → Listing text' errors' d.state.at d.state.errs d.state.choice left
      listing_again e =
          let r = so_placed cs (run g) _ next q e in
          record {
            values = h.values ++ (r.0 ∷ []);
            so = r.3;
            wrote =
                same (sym (entries_append h.values (r.0 ∷ []) ∙ ap (λ (l : List ℕ). print_entries (entries h.values) ++ l) (entry_text r.0)))
                («then» h.wrote r.2);
          }

      pub listing_lost : {f : Failure} → d.what ≡ Err f
          → Gives as_value cs text₀ errors₀ s (listing [] gs (drop s.choice cs))
          (record { what = d.what; state = moved_to d.state s.at }) text' errors'
      listing_lost e = so_lost cs (run g) _ next q (fall_of (as_entry comma) _ e q.what) refl h.wrote (rides_same _)

    -- Several items were done at once, plainly.
    pub listing_plain : {text text' errors : List ℕ} {at errs choice at' choice' n : ℕ} {xs left : List G} {us : List Val}
        → Listing text errors at errs choice (xs ++ left) → Plains run xs n us → Wrote text text' at at' (print_entries (entries us))
        → drop choice' cs ≡ drop (choice + n) cs → Listing text' errors at' errs choice' left
    listing_plain {choice = choice} {xs = xs} {left = left} {us = us} h p w o = record {
      values = h.values ++ us;
      so =
          so_plain cs (in_order run xs) _ (plain_in_order run p)
          (so_is cs _ _ choice h.so (ap (λ (m : M Val). m (drop choice cs)) (listing_more h.values xs left)))
          o;
      wrote = same (sym (entries_append h.values us)) («then» h.wrote w);
    }

    -- No item is left, and the brackets are put.
    pub listing_ended : {text text' errors : List ℕ} {at errs choice end top : ℕ} → Listing text errors at errs choice []
        → Closes 91 93 text s.at at text' end
        → Gives as_value cs text₀ errors₀ s (listing [] gs (drop s.choice cs))
        (record { what = Ok kind.List; state = record { at = end; errs = errs; choice = choice; top = top } }) text' errors
    unfolding print_data
    listing_ended h c =
        so_ends (val (list (entries h.values))) (rw (listing_end h.values) at h.so) refl
        (c.closes text₀ (print_entries (entries h.values)) h.wrote)
