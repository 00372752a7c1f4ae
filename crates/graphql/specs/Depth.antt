-- The depth check: "Depth rises by one on fields named by names 8 to 11; refused at 3. A fragment met again is refused only when depth
-- so far plus its remembered rise is over 3; otherwise it doesn't raise the result. An undefined one is passed over. Skip and include
-- are ignored." Read it after Lookup.
use Rattle.std.specs.Prelude.{List, [], ◌∷◌, cond, ◌&&◌, ℕ, zero, suc, ◌+◌, ◌-◌, max, leb, ltb, eqb}
use Rattle.std.specs.Prelude.{Option, Some, None}
use Rattle.rows.specs.Document.{selection_at, fragment_at}
use Rattle.rows.specs.declared.document.Selected.{Selected}
use Rattle.rows.specs.declared.document.Selected.TheVariants as selected
use Rattle.rows.specs.declared.document.FieldSelection.{FieldSelection}
use Rattle.tables.specs.Tables.{Tables}
use Rattle.tables.specs.Lawful.{lawful}
use Rattle.codes.specs.Outcome.{code_of, most_open}
use Rattle.codes.specs.declared.outcome.Outcome.TheVariants.{Answered, Unlawful, TooFar, TooDeep}
use Rattle.rows.specs.Names.{'fields, 'inputFields}
use Rattle.graphql.specs.Lookup.{fragment_named, selections_of}

-- the rise of each fragment that was met, by name
abbrev pub Rises : Type 0
Rises = List (ℕ × ℕ)

unfoldable pub rise_of : ℕ → Rises → Option ℕ
rise_of n [] = None
rise_of n (r ∷ rest) = let later = rise_of n rest in cond (eqb r.0 n) (Some r.1) later

-- how a check of a set ends: a 33rd open set, too deep at a place, or a depth with the rises that are remembered
pub data Checked : Type 0 where
  too_many_sets : Checked
  too_deep : ℕ → Checked
  depth : ℕ → Rises → Checked

unfoldable pub and_then : Checked → (ℕ → Rises → Checked) → Checked
and_then too_many_sets k = too_many_sets
and_then (too_deep place) k = too_deep place
and_then (depth d rises) k = k d rises

module _ (sets selections fragments : List ℕ) where
  -- `open'` checks a set at a depth, one more set being open
  module _ (open' : ℕ → ℕ → Rises → Checked) (sofar : ℕ) where
    unfoldable pub child_set : ℕ → FieldSelection → Rises → Checked
    child_set d f rises = let into = open' f.set d rises in cond (eqb f.set 0) (depth d rises) into

    -- "Depth rises by one on fields named by names 8 to 11; refused at 3."
    unfoldable pub check_field : ℕ → FieldSelection → Rises → Checked
    check_field place f rises =
        let raised = cond (leb 3 (suc sofar)) (too_deep place) (child_set (suc sofar) f rises) in
        let same = child_set sofar f rises in
        cond (leb 'fields f.name && leb f.name 'inputFields) raised same

    unfoldable pub met_again : (place rise : ℕ) → Rises → Checked
    met_again place rise rises = cond (ltb 3 (sofar + rise)) (too_deep place) (depth sofar rises)

    unfoldable pub remembered : ℕ → ℕ → Rises → Checked
    remembered n d rises = depth d ((n, d - sofar) ∷ rises)

    unfoldable pub check_fragment : (place n f : ℕ) → Option ℕ → Rises → Checked
    check_fragment place n f (Some rise) rises = met_again place rise rises
    check_fragment place n f None rises = and_then (open' (fragment_at fragments f).set sofar rises) (remembered n)

    unfoldable pub check_spread : (place n : ℕ) → Option ℕ → Rises → Checked
    check_spread place n None rises = depth sofar rises
    check_spread place n (Some f) rises = check_fragment place n f (rise_of n rises) rises

    unfoldable pub check_selected : (place : ℕ) → Selected → Rises → Checked
    check_selected place (selected.Field f) rises = check_field place f rises
    check_selected place (selected.Spread n) rises = check_spread place n (fragment_named fragments n) rises
    check_selected place (selected.Inline type set) rises = open' set sofar rises
    check_selected place selected.Unknown rises = depth sofar rises

    -- the deepest of the selections
    unfoldable pub check_selections : List ℕ → ℕ → Rises → Checked
    check_selections [] deepest rises = depth deepest rises
    check_selections (row ∷ rest) deepest rises =
        and_then (check_selected (selection_at selections row).place (selection_at selections row).what rises)
        (λ d rises'. check_selections rest (max deepest d) rises')

  -- Code 3: "33 open sets in a depth check"; `room` is how many may still be opened
  unfoldable pub check_set : ℕ → ℕ → ℕ → Rises → Checked
  check_set zero set sofar rises = too_many_sets
  check_set (suc room) set sofar rises = check_selections (λ s d r. check_set room s d r) sofar (selections_of sets set) sofar rises

-- "A depth check that doesn't answer 8 gives place 0, and depth 0 unless its code is 0."
pub record DepthReport : Type 0 where
  pub code : ℕ
  pub depth' : ℕ
  pub place : ℕ

unfoldable pub answered : Checked → DepthReport
answered too_many_sets = record { code = code_of TooFar; depth' = 0; place = 0 }
answered (too_deep place) = record { code = code_of TooDeep; depth' = 0; place = place }
answered (depth d rises) = record { code = code_of Answered; depth' = d; place = 0 }

unfoldable pub depth_report : Tables → DepthReport
depth_report T =
    let checked = answered (check_set T.sets T.selections T.fragments most_open 0 0 []) in
    cond (lawful T) checked (record { code = code_of Unlawful; depth' = 0; place = 0 })
