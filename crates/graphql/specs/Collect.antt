-- CollectFields (October 2021, section 6.3.2), DoesFragmentTypeApply, skip and include (sections 3.13.1 and 3.13.2). Read it after Values.
use Rattle.std.specs.Prelude.{List, [], ◌∷◌, ◌++◌, Bool, true, false, not, cond, ◌||◌, ℕ, zero, suc, eqb}
use Rattle.std.specs.Prelude.{Option, Some, None}
use Rattle.rows.specs.Schema.{type_at}
use Rattle.rows.specs.Document.{selection_at, fragment_at}
use Rattle.rows.specs.Json.{node_at, variable_at}
use Rattle.rows.specs.declared.schema.TypeKind.{TypeKind}
use Rattle.rows.specs.declared.schema.TypeKind.TheVariants as kind
use Rattle.rows.specs.declared.document.Condition.{Condition}
use Rattle.rows.specs.declared.document.Condition.TheVariants as condition
use Rattle.rows.specs.declared.document.Selected.{Selected}
use Rattle.rows.specs.declared.document.Selected.TheVariants as selected
use Rattle.rows.specs.declared.document.Selection.{Selection}
use Rattle.codes.specs.Outcome.{too_far, too_many_fields, most_open, most_collected}
use Rattle.graphql.specs.Run.{M, pure, halt, when, ◌>>=◌}
use Rattle.graphql.specs.Lookup.{type_named, lists, fragment_named, variable_named, selections_of, any}
use Rattle.graphql.specs.Values.{NodeForm, is_null, is_bool, is_other, node_form}

-- Fields with the same response key: the first, and the others. A row stands for its selection.
pub record Group : Type 0 where
  pub key : ℕ
  pub first : ℕ
  pub more : List ℕ

-- What has been collected: the names of the fragments visited, the groups, and how many fields.
pub record Collected : Type 0 where
  pub visited : List ℕ
  pub groups : List Group
  pub count : ℕ

abbrev pub none_yet : Collected
none_yet = record { visited = []; groups = []; count = 0 }

unfoldable pub visit : ℕ → Collected → Collected
visit n c = record { visited = n ∷ c.visited; groups = c.groups; count = c.count }

-- "Groups stand in order of first appearance of the response key."
unfoldable pub grouped : ℕ → ℕ → List Group → List Group
grouped key row [] = record { key = key; first = row; more = [] } ∷ []
grouped key row (g ∷ gs) =
    let later = grouped key row gs in
    cond (eqb g.key key) (record { key = g.key; first = g.first; more = g.more ++ (row ∷ []) } ∷ gs) (g ∷ later)

-- Code 4: "a 129th field is collected for one set".
unfoldable pub collect_field : ℕ → ℕ → Collected → M Collected
collect_field key row c =
    when (eqb c.count most_collected) (halt too_many_fields)
    (pure (record { visited = c.visited; groups = grouped key row c.groups; count = suc c.count }))

-- a boolean, or what counts where there is no directive
unfoldable pub or_default : Bool → NodeForm → Bool
or_default d is_null = d
or_default d (is_bool b) = b
or_default d is_other = d

module _ (variables nodes : List ℕ) where
  -- "A variable that is absent or not boolean counts as no directive."
  unfoldable pub variable_holds : Bool → Option ℕ → Bool
  variable_holds d None = d
  variable_holds d (Some v) = or_default d (node_form (node_at nodes (variable_at variables v).node))

  -- whether a directive's `if` holds, or `d` where there is no directive
  unfoldable pub holds : Bool → Condition → Bool
  holds d condition.Absent = d
  holds d condition.False = false
  holds d condition.True = true
  holds d (condition.Variable name) = variable_holds d (variable_named variables name)

  -- "A selection is dropped if skip is true or include is false."
  unfoldable pub dropped : Selection → Bool
  dropped s = holds false s.skip || not (holds true s.include)

module _ (types members : List ℕ) where
  -- "A fragment on an object applies to that object, on an interface to objects listing it, on a union to members ..; nothing else
  -- applies."
  unfoldable pub applies_by : (object condition row : ℕ) → TypeKind → Bool
  applies_by object n row kind.Scalar = false
  applies_by object n row kind.Enum = false
  applies_by object n row kind.Object = eqb n (type_at types object).name
  applies_by object n row kind.Interface = lists types members object n
  applies_by object n row kind.Union = lists types members row (type_at types object).name
  applies_by object n row kind.InputObject = false
  applies_by object n row kind.Unknown = false

  -- DoesFragmentTypeApply(objectType, fragmentType)
  unfoldable pub does_fragment_type_apply : ℕ → ℕ → Bool
  does_fragment_type_apply object condition =
      elim (type_named types condition) [ None ↦ false | Some row ↦ applies_by object condition row (type_at types row).kind ]

  -- "an inline one with no type to all"
  unfoldable pub inline_applies : ℕ → Option ℕ → Bool
  inline_applies object None = true
  inline_applies object (Some n) = does_fragment_type_apply object n

module _ (types members sets selections fragments variables nodes : List ℕ) where
  -- `open'` collects the selections of a fragment's set, one more fragment being open.
  module _ (open' : ℕ → ℕ → Collected → M Collected) (object : ℕ) where
    unfoldable pub enter_fragment : Option ℕ → Collected → M Collected
    enter_fragment None c = pure c
    enter_fragment (Some f) c =
        when (does_fragment_type_apply types members object (fragment_at fragments f).condition)
        (open' object (fragment_at fragments f).set c)
        (pure c)

    -- "A spread is marked visited after that test and before lookup and type test."
    unfoldable pub spread : ℕ → Collected → M Collected
    spread n c = when (any (λ v. eqb v n) c.visited) (pure c) (enter_fragment (fragment_named fragments n) (visit n c))

    unfoldable pub collect_selected : ℕ → Selected → Collected → M Collected
    collect_selected row (selected.Field field) c = collect_field field.key row c
    collect_selected row (selected.Spread n) c = spread n c
    collect_selected row (selected.Inline type set) c = when (inline_applies types members object type) (open' object set c) (pure c)
    collect_selected row selected.Unknown c = pure c

    -- CollectFields(objectType, selectionSet, variableValues, visitedFragments)
    unfoldable pub collect_fields : List ℕ → Collected → M Collected
    collect_fields [] c = pure c
    collect_fields (row ∷ rest) c = do
      d ← when (dropped variables nodes (selection_at selections row)) (pure c) (collect_selected row (selection_at selections row).what c)
      collect_fields rest d

  -- Code 3: "33 open fragments in one collection". Inline fragments count.
  unfoldable pub collect_within : ℕ → ℕ → ℕ → Collected → M Collected
  collect_within zero object set c = halt too_far
  collect_within (suc room) object set c = collect_fields (λ o s d. collect_within room o s d) object (selections_of sets set) c

  -- the groups of a selection set
  unfoldable pub collect : ℕ → List ℕ → M (List Group)
  collect object rows = do
    c ← collect_fields (λ o s d. collect_within most_open o s d) object rows none_yet
    pure c.groups
