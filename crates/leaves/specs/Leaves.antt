-- A leaf that a resolver gave, as the code names it, and its value by the definition. A value is not built: what is read and written of it is what
-- the definition's value has.
use Rattle.std.specs.Prelude.{◌≡◌, List, ℕ, suc, length}
use Rattle.std.specs.Prelude.{Some}
use Rattle.rows.specs.Layout.{node_width}
use Rattle.rows.specs.Rows.{rows_of}
use Rattle.rows.specs.Names.{name_text}
use Rattle.rows.specs.Json.{literal_at}
use Rattle.codes.specs.Outcome.{most_open}
use Rattle.graphql.specs.Run.{Path}
use Rattle.graphql.specs.Json.{Json, string, print, containers, sort_of, string_of}
use Rattle.graphql.specs.Values.{node_value, part_by_part, variable, literal_form}
use Rattle.graphql.specs.Coerce.{coerce_argument_value}
use Rattle.values.specs.Plain.{said}
use Rattle.values.specs.declared.sort.Sort.{Sort}
use Rattle.echoing.specs.Echo.{Put, Comes, Shown}
use Rattle.echoing.specs.declared.echo.Source.{Source}
use Rattle.echoing.specs.declared.echo.Source.TheVariants as source
use Rattle.leaves.specs.declared.leaf.Leaf.{Leaf}
use Rattle.leaves.specs.declared.leaf.Leaf.TheVariants as leaf

-- what an argument that is echoed is, by where its value stands
abbrev pub leaf_of : Source → Leaf
leaf_of (source.Node row) = leaf.Node row
leaf_of (source.Literal ty row) = leaf.Literal ty row
leaf_of (source.Default row) = leaf.Default row

module _ (pool names refs types fields nodes literals variables : List ℕ) where
  -- a literal that is echoed was given as an argument of a field, and is no variable
  pub record Echoed (ty row : ℕ) (j : Json) : Type 0 where
    pub path : Path
    pub comes : Comes (coerce_argument_value pool names refs types fields nodes literals variables most_open path ty row) j
    pub shaped : (name : ℕ) → literal_form (literal_at literals row) ≡ variable name → ⊥

  -- The value of a leaf: of an answer's or a variable's node, of whatever size; a name, for `__typename`; of an argument that is echoed, a literal at
  -- a type or a default.
  abbrev pub Means : Leaf → Json → Type 0
  Means (leaf.Node row) j = Comes (node_value pool nodes (suc (rows_of nodes node_width)) row) j
  Means (leaf.Name name) j = j ≡ string (name_text pool names name)
  Means (leaf.Literal ty row) j = Echoed ty row j
  Means (leaf.Default row) j = Comes (part_by_part pool names literals most_open row) j

  -- Its text is written, where it does not open too many containers.
  pub record PutsLeaf (l : Leaf) (before : List ℕ) (at : ℕ) (r : Put) (after : List ℕ) : Type 0 where
    pub long : length after ≡ length before
    pub puts : (j : Json) → Means l j → Shown most_open (containers j) (print j) before at r after

-- Of what sort it is, whatever stands in the tables that the sort does not hang on.
pub record SortsLeaf (refs types nodes literals : List ℕ) (l : Leaf) (r : Sort) : Type 0 where
  pub sorts : (pool names fields variables : List ℕ) (j : Json) → Means pool names refs types fields nodes literals variables l j → r ≡ said (sort_of j)

-- Its bytes, where it is a string.
pub record SpellsLeaf (pool names nodes literals : List ℕ) (l : Leaf) (r : List ℕ) : Type 0 where
  pub spells : (refs types fields variables : List ℕ) (j : Json) (s : List ℕ) → Means pool names refs types fields nodes literals variables l j
      → string_of j ≡ Some s → s ≡ r
