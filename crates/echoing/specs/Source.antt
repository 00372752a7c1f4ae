-- Where the value of an argument stands, by the definition of a field's arguments. Read it after Echo.
use Rattle.std.specs.Prelude.{◌≡◌, List, ℕ, suc, ◌+◌, ◌≤◌, ◌<◌, eqb}
use Rattle.std.specs.Prelude.{Option, Some, None}
use Rattle.rows.specs.Layout.{node_width}
use Rattle.rows.specs.Rows.{rows_of}
use Rattle.rows.specs.Schema.{argument_at}
use Rattle.rows.specs.Json.{literal_at, variable_at}
use Rattle.rows.specs.declared.layout.Range.{Range}
use Rattle.codes.specs.Outcome.{most_open}
use Rattle.graphql.specs.Run.{Path, M}
use Rattle.graphql.specs.Json.{Json}
use Rattle.graphql.specs.Lookup.{find}
use Rattle.graphql.specs.Values.{node_value, part_by_part, variable, literal_form}
use Rattle.graphql.specs.Coerce.{Arguments, argument_named, coerce_argument_value, coerce_argument_values}
use Rattle.echoing.specs.Echo.{Comes}
use Rattle.echoing.specs.declared.echo.Source.{Source}
use Rattle.echoing.specs.declared.echo.Source.TheVariants as source

-- What the search for an argument rests on, and lawful tables give: the names of a field's arguments differ.
pub record ArgumentsDiffer (arguments : List ℕ) (definitions : Range) : Type 0 where
  pub differ : (a b : ℕ) → definitions.first ≤ a → a < b → b < definitions.first + definitions.count
      → (argument_at arguments a).name ≡ (argument_at arguments b).name → ⊥

-- the definition of the argument of this name
unfoldable pub definition_named : (arguments : List ℕ) → (name : ℕ) → List ℕ → Option ℕ
definition_named arguments name rows = find (λ row. eqb (argument_at arguments row).name name) rows

unfoldable pub default_source : Option ℕ → Option Source
default_source None = None
default_source (Some row) = Some (source.Default row)

unfoldable pub variable_source : (variables : List ℕ) → Option ℕ → Option ℕ → Option Source
variable_source variables default None = default_source default
variable_source variables default (Some v) = Some (source.Node (variable_at variables v).node)

-- there is a value, and the run comes to it
pub record Found (m : M Json) (found : Option Json) : Type 0 where
  pub value : Json
  pub is : found ≡ Some value
  pub comes : Comes m value

-- the same of a literal, which is no variable: the source of a variable is its node
pub record Given (literals : List ℕ) (row : ℕ) (m : M Json) (o : Option Json) : Type 0 where
  pub found : Found m o
  pub shaped : (name : ℕ) → literal_form (literal_at literals row) ≡ variable name → ⊥

module _ (pool names refs types fields nodes literals variables : List ℕ) (p : Path) where
  -- what was found is the value of the source; where there is none, nothing was
  abbrev pub Stands : Option Source → Option Json → Type 0
  Stands None found = found ≡ None
  Stands (Some (source.Node row)) found = Found (node_value pool nodes (suc (rows_of nodes node_width)) row) found
  Stands (Some (source.Literal ty row)) found =
      Given literals row (coerce_argument_value pool names refs types fields nodes literals variables most_open p ty row) found
  Stands (Some (source.Default row)) found = Found (part_by_part pool names literals most_open row) found

-- whatever stands in the tables that it does not read, if the arguments can be coerced
pub record SourceOf (arguments given literals variables : List ℕ) (definitions written : Range) (name : ℕ) (s : Option Source) : Type 0 where
  pub stands : (pool names refs types fields nodes : List ℕ) (p : Path) (args : Arguments)
      → Comes (coerce_argument_values pool names refs types fields nodes literals variables arguments given p definitions written) args
      → Stands pool names refs types fields nodes literals variables p s (argument_named name args)
