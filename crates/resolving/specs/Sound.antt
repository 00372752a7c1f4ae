-- The request whose tables are lent, and what the walk rests on: what lawful tables give, and no more.
use Rattle.std.specs.Prelude.{◌≡◌, true, List, ℕ, suc, ◌+◌, ◌≤◌, ◌<◌}
use Rattle.rows.specs.Limits.{most_names, most_types, most_rows, most_answers}
use Rattle.rows.specs.Layout.{node_width}
use Rattle.rows.specs.Rows.{rows_of}
use Rattle.rows.specs.Schema.{type_at, field_at}
use Rattle.rows.specs.Document.{field_selection}
use Rattle.rows.specs.Answers.{answer_at}
use Rattle.rows.specs.declared.layout.Range.{Range}
use Rattle.rows.specs.declared.answers.Answer.{Answer}
use Rattle.rows.specs.declared.answers.Answer.TheVariants as answer
use Rattle.rules.specs.Schema.{object_kind}
use Rattle.tables.specs.Tables.{Tables, tables}
use Rattle.graphql.specs.Values.{node_value}
use Rattle.graphql.specs.Request.{Request}
use Rattle.lookup.specs.Found.{Listed}
use Rattle.values.specs.Put.{Parted}
use Rattle.input_coercion.specs.Ends.{Valued}
use Rattle.input_coercion.specs.Coerced.{Coercible}
use Rattle.echoing.specs.Source.{ArgumentsDiffer}
use Rattle.collecting.specs.Collecting.{FieldRow}
use Rattle.resolving.specs.declared.resolve.Asked.{Asked}

-- The request of these tables. The walk below its root does not look at which type the root is.
abbrev pub asking : (pool names refs types members fields arguments sets selections given fragments nodes literals variables answers : List ℕ) → Request
asking pool names refs types members fields arguments sets selections given fragments nodes literals variables answers =
    record { tables = tables pool names refs types members fields arguments sets selections given fragments nodes literals variables answers 0 }

-- the request of the tables that are lent
abbrev pub request_of : Tables → Request
request_of t = asking t.pool t.names t.refs t.types t.members t.fields t.arguments t.sets t.selections t.given t.fragments t.nodes t.literals t.variables t.answers

-- rows that words can number
abbrev pub Numbered : Range → Type 0
Numbered rows = rows.first + rows.count ≤ most_rows

-- the rows that an answer leads to
abbrev pub Leads : Answer → Type 0
Leads answer.Skip = Unit {0}
Leads answer.Error = Unit {0}
Leads (answer.Leaf node) = Unit {0}
Leads (answer.List rows) = rows.first + rows.count ≤ most_answers
Leads (answer.Object name rows) = rows.first + rows.count ≤ most_answers
Leads (answer.Echo name) = Unit {0}
Leads answer.Unknown = Unit {0}

-- What a field or an item rests on.
pub record Answerable (types fields arguments selections nodes literals variables answers : List ℕ) : Type 0 where
  pub listed : Listed types
  pub coercible : Coercible types nodes literals variables
  pub parted : Parted nodes
  pub valued : (pool : List ℕ) (row : ℕ) → Valued (node_value pool nodes (suc (rows_of nodes node_width)) row)
  pub defined : (f : ℕ) → Numbered (field_at fields f).arguments
  pub differ : (f : ℕ) → ArgumentsDiffer arguments (field_at fields f).arguments
  pub written : (row : ℕ) → FieldRow selections row → Numbered (field_selection selections row).given
  pub keyed : (row : ℕ) → FieldRow selections row → (field_selection selections row).key < most_names
  pub leads : (row : ℕ) → Leads (answer_at answers row)
  pub objects : (type : ℕ) → object_kind (type_at types type).kind ≡ true → type < most_types

-- the arguments that are asked for, as they are defined and as they are written, can be looked through
pub record Askable (arguments : List ℕ) (asked : Asked) : Type 0 where
  pub defined : Numbered asked.definitions
  pub written : Numbered asked.written
  pub differ : ArgumentsDiffer arguments asked.definitions

-- What an item rests on.
pub record Itemizable (types arguments nodes literals variables answers : List ℕ) (asked : Asked) : Type 0 where
  pub listed : Listed types
  pub coercible : Coercible types nodes literals variables
  pub parted : Parted nodes
  pub valued : (pool : List ℕ) (row : ℕ) → Valued (node_value pool nodes (suc (rows_of nodes node_width)) row)
  pub leads : (row : ℕ) → Leads (answer_at answers row)
  pub objects : (type : ℕ) → object_kind (type_at types type).kind ≡ true → type < most_types
  pub askable : Askable arguments asked
