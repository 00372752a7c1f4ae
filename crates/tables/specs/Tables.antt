-- The tables lent, all together, and how many rows each has.
use Rattle.std.specs.Prelude.{List, ℕ}
use Rattle.rows.specs.Layout.{name_width, type_ref_width, type_width, member_width, field_width, argument_width, set_width, selection_width, given_width, fragment_width, node_width, literal_width, variable_width, answer_width}
use Rattle.rows.specs.Rows.{rows_of}
use Rattle.rows.specs.declared.tables.Tables.{Tables as Lent}

pub record Tables : Type 0 where
  pub pool : List ℕ
  pub names : List ℕ
  pub refs : List ℕ
  pub types : List ℕ
  pub members : List ℕ
  pub fields : List ℕ
  pub arguments : List ℕ
  pub sets : List ℕ
  pub selections : List ℕ
  pub given : List ℕ
  pub fragments : List ℕ
  pub nodes : List ℕ
  pub literals : List ℕ
  pub variables : List ℕ
  pub answers : List ℕ
  pub root : ℕ

abbrev pub tables : List ℕ → List ℕ → List ℕ → List ℕ → List ℕ → List ℕ → List ℕ → List ℕ → List ℕ → List ℕ → List ℕ → List ℕ → List ℕ → List ℕ → List ℕ → ℕ → Tables
tables pool names refs types members fields arguments sets selections given fragments nodes literals variables answers root = record {
  pool = pool;
  names = names;
  refs = refs;
  types = types;
  members = members;
  fields = fields;
  arguments = arguments;
  sets = sets;
  selections = selections;
  given = given;
  fragments = fragments;
  nodes = nodes;
  literals = literals;
  variables = variables;
  answers = answers;
  root = root;
}

-- the tables that a function is lent, as lists
abbrev pub lent : Lent → Tables
lent t = tables t.pool.now t.names.now t.type_refs.now t.types.now t.members.now t.fields.now t.arguments.now t.sets.now t.selections.now t.given.now t.fragments.now t.nodes.now t.literals.now t.variables.now t.answers.now t.root

abbrev pub name_count : Tables → ℕ
name_count T = rows_of T.names name_width

abbrev pub ref_count : Tables → ℕ
ref_count T = rows_of T.refs type_ref_width

abbrev pub type_count : Tables → ℕ
type_count T = rows_of T.types type_width

abbrev pub member_count : Tables → ℕ
member_count T = rows_of T.members member_width

abbrev pub field_count : Tables → ℕ
field_count T = rows_of T.fields field_width

abbrev pub argument_count : Tables → ℕ
argument_count T = rows_of T.arguments argument_width

abbrev pub set_count : Tables → ℕ
set_count T = rows_of T.sets set_width

abbrev pub selection_count : Tables → ℕ
selection_count T = rows_of T.selections selection_width

abbrev pub given_count : Tables → ℕ
given_count T = rows_of T.given given_width

abbrev pub fragment_count : Tables → ℕ
fragment_count T = rows_of T.fragments fragment_width

abbrev pub node_count : Tables → ℕ
node_count T = rows_of T.nodes node_width

abbrev pub literal_count : Tables → ℕ
literal_count T = rows_of T.literals literal_width

abbrev pub variable_count : Tables → ℕ
variable_count T = rows_of T.variables variable_width

abbrev pub answer_count : Tables → ℕ
answer_count T = rows_of T.answers answer_width
