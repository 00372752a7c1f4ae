-- Small kits, written as rows: the tables of worked runs, over one schema that they share.
use Rattle.std.specs.Prelude.{List, [], ◌∷◌, ◌++◌, Bool, true, cond, ◌&&◌, ℕ, suc, ◌+◌, length, get_or, eqb}
use Prim.Native.String.{String}
use Rattle.rows.specs.Ascii.{ascii}
use Rattle.rows.specs.Strings.{same}
use Rattle.rows.specs.Names.{reserved, 'Int, 'Float, 'String, 'Boolean, 'ID}
use Rattle.tables.specs.Tables.{Tables}
use Rattle.graphql.specs.Run.{name, Path, ErrorRecord, Choices}
use Rattle.graphql.specs.Request.{Request}
use Rattle.graphql.specs.Report.{words_of, Report, report}
use Rattle.graphql.specs.Depth.{DepthReport, depth_report}

-- ---- names, and the pool that holds them

-- the kits' own names, which come after the twelve reserved ones
abbrev pub own_names : List String
own_names =
    "Query" ∷ "f" ∷ "g" ∷ "a" ∷ "b" ∷ "x" ∷ "y" ∷ "v" ∷ "Any" ∷ "O" ∷ "R" ∷ "I" ∷ "U" ∷ "E" ∷ "P" ∷ "Nope" ∷ "F" ∷
    "G" ∷ []

-- texts that are no names: spellings of floats
abbrev pub kit_texts : List String
kit_texts = "1.5" ∷ "1e400" ∷ []

-- bytes that a JSON text escapes: a quote, a backslash, \b, \f, \n, \r, \t, and 1
abbrev pub kit_bytes : List ℕ
kit_bytes = 34 ∷ 92 ∷ 8 ∷ 12 ∷ 10 ∷ 13 ∷ 9 ∷ 1 ∷ []

-- the kits' own names by number
abbrev pub 'Query : ℕ
'Query = 12

abbrev pub 'f : ℕ
'f = 13

abbrev pub 'g : ℕ
'g = 14

abbrev pub 'a : ℕ
'a = 15

abbrev pub 'b : ℕ
'b = 16

abbrev pub 'x : ℕ
'x = 17

abbrev pub 'y : ℕ
'y = 18

abbrev pub 'v : ℕ
'v = 19

abbrev pub 'Any : ℕ
'Any = 20

abbrev pub 'O : ℕ
'O = 21

abbrev pub 'R : ℕ
'R = 22

abbrev pub 'I : ℕ
'I = 23

abbrev pub 'U : ℕ
'U = 24

abbrev pub 'E : ℕ
'E = 25

abbrev pub 'P : ℕ
'P = 26

abbrev pub 'Nope : ℕ
'Nope = 27

abbrev pub 'F : ℕ
'F = 28

abbrev pub 'G : ℕ
'G = 29

abbrev pub one_and_a_half : ℕ
one_and_a_half = 30

abbrev pub ten_to_400 : ℕ
ten_to_400 = 31

abbrev pub pool_of : List String → List ℕ
pool_of [] = []
pool_of (s ∷ rest) = ascii s ++ pool_of rest

-- the start and the length of each text
abbrev pub texts_from : ℕ → List String → List (List ℕ)
texts_from start [] = []
texts_from start (s ∷ rest) = (start ∷ length (ascii s) ∷ []) ∷ texts_from (start + length (ascii s)) rest

-- The pool: the kits' own names and texts, the reserved names, and the bytes that are escaped.
abbrev pub kit_pool : List ℕ
kit_pool = pool_of own_names ++ (pool_of kit_texts ++ (pool_of reserved ++ kit_bytes))

-- where the names stand in the pool, and after them the other texts: two words each
abbrev pub reserved_from : ℕ
reserved_from = length (pool_of own_names) + length (pool_of kit_texts)

abbrev pub kit_names : List (List ℕ)
kit_names = texts_from reserved_from reserved ++ texts_from 0 own_names

abbrev pub text_at : ℕ → List ℕ
text_at n = get_or (kit_names ++ texts_from (length (pool_of own_names)) kit_texts) n []

abbrev pub escaped_at : List ℕ
escaped_at = (reserved_from + length (pool_of reserved)) ∷ 8 ∷ []

-- ---- rows and tables

-- A row, told the place that it carries, if it carries one.
abbrev pub Row : Type 0
Row = ℕ → List ℕ

-- Rows of one table. A kit is a list of parts; a table that is begun again goes on.
abbrev pub Part : Type 0
Part = ℕ × List Row

abbrev pub Kit : Type 0
Kit = List Part

abbrev pub refs : List Row → Part
refs rows = (0, rows)

abbrev pub types : List Row → Part
types rows = (1, rows)

abbrev pub members : List Row → Part
members rows = (2, rows)

abbrev pub fields : List Row → Part
fields rows = (3, rows)

-- the fields of Query; those of other types stand before them
abbrev pub queries : List Row → Part
queries rows = (4, rows)

abbrev pub arguments : List Row → Part
arguments rows = (5, rows)

abbrev pub sets : List Row → Part
sets rows = (6, rows)

abbrev pub selections : List Row → Part
selections rows = (7, rows)

abbrev pub given : List Row → Part
given rows = (8, rows)

abbrev pub fragments : List Row → Part
fragments rows = (9, rows)

abbrev pub nodes : List Row → Part
nodes rows = (10, rows)

abbrev pub literals : List Row → Part
literals rows = (11, rows)

abbrev pub variables : List Row → Part
variables rows = (12, rows)

abbrev pub answers : List Row → Part
answers rows = (13, rows)

abbrev pub rows_for : ℕ → Kit → List Row
rows_for table [] = []
rows_for table (part ∷ rest) = let later = rows_for table rest in cond (eqb part.0 table) (part.1 ++ later) later

-- the words of a table whose rows have places from `place` on
abbrev pub words : ℕ → List Row → List ℕ
words place [] = []
words place (row ∷ rows) = row place ++ words (suc place) rows

abbrev pub name_words : List (List ℕ) → List ℕ
name_words [] = []
name_words (row ∷ rows) = row ++ name_words rows

-- the places: of a selection, of an argument's definition, of a literal; fields have them from 4000 on
abbrev pub selection : ℕ → ℕ
selection row = 1000 + row

abbrev pub definition : ℕ → ℕ
definition row = 2000 + row

abbrev pub literal : ℕ → ℕ
literal row = 3000 + row

-- the type Query, whose fields are those from `first` on
abbrev pub query_type : (first count : ℕ) → Row
query_type first count place = 'Query ∷ 2 ∷ first ∷ count ∷ 0 ∷ 0 ∷ []

unfoldable pub tables_of : Kit → Tables
tables_of k = record {
  pool = kit_pool;
  names = name_words kit_names;
  refs = words 0 (rows_for 0 k);
  types = words 0 (query_type (length (rows_for 3 k)) (length (rows_for 4 k)) ∷ rows_for 1 k);
  members = words 0 (rows_for 2 k);
  fields = words 4000 (rows_for 3 k ++ rows_for 4 k);
  arguments = words (definition 0) (rows_for 5 k);
  sets = words 0 (rows_for 6 k);
  selections = words (selection 0) (rows_for 7 k);
  given = words 0 (rows_for 8 k);
  fragments = words 0 (rows_for 9 k);
  nodes = words 0 (rows_for 10 k);
  literals = words (literal 0) (rows_for 11 k);
  variables = words 0 (rows_for 12 k);
  answers = words 0 (rows_for 13 k);
  root = 0;
}

-- a run over the kit's tables
abbrev pub asking : Kit → Request
asking k = record { tables = tables_of k }

-- ---- rows of the schema

-- type references: named and list, nullable and not
abbrev pub named : ℕ → Row
named n place = 0 ∷ 0 ∷ n ∷ []

abbrev pub named! : ℕ → Row
named! n place = 0 ∷ 1 ∷ n ∷ []

abbrev pub list_of : ℕ → Row
list_of inner place = 1 ∷ 0 ∷ inner ∷ []

abbrev pub list_of! : ℕ → Row
list_of! inner place = 1 ∷ 1 ∷ inner ∷ []

-- a type: its name and kind, its fields and its members
abbrev pub scalar : ℕ → Row
scalar n place = n ∷ 0 ∷ 0 ∷ 0 ∷ 0 ∷ 0 ∷ []

abbrev pub type : (n kind field fields member members : ℕ) → Row
type n kind field fields member members place = n ∷ kind ∷ field ∷ fields ∷ member ∷ members ∷ []

abbrev pub listed : ℕ → Row
listed n place = n ∷ []

-- a field: its name and type; with a default; with arguments
abbrev pub field : ℕ → ℕ → Row
field n ty place = n ∷ ty ∷ 0 ∷ place ∷ 0 ∷ 0 ∷ []

abbrev pub field_by : (n ty default : ℕ) → Row
field_by n ty default place = n ∷ ty ∷ suc default ∷ place ∷ 0 ∷ 0 ∷ []

abbrev pub field_with : (n ty first count : ℕ) → Row
field_with n ty first count place = n ∷ ty ∷ 0 ∷ place ∷ first ∷ count ∷ []

abbrev pub argument : ℕ → ℕ → Row
argument n ty place = n ∷ ty ∷ 0 ∷ place ∷ []

abbrev pub argument_by : (n ty default : ℕ) → Row
argument_by n ty default place = n ∷ ty ∷ suc default ∷ place ∷ []

-- ---- rows of a document

-- a range: a set's selections
abbrev pub set : (first count : ℕ) → Row
set first count place = first ∷ count ∷ []

-- conditions
abbrev pub if_false : ℕ
if_false = 1

abbrev pub if_true : ℕ
if_true = 2

abbrev pub if$ : ℕ → ℕ
if$ n = 3 + n

-- a selected field: skip, include, name, key and attached type
abbrev pub select : (skip include n key ty : ℕ) → Row
select skip include n key ty place = 0 ∷ skip ∷ include ∷ place ∷ n ∷ key ∷ 0 ∷ 0 ∷ 0 ∷ ty ∷ []

-- without conditions, by its own name; with a child set; with arguments
abbrev pub ask : (n ty : ℕ) → Row
ask n ty = select 0 0 n n ty

abbrev pub ask_in : (n ty set : ℕ) → Row
ask_in n ty set place = 0 ∷ 0 ∷ 0 ∷ place ∷ n ∷ n ∷ 0 ∷ 0 ∷ set ∷ ty ∷ []

abbrev pub ask_with : (n ty first count : ℕ) → Row
ask_with n ty first count place = 0 ∷ 0 ∷ 0 ∷ place ∷ n ∷ n ∷ first ∷ count ∷ 0 ∷ ty ∷ []

-- a spread and an inline fragment, by skip; the inline one without a type, and on one
abbrev pub spread : (skip n : ℕ) → Row
spread skip n place = 1 ∷ skip ∷ 0 ∷ place ∷ n ∷ 0 ∷ 0 ∷ 0 ∷ 0 ∷ 0 ∷ []

abbrev pub inline : (skip set : ℕ) → Row
inline skip set place = 2 ∷ skip ∷ 0 ∷ place ∷ 0 ∷ 0 ∷ 0 ∷ 0 ∷ set ∷ 0 ∷ []

abbrev pub inline_on : (type set : ℕ) → Row
inline_on type set place = 2 ∷ 0 ∷ 0 ∷ place ∷ suc type ∷ 0 ∷ 0 ∷ 0 ∷ set ∷ 0 ∷ []

abbrev pub fragment : (n type set : ℕ) → Row
fragment n type set place = n ∷ type ∷ set ∷ []

-- a given argument and the value of a variable: a name with a literal, with a node
abbrev pub giving : ℕ → ℕ → Row
giving n row place = n ∷ row ∷ []

-- ---- rows of literals and nodes; `under` and `under_text` make them children of an object

abbrev pub null_literal : Row
null_literal place = 0 ∷ 0 ∷ 0 ∷ place ∷ 0 ∷ []

abbrev pub int_literal : ℕ → Row
int_literal n place = 3 ∷ n ∷ 0 ∷ place ∷ 0 ∷ []

abbrev pub float_literal : ℕ → Row
float_literal n place = 5 ∷ (text_at n ++ (place ∷ 0 ∷ []))

abbrev pub string_literal : ℕ → Row
string_literal n place = 6 ∷ (text_at n ++ (place ∷ 0 ∷ []))

abbrev pub list_literal : (first count : ℕ) → Row
list_literal first count place = 7 ∷ first ∷ count ∷ place ∷ 0 ∷ []

abbrev pub object_literal : (first count : ℕ) → Row
object_literal first count place = 8 ∷ first ∷ count ∷ place ∷ 0 ∷ []

abbrev pub enum_literal : ℕ → Row
enum_literal n place = 9 ∷ n ∷ 0 ∷ place ∷ 0 ∷ []

abbrev pub variable : ℕ → Row
variable n place = 10 ∷ n ∷ 0 ∷ place ∷ 0 ∷ []

abbrev pub under : ℕ → Row → Row
under key row place = get_or (row place) 0 0 ∷ get_or (row place) 1 0 ∷ get_or (row place) 2 0 ∷ place ∷ key ∷ []

abbrev pub null_node : Row
null_node place = 0 ∷ 0 ∷ 0 ∷ 0 ∷ 0 ∷ []

abbrev pub false_node : Row
false_node place = 1 ∷ 0 ∷ 0 ∷ 0 ∷ 0 ∷ []

abbrev pub true_node : Row
true_node place = 2 ∷ 0 ∷ 0 ∷ 0 ∷ 0 ∷ []

-- a 64-bit number's low and high half
abbrev pub whole_number : ℕ → ℕ → Row
whole_number low high place = 3 ∷ low ∷ high ∷ 0 ∷ 0 ∷ []

abbrev pub negative_number : ℕ → ℕ → Row
negative_number low high place = 4 ∷ low ∷ high ∷ 0 ∷ 0 ∷ []

abbrev pub float_node : ℕ → Row
float_node n place = 5 ∷ (text_at n ++ (0 ∷ 0 ∷ []))

abbrev pub string_node : ℕ → Row
string_node n place = 6 ∷ (text_at n ++ (0 ∷ 0 ∷ []))

abbrev pub escaped_node : Row
escaped_node place = 6 ∷ (escaped_at ++ (0 ∷ 0 ∷ []))

abbrev pub array_node : (first count : ℕ) → Row
array_node first count place = 7 ∷ first ∷ count ∷ 0 ∷ 0 ∷ []

abbrev pub object_node : (first count : ℕ) → Row
object_node first count place = 8 ∷ first ∷ count ∷ 0 ∷ 0 ∷ []

abbrev pub under_text : ℕ → Row → Row
under_text key row place = get_or (row place) 0 0 ∷ get_or (row place) 1 0 ∷ get_or (row place) 2 0 ∷ text_at key

-- ---- answers, each to a field of the object that it is a child of

abbrev pub skips : ℕ → Row
skips n place = 0 ∷ n ∷ 0 ∷ 0 ∷ 0 ∷ []

abbrev pub errs : ℕ → Row
errs n place = 1 ∷ n ∷ 0 ∷ 0 ∷ 0 ∷ []

abbrev pub leaf_of : (n node : ℕ) → Row
leaf_of n node place = 2 ∷ n ∷ node ∷ 0 ∷ 0 ∷ []

abbrev pub list_answer : (n first count : ℕ) → Row
list_answer n first count place = 3 ∷ n ∷ first ∷ count ∷ 0 ∷ []

abbrev pub object_answer : (n type first count : ℕ) → Row
object_answer n type first count place = 4 ∷ n ∷ type ∷ first ∷ count ∷ []

abbrev pub echoes : (n argument : ℕ) → Row
echoes n argument place = 5 ∷ n ∷ argument ∷ 0 ∷ 0 ∷ []

-- ---- the schema of the worked runs

abbrev pub :Int : ℕ
:Int = 0

abbrev pub :Int! : ℕ
:Int! = 1

abbrev pub :[Int] : ℕ
:[Int] = 2

abbrev pub :[Int!] : ℕ
:[Int!] = 3

abbrev pub :[Int]! : ℕ
:[Int]! = 4

abbrev pub :[Int!]! : ℕ
:[Int!]! = 5

abbrev pub :[[Int]] : ℕ
:[[Int]] = 6

abbrev pub :[[Int]!] : ℕ
:[[Int]!] = 7

abbrev pub :Float : ℕ
:Float = 8

abbrev pub :String : ℕ
:String = 9

abbrev pub :String! : ℕ
:String! = 10

abbrev pub :Boolean : ℕ
:Boolean = 11

abbrev pub :ID : ℕ
:ID = 12

abbrev pub :Any : ℕ
:Any = 13

abbrev pub :[Any] : ℕ
:[Any] = 14

abbrev pub :E : ℕ
:E = 15

abbrev pub :O : ℕ
:O = 16

abbrev pub :O! : ℕ
:O! = 17

abbrev pub :[O] : ℕ
:[O] = 18

abbrev pub :I : ℕ
:I = 19

abbrev pub :U : ℕ
:U = 20

abbrev pub :P : ℕ
:P = 21

abbrev pub :[P] : ℕ
:[P] = 22

abbrev pub :Nope : ℕ
:Nope = 23

abbrev pub :[Nope] : ℕ
:[Nope] = 24

-- the first row after the schema's references
abbrev pub own_ref : ℕ
own_ref = 25

-- enum E { a b }    type O implements I & Nope & Any { a: O  f: Int!  g: Int  b: [O] }    type R { f: Int! }    interface I { f: Int! }
-- union U = O    input P { a: Int = 5  b: Int!  x: P }    scalar Any    no Nope. The literal 0 is the default of P.a.
abbrev pub schema_without_string : Kit
schema_without_string =
    refs (
    named 'Int ∷ named! 'Int ∷ list_of :Int ∷ list_of :Int! ∷ list_of! :Int ∷ list_of! :Int! ∷ list_of :[Int] ∷ list_of :[Int]! ∷
    named 'Float ∷ named 'String ∷ named! 'String ∷ named 'Boolean ∷ named 'ID ∷ named 'Any ∷ list_of :Any ∷ named 'E ∷
    named 'O ∷ named! 'O ∷ list_of :O ∷ named 'I ∷ named 'U ∷ named 'P ∷ list_of :P ∷ named 'Nope ∷ list_of :Nope ∷
    []) ∷
    types (scalar 'Int ∷ scalar 'Float ∷ scalar 'Boolean ∷ scalar 'ID ∷ scalar 'Any ∷
    type 'E 1 0 0 0 2 ∷ type 'O 2 0 4 2 3 ∷ type 'R 2 1 1 0 0 ∷ type 'I 3 1 1 0 0 ∷ type 'U 4 0 0 5 1 ∷ type 'P 5 4 3 0 0 ∷ []) ∷
    members (listed 'a ∷ listed 'b ∷ listed 'I ∷ listed 'Nope ∷ listed 'Any ∷ listed 'O ∷ []) ∷
    fields (field 'a :O ∷ field 'f :Int! ∷ field 'g :Int ∷ field 'b :[O] ∷ field_by 'a :Int 0 ∷ field 'b :Int! ∷ field 'x :P ∷ []) ∷
    literals (int_literal 5 ∷ []) ∷ []

-- a kit over the schema
abbrev pub over : Kit → Kit
over k = schema_without_string ++ (types (scalar 'String ∷ []) ∷ k)

-- ---- kits of a usual shape

-- `{f}`, where Query's own `f` and the attached type may differ; the answer to f is row 1, and the root's before it
abbrev pub one : (own attached : ℕ) → List Row → List Row → Kit
one own attached ns answered = over
    (queries (field 'f own ∷ []) ∷ sets (set 0 1 ∷ []) ∷ selections (ask 'f attached ∷ []) ∷ nodes ns ∷ answers (object_answer 0 'Query 1 1 ∷ answered) ∷ [])

-- `{f(x: ..)}`, where `f(x: T): Any` answers x. The literal given is row 1.
abbrev pub echo : ℕ → List Row → Kit
echo ty ls = over
    (queries (field_with 'f :Any 0 1 ∷ []) ∷ arguments (argument 'x ty ∷ []) ∷ sets (set 0 1 ∷ []) ∷ selections (ask_with 'f :Any 0 1 ∷ []) ∷
    given (giving 'x 1 ∷ []) ∷ literals ls ∷ answers (object_answer 0 'Query 1 1 ∷ echoes 'f 'x ∷ []) ∷ [])

-- `{f}`, where `f(x: T = ..): Any` answers x. The default is the literal 1.
abbrev pub echo_default : ℕ → List Row → Kit
echo_default ty ls = over
    (queries (field_with 'f :Any 0 1 ∷ []) ∷ arguments (argument_by 'x ty 1 ∷ []) ∷ sets (set 0 1 ∷ []) ∷ selections (ask 'f :Any ∷ []) ∷
    literals ls ∷ answers (object_answer 0 'Query 1 1 ∷ echoes 'f 'x ∷ []) ∷ [])

-- the variable v, whose value is the first of these nodes
abbrev pub v_is : List Row → Kit
v_is ns = nodes ns ∷ variables (giving 'v 0 ∷ []) ∷ []

-- ---- worked runs

-- a worked run: a kit, buffers and choices, and what is to come of it
pub record Case : Type 0 where
  pub label : String
  pub kit : Kit
  pub text_room : ℕ
  pub error_room : ℕ
  pub choices : Choices
  pub code : ℕ
  pub text : List ℕ
  pub errors : List ErrorRecord

abbrev pub error : ℕ → ℕ → Path → ErrorRecord
error code place path = record { code = code; place = place; path = path }

-- answered 0, in the order of the document or in one that the choices say, with all the room that there may be
abbrev pub chosen : String → Kit → Choices → String → List ErrorRecord → Case
chosen label kit choices text errors = record {
  label = label;
  kit = kit;
  text_room = 65536;
  error_room = 16384;
  choices = choices;
  code = 0;
  text = ascii text;
  errors = errors;
}

abbrev pub answered : String → Kit → String → List ErrorRecord → Case
answered label kit text errors = chosen label kit [] text errors

-- `f` fails with this code, and is null
abbrev pub f_fails : String → Kit → ℕ → (place : ℕ) → Case
f_fails label kit code place = answered label kit "{\"f\":null}" (error code place (name 'f ∷ []) ∷ [])

-- answered with a code other than 0
abbrev pub refused_at : String → Kit → (text_room error_room : ℕ) → Choices → ℕ → Case
refused_at label kit text_room error_room choices code = record {
  label = label;
  kit = kit;
  text_room = text_room;
  error_room = error_room;
  choices = choices;
  code = code;
  text = [];
  errors = [];
}

abbrev pub refuses : String → Kit → ℕ → Case
refuses label kit code = refused_at label kit 65536 16384 [] code

abbrev pub agrees : Case → Report → Bool
agrees c r = eqb r.code c.code && (same r.text c.text && (same r.words (words_of c.errors) && eqb r.records (length c.errors)))

abbrev pub right : Case → Bool
right c = agrees c (report (asking c.kit) c.text_room c.error_room c.choices)

abbrev pub all_right : List Case → Bool
all_right [] = true
all_right (c ∷ rest) = right c && all_right rest

-- ---- worked depth checks

-- a kit with a document alone, and what is to come of its depth check
pub record DepthCase : Type 0 where
  pub label : String
  pub kit : Kit
  pub code : ℕ
  pub depth : ℕ
  pub place : ℕ

abbrev pub depth_agrees : DepthCase → DepthReport → Bool
depth_agrees c r = eqb r.code c.code && (eqb r.depth' c.depth && eqb r.place c.place)

abbrev pub depth_right : DepthCase → Bool
depth_right c = depth_agrees c (depth_report (tables_of c.kit))

abbrev pub all_depths_right : List DepthCase → Bool
all_depths_right [] = true
all_depths_right (c ∷ rest) = depth_right c && all_depths_right rest
