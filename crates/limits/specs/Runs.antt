-- Worked runs: the codes 1 to 7 and both sides of each limit, with the readings of document 01 that say what counts. Long kits are made
-- by functions that write rows.
use Rattle.std.specs.Prelude.{List, [], ◌∷◌, ◌++◌, ℕ, zero, suc, ◌+◌}
use Prim.Native.String.{String}
use Rattle.rows.specs.Ascii.{ascii}
use Rattle.graphql.specs.Run.{name, index, ErrorRecord}
use Rattle.rows.specs.Names.{'typename, 'schema}
use Rattle.graphql.specs.Kit.{'Query, 'f, 'g, 'a, 'b, 'x, 'y, 'v, 'O, 'F, 'G, Row, Kit, refs, queries, arguments, sets, selections, given, fragments, nodes, literals, variables, answers, selection, literal, list_of, field, field_with, argument, argument_by, set, if_true, select, ask, ask_in, ask_with, spread, inline, inline_on, fragment, giving, null_literal, int_literal, list_literal, object_literal, variable, under, null_node, whole_number, string_node, array_node, skips, errs, leaf_of, list_answer, object_answer, echoes, :Int, :Int!, :[Int!], :String, :String!, :Any, :[Any], :O, :[O], :P, :Nope, own_ref, over, one, echo, echo_default, v_is, Case, error, f_fails, answered, refused_at, refuses}

module _ {A : Type 0} where
  abbrev pub copies : ℕ → A → List A
  copies zero a = []
  copies (suc n) a = a ∷ copies n a

-- the text `inner` in n brackets of a kind
abbrev pub bracketed : ℕ → (opens inner closes : String) → List ℕ
bracketed zero opens inner closes = ascii inner
bracketed (suc n) opens inner closes = ascii opens ++ (bracketed n opens inner closes ++ ascii closes)

-- answered 0 with this text and these errors
abbrev within : String → Kit → (text_room error_room : ℕ) → List ℕ → List ErrorRecord → Case
within label kit text_room error_room text errors = record {
  label = label;
  kit = kit;
  text_room = text_room;
  error_room = error_room;
  choices = [];
  code = 0;
  text = text;
  errors = errors;
}

abbrev f_is : String → Kit → List ℕ → Case
f_is label kit text = within label kit 65536 16384 (ascii "{\"f\":" ++ (text ++ ascii "}")) []

-- ---- codes 1, 2, 6 and 7

abbrev one_int : Kit
one_int = one :Int :Int (whole_number 1 0 ∷ []) (leaf_of 'f 0 ∷ [])

abbrev one_error : Kit
one_error = one :Int :Int [] (errs 'f ∷ [])

-- `{f}`, with a further set that nothing owns and that asks for this name
abbrev also_asking : ℕ → Kit
also_asking n = over
    (queries (field 'f :Int ∷ []) ∷ sets (set 0 1 ∷ set 1 1 ∷ []) ∷ selections (ask 'f :Int ∷ ask n :Any ∷ []) ∷ nodes (whole_number 1 0 ∷ []) ∷
    answers (object_answer 0 'Query 1 1 ∷ leaf_of 'f 0 ∷ []) ∷ [])

-- `{f g}` with `f: String` answering "__typename" and `g: Int!` answering an error: the data is null
abbrev long_then_null : Kit
long_then_null = over
    (queries (field 'f :String ∷ field 'g :Int! ∷ []) ∷ sets (set 0 2 ∷ []) ∷ selections (ask 'f :String ∷ ask 'g :Int! ∷ []) ∷ nodes (string_node 'typename ∷ []) ∷
    answers (object_answer 0 'Query 1 2 ∷ leaf_of 'f 0 ∷ errs 'g ∷ []) ∷ [])

abbrev pub buffer_runs : List Case
buffer_runs =
    -- `{f}` with `f: Int` answering 1: text buffers of 65,536 and 65,537 bytes
    within "code 1: the longest text buffer" one_int 65536 0 (ascii "{\"f\":1}") [] ∷
    refused_at "code 1: a text buffer too long" one_int 65537 0 [] 1 ∷
    -- error buffers of 16,384 and 16,385 words
    within "code 1: the longest error buffer" one_int 65536 16384 (ascii "{\"f\":1}") [] ∷
    refused_at "code 1: an error buffer too long" one_int 65536 16385 [] 1 ∷
    -- 4,096 and 4,097 choices
    refused_at "code 1: the most choices" one_int 6 16384 (copies 4096 1) 6 ∷
    refused_at "code 1: too many choices" one_int 6 16384 (copies 4097 1) 1 ∷
    -- no set at all
    refuses "code 1: a table breaks a rule" (over (queries (field 'f :Int ∷ []) ∷ answers (object_answer 0 'Query 1 0 ∷ []) ∷ [])) 1 ∷
    -- `{f}`, and somewhere else `{__schema}`, `{__type}`, `{__typename}`
    refuses "code 2: __schema in a set that is not run" (also_asking 'schema) 2 ∷
    refuses "code 2: __type in a set that is not run" (also_asking 7) 2 ∷
    answered "code 2: not __typename" (also_asking 'typename) "{\"f\":1}" [] ∷
    -- `{__schema: f}`, `{...__schema f}`, and `{__schema @skip(if: true)}`
    answered "code 2: a response key is no name" (over
    (queries (field 'f :Int ∷ []) ∷ sets (set 0 1 ∷ []) ∷ selections (select 0 0 'f 'schema :Int ∷ []) ∷ nodes (whole_number 1 0 ∷ []) ∷
    answers (object_answer 0 'Query 1 1 ∷ leaf_of 'f 0 ∷ []) ∷ [])) "{\"__schema\":1}" [] ∷
    answered "code 2: a spread is no field" (over
    (queries (field 'f :Int ∷ []) ∷ sets (set 0 2 ∷ []) ∷ selections (spread 0 'schema ∷ ask 'f :Int ∷ []) ∷ nodes (whole_number 1 0 ∷ []) ∷
    answers (object_answer 0 'Query 1 1 ∷ leaf_of 'f 0 ∷ []) ∷ [])) "{\"f\":1}" [] ∷
    refuses "code 2: also where it would be dropped" (over (sets (set 0 1 ∷ []) ∷ selections (select if_true 0 'schema 'schema :Any ∷ []) ∷ answers (object_answer 0 'Query 1 0 ∷ []) ∷ [])) 2 ∷
    refused_at "1 before 2" (also_asking 'schema) 65537 16384 [] 1 ∷
    -- `{"f":1}` has 7 bytes
    within "code 6: exactly long enough" one_int 7 0 (ascii "{\"f\":1}") [] ∷
    -- the final text counts: `null`, although the fields before the failure were longer
    within "code 6: the final text is null" long_then_null 4 16384 (ascii "null") (error 1 (selection 1) (name 'g ∷ []) ∷ []) ∷
    refused_at "code 6: null is too long" long_then_null 3 16384 [] 6 ∷
    -- one record with a path of one segment has 5 words
    within "code 7: exactly long enough" one_error 65536 5 (ascii "{\"f\":null}") (error 1 (selection 0) (name 'f ∷ []) ∷ []) ∷
    refused_at "code 7: too short by one" one_error 65536 4 [] 7 ∷
    refused_at "6 before 7" one_error 9 4 [] 6 ∷
    []

-- ---- code 3: paths

-- n sets of one selection, from a selection on; and n fields `a: O`, each with the next set as its child set
abbrev set_chain : (first n : ℕ) → List Row
set_chain first zero = []
set_chain first (suc n) = set first 1 ∷ set_chain (suc first) n

abbrev field_chain : (next n : ℕ) → List Row
field_chain next zero = []
field_chain next (suc n) = ask_in 'a :O next ∷ field_chain (suc next) n

-- `{a {a { .. {last}}}}` with n times a. The answer to a is an object whose own a is itself, whose b is the list of the rows given and
-- whose g is that list too.
abbrev down : (n : ℕ) → Row → (items : List Row) → (count : ℕ) → Kit
down n last items count = over
    (queries (field 'a :O ∷ []) ∷ sets (set_chain 0 (suc n)) ∷ selections (field_chain 1 n ++ (last ∷ [])) ∷
    answers (object_answer 0 'Query 1 1 ∷ object_answer 'a 'O 1 3 ∷ list_answer 'b 4 count ∷ list_answer 'g 4 count ∷ items) ∷ [])

abbrev a_in : ℕ → String → List ℕ
a_in n inner = bracketed n "{\"a\":" inner "}"

-- n list types, one in the other, from the schema's last reference on; the outermost is `listed n`
abbrev list_types : (inner own n : ℕ) → List Row
list_types inner own zero = []
list_types inner own (suc n) = list_of inner ∷ list_types own (suc own) n

abbrev lists_of : (inner n : ℕ) → Kit
lists_of inner n = refs (list_types inner own_ref n) ∷ []

abbrev lists32 : ℕ
lists32 = 31 + own_ref

abbrev lists33 : ℕ
lists33 = 32 + own_ref

abbrev pub path_runs : List Case
path_runs =
    -- `{a {a { .. a}}}`, 32 and 33 deep
    within "code 3: a path of 32 segments" (down 31 (ask 'a :O) [] 0) 65536 16384 (a_in 32 "{}") [] ∷
    refuses "code 3: a path of 33 segments" (down 32 (ask 'a :O) [] 0) 3 ∷
    -- below 32 times a: a field y that is not defined, and __typename
    within "reading 21: an undefined field has no path" (down 32 (ask 'y :Int) [] 0) 65536 16384 (a_in 32 "{}") [] ∷
    refuses "reading 21: __typename has a path" (down 32 (ask 'typename :String!) [] 0) 3 ∷
    -- below 31 times a: `b: [O]` answering an empty list, a skipped item, an error item
    within "reading 21: an empty list has no longer path" (down 31 (ask 'b :[O]) [] 0) 65536 16384 (a_in 31 "{\"b\":[]}") [] ∷
    refuses "reading 21: a skipped item has a path" (down 31 (ask 'b :[O]) (skips 0 ∷ []) 1) 3 ∷
    refuses "reading 21: an error item has a path" (down 31 (ask 'b :[O]) (errs 0 ∷ []) 1) 3 ∷
    -- below 31 times a: `g: Int` answering a list of one
    within "reading 21: error 4 reaches no longer path" (down 31 (ask 'g :Int) (skips 0 ∷ []) 1) 65536 16384 (a_in 31 "{\"g\":null}")
    (error 4 (selection 31) (copies 31 (name 'a) ++ (name 'g ∷ [])) ∷ []) ∷
    -- `f: [[..[Int]..]]` answering a list that holds itself: with 31 list types the path ends in error 4, with 32 it is too long
    within "code 3: a path of 31 indices" (one (30 + own_ref) (30 + own_ref) [] (list_answer 'f 1 1 ∷ []) ++ lists_of :Int 31) 65536 16384
    (ascii "{\"f\":" ++ (bracketed 31 "[" "null" "]" ++ ascii "}")) (error 4 (selection 0) (name 'f ∷ copies 31 (index 0)) ∷ []) ∷
    refuses "code 3: a path of 32 indices" (one lists32 lists32 [] (list_answer 'f 1 1 ∷ []) ++ lists_of :Int 32) 3 ∷
    []

-- ---- code 3: containers

-- n arrays, one in the other, the first in row `row`, around a last node
abbrev pub arrays : (row n : ℕ) → Row → List Row
arrays row zero last = last ∷ []
arrays row (suc n) last = array_node (suc row) 1 ∷ arrays (suc row) n last

abbrev list_literals : (row n : ℕ) → Row → List Row
list_literals row zero last = last ∷ []
list_literals row (suc n) last = list_literal (suc row) 1 ∷ list_literals (suc row) n last

-- n input objects `{x: {x: .. } b: 1}` around `{b: 1}`
abbrev input_objects : (row n : ℕ) → List Row
input_objects row zero = under 'x (object_literal (suc row) 1) ∷ under 'b (int_literal 1) ∷ []
input_objects row (suc n) = under 'x (object_literal (suc row) 2) ∷ under 'b (int_literal 1) ∷ input_objects (2 + row) n

-- `f(x: T): Any` is given the literal 1 and answers 1, whatever x is
abbrev unused : ℕ → List Row → Kit
unused ty ls = over
    (queries (field_with 'f :Any 0 1 ∷ []) ∷ arguments (argument 'x ty ∷ []) ∷ sets (set 0 1 ∷ []) ∷ selections (ask_with 'f :Any 0 1 ∷ []) ∷
    given (giving 'x 1 ∷ []) ∷ literals ls ∷ nodes (whole_number 1 0 ∷ []) ∷ answers (object_answer 0 'Query 1 1 ∷ leaf_of 'f 0 ∷ []) ∷ [])

-- v, after the node that f answers: `[[..1..]]`, n deep
abbrev v_deep : ℕ → Kit
v_deep n = nodes (arrays 1 n (whole_number 1 0)) ∷ variables (giving 'v 1 ∷ []) ∷ []

abbrev pub container_runs : List Case
container_runs =
    -- `f: Any` answers `[[..1..]]`, 32 and 33 deep
    f_is "code 3: a leaf of 32 containers" (one :Any :Any (arrays 0 32 (whole_number 1 0)) (leaf_of 'f 0 ∷ [])) (bracketed 32 "[" "1" "]") ∷
    refuses "code 3: a leaf of 33 containers" (one :Any :Any (arrays 0 33 (whole_number 1 0)) (leaf_of 'f 0 ∷ [])) 3 ∷
    -- `f: Int` answers the same
    f_fails "reading 25: a leaf of 32 containers at Int" (one :Int :Int (arrays 0 32 (whole_number 1 0)) (leaf_of 'f 0 ∷ [])) 15 (selection 0) ∷
    refuses "reading 25: a leaf of 33 containers at Int" (one :Int :Int (arrays 0 33 (whole_number 1 0)) (leaf_of 'f 0 ∷ [])) 3 ∷
    -- `f: [Any]` answers an error and then a leaf of 33 containers; the leaf and then the error; `f: Any` a list of that leaf
    answered "reading 6: not taken after an error item" (one :[Any] :[Any] (arrays 0 33 (whole_number 1 0)) (list_answer 'f 2 2 ∷ errs 0 ∷ leaf_of 0 0 ∷ [])) "{\"f\":null}" (error 1 (selection 0) (name 'f ∷ index 0 ∷ []) ∷ []) ∷
    refuses "reading 6: taken before an error item" (one :[Any] :[Any] (arrays 0 33 (whole_number 1 0)) (list_answer 'f 2 2 ∷ leaf_of 0 0 ∷ errs 0 ∷ [])) 3 ∷
    f_fails "reading 6: not taken at a non-list type" (one :Any :Any (arrays 0 33 (whole_number 1 0)) (list_answer 'f 2 1 ∷ leaf_of 0 0 ∷ [])) 4 (selection 0) ∷
    -- `f: [Int!]` answers null and then a leaf of 33 containers
    answered "reading 6: not taken after an item that fails the list" (one :[Int!] :[Int!] (null_node ∷ arrays 1 33 (whole_number 1 0)) (list_answer 'f 2 2 ∷ leaf_of 0 0 ∷ leaf_of 0 1 ∷ [])) "{\"f\":null}" (error 2 (selection 0) (name 'f ∷ index 0 ∷ []) ∷ []) ∷
    -- `x: Any` given `[[..1..]]`
    f_is "code 3: a literal of 32 containers" (echo :Any (list_literals 1 32 (int_literal 1))) (bracketed 32 "[" "1" "]") ∷
    refuses "code 3: a literal of 33 containers" (unused :Any (list_literals 1 33 (int_literal 1))) 3 ∷
    -- `x: [[..[Int]..]]` given `1`: wrapping counts
    f_is "code 3: wrapped 32 times" (echo lists32 (int_literal 1 ∷ []) ++ lists_of :Int 32) (bracketed 32 "[" "1" "]") ∷
    refuses "code 3: wrapped 33 times" (unused lists33 (int_literal 1 ∷ []) ++ lists_of :Int 33) 3 ∷
    -- `x: Any = [[..1..]]`: defaults count
    f_is "code 3: a default of 32 containers" (echo_default :Any (list_literals 1 32 (int_literal 1))) (bracketed 32 "[" "1" "]") ∷
    refuses "code 3: a default of 33 containers" (echo_default :Any (list_literals 1 33 (int_literal 1))) 3 ∷
    -- `x: P` given `{b: 1, x: {b: 1, x: ..}}`
    f_is "code 3: 32 input objects" (echo :P (input_objects 1 31)) (bracketed 31 "{\"a\":5,\"b\":1,\"x\":" "{\"a\":5,\"b\":1}" "}") ∷
    refuses "code 3: 33 input objects" (unused :P (input_objects 1 32)) 3 ∷
    -- `x: [[..[P]..]]` with 32 list types, given `{y: 1}`, `1`, `{b: 1}`; `x: [[..[Nope]..]]` given `1`
    f_fails "reading 15: an unknown key before the 33rd container" (unused lists32 (object_literal 2 1 ∷ under 'y (int_literal 1) ∷ []) ++ lists_of :P 32) 21 (literal 1) ∷
    f_fails "reading 19: 23 before the 33rd container" (unused lists32 (int_literal 1 ∷ []) ++ lists_of :P 32) 23 (literal 1) ∷
    refuses "reading 19: an input object as the 33rd container" (unused lists32 (object_literal 2 1 ∷ under 'b (int_literal 1) ∷ []) ++ lists_of :P 32) 3 ∷
    f_fails "reading 19: 20 before the 33rd container" (unused lists32 (list_literals 1 33 (int_literal 1)) ++ lists_of :Nope 32) 20 (literal 33) ∷
    -- `x: [[..[Int]..]]` with 33 list types, given `null`, `$v` in 32 lists, and `[]` in 32 lists
    f_is "reading 19: null before the 33rd container" (echo lists33 (list_literals 1 32 null_literal) ++ lists_of :Int 33) (bracketed 32 "[" "null" "]") ∷
    f_is "reading 19: a variable before the 33rd container" (echo lists33 (list_literals 1 32 (variable 'v)) ++ lists_of :Int 33) (bracketed 32 "[" "null" "]") ∷
    refuses "reading 19: an empty list is a container" (unused lists33 (list_literals 1 32 (list_literal 34 0)) ++ lists_of :Int 33) 3 ∷
    -- `f(x: Any = [[..1..]])`, 33 deep, given `1`, and `f` given an x of 33 containers that it does not define
    f_is "reading 19: an unused default is not built" (over
    (queries (field_with 'f :Any 0 1 ∷ []) ∷ arguments (argument_by 'x :Any 2 ∷ []) ∷ sets (set 0 1 ∷ []) ∷ selections (ask_with 'f :Any 0 1 ∷ []) ∷ given (giving 'x 1 ∷ []) ∷
    literals (int_literal 1 ∷ list_literals 2 33 (int_literal 1)) ∷ answers (object_answer 0 'Query 1 1 ∷ echoes 'f 'x ∷ []) ∷ []))
    (ascii "1") ∷
    f_is "reading 19: an argument without a definition is not built" (over
    (queries (field 'f :Any ∷ []) ∷ sets (set 0 1 ∷ []) ∷ selections (ask_with 'f :Any 0 1 ∷ []) ∷ given (giving 'x 1 ∷ []) ∷
    literals (list_literals 1 33 (int_literal 1)) ∷ nodes (whole_number 1 0 ∷ []) ∷ answers (object_answer 0 'Query 1 1 ∷ leaf_of 'f 0 ∷ []) ∷ []))
    (ascii "1") ∷
    -- `x: Any` given `$v`, v of 33 containers: f answers 1, and x; v of 32 containers: x
    f_is "a variable's containers do not count" (unused :Any (variable 'v ∷ []) ++ v_deep 33) (ascii "1") ∷
    refuses "reading 25: echoed, they count" (echo :Any (variable 'v ∷ []) ++ v_is (arrays 0 33 (whole_number 1 0))) 3 ∷
    f_is "reading 25: echoed, 32 of them" (echo :Any (variable 'v ∷ []) ++ v_is (arrays 0 32 (whole_number 1 0))) (bracketed 32 "[" "1" "]") ∷
    -- `x: [Any]` given `[$v]`, v of 32 containers: f answers 1, and x
    f_is "a variable's containers do not count inside a list" (unused :[Any] (list_literal 2 1 ∷ variable 'v ∷ []) ++ v_deep 32) (ascii "1") ∷
    refuses "reading 25: echoed, they count with the list's" (echo :[Any] (list_literal 2 1 ∷ variable 'v ∷ []) ++ v_is (arrays 0 32 (whole_number 1 0))) 3 ∷
    []

-- ---- code 3: fragments, and code 4

-- n inline fragments, each with the next set
abbrev pub inline_chain : (next n : ℕ) → List Row
inline_chain next zero = []
inline_chain next (suc n) = inline 0 next ∷ inline_chain (suc next) n

-- Many fields in few rows: 8 inline fragments, each of the same 16 fields, which stand after them. The first 8 rows select 128 fields, the
-- first 9 select 129. The fragments' sets are `own` and those after it; `row` is the first row.
abbrev pub many : (own : ℕ) → Row → List Row
many own asked = inline_chain own 8 ++ copies 16 asked

abbrev pub sets_of_many : (row : ℕ) → List Row
sets_of_many row = copies 8 (set (8 + row) 16)

-- `{..}` with `f: Int`, answered 1, and `a: O`, whose f is answered 1 too; set 0 has the first `count` of these selections
abbrev asking : (count : ℕ) → List Row → (parts : Kit) → Kit
asking count rows parts = over
    (queries (field 'f :Int ∷ field 'a :O ∷ []) ∷ sets (set 0 count ∷ []) ∷ selections rows ∷ nodes (whole_number 1 0 ∷ []) ∷
    answers (object_answer 0 'Query 1 2 ∷ leaf_of 'f 0 ∷ object_answer 'a 'O 1 1 ∷ []) ∷ parts)

-- `{... {... {last f}}}` with n inline fragments, and with these sets after the n + 1 of the chain; f answers 1
abbrev inlined : (n : ℕ) → (last : Row) → (parts : Kit) → Kit
inlined n last parts = over
    (queries (field 'f :Int ∷ field 'a :O ∷ []) ∷ sets (set_chain 0 n ++ (set n 2 ∷ [])) ∷ selections (inline_chain 1 n ++ (last ∷ ask 'f :Int ∷ [])) ∷ nodes (whole_number 1 0 ∷ []) ∷
    answers (object_answer 0 'Query 1 2 ∷ leaf_of 'f 0 ∷ object_answer 'a 'O 1 1 ∷ []) ∷ parts)

abbrev pub collection_runs : List Case
collection_runs =
    -- `{... {... {f f}}}` in 32 and in 33 inline fragments
    answered "code 3: 32 open fragments" (inlined 32 (ask 'f :Int) []) "{\"f\":1}" [] ∷
    refuses "code 3: 33 open fragments" (inlined 33 (ask 'f :Int) []) 3 ∷
    -- `{... {... {...F f}}}` in 31 and in 32, with `fragment F on Query {f}`
    answered "code 3: a named fragment is the 32nd" (inlined 31 (spread 0 'F) (sets (set 32 1 ∷ []) ∷ fragments (fragment 'F 'Query 32 ∷ []) ∷ [])) "{\"f\":1}" [] ∷
    refuses "code 3: a named fragment is the 33rd" (inlined 32 (spread 0 'F) (sets (set 33 1 ∷ []) ∷ fragments (fragment 'F 'Query 33 ∷ []) ∷ [])) 3 ∷
    -- in 32 inline fragments one more that is dropped, a spread that is dropped, an undefined one, one on another type, an empty one
    answered "reading 22: a dropped one is not opened" (inlined 32 (inline if_true 33) (sets (set 33 1 ∷ []) ∷ [])) "{\"f\":1}" [] ∷
    answered "reading 22: a dropped spread is not opened" (inlined 32 (spread if_true 'F) (sets (set 33 1 ∷ []) ∷ fragments (fragment 'F 'Query 33 ∷ []) ∷ [])) "{\"f\":1}" [] ∷
    answered "reading 22: an undefined one is not opened" (inlined 32 (spread 0 'G) []) "{\"f\":1}" [] ∷
    answered "reading 22: one on another type is not opened" (inlined 32 (inline_on 'O 33) (sets (set 33 1 ∷ []) ∷ [])) "{\"f\":1}" [] ∷
    refuses "reading 22: an empty one is opened" (inlined 32 (inline 0 33) (sets (set 33 0 ∷ []) ∷ [])) 3 ∷
    -- `{... {... {a {... {... {f}}}}}}`, 32 inline fragments around a and 32 inside
    answered "reading 22: each collection starts from none" (inlined 32 (ask_in 'a :O 33) (sets (set_chain 34 32 ++ (set 66 1 ∷ [])) ∷ selections (inline_chain 34 32 ++ (ask 'f :Int ∷ [])) ∷ [])) "{\"a\":{\"f\":1},\"f\":1}" [] ∷
    -- 128 and 129 times f
    answered "code 4: 128 fields" (asking 8 (many 1 (ask 'f :Int)) (sets (sets_of_many 0) ∷ [])) "{\"f\":1}" [] ∷
    refuses "code 4: a 129th field" (asking 9 (many 1 (ask 'f :Int)) (sets (sets_of_many 0) ∷ [])) 4 ∷
    -- 128 times f after one that is dropped, after `... on O {f}`, after `... on Query {f}`
    answered "reading 23: a dropped field does not count" (asking 9 (select if_true 0 'f 'f :Int ∷ many 1 (ask 'f :Int)) (sets (sets_of_many 1) ∷ [])) "{\"f\":1}" [] ∷
    answered "reading 23: fields of a fragment that does not apply do not count" (asking 9 (inline_on 'O 9 ∷ many 1 (ask 'f :Int)) (sets (sets_of_many 1 ++ (set 9 1 ∷ [])) ∷ [])) "{\"f\":1}" [] ∷
    refuses "reading 23: fields of a fragment that applies count" (asking 9 (inline_on 'Query 9 ∷ many 1 (ask 'f :Int)) (sets (sets_of_many 1 ++ (set 9 1 ∷ [])) ∷ [])) 4 ∷
    -- 128 and 129 times y, which is not defined
    answered "reading 23: 128 undefined fields" (asking 8 (many 1 (ask 'y :Int)) (sets (sets_of_many 0) ∷ [])) "{}" [] ∷
    refuses "reading 23: undefined fields count" (asking 9 (many 1 (ask 'y :Int)) (sets (sets_of_many 0) ∷ [])) 4 ∷
    -- `{a {f ..} a {f ..}}`, 64 and 64 times f, and 64 and 65 times
    answered "reading 23: 128 fields of merged sets" (asking 2 (ask_in 'a :O 1 ∷ ask_in 'a :O 2 ∷ many 3 (ask 'f :Int)) (sets (set 2 4 ∷ set 6 4 ∷ sets_of_many 2) ∷ [])) "{\"a\":{\"f\":1}}" [] ∷
    refuses "reading 23: merged sets count together" (asking 2 (ask_in 'a :O 1 ∷ ask_in 'a :O 2 ∷ many 3 (ask 'f :Int)) (sets (set 2 4 ∷ set 6 5 ∷ sets_of_many 2) ∷ [])) 4 ∷
    []

abbrev pub limit_runs : List Case
limit_runs = buffer_runs ++ (path_runs ++ (container_runs ++ collection_runs))
