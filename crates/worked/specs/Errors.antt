-- Worked runs: each error code of document 01, with its place and path. The schema is the one in Kit; `{f}` asks for the only field of
-- Query, and `x` is an argument that f answers at the custom scalar Any.
use Rattle.std.specs.Prelude.{List, [], ◌∷◌, ◌++◌, ℕ, zero, suc}
use Rattle.graphql.specs.Run.{name, index, ErrorRecord}
use Rattle.graphql.specs.Kit.{'Query, 'f, 'g, 'a, 'b, 'x, 'y, 'v, 'O, 'R, 'I, 'E, 'Nope, one_and_a_half, Row, Kit, refs, queries, arguments, sets, selections, nodes, answers, selection, definition, literal, list_of, field, field_with, argument, set, ask, ask_in, null_literal, int_literal, list_literal, object_literal, variable, under, null_node, false_node, true_node, whole_number, negative_number, float_node, string_node, escaped_node, array_node, object_node, under_text, errs, leaf_of, list_answer, object_answer, echoes, :Int, :Int!, :[Int!], :Float, :String, :Boolean, :ID, :Any, :E, :O, :[O], :I, :U, :P, :Nope, own_ref, over, one, echo, v_is, Case, error, f_fails, answered}

-- an error at an item of f
abbrev item_fails : ℕ → (item : ℕ) → ErrorRecord
item_fails code item = error code (selection 0) (name 'f ∷ index item ∷ [])

-- f answers a list at `[T]`: its items are the answers from row 2 on
abbrev items : (ty count : ℕ) → List Row → List Row → Kit
items ty count ns answered = one own_ref own_ref ns (list_answer 'f 2 count ∷ answered) ++ (refs (list_of ty ∷ []) ∷ [])

-- leaves, of the nodes from `node` on; and an object of this type, without fields
abbrev leaves : (node n : ℕ) → List Row
leaves node zero = []
leaves node (suc n) = leaf_of 0 node ∷ leaves (suc node) n

abbrev object_of : ℕ → Row
object_of n = object_answer 0 n 0 0

abbrev pub error_runs : List Case
error_runs =
    -- `f: Int` answers an error
    f_fails "error 1: an error answer" (one :Int :Int [] (errs 'f ∷ [])) 1 (selection 0) ∷
    -- `f: Int` has no answer row: "no row is an error"
    f_fails "error 1: no answer row" (over (queries (field 'f :Int ∷ []) ∷ sets (set 0 1 ∷ []) ∷ selections (ask 'f :Int ∷ []) ∷ answers (object_answer 0 'Query 1 0 ∷ []) ∷ [])) 1 (selection 0) ∷
    -- `f: Int!` answers null: it goes up to the root
    answered "error 2: null for non-null" (one :Int! :Int! (null_node ∷ []) (leaf_of 'f 0 ∷ [])) "null" (error 2 (selection 0) (name 'f ∷ []) ∷ []) ∷
    -- its neighbour: `f: Int` answers null, and that is no error
    answered "error 2: null where it may be" (one :Int :Int (null_node ∷ []) (leaf_of 'f 0 ∷ [])) "{\"f\":null}" [] ∷
    -- `f: [O]` answers an object
    f_fails "error 3: an object at a list type" (one :[O] :[O] [] (object_answer 'f 'O 0 0 ∷ [])) 3 (selection 0) ∷
    -- `f: Int` answers a list
    f_fails "error 4: a list for a non-list type" (one :Int :Int [] (list_answer 'f 2 0 ∷ [])) 4 (selection 0) ∷
    -- `f: [Nope]`, which is not defined, answers 1 and an object
    answered "error 5: an undefined type" (items :Nope 2 (whole_number 1 0 ∷ []) (leaf_of 0 0 ∷ object_of 'O ∷ [])) "{\"f\":[null,null]}" (item_fails 5 0 ∷ item_fails 5 1 ∷ []) ∷
    -- `f: [P]`, an input object, answers 1 and an object
    answered "error 6: an input object type" (items :P 2 (whole_number 1 0 ∷ []) (leaf_of 0 0 ∷ object_of 'O ∷ [])) "{\"f\":[null,null]}" (item_fails 6 0 ∷ item_fails 6 1 ∷ []) ∷
    -- `f: [Int]` answers an object; the least and the greatest that fit; -2^31 - 1, 2^31 and 2^63 - 1; 2^63, "x" and 1.5
    answered "errors 7, 14 and 15: Int" (items :Int 9
    (negative_number 2147483648 0 ∷ whole_number 2147483647 0 ∷ negative_number 2147483649 0 ∷ whole_number 2147483648 0 ∷ whole_number 4294967295 2147483647 ∷
    whole_number 0 2147483648 ∷ string_node 'x ∷ float_node one_and_a_half ∷ []) (object_of 'O ∷ leaves 0 8))
    "{\"f\":[null,-2147483648,2147483647,null,null,null,null,null,null]}"
    (item_fails 7 0 ∷ item_fails 14 3 ∷ item_fails 14 4 ∷ item_fails 14 5 ∷ item_fails 15 6 ∷ item_fails 15 7 ∷ item_fails 15 8 ∷ []) ∷
    -- `f: [E]`, `enum E { a b }`, answers an object, "x", 1 and "b"
    answered "errors 7 and 13: an enum" (items :E 4 (string_node 'x ∷ whole_number 1 0 ∷ string_node 'b ∷ []) (object_of 'O ∷ leaves 0 3)) "{\"f\":[null,null,null,\"b\"]}"
    (item_fails 7 0 ∷ item_fails 13 1 ∷ item_fails 13 2 ∷ []) ∷
    -- `f: [U]`, `union U = O`, answers objects of type Nope, E (an enum), R and O, and 1
    answered "errors 8, 9 and 12: a union; reading 3" (items :U 5 (whole_number 1 0 ∷ []) (object_of 'Nope ∷ object_of 'E ∷ object_of 'R ∷ object_of 'O ∷ leaf_of 0 0 ∷ [])) "{\"f\":[null,null,null,{},null]}"
    (item_fails 8 0 ∷ item_fails 8 1 ∷ item_fails 9 2 ∷ item_fails 12 4 ∷ []) ∷
    -- `f: [I]` answers objects of type Nope, I itself, R, and O, which implements I, and 1
    answered "errors 8, 10 and 12: an interface; reading 3" (items :I 5 (whole_number 1 0 ∷ []) (object_of 'Nope ∷ object_of 'I ∷ object_of 'R ∷ object_of 'O ∷ leaf_of 0 0 ∷ [])) "{\"f\":[null,null,null,{},null]}"
    (item_fails 8 0 ∷ item_fails 8 1 ∷ item_fails 10 2 ∷ item_fails 12 4 ∷ []) ∷
    -- `f: [O]` answers objects of type R, Nope and O, and 1
    answered "errors 11 and 12: an object type; reading 3" (items :O 4 (whole_number 1 0 ∷ []) (object_of 'R ∷ object_of 'Nope ∷ object_of 'O ∷ leaf_of 0 0 ∷ [])) "{\"f\":[null,null,{},null]}"
    (item_fails 11 0 ∷ item_fails 11 1 ∷ item_fails 12 3 ∷ []) ∷
    -- `f: [Float]` answers 1.5 and 1; `f: [String]` 1 and a string of all that is escaped; `f: [Boolean]` 1 and false
    answered "error 15: Float" (items :Float 2 (float_node one_and_a_half ∷ whole_number 1 0 ∷ []) (leaves 0 2)) "{\"f\":[1.5,null]}" (item_fails 15 1 ∷ []) ∷
    answered "error 15: String" (items :String 2 (whole_number 1 0 ∷ escaped_node ∷ []) (leaves 0 2)) "{\"f\":[null,\"\\\"\\\\\\b\\f\\n\\r\\t\\u0001\"]}" (item_fails 15 0 ∷ []) ∷
    answered "error 15: Boolean" (items :Boolean 2 (whole_number 1 0 ∷ false_node ∷ []) (leaves 0 2)) "{\"f\":[null,false]}" (item_fails 15 0 ∷ []) ∷
    -- `f: [ID]` answers 1.5, 2^63, -2^63 and "x"
    answered "error 15: ID" (items :ID 4 (float_node one_and_a_half ∷ whole_number 0 2147483648 ∷ negative_number 0 2147483648 ∷ string_node 'x ∷ []) (leaves 0 4))
    "{\"f\":[null,null,-9223372036854775808,\"x\"]}" (item_fails 15 0 ∷ item_fails 15 1 ∷ []) ∷
    -- `f: Any` answers `{"b": true, "a": [2^64 - 1]}`
    answered "error 15: any JSON at another scalar" (one :Any :Any (object_node 1 2 ∷ under_text 'b true_node ∷ under_text 'a (array_node 3 1) ∷ whole_number 4294967295 4294967295 ∷ []) (leaf_of 'f 0 ∷ []))
    "{\"f\":{\"b\":true,\"a\":[18446744073709551615]}}" [] ∷
    -- `f(x: Int!)` given `null`
    f_fails "error 16: a null argument" (echo :Int! (null_literal ∷ [])) 16 (definition 0) ∷
    -- `f(x: [Int!])` given `[1, null]`
    f_fails "error 17: an inner null" (echo :[Int!] (list_literal 2 2 ∷ int_literal 1 ∷ null_literal ∷ [])) 17 (literal 3) ∷
    -- `f(x: [Int!])` given `[$v]`, v null, absent, and 7
    f_fails "error 18: a null variable" (echo :[Int!] (list_literal 2 1 ∷ variable 'v ∷ []) ++ v_is (null_node ∷ [])) 18 (literal 2) ∷
    f_fails "error 19: a missing variable" (echo :[Int!] (list_literal 2 1 ∷ variable 'v ∷ [])) 19 (literal 2) ∷
    answered "error 19: a variable that is there" (echo :[Int!] (list_literal 2 1 ∷ variable 'v ∷ []) ++ v_is (whole_number 7 0 ∷ [])) "{\"f\":[7]}" [] ∷
    -- `f(x: Nope)` given `1`
    f_fails "error 20: an undefined argument type" (echo :Nope (int_literal 1 ∷ [])) 20 (literal 1) ∷
    -- `f(x: P)` given `{b: 1, y: 1}`, `{a: 1}`, `1`, and `{b: 1}`
    f_fails "error 21: an unknown key" (echo :P (object_literal 2 2 ∷ under 'b (int_literal 1) ∷ under 'y (int_literal 1) ∷ [])) 21 (literal 1) ∷
    f_fails "error 22: a missing input field" (echo :P (object_literal 2 1 ∷ under 'a (int_literal 1) ∷ [])) 22 (literal 1) ∷
    f_fails "error 23: can't coerce" (echo :P (int_literal 1 ∷ [])) 23 (literal 1) ∷
    answered "error 23: an input object" (echo :P (object_literal 2 1 ∷ under 'b (int_literal 1) ∷ [])) "{\"f\":{\"a\":5,\"b\":1}}" [] ∷
    -- `f(x: Int!)` without x
    f_fails "error 24: a missing argument" (over (queries (field_with 'f :Any 0 1 ∷ []) ∷ arguments (argument 'x :Int! ∷ []) ∷ sets (set 0 1 ∷ []) ∷ selections (ask 'f :Any ∷ []) ∷ answers (object_answer 0 'Query 1 1 ∷ echoes 'f 'x ∷ []) ∷ [])) 24 (definition 0) ∷
    -- `{f {g f}}` with `f: [O]`, `g: Int`: two objects, of which the second answers true to g
    answered "a path through objects and lists" (over
    (queries (field 'f :[O] ∷ []) ∷ sets (set 0 1 ∷ set 1 2 ∷ []) ∷ selections (ask_in 'f :[O] 1 ∷ ask 'g :Int ∷ ask 'f :Int ∷ []) ∷ nodes (whole_number 1 0 ∷ true_node ∷ []) ∷
    answers (object_answer 0 'Query 1 1 ∷ list_answer 'f 2 2 ∷ object_answer 0 'O 4 2 ∷ object_answer 0 'O 6 2 ∷ leaf_of 'g 0 ∷ leaf_of 'f 0 ∷ leaf_of 'f 0 ∷ leaf_of 'g 1 ∷ []) ∷ []))
    "{\"f\":[{\"g\":1,\"f\":1},{\"g\":null,\"f\":1}]}" (error 15 (selection 1) (name 'f ∷ index 1 ∷ name 'g ∷ []) ∷ []) ∷
    []
