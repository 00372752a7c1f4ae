-- Worked runs: what document 01 means where it can be read two ways, each run named after the reading in docs/READINGS.md that it
-- shows. Reading 3 is among the error codes, those about limits among the limits, 24 among the orders; a run each of 1 and 12 is told
-- beside the cases. The schema is the one in Kit.
use Rattle.std.specs.Prelude.{List, [], ◌∷◌, ◌++◌, ℕ}
use Prim.Native.String.{String}
use Rattle.graphql.specs.Run.{name, index}
use Rattle.rows.specs.Names.{'typename}
use Rattle.graphql.specs.Kit.{'Query, 'f, 'g, 'a, 'b, 'x, 'y, 'v, 'Any, 'O, 'R, 'I, 'U, 'Nope, 'F, 'G, one_and_a_half, ten_to_400, Row, Kit, queries, arguments, sets, selections, given, fragments, nodes, literals, variables, answers, selection, definition, literal, field, field_with, argument, argument_by, set, if_false, if$, select, ask, ask_in, ask_with, spread, inline, inline_on, fragment, giving, null_literal, int_literal, float_literal, string_literal, list_literal, object_literal, enum_literal, variable, under, null_node, false_node, true_node, whole_number, string_node, array_node, skips, errs, leaf_of, list_answer, object_answer, echoes, :Int, :Int!, :[Int], :[Int!], :[Int!]!, :[[Int]], :[[Int]!], :Float, :String!, :Any, :[Any], :E, :O, :I, :U, :P, :[P], :Nope, :[Nope], schema_without_string, over, one, echo, echo_default, v_is, Case, error, f_fails, answered, refuses}

-- ---- types, lists, leaves

-- `{f {..}}` with `f: O`, whose fields are answered `f` 1 and `g` 2; the child set is set 1, from selection 1 on
abbrev in_o : (children : List Row) → (parts : Kit) → Kit
in_o children parts = over
    (queries (field 'f :O ∷ []) ∷ selections (ask_in 'f :O 1 ∷ children) ∷ nodes (whole_number 1 0 ∷ whole_number 2 0 ∷ []) ∷
    answers (object_answer 0 'Query 1 1 ∷ object_answer 'f 'O 2 2 ∷ leaf_of 'f 0 ∷ leaf_of 'g 1 ∷ []) ∷ parts)

abbrev pub completing_runs : List Case
completing_runs =
    -- attached `[Int!]`, own `[Int!]!`, a null item: the attached list is null
    answered "reading 1: a failed item, by the attached type" (one :[Int!]! :[Int!] (null_node ∷ []) (list_answer 'f 2 1 ∷ leaf_of 0 0 ∷ [])) "{\"f\":null}" (error 2 (selection 0) (name 'f ∷ index 0 ∷ []) ∷ []) ∷
    -- `f: [[Int]]` answers [[error]]: the inner list fails, and is an item that may be null; in `[[Int]!]` it may not
    answered "reading 1: an error item of an inner list" (one :[[Int]] :[[Int]] [] (list_answer 'f 2 1 ∷ list_answer 0 3 1 ∷ errs 0 ∷ [])) "{\"f\":[null]}" (error 1 (selection 0) (name 'f ∷ index 0 ∷ index 0 ∷ []) ∷ []) ∷
    answered "reading 1: an error item of an inner list that may not be null" (one :[[Int]!] :[[Int]!] [] (list_answer 'f 2 1 ∷ list_answer 0 3 1 ∷ errs 0 ∷ [])) "{\"f\":null}" (error 1 (selection 0) (name 'f ∷ index 0 ∷ index 0 ∷ []) ∷ []) ∷
    -- `f: [Int]` answers the leaf `[1]`; `f(x: [Int]): [Int]` answers x, `[1]`; `f: Nope` answers a list
    f_fails "reading 2: a leaf array is no list" (one :[Int] :[Int] (array_node 1 1 ∷ whole_number 1 0 ∷ []) (leaf_of 'f 0 ∷ [])) 3 (selection 0) ∷
    f_fails "reading 2: an echoed array is no list" (over
    (queries (field_with 'f :[Int] 0 1 ∷ []) ∷ arguments (argument 'x :[Int] ∷ []) ∷ sets (set 0 1 ∷ []) ∷ selections (ask_with 'f :[Int] 0 1 ∷ []) ∷ given (giving 'x 1 ∷ []) ∷
    literals (list_literal 2 1 ∷ int_literal 1 ∷ []) ∷ answers (object_answer 0 'Query 1 1 ∷ echoes 'f 'x ∷ []) ∷ [])) 3 (selection 0) ∷
    f_fails "reading 2: a list at an undefined type is 4" (one :Nope :Nope [] (list_answer 'f 2 0 ∷ [])) 4 (selection 0) ∷
    -- `{f {__typename}}` with `f: O`, attached to String!, to Int, and with no String among the types: it goes up to f
    answered "reading 4: __typename" (in_o (ask 'typename :String! ∷ []) (sets (set 0 1 ∷ set 1 1 ∷ []) ∷ [])) "{\"f\":{\"__typename\":\"O\"}}" [] ∷
    answered "reading 4: __typename attached to Int" (in_o (ask 'typename :Int ∷ []) (sets (set 0 1 ∷ set 1 1 ∷ []) ∷ [])) "{\"f\":null}" (error 15 (selection 1) (name 'f ∷ name 'typename ∷ []) ∷ []) ∷
    answered "reading 4: no String among the types" (schema_without_string ++ (sets (set 0 1 ∷ []) ∷ selections (ask 'typename :String! ∷ []) ∷ answers (object_answer 0 'Query 1 0 ∷ []) ∷ [])) "null" (error 5 (selection 0) (name 'typename ∷ []) ∷ []) ∷
    -- `{f {... on I {g} ... on Nope {f} ... on Any {f}}}` with `type O implements I & Nope & Any`, where Nope is not defined and Any is a scalar
    answered "reading 5: interfaces that are none" (in_o (inline_on 'I 2 ∷ inline_on 'Nope 3 ∷ inline_on 'Any 4 ∷ ask 'g :Int ∷ ask 'f :Int ∷ ask 'f :Int ∷ []) (sets (set 0 1 ∷ set 1 3 ∷ set 4 1 ∷ set 5 1 ∷ set 6 1 ∷ []) ∷ [])) "{\"f\":{\"g\":2}}" [] ∷
    -- `{f {... on O {g} ... on U {f} ... on R {x: f} ... {y: g}}}` with `f: O`, `union U = O`
    answered "fragments on an object, a union, another object, and on no type" (in_o
    (inline_on 'O 2 ∷ inline_on 'U 3 ∷ inline_on 'R 4 ∷ inline 0 5 ∷ ask 'g :Int ∷ ask 'f :Int ∷ select 0 0 'f 'x :Int ∷ select 0 0 'g 'y :Int ∷ [])
    (sets (set 0 1 ∷ set 1 4 ∷ set 5 1 ∷ set 6 1 ∷ set 7 1 ∷ set 8 1 ∷ []) ∷ []))
    "{\"f\":{\"g\":2,\"f\":1,\"y\":2}}" [] ∷
    -- `f: [Int]` answers 1, an error and another error
    answered "reading 6: after an error item no item is taken" (one :[Int] :[Int] (whole_number 1 0 ∷ []) (list_answer 'f 2 3 ∷ leaf_of 0 0 ∷ errs 0 ∷ errs 0 ∷ [])) "{\"f\":null}" (error 1 (selection 0) (name 'f ∷ index 1 ∷ []) ∷ []) ∷
    -- `f: [Any]` answers a list of an echo of x, which it does not have; `f(x: Int): [Any]` a list of two
    answered "reading 7: an echo without its argument fails the list" (one :[Any] :[Any] [] (list_answer 'f 2 1 ∷ echoes 0 'x ∷ [])) "{\"f\":null}" (error 1 (selection 0) (name 'f ∷ index 0 ∷ []) ∷ []) ∷
    answered "reading 7: an echo in a list" (over
    (queries (field_with 'f :[Any] 0 1 ∷ []) ∷ arguments (argument 'x :Int ∷ []) ∷ sets (set 0 1 ∷ []) ∷ selections (ask_with 'f :[Any] 0 1 ∷ []) ∷ given (giving 'x 1 ∷ []) ∷
    literals (int_literal 3 ∷ []) ∷ answers (object_answer 0 'Query 1 1 ∷ list_answer 'f 2 2 ∷ echoes 0 'x ∷ echoes 0 'x ∷ []) ∷ []))
    "{\"f\":[3,3]}" [] ∷
    -- `f: Int!` answers skip
    answered "a skipped field is left out" (one :Int! :Int! [] (skips 'f ∷ [])) "{}" [] ∷
    []

-- ---- arguments

-- x, echoed, is this text
abbrev echoed : String → Kit → String → Case
echoed label kit text = answered label kit text []

-- `{f(..)}` with two arguments `x: T` and `y: Int!`, given in the other order by the literals 1 (x) and 2 (y); f answers x
abbrev two_arguments : ℕ → List Row → Kit
two_arguments ty ls = over
    (queries (field_with 'f :Any 0 2 ∷ []) ∷ arguments (argument 'x ty ∷ argument 'y :Int! ∷ []) ∷ sets (set 0 1 ∷ []) ∷ selections (ask_with 'f :Any 0 2 ∷ []) ∷
    given (giving 'y 2 ∷ giving 'x 1 ∷ []) ∷ literals ls ∷ answers (object_answer 0 'Query 1 1 ∷ echoes 'f 'x ∷ []) ∷ [])

abbrev pub argument_runs : List Case
argument_runs =
    -- defaults: `x: [Int] = 1`, `x: P = {}`, `x: Int! = null`, `x: Nope = 1`
    echoed "reading 8: a default is not wrapped" (echo_default :[Int] (int_literal 1 ∷ [])) "{\"f\":1}" ∷
    echoed "reading 8: a default is not filled" (echo_default :P (object_literal 2 0 ∷ [])) "{\"f\":{}}" ∷
    echoed "reading 8: a default is not checked" (echo_default :Int! (null_literal ∷ [])) "{\"f\":null}" ∷
    echoed "reading 8: a default's type is not looked up" (echo_default :Nope (int_literal 1 ∷ [])) "{\"f\":1}" ∷
    -- `{b: 1, a: 2}` at `x: P` and at `x: Any`
    echoed "reading 9: an input object in the type's order" (echo :P (object_literal 2 2 ∷ under 'b (int_literal 1) ∷ under 'a (int_literal 2) ∷ [])) "{\"f\":{\"a\":2,\"b\":1}}" ∷
    echoed "reading 9: part by part in its own order" (echo :Any (object_literal 2 2 ∷ under 'b (int_literal 1) ∷ under 'a (int_literal 2) ∷ [])) "{\"f\":{\"b\":1,\"a\":2}}" ∷
    -- `x: P` given `{a: $v, b: 1}`, v absent, where `a: Int = 5`
    echoed "reading 10: an absent variable over a default" (echo :P (object_literal 2 2 ∷ under 'a (variable 'v) ∷ under 'b (int_literal 1) ∷ [])) "{\"f\":{\"a\":null,\"b\":1}}" ∷
    -- `x: P` given `{b: 1, x: {y: 1}}` and `{b: 1, x: {}}`: at the inner object; `x: [Nope]` given `[1]` and `x: [P]` given `[1]`: at the item
    f_fails "reading 11: 21 at the whole object" (echo :P (object_literal 2 2 ∷ under 'b (int_literal 1) ∷ under 'x (object_literal 4 1) ∷ under 'y (int_literal 1) ∷ [])) 21 (literal 3) ∷
    f_fails "reading 11: 22 at the whole object" (echo :P (object_literal 2 2 ∷ under 'b (int_literal 1) ∷ under 'x (object_literal 4 0) ∷ [])) 22 (literal 3) ∷
    f_fails "reading 11: 20 at an inner item" (echo :[Nope] (list_literal 2 1 ∷ int_literal 1 ∷ [])) 20 (literal 2) ∷
    f_fails "reading 11: 23 at an inner item" (echo :[P] (list_literal 2 1 ∷ int_literal 1 ∷ [])) 23 (literal 2) ∷
    f_fails "reading 11: 23 at what was wrapped" (echo :[P] (int_literal 1 ∷ [])) 23 (literal 1) ∷
    -- `x: Int!` given `$v`, v null, and absent; `x: Int! = 1` given `$v`, v absent; `x: P` given `{b: $v}`, v null, and absent
    f_fails "reading 12: 16 for a null variable" (echo :Int! (variable 'v ∷ []) ++ v_is (null_node ∷ [])) 16 (definition 0) ∷
    f_fails "reading 12: 24 for an absent variable" (echo :Int! (variable 'v ∷ [])) 24 (definition 0) ∷
    echoed "reading 12: an absent variable and a default" (over
    (queries (field_with 'f :Any 0 1 ∷ []) ∷ arguments (argument_by 'x :Int! 1 ∷ []) ∷ sets (set 0 1 ∷ []) ∷ selections (ask_with 'f :Any 0 1 ∷ []) ∷ given (giving 'x 2 ∷ []) ∷
    literals (int_literal 1 ∷ variable 'v ∷ []) ∷ answers (object_answer 0 'Query 1 1 ∷ echoes 'f 'x ∷ []) ∷ []))
    "{\"f\":1}" ∷
    f_fails "reading 12: 17 inside an object" (echo :P (object_literal 2 1 ∷ under 'b null_literal ∷ [])) 17 (literal 2) ∷
    f_fails "reading 12: 18 inside an object" (echo :P (object_literal 2 1 ∷ under 'b (variable 'v) ∷ []) ++ v_is (null_node ∷ [])) 18 (literal 2) ∷
    -- `x: [Nope]` given `[]` and `[null]`; `x: Nope` given `null`, and `$v`, v 1
    echoed "reading 13: an undefined type and an empty list" (echo :[Nope] (list_literal 2 0 ∷ [])) "{\"f\":[]}" ∷
    echoed "reading 13: an undefined type and an inner null" (echo :[Nope] (list_literal 2 1 ∷ null_literal ∷ [])) "{\"f\":[null]}" ∷
    echoed "reading 13: an undefined type and null" (echo :Nope (null_literal ∷ [])) "{\"f\":null}" ∷
    echoed "reading 13: an undefined type and a variable" (echo :Nope (variable 'v ∷ []) ++ v_is (whole_number 1 0 ∷ [])) "{\"f\":1}" ∷
    -- `f(x: Int!, y: Int!)` given `(y: null, x: null)` and `(y: null, x: 1)`
    f_fails "reading 14: definition order" (two_arguments :Int! (null_literal ∷ null_literal ∷ [])) 16 (definition 0) ∷
    f_fails "reading 14: the second argument fails" (two_arguments :Int! (int_literal 1 ∷ null_literal ∷ [])) 16 (definition 1) ∷
    -- `f: Any` given `(x: [$v])`: x has no definition, so f answers an error and there is no code 5
    f_fails "reading 14: an argument without a definition" (over
    (queries (field 'f :Any ∷ []) ∷ sets (set 0 1 ∷ []) ∷ selections (ask_with 'f :Any 0 1 ∷ []) ∷ given (giving 'x 1 ∷ []) ∷ literals (list_literal 2 1 ∷ variable 'v ∷ []) ∷
    answers (object_answer 0 'Query 1 1 ∷ echoes 'f 'x ∷ []) ∷ [])) 1 (selection 0) ∷
    -- `{f(x: 1) f(x: 2)}`
    echoed "reading 14: the first merged field's arguments" (over
    (queries (field_with 'f :Any 0 1 ∷ []) ∷ arguments (argument 'x :Int ∷ []) ∷ sets (set 0 2 ∷ []) ∷ selections (ask_with 'f :Any 0 1 ∷ ask_with 'f :Any 1 1 ∷ []) ∷
    given (giving 'x 1 ∷ giving 'x 2 ∷ []) ∷ literals (int_literal 1 ∷ int_literal 2 ∷ []) ∷ answers (object_answer 0 'Query 1 1 ∷ echoes 'f 'x ∷ []) ∷ []))
    "{\"f\":1}" ∷
    -- `x: P` given `{b: null, y: 1}`
    f_fails "reading 15: 21 before the values" (echo :P (object_literal 2 2 ∷ under 'b null_literal ∷ under 'y (int_literal 1) ∷ [])) 21 (literal 1) ∷
    -- `x: Int` given `["x"]`; `x: E` given `g`, which is no value of E; `x: O`, `x: I`, `x: U` given `{y: a}`
    echoed "reading 16: Int given a list of a string" (echo :Int (list_literal 2 1 ∷ string_literal 'x ∷ [])) "{\"f\":[\"x\"]}" ∷
    echoed "reading 16: an enum name that is no value" (echo :E (enum_literal 'g ∷ [])) "{\"f\":\"g\"}" ∷
    echoed "reading 16: an object type" (echo :O (object_literal 2 1 ∷ under 'y (enum_literal 'a) ∷ [])) "{\"f\":{\"y\":\"a\"}}" ∷
    echoed "reading 16: an interface" (echo :I (object_literal 2 1 ∷ under 'y (enum_literal 'a) ∷ [])) "{\"f\":{\"y\":\"a\"}}" ∷
    echoed "reading 16: a union" (echo :U (object_literal 2 1 ∷ under 'y (enum_literal 'a) ∷ [])) "{\"f\":{\"y\":\"a\"}}" ∷
    -- `f(x: Float): Float` given `1`
    f_fails "reading 16: the literal 1 echoed at Float" (over
    (queries (field_with 'f :Float 0 1 ∷ []) ∷ arguments (argument 'x :Float ∷ []) ∷ sets (set 0 1 ∷ []) ∷ selections (ask_with 'f :Float 0 1 ∷ []) ∷ given (giving 'x 1 ∷ []) ∷
    literals (int_literal 1 ∷ []) ∷ answers (object_answer 0 'Query 1 1 ∷ echoes 'f 'x ∷ []) ∷ [])) 15 (selection 0) ∷
    -- `x: [Int]` given `[[$v]]`, and `[$v]`, v absent; `x: Any` given `$v`, `[$v]` and `{a: $v}`
    refuses "reading 17: a variable inside a list inside a list" (echo :[Int] (list_literal 2 1 ∷ list_literal 3 1 ∷ variable 'v ∷ [])) 5 ∷
    echoed "reading 17: a variable inside a list" (echo :[Int] (list_literal 2 1 ∷ variable 'v ∷ [])) "{\"f\":[null]}" ∷
    refuses "code 5: a variable inside a list at a scalar" (echo :Any (list_literal 2 1 ∷ variable 'v ∷ [])) 5 ∷
    refuses "code 5: a variable inside an object at a scalar" (echo :Any (object_literal 2 1 ∷ under 'a (variable 'v) ∷ [])) 5 ∷
    echoed "code 5: a variable alone at a scalar" (echo :Any (variable 'v ∷ []) ++ v_is (true_node ∷ [])) "{\"f\":true}" ∷
    -- `x: P` given `$v`, v 1; `x: [Int!]` given `[$v]`, v `[null]`; `x: [Int]` given `$v`, v 1: not wrapped
    echoed "reading 18: an input object type and any value" (echo :P (variable 'v ∷ []) ++ v_is (whole_number 1 0 ∷ [])) "{\"f\":1}" ∷
    echoed "reading 18: a null inside a variable's value" (echo :[Int!] (list_literal 2 1 ∷ variable 'v ∷ []) ++ v_is (array_node 1 1 ∷ null_node ∷ [])) "{\"f\":[[null]]}" ∷
    echoed "reading 18: a variable is not wrapped" (echo :[Int] (variable 'v ∷ []) ++ v_is (whole_number 1 0 ∷ [])) "{\"f\":1}" ∷
    -- `f(x: Int!, y: Int!)` given `(y: [$v], x: null)`: y is not built, so there is no code 5
    f_fails "reading 19: arguments after a failure are not built" (two_arguments :Int! (null_literal ∷ list_literal 3 1 ∷ variable 'v ∷ [])) 16 (definition 0) ∷
    -- its neighbour `(y: [$v], x: 1)`
    refuses "reading 19: arguments before a failure are built" (two_arguments :Int! (int_literal 1 ∷ list_literal 3 1 ∷ variable 'v ∷ [])) 5 ∷
    -- `x: Any` given `{a: 1.5, b: 1e400}`
    echoed "reading 20: keys are names, floats as spelled" (echo :Any (object_literal 2 2 ∷ under 'a (float_literal one_and_a_half) ∷ under 'b (float_literal ten_to_400) ∷ [])) "{\"f\":{\"a\":1.5,\"b\":1e400}}" ∷
    -- `x: [[Int]]` given `1` and `[[1]]`
    echoed "wrapped once per level" (echo :[[Int]] (int_literal 1 ∷ [])) "{\"f\":[[1]]}" ∷
    echoed "not wrapped where it is a list" (echo :[[Int]] (list_literal 2 1 ∷ list_literal 3 1 ∷ int_literal 1 ∷ [])) "{\"f\":[[1]]}" ∷
    []

-- ---- collecting

-- `{..}` with `f: Int` and `g: Int`, answered 1 and 2, and `a: O`, whose `f` and `g` are answered so too
abbrev fields12 : Kit → Kit
fields12 parts = over
    (queries (field 'f :Int ∷ field 'g :Int ∷ field 'a :O ∷ field 'b :O ∷ []) ∷ nodes (whole_number 1 0 ∷ whole_number 2 0 ∷ []) ∷
    answers (object_answer 0 'Query 1 4 ∷ leaf_of 'f 0 ∷ leaf_of 'g 1 ∷ object_answer 'a 'O 1 2 ∷ object_answer 'b 'O 1 2 ∷ []) ∷ parts)

-- `{f @skip(if: $v) g @include(if: $v)}`
abbrev by_v : Kit → Kit
by_v value = fields12 (sets (set 0 2 ∷ []) ∷ selections (select (if$ 'v) 0 'f 'f :Int ∷ select 0 (if$ 'v) 'g 'g :Int ∷ []) ∷ value)

-- v, after the two nodes of the fields
abbrev v_after : Row → Kit
v_after node = nodes (node ∷ []) ∷ variables (giving 'v 2 ∷ []) ∷ []

abbrev pub collecting_runs : List Case
collecting_runs =
    -- `{f @skip(if: $v) g @include(if: $v)}` with v true, false, "x" and absent
    answered "skip and include by a variable that is true" (by_v (v_after true_node)) "{\"g\":2}" [] ∷
    answered "skip and include by a variable that is false" (by_v (v_after false_node)) "{\"f\":1}" [] ∷
    answered "skip and include by a variable that is no boolean" (by_v (v_after (string_node 'x))) "{\"f\":1,\"g\":2}" [] ∷
    answered "skip and include by an absent variable" (by_v []) "{\"f\":1,\"g\":2}" [] ∷
    -- `{f @skip(if: false) @include(if: false)}`
    answered "not skipped and not included" (fields12 (sets (set 0 1 ∷ []) ∷ selections (select if_false if_false 'f 'f :Int ∷ []) ∷ [])) "{}" [] ∷
    -- `{...F g ...F}` with `fragment F on Query {f}`, `{...G f}` with no G, and `{...F g}` with `fragment F on O {f}`
    answered "a spread that is visited again" (fields12 (sets (set 0 3 ∷ set 3 1 ∷ []) ∷ selections (spread 0 'F ∷ ask 'g :Int ∷ spread 0 'F ∷ ask 'f :Int ∷ []) ∷ fragments (fragment 'F 'Query 1 ∷ []) ∷ [])) "{\"f\":1,\"g\":2}" [] ∷
    answered "a spread of an undefined fragment" (fields12 (sets (set 0 2 ∷ []) ∷ selections (spread 0 'G ∷ ask 'f :Int ∷ []) ∷ [])) "{\"f\":1}" [] ∷
    answered "a spread on another type" (fields12 (sets (set 0 2 ∷ set 2 1 ∷ []) ∷ selections (spread 0 'F ∷ ask 'g :Int ∷ ask 'f :Int ∷ []) ∷ fragments (fragment 'F 'O 1 ∷ []) ∷ [])) "{\"g\":2}" [] ∷
    -- `{a {...F} b {...F}}` with `fragment F on O {g}`
    answered "marks live for one collection" (fields12 (sets (set 0 2 ∷ set 2 1 ∷ set 3 1 ∷ set 4 1 ∷ []) ∷ selections (ask_in 'a :O 1 ∷ ask_in 'b :O 2 ∷ spread 0 'F ∷ spread 0 'F ∷ ask 'g :Int ∷ []) ∷ fragments (fragment 'F 'O 3 ∷ []) ∷ [])) "{\"a\":{\"g\":2},\"b\":{\"g\":2}}" [] ∷
    -- `{a {g} f a {f}}`
    answered "merged child sets" (fields12 (sets (set 0 3 ∷ set 3 1 ∷ set 4 1 ∷ []) ∷ selections (ask_in 'a :O 1 ∷ ask 'f :Int ∷ ask_in 'a :O 2 ∷ ask 'g :Int ∷ ask 'f :Int ∷ []) ∷ [])) "{\"a\":{\"g\":2,\"f\":1},\"f\":1}" [] ∷
    -- `{x: y  x: f  g}` and `{x: f  x: y  g}`, where y is not defined
    answered "a group whose first field is not defined" (fields12 (sets (set 0 3 ∷ []) ∷ selections (select 0 0 'y 'x :Int ∷ select 0 0 'f 'x :Int ∷ ask 'g :Int ∷ []) ∷ [])) "{\"g\":2}" [] ∷
    answered "a group whose second field is not defined" (fields12 (sets (set 0 3 ∷ []) ∷ selections (select 0 0 'f 'x :Int ∷ select 0 0 'y 'x :Int ∷ ask 'g :Int ∷ []) ∷ [])) "{\"x\":1,\"g\":2}" [] ∷
    []

abbrev pub reading_runs : List Case
reading_runs = completing_runs ++ (argument_runs ++ collecting_runs)
