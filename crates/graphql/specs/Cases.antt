-- "Runs that settle a reading": the cases A to N of document 01, as one table under one statement.
use Rattle.std.specs.Prelude.{List, [], ◌∷◌}
use Rattle.graphql.specs.Run.{name, index}
use Rattle.graphql.specs.Kit.{'Query, 'f, 'g, 'a, 'b, 'x, 'y, 'v, Kit, queries, sets, selections, nodes, answers, selection, field, set, if_true, if$, select, ask, int_literal, list_literal, null_node, whole_number, string_node, skips, errs, leaf_of, list_answer, object_answer, :Int, :Int!, :[Int], :[Int!], :[Int!]!, :[[Int]], :Float, over, one, echo, Case, error, chosen, answered, refused_at}

-- A: `[Int]`, 42 then error
abbrev pub A : Case
A = answered "A" (one :[Int] :[Int] (whole_number 42 0 ∷ []) (list_answer 'f 2 2 ∷ leaf_of 0 0 ∷ errs 0 ∷ []))
    "{\"f\":null}" (error 1 (selection 0) (name 'f ∷ index 1 ∷ []) ∷ [])

-- B: `[Int]`, 42, skip, `"x"`
abbrev pub B : Case
B = answered "B" (one :[Int] :[Int] (whole_number 42 0 ∷ string_node 'x ∷ []) (list_answer 'f 2 3 ∷ leaf_of 0 0 ∷ skips 0 ∷ leaf_of 0 1 ∷ []))
    "{\"f\":[42,null]}" (error 15 (selection 0) (name 'f ∷ index 2 ∷ []) ∷ [])

-- C, D: `[Int!]!` and `[Int!]`, 1 then null
abbrev C : Case
C = answered "C" (one :[Int!]! :[Int!]! (whole_number 1 0 ∷ null_node ∷ []) (list_answer 'f 2 2 ∷ leaf_of 0 0 ∷ leaf_of 0 1 ∷ []))
    "null" (error 2 (selection 0) (name 'f ∷ index 1 ∷ []) ∷ [])

abbrev pub D : Case
D = answered "D" (one :[Int!] :[Int!] (whole_number 1 0 ∷ null_node ∷ []) (list_answer 'f 2 2 ∷ leaf_of 0 0 ∷ leaf_of 0 1 ∷ []))
    "{\"f\":null}" (error 2 (selection 0) (name 'f ∷ index 1 ∷ []) ∷ [])

-- E, F: Int, 2147483648 and 9223372036854775808
abbrev E : Case
E = answered "E" (one :Int :Int (whole_number 2147483648 0 ∷ []) (leaf_of 'f 0 ∷ [])) "{\"f\":null}" (error 14 (selection 0) (name 'f ∷ []) ∷ [])

abbrev F : Case
F = answered "F" (one :Int :Int (whole_number 0 2147483648 ∷ []) (leaf_of 'f 0 ∷ [])) "{\"f\":null}" (error 15 (selection 0) (name 'f ∷ []) ∷ [])

-- G: Float, integer 1
abbrev G : Case
G = answered "G" (one :Float :Float (whole_number 1 0 ∷ []) (leaf_of 'f 0 ∷ [])) "{\"f\":null}" (error 15 (selection 0) (name 'f ∷ []) ∷ [])

-- H: `{x:f @skip(if:$v) y:g x:f}`, v absent, f 1, g 2, both Int
abbrev H : Case
H = answered "H" (over
    (queries (field 'f :Int ∷ field 'g :Int ∷ []) ∷ sets (set 0 3 ∷ []) ∷
    selections (select (if$ 'v) 0 'f 'x :Int ∷ select 0 0 'g 'y :Int ∷ select 0 0 'f 'x :Int ∷ []) ∷
    nodes (whole_number 1 0 ∷ whole_number 2 0 ∷ []) ∷ answers (object_answer 0 'Query 1 2 ∷ leaf_of 'f 0 ∷ leaf_of 'g 1 ∷ []) ∷ []))
    "{\"x\":1,\"y\":2}" []

-- I: `{f @skip(if:true) @include(if:true)}`
abbrev I : Case
I = answered "I" (over
    (queries (field 'f :Int ∷ []) ∷ sets (set 0 1 ∷ []) ∷ selections (select if_true if_true 'f 'f :Int ∷ []) ∷
    answers (object_answer 0 'Query 1 0 ∷ []) ∷ []))
    "{}" []

-- J, K: `{a b}`, `Int!`, both errors, K with choice 1
abbrev both : Kit
both = over
    (queries (field 'a :Int! ∷ field 'b :Int! ∷ []) ∷ sets (set 0 2 ∷ []) ∷ selections (ask 'a :Int! ∷ ask 'b :Int! ∷ []) ∷
    answers (object_answer 0 'Query 1 2 ∷ errs 'a ∷ errs 'b ∷ []) ∷ [])

abbrev J : Case
J = answered "J" both "null" (error 1 (selection 0) (name 'a ∷ []) ∷ [])

abbrev pub K : Case
K = chosen "K" both (1 ∷ []) "null" (error 1 (selection 1) (name 'b ∷ []) ∷ [])

-- L: Int 1, buffer of 1 byte
abbrev L : Case
L = refused_at "L" (one :Int :Int (whole_number 1 0 ∷ []) (leaf_of 'f 0 ∷ [])) 1 16384 [] 6

-- M: `[[Int]]` argument `[1,2]` echoed as a custom scalar
abbrev M : Case
M = answered "M" (echo :[[Int]] (list_literal 2 2 ∷ int_literal 1 ∷ int_literal 2 ∷ [])) "{\"f\":[[1],[2]]}" []

-- N: `[Int]`, leaf 5
abbrev N : Case
N = answered "N" (one :[Int] :[Int] (whole_number 5 0 ∷ []) (leaf_of 'f 0 ∷ [])) "{\"f\":null}" (error 3 (selection 0) (name 'f ∷ []) ∷ [])

abbrev pub cases : List Case
cases = A ∷ B ∷ C ∷ D ∷ E ∷ F ∷ G ∷ H ∷ I ∷ J ∷ K ∷ L ∷ M ∷ N ∷ []
