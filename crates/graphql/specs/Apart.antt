-- Five runs that the cases A to N leave out and that tell the definition apart from its neighbours: each refutes one that all the cases
-- let through. The other worked runs stand in the crates `limits` and `worked`.
use Rattle.std.specs.Prelude.{List, [], ◌∷◌}
use Rattle.graphql.specs.Run.{name, index}
use Rattle.graphql.specs.Kit.{'Query, 'f, 'a, 'b, 'y, 'v, 'F, queries, sets, selections, fragments, nodes, answers, selection, literal, field, set, if_true, ask, spread, fragment, object_literal, variable, under, whole_number, errs, leaf_of, list_answer, object_answer, :Int, :[Int], :[Int]!, :P, over, one, echo, Case, error, f_fails, chosen, answered, refused_at}

abbrev pub apart_runs : List Case
apart_runs =
    -- attached `[Int]`, own `[Int]!`, an error item: it goes up past the list, and the own type lets it go further
    answered "reading 1: an error item, by the own type" (one :[Int]! :[Int] [] (list_answer 'f 2 1 ∷ errs 0 ∷ [])) "null" (error 1 (selection 0) (name 'f ∷ index 0 ∷ []) ∷ []) ∷
    -- `{...F @skip(if: true) ...F}` with `fragment F on Query {f}`
    answered "a dropped spread is not marked" (over
    (queries (field 'f :Int ∷ []) ∷ sets (set 0 2 ∷ set 2 1 ∷ []) ∷ selections (spread if_true 'F ∷ spread 0 'F ∷ ask 'f :Int ∷ []) ∷ fragments (fragment 'F 'Query 1 ∷ []) ∷
    nodes (whole_number 1 0 ∷ []) ∷ answers (object_answer 0 'Query 1 1 ∷ leaf_of 'f 0 ∷ []) ∷ [])) "{\"f\":1}" [] ∷
    -- `x: P` given `{b: $v}`, v absent
    f_fails "reading 12: 19 inside an object" (echo :P (object_literal 2 1 ∷ under 'b (variable 'v) ∷ [])) 19 (literal 2) ∷
    -- `{f y a}` with Int, errors, where y is not defined: choice 2 of three groups is the third, so an undefined group is counted
    chosen "choices: an undefined group is counted" (over
    (queries (field 'f :Int ∷ field 'a :Int ∷ []) ∷ sets (set 0 3 ∷ []) ∷ selections (ask 'f :Int ∷ ask 'y :Int ∷ ask 'a :Int ∷ []) ∷
    answers (object_answer 0 'Query 1 2 ∷ errs 'f ∷ errs 'a ∷ []) ∷ [])) (2 ∷ []) "{\"f\":null,\"a\":null}"
    (error 1 (selection 2) (name 'a ∷ []) ∷ error 1 (selection 0) (name 'f ∷ []) ∷ []) ∷
    -- `{"f":1}` has 7 bytes
    refused_at "code 6: too short by one" (one :Int :Int (whole_number 1 0 ∷ []) (leaf_of 'f 0 ∷ [])) 6 16384 [] 6 ∷
    []
