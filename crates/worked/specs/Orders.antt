-- Worked runs: orders, and what demand 3's hypotheses are for.
use Rattle.std.specs.Prelude.{List, [], ◌∷◌, ℕ}
use Rattle.rows.specs.Ascii.{ascii}
use Rattle.graphql.specs.Run.{name, index}
use Rattle.graphql.specs.Kit.{'Query, 'f, 'g, 'a, 'b, 'x, 'v, 'O, Row, Kit, queries, arguments, sets, selections, given, nodes, literals, answers, selection, field, field_with, argument, set, ask, ask_in, ask_with, giving, list_literal, variable, whole_number, string_node, skips, errs, leaf_of, list_answer, object_answer, :Int, :Int!, :[Int], :Any, :O, over, one, Case, error, chosen, answered, refused_at, refuses}
use Rattle.limits.specs.Runs.{arrays, many, sets_of_many}

-- `{a b}` with these own types, which are attached too; the answers to a and b are the rows 1 and 2
abbrev pair : (a b : ℕ) → List Row → List Row → Kit
pair a b ns answered = over
    (queries (field 'a a ∷ field 'b b ∷ []) ∷ sets (set 0 2 ∷ []) ∷ selections (ask 'a a ∷ ask 'b b ∷ []) ∷ nodes ns ∷
    answers (object_answer 0 'Query 1 2 ∷ answered) ∷ [])

-- `{a b}` with `a: Int` and `b: Int`, both errors
abbrev two_errors : Kit
two_errors = pair :Int :Int [] (errs 'a ∷ errs 'b ∷ [])

-- `{a b}` with `a: Int` and `b: Int!`, both errors
abbrev second_gives_up : Kit
second_gives_up = pair :Int :Int! [] (errs 'a ∷ errs 'b ∷ [])

-- `{a b}` with `a: Int!`, an error, and `b: Any`, a leaf of 33 containers
abbrev fails_or_stops : Kit
fails_or_stops = pair :Int! :Any (arrays 0 33 (whole_number 1 0)) (errs 'a ∷ leaf_of 'b 0 ∷ [])

-- `{a b(x: [$v])}` with `a: Any`, a leaf of 33 containers, and `b(x: Any): Any`, v absent
abbrev stops_both_ways : Kit
stops_both_ways = over
    (queries (field 'a :Any ∷ field_with 'b :Any 0 1 ∷ []) ∷ arguments (argument 'x :Any ∷ []) ∷ sets (set 0 2 ∷ []) ∷
    selections (ask 'a :Any ∷ ask_with 'b :Any 0 1 ∷ []) ∷ given (giving 'x 1 ∷ []) ∷ literals (list_literal 2 1 ∷ variable 'v ∷ []) ∷
    nodes (arrays 0 33 (whole_number 1 0)) ∷ answers (object_answer 0 'Query 1 2 ∷ leaf_of 'a 0 ∷ errs 'b ∷ []) ∷ [])

-- `{a {f ..} b}` with `a: O`, f 129 times, and `b: Int!`, an error
abbrev fails_or_is_too_many : Kit
fails_or_is_too_many = over
    (queries (field 'a :O ∷ field 'b :Int! ∷ []) ∷ sets (set 0 2 ∷ set 2 9 ∷ sets_of_many 2) ∷ selections (ask_in 'a :O 1 ∷ ask 'b :Int! ∷ many 2 (ask 'f :Int)) ∷
    answers (object_answer 0 'Query 1 2 ∷ object_answer 'a 'O 1 0 ∷ errs 'b ∷ []) ∷ [])

-- `{a {f g} b {f g}}` with `a: O`, `b: O`, in which `f: Int!` and `g: Int` are errors
abbrev two_objects : Kit
two_objects = over
    (queries (field 'a :O ∷ field 'b :O ∷ []) ∷ sets (set 0 2 ∷ set 2 2 ∷ set 4 2 ∷ []) ∷
    selections (ask_in 'a :O 1 ∷ ask_in 'b :O 2 ∷ ask 'f :Int! ∷ ask 'g :Int ∷ ask 'f :Int! ∷ ask 'g :Int ∷ []) ∷
    answers (object_answer 0 'Query 1 2 ∷ object_answer 'a 'O 3 2 ∷ object_answer 'b 'O 3 2 ∷ errs 'f ∷ errs 'g ∷ []) ∷ [])

-- `{f g a}` with Int, all errors
abbrev three_errors : Kit
three_errors = over
    (queries (field 'f :Int ∷ field 'g :Int ∷ field 'a :Int ∷ []) ∷ sets (set 0 3 ∷ []) ∷ selections (ask 'f :Int ∷ ask 'g :Int ∷ ask 'a :Int ∷ []) ∷
    answers (object_answer 0 'Query 1 3 ∷ errs 'f ∷ errs 'g ∷ errs 'a ∷ []) ∷ [])

-- `{a b}` with `a: [Int]`, an item that is skipped, and `b: Int!`, an error
abbrev skips_or_not : Kit
skips_or_not = pair :[Int] :Int! [] (list_answer 'a 3 1 ∷ errs 'b ∷ skips 0 ∷ [])

abbrev pub order_runs : List Case
order_runs =
    -- nothing is given up: the same data, and the same records in another order
    answered "order: two errors, a first" two_errors "{\"a\":null,\"b\":null}" (error 1 (selection 0) (name 'a ∷ []) ∷ error 1 (selection 1) (name 'b ∷ []) ∷ []) ∷
    chosen "order: two errors, b first" two_errors (1 ∷ []) "{\"a\":null,\"b\":null}" (error 1 (selection 1) (name 'b ∷ []) ∷ error 1 (selection 0) (name 'a ∷ []) ∷ []) ∷
    -- a set is given up: a's record is there in one order alone
    answered "order: a set given up late" second_gives_up "null" (error 1 (selection 0) (name 'a ∷ []) ∷ error 1 (selection 1) (name 'b ∷ []) ∷ []) ∷
    chosen "order: a set given up early" second_gives_up (1 ∷ []) "null" (error 1 (selection 1) (name 'b ∷ []) ∷ []) ∷
    -- the same with an error buffer of 5 words: 7 in one order, 0 in the other
    refused_at "order: two records do not fit" second_gives_up 65536 5 [] 7 ∷
    record {
      label = "order: one record fits";
      kit = second_gives_up;
      text_room = 65536;
      error_room = 5;
      choices = 1 ∷ [];
      code = 0;
      text = ascii "null";
      errors = error 1 (selection 1) (name 'b ∷ []) ∷ [];
    } ∷
    -- a fails first, so that b's leaf is never taken; in the other order it is
    answered "order: answered where another stops with 3" fails_or_stops "null" (error 1 (selection 0) (name 'a ∷ []) ∷ []) ∷
    refused_at "order: stops with 3 where another is answered" fails_or_stops 65536 16384 (1 ∷ []) 3 ∷
    refuses "order: stops with 4 where another is answered" fails_or_is_too_many 4 ∷
    chosen "order: answered where another stops with 4" fails_or_is_too_many (1 ∷ []) "null" (error 1 (selection 1) (name 'b ∷ []) ∷ []) ∷
    -- two codes, by which is reached first
    refuses "order: 3 is reached first" stops_both_ways 3 ∷
    refused_at "order: 5 is reached first" stops_both_ways 65536 16384 (1 ∷ []) 5 ∷
    -- choices 5 and 7: of three groups the third, of two the second, then 0 as they have run out
    chosen "choices: modulo the groups left" three_errors (5 ∷ 7 ∷ []) "{\"f\":null,\"g\":null,\"a\":null}"
    (error 1 (selection 2) (name 'a ∷ []) ∷ error 1 (selection 1) (name 'g ∷ []) ∷ error 1 (selection 0) (name 'f ∷ []) ∷ []) ∷
    -- a's set is given up at f, and leaves 9 to the root and 1 to b's set, where g goes first
    chosen "reading 24: a set that is given up leaves the rest to others" two_objects (0 ∷ 0 ∷ 9 ∷ 1 ∷ []) "{\"a\":null,\"b\":null}"
    (error 1 (selection 2) (name 'a ∷ name 'f ∷ []) ∷ error 1 (selection 5) (name 'b ∷ name 'g ∷ []) ∷ error 1 (selection 4) (name 'b ∷ name 'f ∷ []) ∷ []) ∷
    answered "reading 24: the same in document order" two_objects "{\"a\":null,\"b\":null}"
    (error 1 (selection 2) (name 'a ∷ name 'f ∷ []) ∷ error 1 (selection 4) (name 'b ∷ name 'f ∷ []) ∷ []) ∷
    -- an item is skipped in one order alone, before the set is given up
    answered "order: an item that is skipped" skips_or_not "null" (error 1 (selection 1) (name 'b ∷ []) ∷ []) ∷
    chosen "order: an item that is not reached" skips_or_not (1 ∷ []) "null" (error 1 (selection 1) (name 'b ∷ []) ∷ []) ∷
    -- `f: [Int]` answers a skipped item and "x": the null stands at 0, and its record at 1
    answered "a null after a skipped item has its record elsewhere" (one :[Int] :[Int] (string_node 'x ∷ []) (list_answer 'f 2 2 ∷ skips 0 ∷ leaf_of 0 0 ∷ [])) "{\"f\":[null]}"
    (error 15 (selection 0) (name 'f ∷ index 1 ∷ []) ∷ []) ∷
    []
