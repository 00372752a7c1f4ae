-- Runs of which everything is told, the data as a tree and the log as it was written: what the statements on order hang on, a null that no
-- resolver answered, a selection set given up, an item skipped, shows in no report.
use Rattle.std.specs.Prelude.{List, [], ◌∷◌, ℕ}
use Rattle.rows.specs.Ascii.{ascii}
use Rattle.graphql.specs.Run.{name, index, Path, Event, err, given_up, skipped, Choices}
use Rattle.graphql.specs.Json.{null, natural}
use Rattle.graphql.specs.Data.{Data, nulled, leaf, list, object, no_entry, entry, no_field, field}
use Rattle.graphql.specs.Report.{Ended, answered_with}
use Rattle.graphql.specs.Kit.{'f, 'g, 'a, 'b, 'y, 'O, Kit, queries, sets, selections, nodes, answers, selection, set, ask, ask_in, null_literal, null_node, whole_number, skips, errs, leaf_of, list_answer, object_answer, :Int, :Int!, :[[Int]], :O, :[O], over, one, echo, error}
use Rattle.graphql.specs.Kit as kit
use Rattle.graphql.specs.Cases.{A, B, D, K}

pub record Account : Type 0 where
  pub kit : Kit
  pub choices : Choices
  pub ended : Ended

-- the data `{"f": ..}`, and an error of this code in the field at a selection
abbrev f_is : Data → Data
f_is d = object (field (ascii "f") d no_field)

abbrev failing : ℕ → ℕ → Path → Event
failing code row path = err (error code (selection row) path)

abbrev pub accounts : List Account
accounts =
    -- B: 42, a skipped item, and an item nulled for `"x"`
    record {
      kit = B.kit;
      choices = [];
      ended = answered_with (f_is (list (entry (leaf (natural 42)) (entry nulled no_entry))))
          (skipped (name 'f ∷ index 1 ∷ []) ∷ failing 15 0 (name 'f ∷ index 2 ∷ []) ∷ []);
    } ∷
    -- D: the list is nulled
    record { kit = D.kit; choices = []; ended = answered_with (f_is nulled) (failing 2 0 (name 'f ∷ index 1 ∷ []) ∷ []) } ∷
    -- K: the operation's set is given up
    record { kit = K.kit; choices = K.choices; ended = answered_with nulled (given_up [] ∷ failing 1 1 (name 'b ∷ []) ∷ []) } ∷
    -- a null that a resolver answered at `f: Int`, and one that is echoed
    record { kit = one :Int :Int (null_node ∷ []) (leaf_of 'f 0 ∷ []); choices = []; ended = answered_with (f_is (leaf null)) [] } ∷
    record { kit = echo :Int (null_literal ∷ []); choices = []; ended = answered_with (f_is (leaf null)) [] } ∷
    -- A: an error item fails its list, which the field's own type takes; and a field that its own type takes
    record { kit = A.kit; choices = []; ended = answered_with (f_is nulled) (failing 1 0 (name 'f ∷ index 1 ∷ []) ∷ []) } ∷
    record { kit = one :Int :Int [] (errs 'f ∷ []); choices = []; ended = answered_with (f_is nulled) (failing 1 0 (name 'f ∷ []) ∷ []) } ∷
    -- `{f{g} g a y}` with `f: O`, `g: [[Int]]`, `a: Int`, which is skipped, and no y: all goes well, and nothing is noted
    record {
      kit = over
          (queries (kit.field 'f :O ∷ kit.field 'g :[[Int]] ∷ kit.field 'a :Int ∷ []) ∷ sets (set 0 4 ∷ set 4 1 ∷ []) ∷
          selections (ask_in 'f :O 1 ∷ ask 'g :[[Int]] ∷ ask 'a :Int ∷ ask 'y :Int ∷ ask 'g :Int ∷ []) ∷ nodes (whole_number 1 0 ∷ []) ∷
          answers (object_answer 0 0 1 3 ∷ object_answer 'f 'O 4 1 ∷ list_answer 'g 5 1 ∷ skips 'a ∷ leaf_of 'g 0 ∷ list_answer 0 6 1 ∷ leaf_of 0 0 ∷ []) ∷ []);
      choices = [];
      ended = answered_with
          (object (field (ascii "f") (object (field (ascii "g") (leaf (natural 1)) no_field))
          (field (ascii "g") (list (entry (list (entry (leaf (natural 1)) no_entry)) no_entry)) no_field))) [];
    } ∷
    -- `{f{f}}` with `f: [O]`, an object whose `f: Int!` fails: its set is given up, and the item nulled
    record {
      kit = over
          (queries (kit.field 'f :[O] ∷ []) ∷ sets (set 0 1 ∷ set 1 1 ∷ []) ∷ selections (ask_in 'f :[O] 1 ∷ ask 'f :Int! ∷ []) ∷
          answers (object_answer 0 0 1 1 ∷ list_answer 'f 2 1 ∷ object_answer 0 'O 3 1 ∷ errs 'f ∷ []) ∷ []);
      choices = [];
      ended = answered_with (f_is (list (entry nulled no_entry))) (given_up (name 'f ∷ index 0 ∷ []) ∷ failing 1 1 (name 'f ∷ index 0 ∷ name 'f ∷ []) ∷ []);
    } ∷
    []
