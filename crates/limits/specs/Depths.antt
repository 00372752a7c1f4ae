-- Worked depth checks: the two of document 01, the readings 26 and 27, and both sides of each limit. The document is all that counts; the
-- names 8 and 9 are `fields` and `interfaces`.
use Rattle.std.specs.Prelude.{List, [], ◌∷◌, ◌++◌, ℕ, zero, suc}
use Prim.Native.String.{String}
use Rattle.rows.specs.Names.{'schema, 'fields, 'interfaces}
use Rattle.graphql.specs.Kit.{'Query, 'f, 'Nope, 'F, 'G, Row, Kit, sets, selections, fragments, answers, selection, set, if_false, if_true, select, ask, ask_in, spread, inline, inline_on, fragment, object_answer, :Any, over, DepthCase}
use Rattle.limits.specs.Runs.{inline_chain}

-- a document: sets, selections and fragments
abbrev document : (sets selections fragments : List Row) → Kit
document ss rows fs = over (sets ss ∷ selections rows ∷ fragments fs ∷ answers (object_answer 0 'Query 1 0 ∷ []) ∷ [])

abbrev depth_of : String → Kit → ℕ → DepthCase
depth_of label kit depth = record { label = label; kit = kit; code = 0; depth = depth; place = 0 }

abbrev too_deep_at : String → Kit → ℕ → DepthCase
too_deep_at label kit place = record { label = label; kit = kit; code = 8; depth = 0; place = place }

abbrev refused : String → Kit → ℕ → DepthCase
refused label kit code = record { label = label; kit = kit; code = code; depth = 0; place = 0 }

-- fields and interfaces, each without a child set and with one
abbrev fields' : Row
fields' = ask 'fields :Any

abbrev fields_in : ℕ → Row
fields_in set = ask_in 'fields :Any set

abbrev interfaces' : Row
interfaces' = ask 'interfaces :Any

abbrev interfaces_in : ℕ → Row
interfaces_in set = ask_in 'interfaces :Any set

-- n sets of one selection, each of an inline fragment with the next set, and a last set with the selection given
abbrev open_sets : (next n : ℕ) → List Row
open_sets next zero = set next 1 ∷ []
open_sets next (suc n) = set next 1 ∷ open_sets (suc next) n

-- Two selections of set 0: an inline fragment that leads to a 33rd open set, and a field that leads to a third list, at selection 35. Sets 1 to 32
-- are the first one's, 33 and 34 the second one's.
abbrev too_many_or_too_deep : (first second : Row) → Kit
too_many_or_too_deep first second = document (set 0 2 ∷ (open_sets 2 31 ++ (set 34 1 ∷ set 35 1 ∷ [])))
    (first ∷ second ∷ (inline_chain 2 31 ++ (fields' ∷ interfaces_in 34 ∷ fields' ∷ []))) []

abbrev pub worked_depths : List DepthCase
worked_depths =
    -- F = {fields}: `{...F fields {interfaces {...F}}}` and `{fields {interfaces {...F}} ...F}`
    depth_of "document 01: F first" (document (set 0 2 ∷ set 2 1 ∷ set 3 1 ∷ set 4 1 ∷ []) (spread 0 'F ∷ fields_in 1 ∷ interfaces_in 2 ∷ spread 0 'F ∷ fields' ∷ []) (fragment 'F 'Query 3 ∷ [])) 2 ∷
    too_deep_at "document 01: F last" (document (set 0 2 ∷ set 2 1 ∷ set 3 1 ∷ set 4 1 ∷ []) (fields_in 1 ∷ spread 0 'F ∷ interfaces_in 2 ∷ spread 0 'F ∷ fields' ∷ []) (fragment 'F 'Query 3 ∷ [])) (selection 4) ∷
    -- F = {fields {interfaces}} and G = {...F}: `{...F ...G fields {interfaces {...G}}}`, and the same without the leading ...F
    depth_of "reading 26: F met again inside G adds nothing to G" (document (set 0 3 ∷ set 3 1 ∷ set 4 1 ∷ set 5 1 ∷ set 6 1 ∷ set 7 1 ∷ [])
    (spread 0 'F ∷ spread 0 'G ∷ fields_in 1 ∷ interfaces_in 2 ∷ spread 0 'G ∷ fields_in 4 ∷ interfaces' ∷ spread 0 'F ∷ []) (fragment 'F 'Query 3 ∷ fragment 'G 'Query 5 ∷ [])) 2 ∷
    too_deep_at "reading 26: F met first inside G" (document (set 0 2 ∷ set 2 1 ∷ set 3 1 ∷ set 4 1 ∷ set 5 1 ∷ set 6 1 ∷ [])
    (spread 0 'G ∷ fields_in 1 ∷ interfaces_in 2 ∷ spread 0 'G ∷ fields_in 4 ∷ interfaces' ∷ spread 0 'F ∷ []) (fragment 'F 'Query 3 ∷ fragment 'G 'Query 5 ∷ [])) (selection 3) ∷
    -- F = {...F}, and F = {fields {...F}}
    refused "reading 27: a fragment that spreads itself" (document (set 0 1 ∷ set 1 1 ∷ []) (spread 0 'F ∷ spread 0 'F ∷ []) (fragment 'F 'Query 1 ∷ [])) 3 ∷
    too_deep_at "reading 27: a fragment that spreads itself deeper" (document (set 0 1 ∷ set 1 1 ∷ set 2 1 ∷ []) (spread 0 'F ∷ fields_in 2 ∷ spread 0 'F ∷ []) (fragment 'F 'Query 1 ∷ [])) (selection 1) ∷
    -- `{fields {interfaces}}` and `{fields {interfaces {fields}}}`; `{fields {f {interfaces}}}`
    depth_of "depth 2" (document (set 0 1 ∷ set 1 1 ∷ []) (fields_in 1 ∷ interfaces' ∷ []) []) 2 ∷
    too_deep_at "depth 3" (document (set 0 1 ∷ set 1 1 ∷ set 2 1 ∷ []) (fields_in 1 ∷ interfaces_in 2 ∷ fields' ∷ []) []) (selection 2) ∷
    depth_of "other fields do not raise it" (document (set 0 1 ∷ set 1 1 ∷ set 2 1 ∷ []) (fields_in 1 ∷ ask_in 'f :Any 2 ∷ interfaces' ∷ []) []) 2 ∷
    depth_of "depth 0" (document (set 0 1 ∷ []) (ask 'f :Any ∷ []) []) 0 ∷
    -- `{possibleTypes {inputFields}}`, the names 10 and 11; `{__type {__schema}}`, the names 7 and 6, which a depth check lets pass
    depth_of "the names 10 and 11" (document (set 0 1 ∷ set 1 1 ∷ []) (ask_in 10 :Any 1 ∷ ask 11 :Any ∷ []) []) 2 ∷
    depth_of "the names 6 and 7, and no code 2" (document (set 0 1 ∷ set 1 1 ∷ []) (ask_in 7 :Any 1 ∷ ask 'schema :Any ∷ []) []) 0 ∷
    -- F = {fields {interfaces}}: met again at depth 1 it comes to 3, at depth 2 to over 3
    depth_of "a fragment met again, 3" (document (set 0 2 ∷ set 2 1 ∷ set 3 1 ∷ set 4 1 ∷ []) (spread 0 'F ∷ fields_in 1 ∷ spread 0 'F ∷ fields_in 3 ∷ interfaces' ∷ []) (fragment 'F 'Query 2 ∷ [])) 2 ∷
    too_deep_at "a fragment met again, over 3" (document (set 0 2 ∷ set 2 1 ∷ set 3 1 ∷ set 4 1 ∷ set 5 1 ∷ []) (spread 0 'F ∷ fields_in 1 ∷ interfaces_in 2 ∷ spread 0 'F ∷ fields_in 4 ∷ interfaces' ∷ []) (fragment 'F 'Query 3 ∷ [])) (selection 3) ∷
    -- F = {fields}: `{...F f {...F}}`: met again it does not raise the result
    depth_of "a fragment met again does not raise the result" (document (set 0 2 ∷ set 2 1 ∷ set 3 1 ∷ []) (spread 0 'F ∷ ask_in 'f :Any 1 ∷ spread 0 'F ∷ fields' ∷ []) (fragment 'F 'Query 2 ∷ [])) 1 ∷
    -- `{...G fields}` with no G
    depth_of "an undefined fragment is passed over" (document (set 0 2 ∷ []) (spread 0 'G ∷ fields' ∷ []) []) 1 ∷
    -- `{fields @skip(if: true) @include(if: false)}`, and `{... on Nope {fields}}`, where Nope is not defined
    depth_of "skip and include are ignored" (document (set 0 1 ∷ []) (select if_true if_false 'fields 'fields :Any ∷ []) []) 1 ∷
    depth_of "a type condition is ignored" (document (set 0 1 ∷ set 1 1 ∷ []) (inline_on 'Nope 1 ∷ fields' ∷ []) []) 1 ∷
    -- `{... {... {fields}}}`: set 0 and 31 more, set 0 and 32 more; the last field has no child set, and opens none
    depth_of "32 open sets" (document (open_sets 0 31) (inline_chain 1 31 ++ (fields' ∷ [])) []) 1 ∷
    refused "33 open sets" (document (open_sets 0 32) (inline_chain 1 32 ++ (fields' ∷ [])) []) 3 ∷
    -- a field's and a fragment's set count as well: `{... {... {f {fields}}}}` and `{... {... {...F}}}`
    refused "33 open sets, the last a field's" (document (open_sets 0 32) (inline_chain 1 31 ++ (ask_in 'f :Any 32 ∷ fields' ∷ [])) []) 3 ∷
    refused "33 open sets, the last a fragment's" (document (open_sets 0 32) (inline_chain 1 31 ++ (spread 0 'F ∷ fields' ∷ [])) (fragment 'F 'Query 32 ∷ [])) 3 ∷
    depth_of "32 open sets, the last a field's" (document (open_sets 0 31) (inline_chain 1 30 ++ (ask_in 'f :Any 31 ∷ fields' ∷ [])) []) 1 ∷
    depth_of "32 open sets, the last a fragment's" (document (open_sets 0 31) (inline_chain 1 30 ++ (spread 0 'F ∷ fields' ∷ [])) (fragment 'F 'Query 31 ∷ [])) 1 ∷
    -- an empty set is opened too
    refused "33 open sets, the last an empty one" (document (open_sets 0 31 ++ (set 32 0 ∷ [])) (inline_chain 1 32) []) 3 ∷
    -- 3 and 8, by which is reached first
    refused "3 is reached before 8" (too_many_or_too_deep (inline 0 1) (fields_in 33)) 3 ∷
    too_deep_at "8 is reached before 3" (too_many_or_too_deep (fields_in 33) (inline 0 1)) (selection 35) ∷
    -- no set at all; and "depth 3" with a further set whose selection is not there
    refused "a table breaks a rule" (document [] [] []) 1 ∷
    refused "1 comes before 8" (document (set 0 1 ∷ set 1 1 ∷ set 2 1 ∷ set 9 1 ∷ []) (fields_in 1 ∷ interfaces_in 2 ∷ fields' ∷ []) []) 1 ∷
    []
