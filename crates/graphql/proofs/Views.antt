-- The views are as their tables say: the definition computes each. Assumes nothing.
use mathlib.Core.Path.{◌≡◌, refl}
use mathlib.Core.List.{List, map}
use mathlib.Core.Bool.{Bool}
use Prim.Native.Nat.{ℕ}
use Rattle.rows.specs.declared.json.Node.{Node}
use Rattle.rows.specs.declared.json.Literal.{Literal}
use Rattle.graphql.specs.Json.{Json}
use Rattle.graphql.specs.Values.{NodeForm, node_form, LiteralForm, literal_form}
use Rattle.graphql.specs.Complete.{takes}
use Rattle.graphql.specs.Views.{scalars, taken, node_forms, literal_forms}
use Rattle.graphql.proofs.Computing.{computing}

pub taken_right : map (λ (v : Json × List Bool). map (λ (n : ℕ). takes n v.0) scalars) taken ≡ map (λ (v : Json × List Bool). v.1) taken
unfolding computing
taken_right = refl

pub nodes_right : map (λ (v : Node × NodeForm). node_form v.0) node_forms ≡ map (λ (v : Node × NodeForm). v.1) node_forms
unfolding computing
nodes_right = refl

pub literals_right : map (λ (v : Literal × LiteralForm). literal_form v.0) literal_forms ≡ map (λ (v : Literal × LiteralForm). v.1) literal_forms
unfolding computing
literals_right = refl
