-- A chapter's rules say of its own tables, with nothing in the others' place, what they say of all. Assumes nothing.
use mathlib.Core.Path.{◌≡◌, refl}
use mathlib.Core.List.{[]}
use Rattle.tables.specs.Tables.{Tables, tables}
use Rattle.tables.specs.Rules.{schema_says, document_says, value_says}
use Rattle.tables.specs.declared.rule.SchemaRule.{SchemaRule}
use Rattle.tables.specs.declared.rule.SchemaRule.TheVariants as schema
use Rattle.tables.specs.declared.rule.DocumentRule.{DocumentRule}
use Rattle.tables.specs.declared.rule.DocumentRule.TheVariants as document
use Rattle.tables.specs.declared.rule.ValueRule.{ValueRule}
use Rattle.tables.specs.declared.rule.ValueRule.TheVariants as value

-- names, types and fields
pub schema_same : (T : Tables) (r : SchemaRule)
    → schema_says r (tables T.pool T.names T.refs T.types T.members T.fields T.arguments [] [] [] [] [] T.literals [] [] T.root) ≡ schema_says r T
schema_same T schema.NameSpelled = refl
schema_same T schema.NameReserved = refl
schema_same T schema.NamesDiffer = refl
schema_same T schema.TypeReference = refl
schema_same T schema.TypeRow = refl
schema_same T schema.TypeParts = refl
schema_same T schema.TypeNamesDiffer = refl
schema_same T schema.Member = refl
schema_same T schema.FieldRow = refl
schema_same T schema.FieldNamesDiffer = refl
schema_same T schema.ArgumentRow = refl
schema_same T schema.ArgumentNamesDiffer = refl
schema_same T schema.RootType = refl

-- the operation
pub document_same : (T : Tables) (r : DocumentRule)
    → document_says r (tables [] T.names T.refs [] [] [] [] T.sets T.selections T.given T.fragments [] T.literals [] [] 0) ≡ document_says r T
document_same T document.SetRow = refl
document_same T document.SelectionRow = refl
document_same T document.GivenRow = refl
document_same T document.GivenNamesDiffer = refl
document_same T document.FragmentRow = refl
document_same T document.FragmentNamesDiffer = refl
document_same T document.ChildSetsLarger = refl
document_same T document.SelectionOwnsAlone = refl
document_same T document.FragmentOwnsAlone = refl

-- nodes, literals, variables and answers
pub value_same : (T : Tables) (r : ValueRule)
    → value_says r (tables T.pool T.names [] [] [] [] [] [] [] [] [] T.nodes T.literals T.variables T.answers 0) ≡ value_says r T
value_same T value.NodeRow = refl
value_same T value.NodeKey = refl
value_same T value.NodeKeysDiffer = refl
value_same T value.LiteralRow = refl
value_same T value.LiteralKeysDiffer = refl
value_same T value.VariableRow = refl
value_same T value.VariableNamesDiffer = refl
value_same T value.AnswerRow = refl
value_same T value.AnswerNamesDiffer = refl
value_same T value.RootAnswer = refl
