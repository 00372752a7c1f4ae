-- A rule by its number, and the number of a rule. Assumes nothing.
use mathlib.Core.Path.{◌≡◌, refl, sym, ◌∙◌}
use mathlib.Core.List.{List, [], ◌∷◌, ◌++◌, map}
use Prim.Native.Nat.{ℕ, zero, suc, ◌+◌, ◌-◌, ◌≤◌, ◌<◌}
use native.Mathlib.Nat.{not-suc-le-zero, le_of_suc-le-suc, zero-add, suc-add}
use native.Mathlib.Omega.{arith}
use denote.Enum.Declared.{tag_of}
use lib.ListN.{length, get_or, get_or-map}
use Rattle.tables.specs.Rules.{size_rules, size_rule, schema_rules, schema_rule, document_rules, document_rule, value_rules, value_rule, rule_at}
use Rattle.tables.specs.declared.rule.Rule.{Rule}
use Rattle.tables.specs.declared.rule.Rule.TheVariants as rule
use Rattle.tables.specs.contracts.rule.SizeRule.{the_type as the_size_type}
use Rattle.tables.specs.contracts.rule.SchemaRule.{the_type as the_schema_type}
use Rattle.tables.specs.contracts.rule.DocumentRule.{the_type as the_document_type}
use Rattle.tables.specs.contracts.rule.ValueRule.{the_type as the_value_type}
use Rattle.tables.specs.declared.rule.SizeRule.TheVariants as size
use Rattle.tables.specs.declared.rule.SchemaRule.TheVariants as schema
use Rattle.tables.specs.declared.rule.DocumentRule.TheVariants as document
use Rattle.tables.specs.declared.rule.ValueRule.TheVariants as value

-- a number that is none of those below b, and not b
pub past : (b k : ℕ) → b ≤ k → (k ≡ b → ⊥) → b + 1 ≤ k
past b k l x = omega arith

abbrev last : Rule
last = rule.Value value.RootAnswer

abbrev after_document : List Rule
after_document = map rule.Value value_rules

abbrev after_schema : List Rule
after_schema = map rule.Document document_rules ++ after_document

abbrev after_size : List Rule
after_size = map rule.Schema schema_rules ++ after_schema

module _ {A B : Type 0} (f : A → B) (d : B) where
  -- in the first list
  pub front : (l : List A) (r : List B) (e : A) (k : ℕ) → k < length l → f (get_or l k e) ≡ get_or (map f l ++ r) k d
  front [] r e k h = absurd (not-suc-le-zero h)
  front (a ∷ l) r e zero h = refl
  front (a ∷ l) r e (suc k) h = front l r e k (le_of_suc-le-suc h)

  shifted : (l : List A) (r : List B) (k : ℕ) → get_or r k d ≡ get_or (map f l ++ r) (length l + k) d
  shifted [] r k = rw zero-add
  shifted (a ∷ l) r k = rw suc-add (shifted l r k)

  -- after it
  pub back : (l : List A) (r : List B) (k j : ℕ) → length l + j ≡ k → get_or r j d ≡ get_or (map f l ++ r) k d
  back l r k j e = rw (← e) (shifted l r j)

-- the rules of each chapter, where they stand among all
pub rule_size : (k : ℕ) → k < 14 → rule.Size (size_rule k) ≡ rule_at k
unfolding rule_at
rule_size k h = front rule.Size last size_rules after_size size.Answers k h

pub rule_schema : (k : ℕ) → 14 ≤ k → k < 27 → rule.Schema (schema_rule (k - 14)) ≡ rule_at k
unfolding rule_at
rule_schema k l h =
    front rule.Schema last schema_rules after_schema schema.RootType (k - 14) (omega arith)
    ∙ back rule.Size last size_rules after_size k (k - 14) (omega arith)

pub rule_document : (k : ℕ) → 27 ≤ k → k < 36 → rule.Document (document_rule (k - 27)) ≡ rule_at k
unfolding rule_at
rule_document k l h =
    front rule.Document last document_rules after_document document.FragmentOwnsAlone (k - 27) (omega arith)
    ∙ back rule.Schema last schema_rules after_schema (k - 14) (k - 27) (omega arith)
    ∙ back rule.Size last size_rules after_size k (k - 14) (omega arith)

pub rule_value : (k : ℕ) → 36 ≤ k → rule.Value (value_rule (k - 36)) ≡ rule_at k
unfolding rule_at
rule_value k l =
    sym (get_or-map rule.Value value_rules (k - 36) value.RootAnswer)
    ∙ back rule.Document last document_rules after_document (k - 27) (k - 36) (omega arith)
    ∙ back rule.Schema last schema_rules after_schema (k - 14) (k - 27) (omega arith)
    ∙ back rule.Size last size_rules after_size k (k - 14) (omega arith)

-- where a rule stands in the list of all
abbrev pub number : Rule → ℕ
number (rule.Size r) = tag_of the_size_type r
number (rule.Schema r) = 14 + tag_of the_schema_type r
number (rule.Document r) = 27 + tag_of the_document_type r
number (rule.Value r) = 36 + tag_of the_value_type r

pub numbered : (r : Rule) → rule_at (number r) ≡ r
unfolding rule_at
numbered (rule.Size size.Pool) = refl
numbered (rule.Size size.Names) = refl
numbered (rule.Size size.TypeRefs) = refl
numbered (rule.Size size.Types) = refl
numbered (rule.Size size.Fields) = refl
numbered (rule.Size size.Arguments) = refl
numbered (rule.Size size.Sets) = refl
numbered (rule.Size size.Selections) = refl
numbered (rule.Size size.Given) = refl
numbered (rule.Size size.Fragments) = refl
numbered (rule.Size size.Nodes) = refl
numbered (rule.Size size.Literals) = refl
numbered (rule.Size size.Variables) = refl
numbered (rule.Size size.Answers) = refl
numbered (rule.Schema schema.NameSpelled) = refl
numbered (rule.Schema schema.NameReserved) = refl
numbered (rule.Schema schema.NamesDiffer) = refl
numbered (rule.Schema schema.TypeReference) = refl
numbered (rule.Schema schema.TypeRow) = refl
numbered (rule.Schema schema.TypeParts) = refl
numbered (rule.Schema schema.TypeNamesDiffer) = refl
numbered (rule.Schema schema.Member) = refl
numbered (rule.Schema schema.FieldRow) = refl
numbered (rule.Schema schema.FieldNamesDiffer) = refl
numbered (rule.Schema schema.ArgumentRow) = refl
numbered (rule.Schema schema.ArgumentNamesDiffer) = refl
numbered (rule.Schema schema.RootType) = refl
numbered (rule.Document document.SetRow) = refl
numbered (rule.Document document.SelectionRow) = refl
numbered (rule.Document document.GivenRow) = refl
numbered (rule.Document document.GivenNamesDiffer) = refl
numbered (rule.Document document.FragmentRow) = refl
numbered (rule.Document document.FragmentNamesDiffer) = refl
numbered (rule.Document document.ChildSetsLarger) = refl
numbered (rule.Document document.SelectionOwnsAlone) = refl
numbered (rule.Document document.FragmentOwnsAlone) = refl
numbered (rule.Value value.NodeRow) = refl
numbered (rule.Value value.NodeKey) = refl
numbered (rule.Value value.NodeKeysDiffer) = refl
numbered (rule.Value value.LiteralRow) = refl
numbered (rule.Value value.LiteralKeysDiffer) = refl
numbered (rule.Value value.VariableRow) = refl
numbered (rule.Value value.VariableNamesDiffer) = refl
numbered (rule.Value value.AnswerRow) = refl
numbered (rule.Value value.AnswerNamesDiffer) = refl
numbered (rule.Value value.RootAnswer) = refl
