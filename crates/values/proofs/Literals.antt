-- Literals by their variants, and the walk through them, way by way: what a function knows where it returns is what the definition says there.
-- Assumes nothing.
use mathlib.Core.Path.{◌≡◌, refl}
use mathlib.Core.Bool.{true, false}
use mathlib.Core.List.{List, [], ◌∷◌}
use Rattle.std.specs.Prelude.{Ok, Err}
use Prim.Native.Nat.{ℕ, zero, suc, ◌+◌, ◌≤◌}
use types.Run.{miss}
use borrow.Enum.Refused.{Among, opened, shut}
use denote.Enum.Declared.{tag_of}
use Rattle.rows.specs.Limits.{most_literals}
use Rattle.rows.specs.Strings.{text_of}
use Rattle.rows.specs.Names.{name_text}
use Rattle.rows.specs.Json.{literal_at}
use Rattle.rows.specs.declared.strings.Text.{Text}
use Rattle.rows.specs.declared.layout.Range.{Range}
use Rattle.rows.specs.declared.json.Literal.{Literal}
use Rattle.rows.specs.declared.json.Literal.TheVariants as literal
use Rattle.rows.specs.contracts.json.Literal.{the_type}
use Rattle.tokens.specs.Literal.{null_name, true_name, false_name}
use Rattle.tokens.specs.Decimal.{decimal}
use Rattle.tokens.specs.Escape.{quoted}
use Rattle.writing.specs.Wrote.{Writes}
use Rattle.codes.specs.declared.outcome.Outcome.TheVariants.{VariableInLiteral}
use Rattle.graphql.specs.Run.{M, pure, halt}
use Rattle.graphql.specs.Json.{Json, null, print}
use Rattle.graphql.specs.Lookup.{rows_in}
use Rattle.graphql.specs.Values.{parts_of, part_by_part}
use Rattle.values.specs.Put.{Put, container_of, contained}
use Rattle.values.specs.Literals.{plain_literal, LiteralsParted, literal_key_text, parts_value, PutsParts, PutsLiteral}
use Rattle.values.specs.declared.node.Parts.{Parts}
use Rattle.values.proofs.Insides.{insides, literal_is}
use Rattle.values.proofs.Ends.{ends_at, ends_stopped}
use Rattle.values.proofs.Containers.{containing}

-- ---- what is plain

-- the numbers of the variants whose plain value is null
abbrev nulls : List ℕ
nulls = 0 ∷ 7 ∷ 8 ∷ 10 ∷ 11 ∷ []

plain_null : (pool names : List ℕ) (l : Literal) → Among nulls (tag_of the_type l) → plain_literal pool names l ≡ null
unfolding plain_literal
plain_null pool names literal.Null o = refl
plain_null pool names literal.False o = absurd (miss nulls 1 tt (opened o))
plain_null pool names literal.True o = absurd (miss nulls 2 tt (opened o))
plain_null pool names (literal.Natural n) o = absurd (miss nulls 3 tt (opened o))
plain_null pool names (literal.Negative m) o = absurd (miss nulls 4 tt (opened o))
plain_null pool names (literal.Float text) o = absurd (miss nulls 5 tt (opened o))
plain_null pool names (literal.String text) o = absurd (miss nulls 6 tt (opened o))
plain_null pool names (literal.List rows) o = refl
plain_null pool names (literal.Object rows) o = refl
plain_null pool names (literal.Enum name) o = absurd (miss nulls 9 tt (opened o))
plain_null pool names (literal.Variable name) o = refl
plain_null pool names literal.Unknown o = refl

module _ (pool names : List ℕ) {text text' : List ℕ} {at end : ℕ} (l : Literal) where
  pub puts_false : l ≡ literal.False → Writes text text' at end false_name → Writes text text' at end (print (plain_literal pool names l))
  unfolding print plain_literal
  puts_false e w = rw e w

  pub puts_true : l ≡ literal.True → Writes text text' at end true_name → Writes text text' at end (print (plain_literal pool names l))
  unfolding print plain_literal
  puts_true e w = rw e w

  pub puts_natural : {n : ℕ} → l ≡ literal.Natural n → Writes text text' at end (decimal n)
      → Writes text text' at end (print (plain_literal pool names l))
  unfolding print plain_literal
  puts_natural e w = rw e w

  pub puts_negative : {n : ℕ} → l ≡ literal.Negative n → Writes text text' at end (45 ∷ decimal n)
      → Writes text text' at end (print (plain_literal pool names l))
  unfolding print plain_literal
  puts_negative e w = rw e w

  module _ {bytes : List ℕ} where
    pub puts_float : {t : Text} → bytes ≡ text_of pool t → l ≡ literal.Float t → Writes text text' at end bytes
        → Writes text text' at end (print (plain_literal pool names l))
    unfolding print plain_literal
    puts_float read e w = rw (e, ← read) w

    pub puts_string : {t : Text} → bytes ≡ text_of pool t → l ≡ literal.String t → Writes text text' at end (quoted bytes)
        → Writes text text' at end (print (plain_literal pool names l))
    unfolding print plain_literal
    puts_string read e w = rw (e, ← read) w

    pub puts_enum : {name : ℕ} → bytes ≡ name_text pool names name → l ≡ literal.Enum name → Writes text text' at end (quoted bytes)
        → Writes text text' at end (print (plain_literal pool names l))
    unfolding print plain_literal
    puts_enum read e w = rw (e, ← read) w

  pub puts_null : Among nulls (tag_of the_type l) → Writes text text' at end null_name → Writes text text' at end (print (plain_literal pool names l))
  unfolding print
  puts_null o w = rw (plain_null pool names l o) w

pub ruleset plain = (puts_false, puts_true, puts_natural, puts_negative, puts_float, puts_string, puts_enum, puts_null, shut)

-- ---- a literal is plain, a container or a variable

-- the numbers of the variants that are neither containers nor variables
abbrev plains : List ℕ
plains = 0 ∷ 1 ∷ 2 ∷ 3 ∷ 4 ∷ 5 ∷ 6 ∷ 9 ∷ 11 ∷ []

module _ (pool names literals : List ℕ) where
  value_plain : (room : ℕ) (inside : ℕ → M Json) (l : Literal) → Among plains (tag_of the_type l)
      → parts_of pool names literals room inside l ≡ pure (plain_literal pool names l)
  unfolding parts_of plain_literal
  value_plain room inside literal.Null o = refl
  value_plain room inside literal.False o = refl
  value_plain room inside literal.True o = refl
  value_plain room inside (literal.Natural n) o = refl
  value_plain room inside (literal.Negative m) o = refl
  value_plain room inside (literal.Float text) o = refl
  value_plain room inside (literal.String text) o = refl
  value_plain room inside (literal.List rows) o = absurd (miss plains 7 tt (opened o))
  value_plain room inside (literal.Object rows) o = absurd (miss plains 8 tt (opened o))
  value_plain room inside (literal.Enum name) o = refl
  value_plain room inside (literal.Variable name) o = absurd (miss plains 10 tt (opened o))
  value_plain room inside literal.Unknown o = refl

  parts_are : (room : ℕ) (parts : Parts)
      → parts_value pool names literals room parts
      ≡ container_of (literal_key_text pool names literals) room (insides (part_by_part pool names literals) room) parts.keyed (rows_in parts.rows)
  unfolding contained insides
  parts_are zero parts = refl
  parts_are (suc room) parts = refl

module _ (pool names literals : List ℕ) (room row : ℕ) {l : Literal} (read : l ≡ literal_at literals row) {text : List ℕ} {at : ℕ} where
  pub literal_variable : {name : ℕ} → l ≡ literal.Variable name → PutsLiteral pool names literals room row text at (Err VariableInLiteral) text
  unfolding parts_of halt
  literal_variable e = ends_stopped (λ c. rw (literal_is pool names literals room row, ← read, e)) refl

  pub literal_plain : {text' : List ℕ} {end : ℕ} → Among plains (tag_of the_type l) → Writes text text' at end (print (plain_literal pool names l))
      → PutsLiteral pool names literals room row text at (Ok end) text'
  unfolding pure
  literal_plain o w =
      ends_at (plain_literal pool names l) (λ c. rw (literal_is pool names literals room row, ← read, value_plain pool names literals room _ l o)) w

  pub literal_list : {rows : Range} {r : Put} {text' : List ℕ} → l ≡ literal.List rows
      → PutsParts pool names literals room (record { keyed = false; rows = rows }) text at r text'
      → PutsLiteral pool names literals room row text at r text'
  unfolding parts_of container_of
  literal_list e q = rw (literal_is pool names literals room row, ← read, e) (rw (parts_are pool names literals room _) at q)

  pub literal_object : {rows : Range} {r : Put} {text' : List ℕ} → l ≡ literal.Object rows
      → PutsParts pool names literals room (record { keyed = true; rows = rows }) text at r text'
      → PutsLiteral pool names literals room row text at r text'
  unfolding parts_of container_of
  literal_object e q = rw (literal_is pool names literals room row, ← read, e) (rw (parts_are pool names literals room _) at q)

module _ (literals : List ℕ) (row : ℕ) {l : Literal} (read : l ≡ literal_at literals row) (p : LiteralsParted literals) {rows : Range} where
  pub list_within : l ≡ literal.List rows → rows.first + rows.count ≤ most_literals
  list_within e = p.of_list row rows (rw read at e)

  pub object_within : l ≡ literal.Object rows → rows.first + rows.count ≤ most_literals
  object_within e = p.of_object row rows (rw read at e)

pub ruleset walking = (literal_plain, literal_list, literal_object, literal_variable, list_within, object_within, containing, shut)
