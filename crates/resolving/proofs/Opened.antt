-- A list and an object, once their types are known: what is still to do of them, or the error that they are. Assumes nothing.
use mathlib.Core.Path.{◌≡◌, sym, ◌∙◌}
use mathlib.Core.Bool.{Bool}
use mathlib.Core.List.{List, ◌∷◌}
use Prim.Native.Nat.{ℕ}
use Rattle.rows.specs.Schema.{type_ref_at, type_at}
use Rattle.rows.specs.declared.layout.Range.{Range}
use Rattle.rows.specs.declared.schema.TypeRef.{TypeRef}
use Rattle.rows.specs.declared.schema.TypeRef.TheVariants as ref
use Rattle.codes.specs.Errors.{number_of, place_of}
use Rattle.codes.specs.declared.errors.FieldError.{FieldError}
use Rattle.codes.specs.declared.errors.FieldError.TheVariants as error
use Rattle.graphql.specs.Run.{M, pure, ◌>>=◌}
use Rattle.graphql.specs.Run as run
use Rattle.graphql.specs.Data.{Val, val}
use Rattle.graphql.specs.Errors.{place_among, error_of}
use Rattle.graphql.specs.Collect.{Group}
use Rattle.graphql.specs.Request.{Request}
use Rattle.graphql.specs.Complete.{Task, field_error, field_place, named_type, object_type, merge_selection_sets, execute_selection_set}
use Rattle.graphql.specs.Complete.{complete_list_value, complete_object_value}
use Rattle.completing.specs.Judged.{TypesObject}
use Rattle.std.specs.Prelude.{Result, Ok, Err}
use Rattle.completing.proofs.Binds.{pure_bind, error_bind}
use Rattle.walking.proofs.RunLaws.{bind_bind}
use Rattle.resolving.specs.Field.{noting, OpensList, OpensObject, Known}
use Rattle.resolving.specs.declared.field.Container.TheVariants as container
use Rattle.resolving.proofs.AtField.{field_error_place, object_at_field}

-- ---- a list

module _ {refs : List ℕ} {ty : ℕ} {rows : Range} {x : TypeRef} (t : x ≡ type_ref_at refs ty) where
  pub list_named : {name : ℕ} {nullable : Bool} → x ≡ ref.Named name nullable → OpensList refs ty rows (Err error.ListForNonListType)
  unfolding complete_list_value field_error error_of place_among place_of
  list_named e = record { opens = λ Q path asked g p m q i k. i.is k ∙ rw (q, ← t, e) }

  pub list_unknown : x ≡ ref.Unknown → OpensList refs ty rows (Err error.UndefinedType)
  unfolding complete_list_value field_error error_of place_among place_of
  list_unknown e = record { opens = λ Q path asked g p m q i k. i.is k ∙ rw (q, ← t, e) }

  pub list_opens : {inner : ℕ} {nullable : Bool} → x ≡ ref.ListOf inner nullable
      → OpensList refs ty rows (Ok (container.List inner nullable rows))
  unfolding complete_list_value
  list_opens e = record {
    opens = λ Q path asked g p m q i. record {
      contains = i.within;
      args = i.args;
      asks = i.asks;
      is = λ k. i.is k ∙ rw (q, ← t, e);
    };
  }

-- ---- an object

-- its type first, and then its fields
object_by_type : (Q : Request) (rec : Task → run.Path → M Val) (ty name : ℕ) (rows : Range) (g : Group) (p : run.Path)
    → complete_object_value Q rec ty name rows g p
    ≡ ((named_type Q (type_ref_at Q.tables.refs ty) g p >>= λ type. object_type Q type (type_at Q.tables.types type).kind name g p)
    >>= λ object. execute_selection_set Q rec object rows (merge_selection_sets Q (g.first ∷ g.more)) p >>= λ d. pure (val d))
unfolding complete_object_value
object_by_type Q rec ty name rows g p = sym (bind_bind (named_type Q (type_ref_at Q.tables.refs ty) g p) _ _)

-- where an error stands that is known to stand at the first field
noted_at : (e : FieldError) (place : ℕ) (p : run.Path) → place_among (place_of (number_of e)) place 0 0 ≡ place → error_of e place 0 0 p ≡ noting e place p
unfolding error_of
noted_at e place p h = rw h

module _ {refs types members : List ℕ} {ty name : ℕ} {rows : Range} {t : Result ℕ FieldError} (h : TypesObject refs types members ty name t) where
  pub object_fails : {e : FieldError} → t ≡ Err e → OpensObject refs types members ty name rows (Err e)
  unfolding field_error
  object_fails {e} h' = record {
    opens = λ Q path asked g p m pool names q i k.
        let c = h.comes q g p in
        let w = noted_at e (field_place Q g) p (field_error_place Q g p e _ (object_at_field Q g p ty name) (rw h' at c)) in
        i.is k ∙ rw (object_by_type Q _ ty name rows g p, c, h', error_bind _ Q e g p, w);
  }

  pub object_opens : {object : ℕ} → Known types → t ≡ Ok object
      → OpensObject refs types members ty name rows (Ok (container.Object object rows))
  object_opens {object} known h' = record {
    opens = λ Q path asked g p m pool names q i. record {
      contains = (known.known object (rw h' at h.object), i.within);
      args = i.args;
      asks = i.asks;
      is = λ k. i.is k ∙ rw (object_by_type Q _ ty name rows g p, h.comes q g p, h', pure_bind _ object);
    };
  }
