-- What a request's tables say, in the tables lent. Assumes nothing.
use mathlib.Core.Path.{◌≡◌}
use mathlib.Core.List.{List}
use Prim.Native.Nat.{ℕ}
use Rattle.rows.specs.Schema.{type_ref_at, type_at}
use Rattle.graphql.specs.Lookup.{non_null, type_named, lists}
use Rattle.graphql.specs.Request.{Request}
use Rattle.completing.specs.Judged.{Lent}

module _ {Q : Request} {pool names refs types members : List ℕ} (q : Lent Q pool names refs types members) where
  pub lent_ref : (ty : ℕ) → type_ref_at Q.tables.refs ty ≡ type_ref_at refs ty
  lent_ref ty = rw q.of_refs

  pub lent_non_null : (ty : ℕ) → non_null Q.tables.refs ty ≡ non_null refs ty
  lent_non_null ty = rw q.of_refs

  pub lent_type : (row : ℕ) → type_at Q.tables.types row ≡ type_at types row
  lent_type row = rw q.of_types

  pub lent_named : (name : ℕ) → type_named Q.tables.types name ≡ type_named types name
  lent_named name = rw q.of_types

  pub lent_lists : (row name : ℕ) → lists Q.tables.types Q.tables.members row name ≡ lists types members row name
  lent_lists row name = rw (q.of_types, q.of_members)
