-- What a table file's pool and words hold: of each as much as its size says, or all that is there where that is less.
use Rattle.std.specs.Prelude.{ℕ, ◌≡◌, ◌*◌, List, get_or, take, drop}
use Rattle.rows.specs.declared.tables.Tables.{Tables}
use Rattle.table_file.specs.Sizes.{region}

-- the pool's bytes, which are counted at 0
unfoldable pub pool_of : List ℕ → List ℕ → List ℕ
pool_of pool sizes = take (get_or sizes 0 0) pool

-- the words of the table of this number: each has a region of the same size, one behind the other
unfoldable pub table_of : List ℕ → List ℕ → ℕ → List ℕ
table_of words sizes number = take (get_or sizes number 0) (drop (number * region) words)

-- the number of the root type, the one word of the last table; 0 where there is none
unfoldable pub root_of : List ℕ → List ℕ → ℕ
root_of words sizes = get_or (table_of words sizes 15) 0 0

-- the tables lent are those held
pub record AreHeld (bytes words sizes : List ℕ) (t : Tables) : Type 0 where
  pub pool : t.pool.now ≡ pool_of bytes sizes
  pub names : t.names.now ≡ table_of words sizes 1
  pub type_refs : t.type_refs.now ≡ table_of words sizes 2
  pub types : t.types.now ≡ table_of words sizes 3
  pub members : t.members.now ≡ table_of words sizes 4
  pub fields : t.fields.now ≡ table_of words sizes 5
  pub arguments : t.arguments.now ≡ table_of words sizes 6
  pub sets : t.sets.now ≡ table_of words sizes 7
  pub selections : t.selections.now ≡ table_of words sizes 8
  pub given : t.given.now ≡ table_of words sizes 9
  pub fragments : t.fragments.now ≡ table_of words sizes 10
  pub nodes : t.nodes.now ≡ table_of words sizes 11
  pub literals : t.literals.now ≡ table_of words sizes 12
  pub variables : t.variables.now ≡ table_of words sizes 13
  pub answers : t.answers.now ≡ table_of words sizes 14
  pub root : t.root ≡ root_of words sizes
