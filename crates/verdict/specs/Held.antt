-- The tables that a table file's pool and words hold.
use Rattle.std.specs.Prelude.{ℕ, List}
use Rattle.table_file.specs.Held.{pool_of, table_of, root_of}
use Rattle.table_file.specs.declared.held.Held.{Held}
use Rattle.tables.specs.Tables.{Tables, tables}

unfoldable pub held : List ℕ → List ℕ → List ℕ → Tables
held pool words sizes =
    tables
    (pool_of pool sizes)
    (table_of words sizes 1)
    (table_of words sizes 2)
    (table_of words sizes 3)
    (table_of words sizes 4)
    (table_of words sizes 5)
    (table_of words sizes 6)
    (table_of words sizes 7)
    (table_of words sizes 8)
    (table_of words sizes 9)
    (table_of words sizes 10)
    (table_of words sizes 11)
    (table_of words sizes 12)
    (table_of words sizes 13)
    (table_of words sizes 14)
    (root_of words sizes)

-- the same of them lent together
abbrev pub tables_held : Held → Tables
tables_held h = held h.pool.now h.words.now h.sizes
