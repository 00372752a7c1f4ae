-- The tables' numbers, in the order in which they are lent, and what there is room for.
use Rattle.std.specs.Prelude.{ℕ, ◌<◌}
use Rattle.table_file.specs.declared.layout.Table.{Table}
use Rattle.table_file.specs.declared.layout.Table.TheVariants as table
use Rattle.table_file.specs.Sizes.{region}

abbrev pub number_of : Table → ℕ
number_of table.Pool = 0
number_of table.Names = 1
number_of table.TypeRefs = 2
number_of table.Types = 3
number_of table.Members = 4
number_of table.Fields = 5
number_of table.Arguments = 6
number_of table.Sets = 7
number_of table.Selections = 8
number_of table.Given = 9
number_of table.Fragments = 10
number_of table.Nodes = 11
number_of table.Literals = 12
number_of table.Variables = 13
number_of table.Answers = 14
number_of table.Root = 15

-- a table of words: any but the pool, whose number is 0
abbrev pub HasWords : Table → Type 0
HasWords t = 0 < number_of t

-- how many bytes the pool takes, and how many words any other table
abbrev pub room_of : Table → ℕ
room_of table.Pool = 69632
room_of _ = region
