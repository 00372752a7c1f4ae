-- The limits that document 01 sets ("The tables lent"), by name.
use Rattle.std.specs.Prelude.{ℕ}

-- "a pool up to 65,536 bytes"
abbrev pub most_bytes : ℕ
most_bytes = 65536

-- "Names, 12 to 512: 1 to 64 bytes"
abbrev pub least_names : ℕ
least_names = 12

abbrev pub most_names : ℕ
most_names = 512

abbrev pub least_name_bytes : ℕ
least_name_bytes = 1

abbrev pub most_name_bytes : ℕ
most_name_bytes = 64

-- "Type references, up to 1,024"
abbrev pub most_type_refs : ℕ
most_type_refs = 1024

-- "Types, up to 128"
abbrev pub most_types : ℕ
most_types = 128

-- "Fields and arguments up to 1,024 each"
abbrev pub most_fields : ℕ
most_fields = 1024

abbrev pub most_arguments : ℕ
most_arguments = 1024

-- "Selections, up to 2,048"
abbrev pub most_selections : ℕ
most_selections = 2048

-- "Fragments, up to 64"
abbrev pub most_fragments : ℕ
most_fragments = 64

-- "JSON nodes, up to 4,096"
abbrev pub most_nodes : ℕ
most_nodes = 4096

-- "Literals, up to 1,024"
abbrev pub most_literals : ℕ
most_literals = 1024

-- "Variable values, up to 64"
abbrev pub most_variables : ℕ
most_variables = 64

-- "Answers, up to 4,096"
abbrev pub most_answers : ℕ
most_answers = 4096

-- What document 01 sets no limit to has as many rows as words can number.
abbrev pub most_rows : ℕ
most_rows = 4294967295

-- "Text buffer 0 to 65,536 bytes, error buffer 0 to 16,384 words, choices up to 4,096."
abbrev pub most_text_bytes : ℕ
most_text_bytes = 65536

abbrev pub most_error_words : ℕ
most_error_words = 16384

abbrev pub most_choices : ℕ
most_choices = 4096
