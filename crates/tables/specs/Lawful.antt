-- Lawful tables: what every public entry asks before anything else. Lawful buffers and choices: what a run asks besides.
use Rattle.std.specs.Prelude.{Bool, ◌&&◌, cond, ℕ, leb}
use Rattle.rows.specs.Limits.{most_text_bytes, most_error_words, most_choices}
use Rattle.tables.specs.Tables.{Tables}
use Rattle.tables.specs.Rules.{rows_lawful}
use Rattle.tables.specs.Defaults.{defaults_closed}

-- every rule of "The tables lent" holds
unfoldable pub lawful : Tables → Bool
lawful T = rows_lawful T && defaults_closed T.fields T.arguments T.literals

-- 1 where "a table or buffer breaks a rule above", and 0 otherwise. A table check is lent no buffer
unfoldable pub table_code : Tables → ℕ
table_code T = cond (lawful T) 0 1

-- "Text buffer 0 to 65,536 bytes, error buffer 0 to 16,384 words"
unfoldable pub lawful_buffers : (text errors : ℕ) → Bool
lawful_buffers text errors = leb text most_text_bytes && leb errors most_error_words

-- "choices up to 4,096"
unfoldable pub lawful_choices : ℕ → Bool
lawful_choices choices = leb choices most_choices
