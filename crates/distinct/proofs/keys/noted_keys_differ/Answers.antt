-- The notes answer for every object. Assumes nothing.
use native.Mathlib.Omega.{arith}
use Rattle.rows.specs.Json.{node_key}
use Rattle.distinct.specs.Texts.{text_at}
use Rattle.distinct.proofs.keys.noted_keys_differ.Goals as goal

pub all_keys_differ_since-requires : goal.all_keys_differ_since-requires
unfolding node_key text_at
all_keys_differ_since-requires c = (omega arith, rw c.new-texts.ensures at c.note_since.ensures.1)
