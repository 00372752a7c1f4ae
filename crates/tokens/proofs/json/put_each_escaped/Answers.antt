-- A string that has one byte more is written with the escape of that byte behind it. Assumes nothing.
use mathlib.Core.Path.{refl}
use Rattle.tokens.specs.Escape.{escaped, escaped_all}
use Rattle.tokens.proofs.EscapeLaws.{escaped_all_snoc}
use Rattle.writing.proofs.Putting.{put_begin, put_again}
use Rattle.tokens.proofs.json.put_each_escaped.Goals as goal

pub loop-b-init : goal.loop-b-init
unfolding escaped_all
loop-b-init c = put_begin refl _ _ _

pub loop-b-preserved : goal.loop-b-preserved
loop-b-preserved c = put_again escaped escaped_all_snoc c.loop-b.invariant c.loop-b-test.true c.put_escaped-next.ensures
