-- A string is written part by part: what a part is escaped to does not depend on the others. Assumes nothing.
use mathlib.Core.Path.{refl}
use native.Mathlib.Omega.{arith}
use Rattle.tokens.specs.Escape.{escaped_all}
use Rattle.tokens.proofs.EscapeLaws.{escaped_all_append}
use Rattle.tokens.proofs.Chunks.{put_chunk, put_behind}
use Rattle.writing.proofs.Putting.{put_begin}
use Rattle.tokens.proofs.json.put_escaped_all.Goals as goal

pub loop-block-init : goal.loop-block-init
unfolding escaped_all
loop-block-init c = put_begin refl _ _ _

pub loop-block-preserved : goal.loop-block-preserved
loop-block-preserved c = put_chunk escaped_all_append 16 c.as_chunks.ensures.front c.loop-block.invariant _ (omega (arith, c.as_chunks.ensures.front_len)) c.put_block_escaped-next.ensures

pub returns : goal.returns
returns c = put_behind escaped_all_append 16 c.as_chunks.ensures.front c.loop-block.invariant c.as_chunks.ensures.back (omega (arith, c.as_chunks.ensures.front_len))
    (omega (arith, c.as_chunks.ensures.front_len)) c.put_few_escaped.ensures
