-- A text is UTF-8 just if what is left of it is, behind any number of whole characters. Assumes nothing.
use Rattle.text.proofs.utf8.Decoding.{utf8_past_nearer, utf8_past, utf8_ended}
use Rattle.text.proofs.utf8.is_utf8.Goals as goal

pub loop-at-smaller-then-is_ascii : goal.loop-at-smaller-then-is_ascii
loop-at-smaller-then-is_ascii c = search utf8_past_nearer

pub loop-at-preserved-then-is_ascii : goal.loop-at-preserved-then-is_ascii
loop-at-preserved-then-is_ascii c = search utf8_past

pub returns : goal.returns
returns c = search utf8_ended
