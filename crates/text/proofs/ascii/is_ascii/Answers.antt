-- What an `|` gathers has its highest bit just if one of the octets has. Assumes nothing.
use Rattle.text.proofs.ascii.Runs.{gathered_none, gathered_more}
use Rattle.text.proofs.ascii.is_ascii.Goals as goal

pub loop-byte-init : goal.loop-byte-init
loop-byte-init c = search gathered_none

pub loop-byte-preserved : goal.loop-byte-preserved
loop-byte-preserved c = search gathered_more
