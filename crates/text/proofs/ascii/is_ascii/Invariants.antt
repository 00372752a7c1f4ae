-- What an `|` gathers has its highest bit just if one of the octets has. Assumes nothing.
use mathlib.Core.Path.{◌≡◌}
use lib.Dec.{ltb}
use lib.ListN.{take}
use Rattle.text.specs.Ascii.{is_ascii}
use Rattle.text.proofs.ascii.is_ascii.Given as goal

abbrev pub invariant-loop-byte : goal.invariant-loop-byte
invariant-loop-byte l = ltb l.gathered 0x80 ≡ is_ascii (take l.byte-index l.s)
