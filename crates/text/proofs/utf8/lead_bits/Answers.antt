-- The shifted mask keeps the lowest bits, and these are a remainder. Assumes nothing.
use mathlib.Core.Path.{◌∙◌}
use Rattle.text.proofs.utf8.Octets.{lead_masked}
use Rattle.text.proofs.utf8.lead_bits.Goals as goal

pub returns : goal.returns
returns c = c.from.ensures ∙ lead_masked c.args.size c.args.lead c.requires
