use Rattle.rules.specs.Names.{name_spelled}
use Rattle.rules.proofs.names.name_is_spelled.Goals as goal

pub returns : goal.returns
unfolding name_spelled
returns c = rw (c.is_name.ensures, c.text_of.ensures, c.is_in_pool.ensures, c.name_at-name.ensures)
