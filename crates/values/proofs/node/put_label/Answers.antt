-- A comma, and with a key its string and a colon behind it, are one text. Assumes nothing.
use Rattle.values.proofs.Labels.{labels}
use Rattle.values.proofs.node.put_label.Goals as goal

pub returns-in_default : goal.returns-in_default
returns-in_default c = search labels

pub returns : goal.returns
returns c = search labels
