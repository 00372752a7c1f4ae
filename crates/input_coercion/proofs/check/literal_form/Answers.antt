-- Each literal has its form. Assumes nothing.
use Rattle.input_coercion.proofs.Leaves.{forms}
use Rattle.input_coercion.proofs.check.literal_form.Goals as goal

pub returns-in-Null : goal.returns-in-Null
returns-in-Null c = search forms

pub returns-in-Variable : goal.returns-in-Variable
returns-in-Variable c = search forms

pub returns-in-List : goal.returns-in-List
returns-in-List c = search forms

pub returns-in-Object : goal.returns-in-Object
returns-in-Object c = search forms

pub returns-in_default : goal.returns-in_default
returns-in_default c = search forms
