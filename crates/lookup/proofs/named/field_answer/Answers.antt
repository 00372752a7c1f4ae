-- A name is a word of its column. Assumes nothing.
use Rattle.graphql.specs.Lookup.{field_answer}
use Rattle.lookup.proofs.named.field_answer.Goals as goal

pub returns : goal.returns
unfolding field_answer
returns c = c.find_word.ensures
