-- The marks that the selections leave serve the fragments. Assumes nothing.
use Rattle.distinct.proofs.Marked.{selections_first, fragments_first}
use Rattle.distinct.proofs.owners.owners_differ.Goals as goal

pub selections_claim-requires : goal.selections_claim-requires
selections_claim-requires c = selections_first _

pub fragments_claim-requires : goal.fragments_claim-requires
fragments_claim-requires c = fragments_first _ _ _ (c.selections_claim.ensures.marked c.if-selections_claim.true)
