-- Only what failed here, where it may be null, is nulled. Assumes nothing.
use Rattle.walking.proofs.Settling.{nullify_placed, nullify_further, nullify_non_null, nullify_null}
use Rattle.walking.proofs.settle.try_nullify.Goals as goal

pub returns-in_default : goal.returns-in_default
returns-in_default c = search nullify_placed

pub returns-in_default-failure : goal.returns-in_default-failure
returns-in_default-failure c = search nullify_further

pub returns-then-non_null : goal.returns-then-non_null
returns-then-non_null c = search nullify_non_null

pub returns : goal.returns
returns c = search nullify_null
