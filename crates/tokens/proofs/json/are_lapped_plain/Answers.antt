-- The first bytes and the last reach into one another, so no byte is left out. Assumes nothing.
use mathlib.Core.Path.{◌≡◌}
use Prim.Native.Nat.{◌-◌}
use native.Mathlib.Omega.{arith}
use lib.ListN.{length}
use Rattle.tokens.proofs.EscapeLaws.{all_plain_lapped}
use Rattle.tokens.proofs.json.are_lapped_plain.Goals as goal

pub returns : goal.returns
returns g c = let last : length c.args.s.now - (length c.args.s.now - g.row.N) ≡ g.row.N = omega (arith, c.requires.0) in
    rw (c.are_plain.ensures, c.are_plain-2.ensures, last) (all_plain_lapped g.row.N c.args.s.now c.requires.0 c.requires.1)
