-- An octet of 128 or more is the first of two, three or four octets, or of none. Assumes nothing.
use mathlib.Core.Path.{refl}
use borrow.Author.Rules.{rules}
use native.Mathlib.Omega.{arith}
use Rattle.text.proofs.utf8.Octets.{leads_two, leads_three, leads_four}
use Rattle.text.proofs.utf8.Decoding.{read_no_lead}
use Rattle.text.proofs.utf8.decode.Goals as goal

pub decode_sequence-requires : goal.decode_sequence-requires
decode_sequence-requires c = search (leads_two, rules)

pub decode_sequence-requires-in-3 : goal.decode_sequence-requires-in-3
decode_sequence-requires-in-3 c = search (leads_three, rules)

pub decode_sequence-requires-in-4 : goal.decode_sequence-requires-in-4
decode_sequence-requires-in-4 c = search (leads_four, rules)

pub returns-in_default : goal.returns-in_default
returns-in_default c =
    read_no_lead c.args.s.now c.args.at _ c.requires.at_in_bounds (omega (arith, c.type_inv.s c.args.at)) refl
    (λ e. omega arith) (λ e. omega arith) (λ e. omega arith) c.requires.bound
