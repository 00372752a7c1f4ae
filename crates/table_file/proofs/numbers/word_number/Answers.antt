-- The number is a word where it fits one, and a fault stays. Assumes nothing.
use Rattle.std.proofs.Common.{rules, ◌≡◌, refl, sym, ◌∙◌}
use Rattle.std.specs.Prelude.{Ok, Err}
use Rattle.table_file.specs.Decimals.{word_of, decimal_of}
use Rattle.table_file.proofs.Digits.{as_word_found}
use Rattle.table_file.proofs.numbers.word_number.Goals as goal

pub returns-in_err-decimal : goal.returns-in_err-decimal
unfolding word_of
returns-in_err-decimal c =
    let e : c.from_residual.result ≡ Err c.in_err-decimal.field-0.0 = search rules in
    rw (e, sym (rw c.in_err-decimal.was at c.decimal.ensures)) refl

pub returns : goal.returns
unfolding word_of
returns c =
    let is : decimal_of c.args.token.now ≡ Ok c.in_ok-decimal.field-0 = sym c.decimal.ensures ∙ c.in_ok-decimal.was in
    rw is (as_word_found _ _ _ _ (λ e why k. search rules) c.try_from.ensures c.map_err.ensures.cases)
