use Rattle.bp_text.proofs.NextLemmas.{small_number}
use Rattle.bp_text.proofs.read.number_line.Goals as goal

pub returns-then-number-least : goal.returns-then-number-least
returns-then-number-least c = small_number _ c.args.least _ _ _ _ c.in_ok-number.field-0 c.in_ok-number.ensures.2 c.given.ensures.value c.if-number-least.true
