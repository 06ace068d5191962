use Rattle.bp_c.proofs.Held.{check_there}
use Rattle.bp_c.proofs.Lines.{check_asked}
use Rattle.bp_c.proofs.texts.bidprice_check.Goals as goal

pub reply_to_two-requires-clause-there : goal.reply_to_two-requires-clause-there
reply_to_two-requires-clause-there c = check_there _ _ _ _ c.new.ensures c.new-2.ensures

pub returns : goal.returns
returns c = c.reply_to_two.ensures _ (check_asked _ _ c.new.ensures c.new-2.ensures)
