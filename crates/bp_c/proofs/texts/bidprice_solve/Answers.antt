use Rattle.bp_c.proofs.Held.{solve_there}
use Rattle.bp_c.proofs.Lines.{solve_asked}
use Rattle.bp_c.proofs.texts.bidprice_solve.Goals as goal

pub reply_to_one-requires-clause-there : goal.reply_to_one-requires-clause-there
reply_to_one-requires-clause-there c = solve_there _ _ c.new.ensures

pub returns : goal.returns
returns c = c.reply_to_one.ensures _ (solve_asked _ c.new.ensures)
