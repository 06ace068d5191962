use Rattle.bp_c.proofs.Held.{sheet_there}
use Rattle.bp_c.proofs.Lines.{sheet_asked}
use Rattle.bp_c.proofs.texts.bidprice_sheet.Goals as goal

pub reply_to_one-requires-clause-there : goal.reply_to_one-requires-clause-there
reply_to_one-requires-clause-there c = sheet_there _ _ c.new.ensures

pub returns : goal.returns
returns c = c.reply_to_one.ensures _ (sheet_asked _ c.new.ensures)
