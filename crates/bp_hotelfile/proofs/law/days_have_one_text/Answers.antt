use Rattle.bp_hotelfile.proofs.TextLemmas.{days_have_one_text}
use Rattle.bp_hotelfile.proofs.law.days_have_one_text.Goals as goal

pub returns : goal.returns
returns c = days_have_one_text
