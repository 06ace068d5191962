use Rattle.bp_text.proofs.NextLemmas.{no_one_number, great_number}
use Rattle.bp_text.proofs.read.wide_number_line.Goals as goal

pub returns-in-Bad : goal.returns-in-Bad
returns-in-Bad c = no_one_number _ _ _ _ _ c.in-Some.ensures c.given-place.ensures.value c.in-Bad.ensures

pub returns-in-Great : goal.returns-in-Great
returns-in-Great c = let great = c.in-Great.ensures in great_number _ _ _ _ _ _ great.0 c.in-Some.ensures c.given-place.ensures.value great.1 great.2
