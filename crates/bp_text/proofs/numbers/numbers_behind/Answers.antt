use Rattle.bp_text.proofs.FormLemmas.{found_on_line}
use Rattle.bp_text.proofs.numbers.numbers_behind.Goals as goal

pub returns-in-Some : goal.returns-in-Some
returns-in-Some c = found_on_line c.args.word.now c.args.line.now c.in-Some.text.now c.args.bounds _ c.numbers.result c.in-Some.ensures c.numbers.ensures
