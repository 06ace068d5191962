use Rattle.bp_scenarios.specs.Refused.{IsChangeOf}
use Rattle.bp_scenarios.proofs.ChangeLemmas.{not_found, found_line}
use Rattle.bp_scenarios.proofs.told.change_line.Goals as goal

pub returns-in-None : goal.returns-in-None
returns-in-None c = not_found (IsChangeOf c.args.size.nights c.args.size.stays) c.args.line.now c.new-words.result c.new-words.ensures c.in-None.ensures

pub returns-in-Some : goal.returns-in-Some
returns-in-Some c = found_line (IsChangeOf c.args.size.nights c.args.size.stays)
    c.args.line.now c.new-words.result c.in-Some.told c.judged.result c.new-words.ensures c.in-Some.ensures c.judged.ensures
