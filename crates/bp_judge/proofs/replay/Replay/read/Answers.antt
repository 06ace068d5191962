use Rattle.std.proofs.Common.{◌∙◌, ap, sym}
use Rattle.bp_types.specs.House.{Inn}
use Rattle.bp_core.specs.Legal.{is_in_range}
use Rattle.bp_judge.proofs.Firsts.{first_caller, first_range}
use Rattle.bp_judge.proofs.replay.Replay.read.Goals as goal

pub returns-then-not-may_log-clause-read : goal.returns-then-not-may_log-clause-read
returns-then-not-may_log-clause-read g c =
    first_caller c.args.self.now.book.house c.args.self.now.book.history c.args.line c.requires.legal.some_line (sym c.may_log.ensures ∙ c.if-not-may_log.true)

pub returns-then-not-is_in_range-clause-read : goal.returns-then-not-is_in_range-clause-read
returns-then-not-is_in_range-clause-read g c =
    first_range c.args.self.now.book.house c.args.self.now.book.history c.args.line c.requires.legal.some_line (sym c.may_log.ensures ∙ c.if-not-may_log.false)
    (ap (λ (h : Inn). is_in_range h c.args.line.entry.act) (sym c.house.ensures) ∙ sym c.is_in_range.ensures ∙ c.if-not-is_in_range.true)
