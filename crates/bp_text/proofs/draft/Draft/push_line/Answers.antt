use Rattle.std.proofs.Common.{[], ◌∷◌}
use Rattle.bp_text.specs.Lines.{numbers_text}
use Rattle.bp_text.proofs.DraftLemmas.{second_of_three, all_three, line_in_three}
use Rattle.bp_text.proofs.draft.Draft.push_line.Goals as goal

-- the line in three parts: its word, its numbers, its end
pub returns-in_err-push_numbers-clause-writes : goal.returns-in_err-push_numbers-clause-writes
returns-in_err-push_numbers-clause-writes g c =
    second_of_three _ _ _ c.args.self.now c.push.new.self _ c.args.word.now (numbers_text c.args.numbers.now) (10 ∷ []) _ _
    (line_in_three c.args.word.now c.args.numbers.now)
    c.from_residual-in_err-push_numbers.ensures.0 c.in_ok-push.ensures.writes c.in_err-push_numbers.ensures.writes

pub returns-clause-writes : goal.returns-clause-writes
returns-clause-writes g c =
    all_three _ _ _ _ c.args.self.now c.push.new.self c.push_numbers.new.self _ c.args.word.now (numbers_text c.args.numbers.now) (10 ∷ []) _ _
    (line_in_three c.args.word.now c.args.numbers.now)
    c.in_ok-push.ensures.writes c.in_ok-push_numbers.ensures.writes c.push-2.ensures.writes
