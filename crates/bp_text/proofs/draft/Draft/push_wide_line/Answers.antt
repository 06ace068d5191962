use Rattle.std.proofs.Common.{[], ◌∷◌}
use Rattle.bp_text.specs.Numbers.{spelled}
use Rattle.bp_text.proofs.DraftLemmas.{second_of_three, all_three, wide_line_in_three}
use Rattle.bp_text.proofs.draft.Draft.push_wide_line.Goals as goal

-- the line in three parts: its word, its numbers, its end
pub returns-in_err-push_spaced-clause-writes : goal.returns-in_err-push_spaced-clause-writes
returns-in_err-push_spaced-clause-writes g c =
    second_of_three _ _ _ c.args.self.now c.push.new.self _ c.args.word.now (32 ∷ spelled c.args.number) (10 ∷ []) _ _
    (wide_line_in_three c.args.word.now c.args.number)
    c.from_residual-in_err-push_spaced.ensures.0 c.in_ok-push.ensures.writes c.in_err-push_spaced.ensures.writes

pub returns-clause-writes : goal.returns-clause-writes
returns-clause-writes g c =
    all_three _ _ _ _ c.args.self.now c.push.new.self c.push_spaced.new.self _ c.args.word.now (32 ∷ spelled c.args.number) (10 ∷ []) _ _
    (wide_line_in_three c.args.word.now c.args.number)
    c.in_ok-push.ensures.writes c.in_ok-push_spaced.ensures.writes c.push-2.ensures.writes
