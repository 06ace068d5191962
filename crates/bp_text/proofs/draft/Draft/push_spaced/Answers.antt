use Rattle.std.proofs.Common.{◌∷◌, []}
use Rattle.bp_text.specs.Numbers.{spelled}
use Rattle.bp_text.proofs.DraftLemmas.{Drafts-append}
use Rattle.bp_text.proofs.draft.Draft.push_spaced.Goals as goal

pub returns-clause-writes : goal.returns-clause-writes
returns-clause-writes g c =
    Drafts-append _ _ _ _ c.push.new.self _ (32 ∷ []) (spelled c.args.number) _ c.in_ok-push.ensures.writes c.push_number.ensures.writes
