use Rattle.std.proofs.Common.{sym, ◌∙◌}
use Rattle.bp_show.proofs.Falls.{fall_to, falls_are, same_vector}
use Rattle.bp_show.proofs.InHistories.{newest_nights}
use Rattle.bp_show.proofs.sums.Sums.of_pass.Goals as goal

pub sum_pass-requires-clause-prices : goal.sum_pass-requires-clause-prices
sum_pass-requires-clause-prices c = newest_nights _ _ c.facts.ensures.legal ∙ sym c.requires.nights

pub invariant_of-result : goal.invariant_of-result
invariant_of-result c = fall_to _ _ _ (c.requires.nights ∙ sym (newest_nights _ _ c.facts.ensures.legal)) c.requires.most c.sum_pass.ensures

pub returns : goal.returns
returns c = same_vector _ _ _ _ _ _ c.quote-quote.ensures.number c.quote-quote.ensures.position
    (falls_are _ _ _ (c.requires.nights ∙ sym (newest_nights _ _ c.facts.ensures.legal)) c.sum_pass.ensures)
