use Rattle.bp_portfolio.specs.Lists.{list_lines}
use Rattle.bp_text.proofs.SpellingLemmas.{one_spelling, prefix_free}
use Rattle.bp_portfolio.proofs.ListLemmas.{lists_are_spelled}
use Rattle.bp_portfolio.proofs.ListLemmas.{one_reading}
use Rattle.bp_portfolio.proofs.law.lists_have_one_spelling.Goals as goal

pub returns-clause-spelling : goal.returns-clause-spelling
returns-clause-spelling c = one_spelling list_lines lists_are_spelled

pub returns-clause-prefix : goal.returns-clause-prefix
returns-clause-prefix c = prefix_free list_lines lists_are_spelled

pub returns-clause-reading : goal.returns-clause-reading
returns-clause-reading c = one_reading
