use Rattle.bp_text.proofs.SpellingLemmas.{one_spelling, prefix_free}
use Rattle.bp_text.proofs.OneWayLemmas.{one_way}
use Rattle.bp_scenarios.specs.Refused.{IsChangeWithin}
use Rattle.bp_scenarios.specs.Texts.{scenario_lines, AreWithin}
use Rattle.bp_scenarios.proofs.PlaceLemmas.{scenarios_are_spelled}
use Rattle.bp_scenarios.proofs.law.scenarios_have_one_spelling.Goals as goal

pub returns-clause-spelling : goal.returns-clause-spelling
returns-clause-spelling c = one_spelling scenario_lines scenarios_are_spelled

pub returns-clause-prefix : goal.returns-clause-prefix
returns-clause-prefix c = prefix_free scenario_lines scenarios_are_spelled

pub returns-clause-reading : goal.returns-clause-reading
returns-clause-reading c = λ p. one_way scenario_lines (AreWithin (IsChangeWithin p)) scenarios_are_spelled
