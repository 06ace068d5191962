use Rattle.bp_cert.specs.Texts.{all_certificate_lines, IsSpeakable}
use Rattle.bp_text.proofs.SpellingLemmas.{one_spelling, prefix_free}
use Rattle.bp_text.proofs.OneWayLemmas.{one_way}
use Rattle.bp_cert.proofs.KindLemmas.{certificates_are_spelled}
use Rattle.bp_cert.proofs.law.certificates_have_one_spelling.Goals as goal

pub returns-clause-spelling : goal.returns-clause-spelling
returns-clause-spelling c = one_spelling all_certificate_lines certificates_are_spelled

pub returns-clause-prefix : goal.returns-clause-prefix
returns-clause-prefix c = prefix_free all_certificate_lines certificates_are_spelled

pub returns-clause-reading : goal.returns-clause-reading
returns-clause-reading c = one_way all_certificate_lines IsSpeakable certificates_are_spelled
