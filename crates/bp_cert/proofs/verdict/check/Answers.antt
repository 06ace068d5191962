use Rattle.bp_cert.proofs.VerdictLemmas.{says_optimum}
use Rattle.bp_cert.proofs.verdict.check.Goals as goal

pub returns-clause-optimum : goal.returns-clause-optimum
returns-clause-optimum c = says_optimum _ _ _ c.certificate_is_optimal.ensures c.first_verdict.ensures.first
