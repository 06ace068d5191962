-- The verdict Optimal is about the optimum.
use Rattle.bp_types.specs.Program.{Program}
use Rattle.bp_types.specs.Claim.{Claim}
use Rattle.bp_types.specs.Laws.{CertificateIsOptimal}
use Rattle.bp_cert.specs.declared.verdict.Verdict.{Verdict}
use Rattle.bp_cert.specs.declared.verdict.Verdict.TheVariants.{WrongLength, PriceTooGreat, AboveForecast, Overfull, Gap, Misvalued, Optimal}
use Rattle.bp_cert.specs.Verdicts.{IsVerdict, SaysOptimum}

pub says_optimum : (p : Program) (c : Claim) (v : Verdict) → CertificateIsOptimal → IsVerdict p c v → SaysOptimum p v
says_optimum p c (Optimal value) law h = law p value c.sell c.prices h.1
says_optimum p c WrongLength law h = tt
says_optimum p c (PriceTooGreat night) law h = tt
says_optimum p c (AboveForecast stay) law h = tt
says_optimum p c (Overfull night taken) law h = tt
says_optimum p c (Gap value over) law h = tt
says_optimum p c (Misvalued value) law h = tt
