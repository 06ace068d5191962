-- `check`: the verdict on a certificate of a problem.
use Rattle.std.specs.Prelude.{ℕ, List, [], ◌∷◌, codes}
use Rattle.bp_types.specs.Program.{Program}
use Rattle.bp_types.specs.Claim.{Claim}
use Rattle.bp_cert.specs.Verdicts.{IsVerdict, SaysOptimum}
use Rattle.bp_cert.specs.declared.verdict.Verdict.{Verdict}
use Rattle.bp_cert.specs.declared.verdict.Verdict.TheVariants.{WrongLength, PriceTooGreat, AboveForecast, Overfull, Gap, Misvalued, Optimal}
use Rattle.bp_cli.specs.Words.{Word}
use Rattle.bp_inputs.specs.Stages.{done, ask}
use Rattle.bp_inputs.specs.TextFiles.{problem_file, certificate_file}
use Rattle.bp_run.specs.Command.{Command}
use Rattle.bp_run.specs.Texts.{line}
use Rattle.bp_run.specs.declared.status.Status.{Status}
use Rattle.bp_run.specs.declared.status.Status.TheVariants.{Done, Wrong}
use Rattle.bp_run.specs.declared.end.Answer.TheVariants.{Checked}

-- what a problem and a certificate give
pub record Claimed : Type 0 where
  pub instance : Program
  pub claim : Claim

-- the verdict is the first that holds; where it is `optimal`, its value is the optimum
pub record IsCheckAnswer (g : Claimed) (verdict : Verdict) : Type 0 where
  pub first : IsVerdict g.instance g.claim verdict
  pub optimum : SaysOptimum g.instance verdict

-- the problem comes first
abbrev pub check_command : Word → Word → Command
check_command problem certificate = record {
  Given = Claimed;
  plan = ask (problem_file problem) (λ p. ask (certificate_file certificate) (λ c. done (record { instance = p; claim = c })));
  Own = Verdict;
  IsRight = IsCheckAnswer;
  IsServed = λ g. Unit {0};
  among = Checked;
}

-- the line of a verdict
abbrev pub verdict_line : Verdict → List ℕ
verdict_line WrongLength = line (codes "wronglength") []
verdict_line (PriceTooGreat night) = line (codes "pricetoogreat") (night ∷ [])
verdict_line (AboveForecast stay) = line (codes "aboveforecast") (stay ∷ [])
verdict_line (Overfull night load) = line (codes "overfull") (night ∷ load ∷ [])
verdict_line (Gap worth bound) = line (codes "gap") (worth ∷ bound ∷ [])
verdict_line (Misvalued worth) = line (codes "misvalued") (worth ∷ [])
verdict_line (Optimal value) = line (codes "optimal") (value ∷ [])

-- done for the optimum, and wrong for each other
abbrev pub verdict_status : Verdict → Status
verdict_status (Optimal value) = Done
verdict_status WrongLength = Wrong
verdict_status (PriceTooGreat night) = Wrong
verdict_status (AboveForecast stay) = Wrong
verdict_status (Overfull night load) = Wrong
verdict_status (Gap worth bound) = Wrong
verdict_status (Misvalued worth) = Wrong
