-- `solve`: a certificate of a problem, with the least prices.
use Rattle.bp_types.specs.Program.{Program}
use Rattle.bp_types.specs.Claim.{Claim, IsLeastCertificate}
use Rattle.bp_cli.specs.Words.{Word}
use Rattle.bp_inputs.specs.Stages.{one}
use Rattle.bp_inputs.specs.TextFiles.{problem_file}
use Rattle.bp_run.specs.Command.{Command}
use Rattle.bp_run.specs.declared.end.Answer.TheVariants.{Solved}

-- one problem; a certificate with the least prices has the optimum as its value
abbrev pub solve_command : Word → Command
solve_command problem = record {
  Given = Program;
  plan = one (problem_file problem);
  Own = Claim;
  IsRight = IsLeastCertificate;
  IsServed = λ p. Unit {0};
  among = Solved;
}
