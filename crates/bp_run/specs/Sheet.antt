-- `sheet`: a problem's bands by night, and what a stay of each length has to pay.
use Rattle.std.specs.Prelude.{ℕ, List}
use Rattle.bp_types.specs.Program.{Program}
use Rattle.bp_sheets.specs.Sheets.{IsSheet}
use Rattle.bp_cli.specs.Words.{Word}
use Rattle.bp_inputs.specs.Stages.{one}
use Rattle.bp_inputs.specs.TextFiles.{problem_file}
use Rattle.bp_run.specs.Command.{Command}
use Rattle.bp_run.specs.declared.end.Answer.TheVariants.{Sheeted}

-- one problem, and the text of its sheet
abbrev pub sheet_command : Word → Command
sheet_command problem = record {
  Given = Program;
  plan = one (problem_file problem);
  Own = List ℕ;
  IsRight = IsSheet;
  IsServed = λ p. Unit {0};
  among = Sheeted;
}
