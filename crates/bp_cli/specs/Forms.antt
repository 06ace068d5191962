-- The command that the first word names.
use Rattle.std.specs.Prelude.{codes, if◌then◌else◌, Option, Some, None}
use Rattle.std.specs.Str.{bytes_eq}
use Rattle.bp_cli.specs.declared.form.Form.{Form}
use Rattle.bp_cli.specs.declared.form.Form.TheVariants.{Check, Solve, Group, Judge, Desk, Replay, Report, Demo, Scenarios, Sheet, Portfolio}
use Rattle.bp_cli.specs.Words.{Word}

-- the form of a command's line
abbrev pub form_of : Word → Option Form
form_of t =
    if bytes_eq t (codes "check") then Some Check
    else (if bytes_eq t (codes "solve") then Some Solve
    else (if bytes_eq t (codes "group") then Some Group
    else (if bytes_eq t (codes "judge") then Some Judge
    else (if bytes_eq t (codes "desk") then Some Desk
    else (if bytes_eq t (codes "replay") then Some Replay
    else (if bytes_eq t (codes "report") then Some Report
    else (if bytes_eq t (codes "demo") then Some Demo
    else (if bytes_eq t (codes "scenarios") then Some Scenarios
    else (if bytes_eq t (codes "sheet") then Some Sheet
    else (if bytes_eq t (codes "portfolio") then Some Portfolio else None))))))))))

-- the word that names a command
abbrev pub command_of : Form → Word
command_of Check = codes "check"
command_of Solve = codes "solve"
command_of Group = codes "group"
command_of Judge = codes "judge"
command_of Desk = codes "desk"
command_of Replay = codes "replay"
command_of Report = codes "report"
command_of Demo = codes "demo"
command_of Scenarios = codes "scenarios"
command_of Sheet = codes "sheet"
command_of Portfolio = codes "portfolio"
