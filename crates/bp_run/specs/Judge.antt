-- `judge` and `replay`: whether a journal is a legal history of a house.
use Rattle.std.specs.Prelude.{◌≡◌, ℕ, List, [], ◌∷◌, ◌++◌, length, codes}
use Rattle.std.specs.Fmt.{decimal}
use Rattle.bp_types.specs.House.{Inn}
use Rattle.bp_core.specs.Lines.{History}
use Rattle.bp_core.specs.Legal.{IsLegal}
use Rattle.bp_problem_house.specs.Houses.{house_of_problem}
use Rattle.bp_judge.specs.Judging.{IsFirstIllegal}
use Rattle.bp_judge.specs.declared.judgement.Cause.{Cause}
use Rattle.bp_judge.specs.declared.judgement.Cause.TheVariants as cause
use Rattle.bp_cli.specs.Words.{Word}
use Rattle.bp_cli.specs.Tasks.{FiveNames}
use Rattle.bp_inputs.specs.Stages.{Plan, done, ask, followed_by}
use Rattle.bp_inputs.specs.TextFiles.{problem_file}
use Rattle.bp_inputs.specs.JournalFiles.{journal_file}
use Rattle.bp_inputs.specs.HotelPlan.{HotelNames, hotel_plan}
use Rattle.bp_run.specs.Command.{Command}
use Rattle.bp_run.specs.Texts.{line}
use Rattle.bp_run.specs.declared.status.Status.{Status}
use Rattle.bp_run.specs.declared.status.Status.TheVariants.{Done, Wrong}
use Rattle.bp_run.specs.declared.end.Answer.TheVariants.{Judged}
use Rattle.bp_run.specs.declared.commands.judge.Ruling.{Ruling}
use Rattle.bp_run.specs.declared.commands.judge.Ruling.TheVariants.{Legal, Illegal}

-- a house, and the lines that are to be its history
pub record Charge : Type 0 where
  pub house : Inn
  pub lines : History

-- the lines are a legal history of so many entries, or this place is the first that breaks a rule, and this the first
-- rule that it breaks
abbrev pub IsRuling : Charge → Ruling → Type 0
IsRuling g (Legal entries) = IsLegal g.house g.lines × (entries ≡ length g.lines)
IsRuling g (Illegal place rule) = IsFirstIllegal g.house g.lines place rule

-- a command that judges what its files give; whatever the lines are, there is a ruling
abbrev pub ruling_command : Plan Charge → Command
ruling_command plan = record {
  Given = Charge;
  plan = plan;
  Own = Ruling;
  IsRight = IsRuling;
  IsServed = λ g. Unit {0};
  among = Judged;
}

-- a journal of a house
abbrev pub journal_plan : Word → Inn → Plan Charge
journal_plan journal house = ask (journal_file journal) (λ H. done (record { house = house; lines = H }))

-- a problem, and a journal of its house
abbrev pub judge_plan : Word → Word → Plan Charge
judge_plan problem journal =
    ask (problem_file problem) (λ p. journal_plan journal (house_of_problem p))

-- a hotel's four files, and a journal of their house
abbrev pub replay_plan : HotelNames → Word → Plan Charge
replay_plan names journal =
    followed_by (hotel_plan names) (λ inn. journal_plan journal inn.house)

-- the names of the hotel's files among the five
abbrev pub hotel_names : FiveNames → HotelNames
hotel_names n = record { hotel = n.hotel; stays = n.stays; forecast = n.forecast; bookings = n.bookings }

-- the word of a rule
abbrev pub rule_word : Cause → List ℕ
rule_word cause.Opening = codes " opening"
rule_word cause.Caller = codes " caller"
rule_word cause.Range = codes " range"
rule_word cause.Limit = codes " limit"
rule_word cause.Behind = codes " behind"
rule_word cause.Position = codes " position"
rule_word cause.Certificate = codes " certificate"
rule_word cause.Reply = codes " reply"

-- the line of a ruling
abbrev pub ruling_line : Ruling → List ℕ
ruling_line (Legal entries) = line (codes "legal") (entries ∷ [])
ruling_line (Illegal place rule) = codes "illegal " ++ (decimal place ++ line (rule_word rule) [])

-- done where the lines are legal, else wrong
abbrev pub ruling_status : Ruling → Status
ruling_status (Legal entries) = Done
ruling_status (Illegal place rule) = Wrong
