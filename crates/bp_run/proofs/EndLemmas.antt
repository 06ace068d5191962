-- From the files of a command to the end of a call. The proof of a command cites `brings_stop` and `brings_answer`, that
-- of the whole program `serves`, `serves_nothing` and `known`.
use Rattle.std.proofs.Common.{
  ◌≡◌,
  ◌≢◌,
  inl,
  inr,
  ℕ,
  ◌≤◌,
  ◌<◌,
  ◌⊎◌,
  Bool,
  true,
  false,
  refl,
  ap,
  sym,
  subst,
  ◌∙◌,
  arith,
  List,
  [],
  ◌∷◌,
  Option,
  None,
  Some,
  Result,
  Ok,
  Err,
}
use Rattle.std.specs.Prelude.{codes, if◌then◌else◌, IfOk}
use Rattle.std.specs.List.{list_all}
use Rattle.bp_cert.specs.declared.verdict.Verdict.{Verdict}
use Rattle.bp_cert.specs.declared.verdict.Verdict.TheVariants.{WrongLength, PriceTooGreat, AboveForecast, Overfull, Gap, Misvalued, Optimal}
use Rattle.std.specs.Str.{bytes_eq}
use Rattle.std.proofs.lemmas.Str.Parse.{digits_value_short}
use Rattle.bp_cli.specs.Words.{Word, IsNumber}
use Rattle.bp_cli.proofs.NumberLemmas.{numerals}
use Rattle.bp_cli.specs.Tasks.{Task, Asks, check, solve, group, judge, desk, replay, report, demo, scenarios, sheet, portfolio}
use Rattle.bp_types.specs.declared.limits.TheConstants.{MOST_WORKERS}
use Rattle.bp_cli.specs.Laws.{TasksAreUnique}
use Rattle.bp_script.specs.declared.generator.TheConstants.{SEEDS}
use Rattle.bp_cli.specs.Tasks.{AsksWorkers}
use Rattle.bp_desk_run.specs.declared.callers.Ran.{Ran as RanValue}
use Rattle.bp_run.specs.declared.outcome.DeskLine.{DeskLine}
use Rattle.bp_run.specs.Served.{IsPlainTask, IsDesk, AreScenarios, AreServed, NamesThreads, MayStartThreads, IsPortfolio}
use Rattle.bp_run.specs.declared.outcome.PortfolioLine.{PortfolioLine}
use Rattle.bp_run.specs.Portfolio.{portfolio_command}
use Rattle.bp_run.specs.Statuses.{status_number}
use Rattle.bp_inputs.specs.Fetches.{Fetches}
use Rattle.bp_inputs.specs.Stops.{Follows}
use Rattle.bp_run.specs.Command.{Command, Brings, IsStopped, IsAnswered, IsAnswerOf}
use Rattle.bp_run.specs.Desk.{desk_command}
use Rattle.bp_run.specs.Scenarios.{scenarios_command}
use Rattle.bp_scenarios.specs.declared.outcome.Outcome.{Outcome as ScenarioOutcome}
use Rattle.bp_run.specs.declared.outcome.ScenariosLine.{ScenariosLine}
use Rattle.bp_run.specs.Check.{verdict_status}
use Rattle.bp_run.specs.Group.{group_status}
use Rattle.bp_run.specs.Report.{report_command, report_status}
use Rattle.bp_run.specs.Demo.{HasDemoNumbers}
use Rattle.bp_inputs.specs.HotelPlan.{HotelNames, named}
use Rattle.bp_run.specs.Judge.{ruling_status, ruling_command, replay_plan}
use Rattle.bp_run.specs.Commands.{command_of, answer_status, IsPlainAnswer}
use Rattle.bp_run.specs.Lines.{said, end_status}
use Rattle.bp_run.specs.Puts.{Puts, Prints}
use Rattle.bp_run.specs.Ends.{
  HasEnd,
  IsDeskOf,
  AreScenariosOf,
  five_names,
  HasStopped,
  IsPlainEnd,
  Outcome,
  HoldsAll,
  IsComplete,
  HasTaskEnd,
  Serves,
  IsPortfolioOf,
}
use Rattle.bp_inputs.specs.declared.stop.Stop.{Stop}
use Rattle.bp_inputs.specs.declared.stop.Stop.TheVariants as stops
use Rattle.bp_run.specs.declared.status.Status.{Status}
use Rattle.bp_run.specs.declared.status.Status.TheVariants as status
use Rattle.bp_run.specs.declared.end.Answer.{Answer}
use Rattle.bp_run.specs.declared.end.Answer.TheVariants.{Checked, Solved, Grouped, Judged, Ran, Sheeted, Reported, Demonstrated, Foreseen, RanAll}
use Rattle.bp_run.specs.declared.commands.group.GroupAnswer.{GroupAnswer}
use Rattle.bp_run.specs.declared.commands.group.GroupAnswer.TheVariants.{Quoted, BadSpan, NoRoom}
use Rattle.bp_run.specs.declared.commands.judge.Ruling.{Ruling}
use Rattle.bp_run.specs.declared.commands.judge.Ruling.TheVariants.{Legal, Illegal}
use Rattle.bp_run.specs.declared.commands.report.ReportAnswer.{ReportAnswer}
use Rattle.bp_run.specs.declared.commands.report.ReportAnswer.TheVariants.{Tables, Illegal as IllegalReport}
use Rattle.bp_run.specs.declared.end.End.{End}
use Rattle.bp_run.specs.declared.end.End.TheVariants.{NotPlain, Fault, Refused, Answered}

-- a command whose files stop, stops
pub brings_stop : (shelf : Fetches) (command : Command) (next : ℕ) (stop : Stop) → Follows shelf command.plan 1 next (Err stop) →
    Brings shelf command (Err stop)
brings_stop shelf command next stop follows = record { stops = follows.answers; unfailing = follows.unfailing }

-- a command whose files give something answers it
pub brings_answer : (shelf : Fetches) (command : Command) (next : ℕ) (given : command.Given) (own : command.Own)
    → Follows shelf command.plan 1 next (Ok given) → command.IsRight given own → Brings shelf command (Ok own)
brings_answer shelf command next given own follows right = record { given = given; next = next; gives = follows.answers; right = right }

-- a judge of files with other names that are the same
pub brings_named : (shelf : Fetches) (n m : HotelNames) (v w : Word) (result : Result Ruling Stop) → n ≡ m → v ≡ w
    → Brings shelf (ruling_command (replay_plan n v)) result → Brings shelf (ruling_command (replay_plan m w)) result
brings_named shelf n m v w result names word brings =
    let P : HotelNames → Type 0 = λ x. Brings shelf (ruling_command (replay_plan x v)) result in
    let Q : Word → Type 0 = λ x. Brings shelf (ruling_command (replay_plan m x)) result in
    subst Q word (subst P names brings)

-- so it is of a report
pub reports_named : (shelf : Fetches) (n m : HotelNames) (v w : Word) (result : Result ReportAnswer Stop) → n ≡ m → v ≡ w
    → Brings shelf (report_command n v) result → Brings shelf (report_command m w) result
reports_named shelf n m v w result names word brings =
    let P : HotelNames → Type 0 = λ x. Brings shelf (report_command x v) result in
    let Q : Word → Type 0 = λ x. Brings shelf (report_command m x) result in
    subst Q word (subst P names brings)

-- a verdict is done or wrong
pub verdict_number : (verdict : Verdict) → status_number (verdict_status verdict) ≤ 1
verdict_number (Optimal value) = omega arith
verdict_number WrongLength = omega arith
verdict_number (PriceTooGreat night) = omega arith
verdict_number (AboveForecast stay) = omega arith
verdict_number (Overfull night load) = omega arith
verdict_number (Gap worth bound) = omega arith
verdict_number (Misvalued worth) = omega arith

-- a group is done or refused
group_number : (answer : GroupAnswer) → status_number (group_status answer) ≤ 3
group_number (Quoted displacement before after) = omega arith
group_number BadSpan = omega arith
group_number (NoRoom night) = omega arith

-- a ruling is done or wrong
pub ruling_number : (ruling : Ruling) → status_number (ruling_status ruling) ≤ 1
ruling_number (Legal entries) = omega arith
ruling_number (Illegal place rule) = omega arith

-- a report is done, or the journal is wrong
pub report_number : (answer : ReportAnswer) → status_number (report_status answer) ≤ 1
report_number (Tables text) = omega arith
report_number (IllegalReport place rule) = omega arith

-- a run is done or unfinished
run_number : (whole : Bool) → (status_number (if whole then status.Done else status.Unfinished) ≤ 3) ⊎
    (status_number (if whole then status.Done else status.Unfinished) ≡ 7)
run_number true = inl (omega arith)
run_number false = inr refl

-- an answer is done, wrong, refused or unfinished
answer_number : (answer : Answer) → (status_number (answer_status answer) ≤ 3) ⊎ (status_number (answer_status answer) ≡ 7)
answer_number (Checked verdict) = let least = verdict_number verdict in inl (omega arith)
answer_number (Solved claim) = inl (omega arith)
answer_number (Grouped answer) = inl (group_number answer)
answer_number (Judged ruling) = let least = ruling_number ruling in inl (omega arith)
answer_number (Ran ran) = run_number ran.whole
answer_number (Sheeted text) = inl (omega arith)
answer_number (Demonstrated text) = inl (omega arith)
answer_number (Reported answer) = let least = report_number answer in inl (omega arith)
answer_number (Foreseen outcomes) = inl (omega arith)
answer_number (RanAll runs) = run_number (list_all (λ (ran : RanValue). ran.whole) runs)

plain_answer_number : (answer : Answer) → IsPlainAnswer answer → status_number (answer_status answer) ≤ 3
plain_answer_number (Checked verdict) plain = let least = verdict_number verdict in omega arith
plain_answer_number (Solved claim) plain = omega arith
plain_answer_number (Grouped answer) plain = group_number answer
plain_answer_number (Judged ruling) plain = let least = ruling_number ruling in omega arith
plain_answer_number (Ran ran) plain = absurd plain
plain_answer_number (Sheeted text) plain = omega arith
plain_answer_number (Demonstrated text) plain = omega arith
plain_answer_number (Reported answer) plain = let least = report_number answer in omega arith
plain_answer_number (Foreseen outcomes) plain = omega arith
plain_answer_number (RanAll runs) plain = absurd plain

-- so no answer is a fault
pub answer_is_no_fault : (answer : Answer) → answer_status answer ≢ status.Fault
answer_is_no_fault answer is =
    let four = ap status_number is in elim (answer_number answer) [
      | inl small ↦ omega (arith, small, four)
      | inr seven ↦ omega (arith, seven, four)
    ]

-- the status of an end is at most that of a fault, or that of a run that was cut
end_number : (end : End) → (status_number (end_status end) ≤ 4) ⊎ (status_number (end_status end) ≡ 7)
end_number NotPlain = inl (omega arith)
end_number (Fault file) = inl (omega arith)
end_number (Refused file cause) = inl (omega arith)
end_number (Answered answer) = elim (answer_number answer) [
  | inl small ↦ inl (omega (arith, small))
  | inr seven ↦ inr seven
]

plain_end_number : (end : End) → IsPlainEnd end → status_number (end_status end) ≤ 4
plain_end_number NotPlain plain = omega arith
plain_end_number (Fault file) plain = omega arith
plain_end_number (Refused file cause) plain = omega arith
plain_end_number (Answered answer) plain = let small = plain_answer_number answer plain in omega arith

not_four : (n : ℕ) → (n ≤ 3) ⊎ (n ≡ 7) → n ≡ 4 → ⊥
not_four n (inl small) four = omega (arith, small, four)
not_four n (inr seven) four = omega (arith, seven, four)

-- such a status is neither that of a cut nor that of no memory
not_five : (n : ℕ) → (n ≤ 4) ⊎ (n ≡ 7) → n ≡ 5 → ⊥
not_five n (inl small) five = omega (arith, small, five)
not_five n (inr seven) five = omega (arith, seven, five)

not_six : (n : ℕ) → (n ≤ 4) ⊎ (n ≡ 7) → n ≡ 6 → ⊥
not_six n (inl small) six = omega (arith, small, six)
not_six n (inr seven) six = omega (arith, seven, six)

at_most_seven : (n : ℕ) → (n ≤ 4) ⊎ (n ≡ 7) → n ≤ 7
at_most_seven n (inl small) = omega (arith, small)
at_most_seven n (inr seven) = omega (arith, seven)

-- an end that is written has a status that is known
pub known : (out : Puts) (end : End) (s : Status) → Prints out end s → status_number s ≤ 7
known out end s (inl (is, written)) = let small = at_most_seven _ (end_number end) in let same = ap status_number is in omega arith
known out end s (inr (inl (is, cut))) = let same = ap status_number is in omega arith
known out end s (inr (inr (is, part))) = let same = ap status_number is in omega arith

-- one that one thread comes to is no cut run
pub plain_known : (out : Puts) (end : End) (s : Status) → IsPlainEnd end → Prints out end s → status_number s ≤ 6
plain_known out end s plain (inl (is, written)) = let small = plain_end_number end plain in let same = ap status_number is in omega arith
plain_known out end s plain (inr (inl (is, cut))) = let same = ap status_number is in omega arith
plain_known out end s plain (inr (inr (is, part))) = let same = ap status_number is in omega arith

-- an end has its status and its text
outcome : (words : List Word) (shelf : Fetches) (end : End) → HasEnd words shelf end → Outcome words shelf (status_number (end_status end)) (said end)
outcome words shelf end has = record { end = end; has = has; status_is = refl; text_is = refl }

-- an end that is written serves the words, where it is no fault that a steady shelf rules out, and small where the words
-- are complete
module _ (words : List Word) (shelf : Fetches) (out : Puts) (end : End) (has : HasEnd words shelf end)
    (no_fault : shelf.before.steady → HoldsAll words shelf.before.held → end_status end ≢ status.Fault)
    (small : shelf.before.steady → IsComplete words shelf.before.held → status_number (end_status end) ≤ 1) where
  at_end : (s : Status) → Prints out end s → Serves words shelf out (status_number s)
  at_end s (inl (is, written)) =
      let same : status_number s ≡ status_number (end_status end) = ap status_number is in
      let apart = end_number end in record {
        done = λ not_cut not_empty. (let P : ℕ → Type 0 = λ n. Outcome words shelf n (said end) in
            record { text = said end; outcome = subst P (sym same) (outcome words shelf end has); written = written });
        cut_off = λ five. absurd (not_five _ apart (sym same ∙ five));
        no_memory = λ six. absurd (not_six _ apart (sym same ∙ six));
        steady_shelf = λ steady holds four. no_fault steady holds (fault_of end (sym same ∙ four));
        steady_sink = λ steady five. not_five _ apart (sym same ∙ five);
        complete = λ steady sink all. (let few = small steady all in inl (omega arith));
      }
    where
      fault_of : (e : End) → status_number (end_status e) ≡ 4 → end_status e ≡ status.Fault
      fault_of NotPlain four = absurd (omega arith)
      fault_of (Fault file) four = refl
      fault_of (Refused file cause) four = absurd (omega arith)
      fault_of (Answered answer) four = absurd (not_four _ (answer_number answer) four)
  at_end s (inr (inl (is, cut))) =
      let same : status_number s ≡ 5 = ap status_number is in record {
        done = λ not_cut not_empty. absurd (not_cut same);
        cut_off = λ five. (
          cut.rose,
          record { number = status_number (end_status end); text = said end; outcome = outcome words shelf end has; written = cut.written },
        );
        no_memory = λ six. absurd (omega arith);
        steady_shelf = λ steady holds four. omega arith;
        steady_sink = λ steady five. cut.unsteady steady;
        complete = λ steady sink all. absurd (cut.unsteady sink);
      }
  at_end s (inr (inr (is, part))) =
      let same : status_number s ≡ 6 = ap status_number is in record {
        done = λ not_cut not_empty. absurd (not_empty same);
        cut_off = λ five. absurd (omega arith);
        no_memory = λ six. inr (record { number = status_number (end_status end); text = said end; outcome = outcome words shelf end has; written = part });
        steady_shelf = λ steady holds four. omega arith;
        steady_sink = λ steady five. omega arith;
        complete = λ steady sink all. inr same;
      }

  pub serves : (s : Status) (number : ℕ) → number ≡ status_number s → Prints out end s → Serves words shelf out number
  serves s number is prints = let P : ℕ → Type 0 = λ n. Serves words shelf out n in subst P (sym is) (at_end s prints)

-- a call that finds no memory before it writes
pub serves_nothing : (words : List Word) (shelf : Fetches) (out : Puts) (number : ℕ) → number ≡ 6 → out.now.written ≡ out.before.written →
    Serves words shelf out number
serves_nothing words shelf out number is same = record {
  done = λ not_cut not_empty. absurd (not_empty is);
  cut_off = λ five. absurd (omega arith);
  no_memory = λ six. inl same;
  steady_shelf = λ steady holds four. omega arith;
  steady_sink = λ steady five. omega arith;
  complete = λ steady sink all. inr is;
}

-- a plain command is none that may start threads
threads_apart : (first command : Word) → first ≡ command → (command ≡ codes "desk" → ⊥) → (command ≡ codes "scenarios" → ⊥) →
    (command ≡ codes "portfolio" → ⊥) → NamesThreads first → ⊥
threads_apart first command is not_desk not_scenarios not_portfolio names = elim names [
  | inl e ↦ not_desk (sym is ∙ e)
  | inr (inl e) ↦ not_scenarios (sym is ∙ e)
  | inr (inr e) ↦ not_portfolio (sym is ∙ e)
]

-- the first word of a line
first_word : (first : Word) (rest : List Word) (word : Word) (behind : List Word) → first ∷ rest ≡ word ∷ behind → first ≡ word
first_word first rest word behind same = cc

-- a demo is none that may start threads
demo_apart : (first : Word) → first ≡ codes "demo" → NamesThreads first → ⊥
demo_apart first is names =
    threads_apart first (codes "demo") is
    (λ e. let no : false ≡ true = ap (λ (w : Word). bytes_eq w (codes "desk")) e in cc)
    (λ e. let no : false ≡ true = ap (λ (w : Word). bytes_eq w (codes "scenarios")) e in cc)
    (λ e. let no : false ≡ true = ap (λ (w : Word). bytes_eq w (codes "portfolio")) e in cc)
    names

-- the tasks that may start threads
pub threads_task : (words : List Word) (task : Task) → MayStartThreads words → Asks words task → IsDesk task ⊎ AreScenarios task ⊎ IsPortfolio task
threads_task [] task may asks = absurd may
threads_task (first ∷ rest) (check p c) may asks =
    let is : first ≡ codes "check" = cc in absurd (threads_apart first (codes "check") is (λ e. cc) (λ e. cc) (λ e. cc) may)
threads_task (first ∷ rest) (solve p) may asks =
    let is : first ≡ codes "solve" = cc in absurd (threads_apart first (codes "solve") is (λ e. cc) (λ e. cc) (λ e. cc) may)
threads_task (first ∷ rest) (group p from to rooms) may asks =
    let words = asks.words_are in
    let is : first ≡ codes "group" = cc in absurd (threads_apart first (codes "group") is (λ e. cc) (λ e. cc) (λ e. cc) may)
threads_task (first ∷ rest) (judge p j) may asks =
    let is : first ≡ codes "judge" = cc in absurd (threads_apart first (codes "judge") is (λ e. cc) (λ e. cc) (λ e. cc) may)
threads_task (first ∷ rest) (desk names workers) may asks = inl (names, workers, refl)
threads_task (first ∷ rest) (replay names) may asks =
    let is : first ≡ codes "replay" = cc in absurd (threads_apart first (codes "replay") is (λ e. cc) (λ e. cc) (λ e. cc) may)
threads_task (first ∷ rest) (report names) may asks =
    let is : first ≡ codes "report" = cc in absurd (threads_apart first (codes "report") is (λ e. cc) (λ e. cc) (λ e. cc) may)
threads_task (first ∷ rest) (demo seed nights rooms stays) may asks =
    absurd (demo_apart first (first_word first rest (codes "demo") _ asks.words_are) may)
threads_task (first ∷ rest) (scenarios p changes) may asks = inr (inl (p, changes, refl))
threads_task (first ∷ rest) (sheet p) may asks =
    let is : first ≡ codes "sheet" = cc in absurd (threads_apart first (codes "sheet") is (λ e. cc) (λ e. cc) (λ e. cc) may)
threads_task (first ∷ rest) (portfolio list workers) may asks = inr (inr (list, workers, refl))

-- and those that one thread can do
pub plain_task : (words : List Word) (task : Task) → (MayStartThreads words → ⊥) → Asks words task → IsPlainTask task
plain_task words (check p c) single asks = tt
plain_task words (solve p) single asks = tt
plain_task words (group p from to rooms) single asks = tt
plain_task words (judge p j) single asks = tt
plain_task words (desk names workers) single asks = single (subst MayStartThreads (sym asks.words_are) (inl refl))
plain_task words (replay names) single asks = tt
plain_task words (report names) single asks = tt
plain_task words (demo seed nights rooms stays) single asks = tt
plain_task words (scenarios p changes) single asks = tt
plain_task words (sheet p) single asks = tt
plain_task words (portfolio list workers) single asks = single (subst MayStartThreads (sym asks.words_are) (inr (inr refl)))

-- a number of a line is short
small_number : (word : Word) (n : ℕ) → IsNumber word n → n < SEEDS
small_number word n number = omega (arith, number.value, digits_value_short numerals word 9 number.digits.1 number.short)

-- the numbers of a demo are those that a line may have
pub demo_numbers : (words : List Word) (task : Task) → Asks words task → HasDemoNumbers task
demo_numbers words (check p c) asks = tt
demo_numbers words (solve p) asks = tt
demo_numbers words (group p from to rooms) asks = tt
demo_numbers words (judge p j) asks = tt
demo_numbers words (desk names workers) asks = tt
demo_numbers words (replay names) asks = tt
demo_numbers words (report names) asks = tt
demo_numbers words (demo seed nights rooms stays) asks = record {
  small_seed = small_number asks.seed_word seed asks.seed_is;
  some_night = asks.some_night;
  few_nights = asks.few_nights;
  few_rooms = asks.few_rooms;
  few_stays = asks.few_stays;
}
demo_numbers words (scenarios p changes) asks = tt
demo_numbers words (sheet p) asks = tt
demo_numbers words (portfolio list workers) asks = tt

-- words that ask for no task that may start threads are not served, where their command may
pub not_threads_task : TasksAreUnique → (words : List Word) (task : Task) → MayStartThreads words → Asks words task → (IsDesk task → ⊥) →
    (AreScenarios task → ⊥) → (IsPortfolio task → ⊥) → AreServed words → ⊥
not_threads_task unique words task may asks no_desk no_scenarios no_portfolio (t, asks_t) = elim (threads_task words t may asks_t) [
  | inl is ↦ no_desk (subst IsDesk (unique words t task asks_t asks) is)
  | inr (inl are) ↦ no_scenarios (subst AreScenarios (unique words t task asks_t asks) are)
  | inr (inr is) ↦ no_portfolio (subst IsPortfolio (unique words t task asks_t asks) is)
]

-- a command that was stopped at a file, and the end of each line that asks for its task
pub stopped_ends : {E : Type 0} (shelf : Fetches) (task : Task) (stop : Stop) (result : Result End E) → IsStopped shelf (command_of task) stop →
    HasStopped stop result
    → IfOk result (HasTaskEnd task shelf)
stopped_ends shelf task stops.Memory (Ok end) is e = absurd (let no : false ≡ true = e in cc)
stopped_ends shelf task stops.Memory (Err x) is e = tt
stopped_ends shelf task (stops.Fault k) result is e = rw e (λ words asks. (task, asks, is.stops))
stopped_ends shelf task (stops.Refused k cause) result is e = rw e (λ words asks. (task, asks, is.stops))

-- so it is one that one thread comes to
pub stopped_plain : {E : Type 0} (stop : Stop) (result : Result End E) → HasStopped stop result → IfOk result IsPlainEnd
stopped_plain stops.Memory (Ok end) e = absurd (let no : false ≡ true = e in cc)
stopped_plain stops.Memory (Err x) e = tt
stopped_plain (stops.Fault k) result e = rw e tt
stopped_plain (stops.Refused k cause) result e = rw e tt

-- a command that was stopped at a file, and the end of its call
module _ {E : Type 0} (words : List Word) (shelf : Fetches) (task : Task) (asks : Asks words task) where
  pub stopped_has : (stop : Stop) (result : Result End E) → IsStopped shelf (command_of task) stop → HasStopped stop result → IfOk result (HasEnd words shelf)
  stopped_has stops.Memory (Ok end) is e = absurd (let no : false ≡ true = e in cc)
  stopped_has stops.Memory (Err x) is e = tt
  stopped_has (stops.Fault k) result is e = rw e (task, asks, is.stops)
  stopped_has (stops.Refused k cause) result is e = rw e (task, asks, is.stops)

  pub stopped_unfailing : (stop : Stop) (result : Result End E) → IsStopped shelf (command_of task) stop → HasStopped stop result
      → shelf.before.steady → HoldsAll words shelf.before.held → IfOk result (λ end. end_status end ≢ status.Fault)
  stopped_unfailing stops.Memory (Ok end) is e steady holds = absurd (let no : false ≡ true = e in cc)
  stopped_unfailing stops.Memory (Err x) is e steady holds = tt
  stopped_unfailing (stops.Fault k) result is e steady holds = absurd (is.unfailing steady holds.files holds.told (holds.each task asks) tt)
  stopped_unfailing (stops.Refused k cause) result is e steady holds = rw e (λ same. cc)

-- the line of a desk, and the end of its call
module _ (words : List Word) (shelf : Fetches) (task : Task) (line : DeskLine) (asks : Asks words task) (is : IsDeskOf task line) where
  pub ran_has : (ran : RanValue) → IsAnswered shelf.before.held (desk_command (named line.hotel) line.script.now line.workers) ran →
      HasEnd words shelf (Answered (Ran ran))
  ran_has ran answered =
      let P : Task → Type 0 = λ t. IsAnswerOf shelf.before.held (command_of t) (Ran ran) in
      (task, asks, subst P (sym is) (record { own = ran; is = refl; answered = answered }))

  pub ran_stopped : (stop : Stop) → IsStopped shelf (desk_command (named line.hotel) line.script.now line.workers) stop → IsStopped shelf (command_of task) stop
  ran_stopped stop stopped = let P : Task → Type 0 = λ t. IsStopped shelf (command_of t) stop in subst P (sym is) stopped

-- the line of scenarios, and the end of its call
module _ (words : List Word) (shelf : Fetches) (task : Task) (line : ScenariosLine) (asks : Asks words task) (are : AreScenariosOf task line) where
  pub foreseen_has : (outcomes : List ScenarioOutcome) → IsAnswered shelf.before.held (scenarios_command line.problem.now line.changes.now) outcomes →
      HasEnd words shelf (Answered (Foreseen outcomes))
  foreseen_has outcomes answered =
      let P : Task → Type 0 = λ t. IsAnswerOf shelf.before.held (command_of t) (Foreseen outcomes) in
      (task, asks, subst P (sym are) (record { own = outcomes; is = refl; answered = answered }))

  pub foreseen_stopped : (stop : Stop) → IsStopped shelf (scenarios_command line.problem.now line.changes.now) stop → IsStopped shelf (command_of task) stop
  foreseen_stopped stop stopped = let P : Task → Type 0 = λ t. IsStopped shelf (command_of t) stop in subst P (sym are) stopped

given_few : (given : Option Word) (workers : ℕ) → AsksWorkers given workers → workers ≤ MOST_WORKERS
given_few None workers is = omega (arith, is)
given_few (Some word) workers (number, few) = few

-- and it has no more workers than there may be
pub few_workers : (words : List Word) (task : Task) (line : DeskLine) → Asks words task → IsDeskOf task line → line.workers ≤ MOST_WORKERS
few_workers words task line asks is =
    let desk_asks : Asks words (desk (five_names (named line.hotel) line.script.now) line.workers) = subst (Asks words) is asks in
    given_few desk_asks.given line.workers desk_asks.workers_are

-- the line of a portfolio, and the end of its call
module _ (words : List Word) (shelf : Fetches) (task : Task) (line : PortfolioLine) (asks : Asks words task) (is : IsPortfolioOf task line) where
  pub ran_all_has : (runs : List RanValue) → IsAnswered shelf.before.held (portfolio_command line.list.now line.workers) runs →
      HasEnd words shelf (Answered (RanAll runs))
  ran_all_has runs answered =
      let P : Task → Type 0 = λ t. IsAnswerOf shelf.before.held (command_of t) (RanAll runs) in
      (task, asks, subst P (sym is) (record { own = runs; is = refl; answered = answered }))

  pub ran_all_stopped : (stop : Stop) → IsStopped shelf (portfolio_command line.list.now line.workers) stop → IsStopped shelf (command_of task) stop
  ran_all_stopped stop stopped = let P : Task → Type 0 = λ t. IsStopped shelf (command_of t) stop in subst P (sym is) stopped

-- and it has no more workers than there may be
pub few_workers_each : (words : List Word) (task : Task) (line : PortfolioLine) → Asks words task → IsPortfolioOf task line → line.workers ≤ MOST_WORKERS
few_workers_each words task line asks is =
    let these : Asks words (portfolio line.list.now line.workers) = subst (Asks words) is asks in
    given_few these.given line.workers these.workers_are
