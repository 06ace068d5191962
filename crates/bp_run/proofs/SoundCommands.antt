-- What each kind of file and each command owes to completeness.
use Rattle.std.proofs.Common.{◌≡◌, refl, Bool, true, false, ◌≤◌, ◌-◌, ℕ, arith, List, [], ◌∷◌, ◌++◌, length, Some, Ok, Err, slice_index}
use Rattle.std.specs.Prelude.{nat_lt, if◌then◌else◌}
use Rattle.std.specs.List.{list_all}
use Rattle.std.proofs.lemmas.Bool.{ltb-true, and_from}
use Rattle.bp_types.specs.Program.{Program}
use Rattle.bp_types.specs.declared.stay.Span.{Span}
use Rattle.bp_types.specs.Spans.{IsSpanWithin, first_short}
use Rattle.bp_types.specs.Changes.{HasUnits}
use Rattle.bp_types.proofs.Firsts.{first_passes}
use Rattle.bp_text.specs.Lines.{Line}
use Rattle.bp_text.specs.Reading.{IsText}
use Rattle.bp_text.specs.Laws.{IsReadOneWay as TextsReadOneWay}
use Rattle.bp_cert.specs.Texts.{problem_lines, all_certificate_lines, IsProblem, IsSpeakable}
use Rattle.bp_core.specs.Lines.{History}
use Rattle.bp_journal.specs.Read.{IsJournalText}
use Rattle.bp_journal.specs.Laws.{OneReading}
use Rattle.bp_scenarios.specs.Refused.{IsChangeWithin}
use Rattle.bp_scenarios.specs.Texts.{scenario_lines, AreWithin}
use Rattle.bp_scenarios.specs.Laws.{ScenariosAreReadOneWay}
use Rattle.bp_portfolio.specs.Lists.{FiveNames, IsListText}
use Rattle.bp_portfolio.specs.Laws.{OneReading as OneListReading}
use Rattle.bp_portfolio.specs.Desks.{AreRightRuns, HaveRoom}
use Rattle.bp_desk_run.specs.declared.callers.Ran.{Ran}
use Rattle.bp_cli.specs.Words.{Word}
use Rattle.bp_cli.specs.Tasks.{Task, check, solve, group, judge, desk, replay, report, demo, scenarios, sheet, portfolio}
use Rattle.bp_run.specs.Statuses.{status_number}
use Rattle.bp_inputs.specs.Stages.{Plan, done, ask, followed_by, IsReadOneWay, AreReadOneWay}
use Rattle.bp_inputs.specs.TextFiles.{IsNoText, problem_file, certificate_file}
use Rattle.bp_inputs.specs.ScenarioFiles.{scenarios_file}
use Rattle.bp_inputs.specs.JournalFiles.{journal_file, IsNoJournal}
use Rattle.bp_desk_run.specs.RightRun.{Staged}
use Rattle.bp_inputs.specs.ListFiles.{list_file, IsNoList}
use Rattle.bp_run.specs.Desk.{script_plan, desk_plan}
use Rattle.bp_run.specs.Portfolio.{four_names, desks_plan}
use Rattle.bp_run.specs.declared.status.Status.TheVariants as status
use Rattle.bp_inputs.specs.HotelPlan.{HotelNames, hotel_plan}
use Rattle.bp_run.specs.Judge.{Charge, hotel_names, journal_plan}
use Rattle.bp_run.specs.Report.{Told, told_plan}
use Rattle.bp_run.specs.Group.{IsGroupAnswer, group_status, span_of}
use Rattle.bp_run.specs.Commands.{command_of}
use Rattle.bp_run.specs.declared.commands.group.GroupAnswer.{GroupAnswer}
use Rattle.bp_run.specs.declared.commands.group.GroupAnswer.TheVariants.{Quoted, BadSpan, NoRoom}
use Rattle.bp_inputs.specs.declared.cause.FileError.{FileError}
use Rattle.bp_inputs.specs.declared.cause.FileError.TheVariants.{Text, Hotel, Table}
use Rattle.bp_inputs.proofs.HotelOneWay.{hotel_plan_one_way, script_one_way}
use Rattle.bp_run.proofs.CompleteLemmas.{IsSound}
use Rattle.bp_run.proofs.EndLemmas.{verdict_number, ruling_number, report_number}

-- each kind of text is read in one way
pub record AreTextsReadOneWay : Type 0 where
  pub problems : TextsReadOneWay problem_lines IsProblem
  pub certificates : TextsReadOneWay all_certificate_lines IsSpeakable
  pub journals : OneReading
  pub scenarios : ScenariosAreReadOneWay
  pub lists : OneListReading

-- a kind of text that is read in one way
module _ {V : Type 0} (lines : V → List Line) (Within : V → Type 0) (law : TextsReadOneWay lines Within) where
  one_text : (bytes : List ℕ) (v w : V) → IsText lines Within bytes (Ok v) → IsText lines Within bytes (Ok w) → v ≡ w
  one_text bytes v w a b = let same = law bytes (Ok v) (Ok w) (λ e. cc) (λ e. cc) a b in cc

  no_text : (bytes : List ℕ) (v : V) (e : FileError) → IsText lines Within bytes (Ok v) → IsNoText lines Within bytes e → ⊥
  no_text bytes v (Text e) a (other, refused) =
      let same = law bytes (Ok v) (Err e) (λ x. cc) (λ x. other (cc)) a refused in cc
  no_text bytes v (Hotel e) a refused = refused
  no_text bytes v (Table e) a refused = refused

problem_one_way : AreTextsReadOneWay → (name : Word) → IsReadOneWay (problem_file name)
problem_one_way law name = record { one_value = one_text problem_lines IsProblem law.problems; not_both = no_text problem_lines IsProblem law.problems }

certificate_one_way : AreTextsReadOneWay → (name : Word) → IsReadOneWay (certificate_file name)
certificate_one_way law name =
    record { one_value = one_text all_certificate_lines IsSpeakable law.certificates; not_both = no_text all_certificate_lines IsSpeakable law.certificates }

scenarios_one_way : AreTextsReadOneWay → (p : Program) (name : Word) → IsReadOneWay (scenarios_file p name)
scenarios_one_way law p name = record {
  one_value = one_text scenario_lines (AreWithin (IsChangeWithin p)) (law.scenarios p);
  not_both = no_text scenario_lines (AreWithin (IsChangeWithin p)) (law.scenarios p);
}

journal_one_way : AreTextsReadOneWay → (name : Word) → IsReadOneWay (journal_file name)
journal_one_way law name = record { one_value = one_value; not_both = never }
  where
    one_value : (bytes : List ℕ) (v w : History) → IsJournalText bytes (Ok v) → IsJournalText bytes (Ok w) → v ≡ w
    one_value bytes v w a b = let same = law.journals bytes (Ok v) (Ok w) (λ e. cc) (λ e. cc) a b in cc

    never : (bytes : List ℕ) (v : History) (e : FileError) → IsJournalText bytes (Ok v) → IsNoJournal bytes e → ⊥
    never bytes v (Text e) a (other, refused) =
        let same = law.journals bytes (Ok v) (Err e) (λ x. cc) (λ x. other (cc)) a refused in cc
    never bytes v (Hotel e) a refused = refused
    never bytes v (Table e) a refused = refused

list_one_way : AreTextsReadOneWay → (name : Word) → IsReadOneWay (list_file name)
list_one_way law name = record { one_value = one_value; not_both = never }
  where
    one_value : (bytes : List ℕ) (v w : List FiveNames) → IsListText bytes (Ok v) → IsListText bytes (Ok w) → v ≡ w
    one_value bytes v w a b = let same = law.lists bytes (Ok v) (Ok w) (λ e. cc) (λ e. cc) a b in cc

    never : (bytes : List ℕ) (v : List FiveNames) (e : FileError) → IsListText bytes (Ok v) → IsNoList bytes e → ⊥
    never bytes v (Text e) a (other, refused) =
        let same = law.lists bytes (Ok v) (Err e) (λ x. cc) (λ x. other (cc)) a refused in cc
    never bytes v (Hotel e) a refused = refused
    never bytes v (Table e) a refused = refused

-- a plan of files that are read in one way, and behind it another
one_way_then : {A B : Type 0} (plan : Plan A) (after : A → Plan B) → AreReadOneWay plan → ((a : A) → AreReadOneWay (after a)) →
    AreReadOneWay (followed_by plan after)
one_way_then (done x) after first next = next x
one_way_then (ask s rest) after (here, later) next = (here, λ v. one_way_then (rest v) after (later v) next)

-- so it is with the five files of a desk, and with those of each hotel of a portfolio
desk_one_way : (names : HotelNames) (script : Word) → AreReadOneWay (desk_plan names script)
desk_one_way names script =
    one_way_then {B = Staged} (hotel_plan names) (λ inn. script_plan script inn) (hotel_plan_one_way names)
    (λ inn. (script_one_way inn.hotel inn.stays.codes script, λ w. tt))

desks_one_way : (front : List Staged) (hotels : List FiveNames) → AreReadOneWay (desks_plan front hotels)
desks_one_way front [] = tt
desks_one_way front (n ∷ hotels) =
    one_way_then {B = List Staged} (desk_plan (four_names n) n.script) (λ g. desks_plan (front ++ g ∷ []) hotels) (desk_one_way (four_names n) n.script)
    (λ g. desks_one_way (front ++ g ∷ []) hotels)

-- where each night of a span has the units, none is short
short_of_none : (p : Program) (span : Span) (units night : ℕ) → IsSpanWithin (length p.rooms) span × HasUnits p span units →
    first_short (slice_index p.rooms) span units ≡ Some night → ⊥
short_of_none p span units night (is_span, has) found =
    let first = first_passes (λ n. nat_lt (slice_index p.rooms n) units) span.from (span.to - span.from) night found in
    omega (arith, has night first.above (omega (arith, first.below, is_span.0)), ltb-true (slice_index p.rooms night) units first.passes)

-- a group whose nights are there and have the rooms is quoted
group_ends : (p : Program) (span : Span) (rooms : ℕ) (answer : GroupAnswer) → IsSpanWithin (length p.rooms) span × HasUnits p span rooms →
    IsGroupAnswer p span rooms answer
    → status_number (group_status answer) ≤ 1
group_ends p span rooms (Quoted displacement before after) served is = omega arith
group_ends p span rooms BadSpan served is = absurd (is served.0)
group_ends p span rooms (NoRoom night) served is = absurd (short_of_none p span rooms night served is.1)

-- a whole run is done
whole_ends : (whole : Bool) → whole ≡ true → status_number (if whole then status.Done else status.Unfinished) ≤ 1
whole_ends true is = omega arith
whole_ends false is = absurd (cc)

-- and so are several, each of which is whole
all_whole : (workers : ℕ) (hotels : List Staged) (runs : List Ran) → HaveRoom hotels → AreRightRuns workers hotels runs →
    list_all (λ (ran : Ran). ran.whole) runs ≡ true
all_whole workers [] [] room right = refl
all_whole workers [] (ran ∷ runs) room right = absurd right
all_whole workers (g ∷ hotels) [] room right = absurd right
all_whole workers (g ∷ hotels) (ran ∷ runs) room right =
    and_from ran.whole (list_all (λ (r : Ran). r.whole) runs) (right.0.room room.0) (all_whole workers hotels runs room.1 right.1)

-- each command
pub sound : AreTextsReadOneWay → (task : Task) → IsSound (command_of task)
sound law (check p c) = record {
  one_way = (problem_one_way law p, λ v. (certificate_one_way law c, λ w. tt));
  ends = λ g verdict served right. verdict_number verdict;
}
sound law (solve p) = record {
  one_way = (problem_one_way law p, λ v. tt);
  ends = λ g claim served right. omega arith;
}
sound law (group p from to rooms) = record {
  one_way = (problem_one_way law p, λ v. tt);
  ends = λ g answer served right. group_ends g (span_of from to) rooms answer served right;
}
sound law (judge p j) = record {
  one_way = (problem_one_way law p, λ v. (journal_one_way law j, λ w. tt));
  ends = λ g ruling served right. ruling_number ruling;
}
sound law (desk names workers) = record {
  one_way = desk_one_way (hotel_names names) names.last;
  ends = λ g ran served right. whole_ends ran.whole (right.room served);
}
sound law (replay names) = record {
  one_way = one_way_then {B =
      Charge} (hotel_plan (hotel_names names)) (λ inn. journal_plan names.last inn.house) (hotel_plan_one_way (hotel_names names))
      (λ inn. (journal_one_way law names.last, λ w. tt));
  ends = λ g ruling served right. ruling_number ruling;
}
sound law (report names) = record {
  one_way = one_way_then {B =
      Told} (hotel_plan (hotel_names names)) (λ inn. told_plan names.last inn) (hotel_plan_one_way (hotel_names names))
      (λ inn. (journal_one_way law names.last, λ w. tt));
  ends = λ g answer served right. report_number answer;
}
sound law (demo seed nights rooms stays) = record {
  one_way = tt;
  ends = λ g text served right. omega arith;
}
sound law (scenarios p changes) = record {
  one_way = (problem_one_way law p, λ v. (scenarios_one_way law v changes, λ w. tt));
  ends = λ g outcomes served right. omega arith;
}
sound law (sheet p) = record {
  one_way = (problem_one_way law p, λ v. tt);
  ends = λ g text served right. omega arith;
}
sound law (portfolio list workers) = record {
  one_way = (list_one_way law list, λ hotels. desks_one_way [] hotels);
  ends = λ hotels runs served right. whole_ends (list_all (λ (r : Ran). r.whole) runs) (all_whole workers hotels runs served right);
}
