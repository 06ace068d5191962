use Rattle.std.proofs.Common.{rules, Ok, Err, IsTrue, sym, ap, subst, ◌∙◌}
use Rattle.bp_types.specs.House.{Inn}
use Rattle.bp_types.specs.declared.command.Command.TheVariants.{Group}
use Rattle.bp_core.specs.declared.call.Call.TheVariants.{Do}
use Rattle.bp_core.specs.declared.call.Answer.TheVariants.{HistoryFull as NoEntry}
use Rattle.bp_core.specs.Legal.{is_command_in_range}
use Rattle.bp_desk.specs.Calling.{IsCalled, AddsCall}
use Rattle.bp_desk.specs.Typed.{group_answer}
use Rattle.bp_optimise.specs.Following.{HasLooked}
use Rattle.bp_optimise.specs.Acts.{commands_in}
use Rattle.bp_optimise.specs.declared.tries.Outcome.TheVariants.{Made, HistoryFull}
use Rattle.bp_optimise.specs.Tries.{MakesNone}
use Rattle.bp_optimise.proofs.Leading.{caught_up_looked}
use Rattle.bp_optimise.proofs.Doing.{look_acts}
use Rattle.bp_optimise.proofs.Stopping.{acts_by_command, acts_twice, is_made, is_full, group_logged, group_stops, group_span, outcome_after}
use Rattle.bp_optimise.proofs.sessions.attempt_group.Goals as goal

pub quote_units-requires : goal.quote_units-requires
quote_units-requires g c =
    let l = caught_up_looked c.args.pass.now c.advance.new.pass c.advance.new.self.position c.advance.ensures.caught_up in
    group_span c.advance.new.pass.house c.advance.new.pass.seen c.advance.new.self c.args.span c.args.rooms c.args.amount c.advance.ensures.goes
    (subst (λ (h : Inn). IsTrue (is_command_in_range h (Group c.args.span c.args.rooms c.args.amount))) (sym l.house) c.requires.range)

pub returns-in_default : goal.returns-in_default
returns-in_default g c =
    let old = c.args.pass.now in
    let mid = c.advance.new.pass in
    let l : HasLooked old mid = caught_up_looked old mid c.advance.new.self.position c.advance.ensures.caught_up in
    record {
      goes_on = record { acted = look_acts c.args.lead old mid l; goes = c.advance.ensures.goes };
      attempt = ap commands_in l.calls;
    }

pub returns-in-Ok-group : goal.returns-in-Ok-group
returns-in-Ok-group g c =
    let command = Group c.args.span c.args.rooms c.args.amount in
    let old = c.args.pass.now in
    let mid = c.advance.new.pass in
    let new = c.group.new.pass in
    let o = c.advance.new.self in
    let l : HasLooked old mid = caught_up_looked old mid o.position c.advance.ensures.caught_up in
    let looks = look_acts c.args.lead old mid l in
    let none : MakesNone old mid = ap commands_in l.calls in
    let adds : AddsCall mid new (Do command c.in-Ok.quoted) (group_answer (Ok c.in-Ok-group.field-0)) = search rules in
    record {
      goes_on = acts_twice c.args.lead old mid new o looks
          (acts_by_command c.args.lead mid new command c.in-Ok.quoted (group_answer c.group.result) o c.group.ensures.called c.advance.ensures.goes);
      attempt = outcome_after command old mid new Made none
          (is_made mid new command c.in-Ok.quoted (group_answer (Ok c.in-Ok-group.field-0)) adds (group_logged c.in-Ok-group.field-0));
    }

pub returns-in-Err-HistoryFull : goal.returns-in-Err-HistoryFull
returns-in-Err-HistoryFull g c =
    let command = Group c.args.span c.args.rooms c.args.amount in
    let old = c.args.pass.now in
    let mid = c.advance.new.pass in
    let new = c.group.new.pass in
    let o = c.advance.new.self in
    let l : HasLooked old mid = caught_up_looked old mid o.position c.advance.ensures.caught_up in
    let looks = look_acts c.args.lead old mid l in
    let none : MakesNone old mid = ap commands_in l.calls in
    let adds : AddsCall mid new (Do command c.in-Ok.quoted) NoEntry = search rules in
    let called : IsCalled mid new (Do command c.in-Ok.quoted) NoEntry = search rules in
    record {
      goes_on = acts_twice c.args.lead old mid new o looks
          (acts_by_command c.args.lead mid new command c.in-Ok.quoted (group_answer c.group.result) o c.group.ensures.called c.advance.ensures.goes);
      attempt = outcome_after command old mid new HistoryFull none (is_full mid new command c.in-Ok.quoted called adds);
    }

pub returns-in-Err-Unquoted : goal.returns-in-Err-Unquoted
returns-in-Err-Unquoted g c =
    let command = Group c.args.span c.args.rooms c.args.amount in
    let old = c.args.pass.now in
    let mid = c.advance.new.pass in
    let new = c.group.new.pass in
    let o = c.advance.new.self in
    let l : HasLooked old mid = caught_up_looked old mid o.position c.advance.ensures.caught_up in
    let looks = look_acts c.args.lead old mid l in
    let none : MakesNone old mid = ap commands_in l.calls in
    let adds : AddsCall mid new (Do command c.in-Ok.quoted) (group_answer (Err c.in-Err-Unquoted.field-0)) = search rules in
    record {
      goes_on = acts_twice c.args.lead old mid new o looks
          (acts_by_command c.args.lead mid new command c.in-Ok.quoted (group_answer c.group.result) o c.group.ensures.called c.advance.ensures.goes);
      attempt = ap commands_in (group_stops mid new command c.in-Ok.quoted c.in-Err-Unquoted.field-0 adds) ∙ none;
    }
