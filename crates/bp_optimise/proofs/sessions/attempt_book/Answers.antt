use Rattle.std.proofs.Common.{rules, Ok, None, ap}
use Rattle.bp_types.specs.declared.command.Command.TheVariants.{Book}
use Rattle.bp_core.specs.declared.call.Call.TheVariants.{Do}
use Rattle.bp_core.specs.declared.call.Answer.TheVariants.{Behind, HistoryFull as NoEntry}
use Rattle.bp_desk.specs.Calling.{IsCalled, AddsCall}
use Rattle.bp_desk.specs.Typed.{book_answer}
use Rattle.bp_optimise.specs.Acts.{commands_in}
use Rattle.bp_optimise.proofs.Stopping.{command_acts, acts_by_command, acts_twice, is_made, is_full, is_behind, book_logged, attempt_after}
use Rattle.bp_optimise.proofs.sessions.attempt_book.Goals as goal

pub returns-in-Ok : goal.returns-in-Ok
returns-in-Ok g c =
    let adds : AddsCall c.args.pass.now c.book.new.pass (Do (Book c.args.stay) None) (book_answer (Ok c.in-Ok.field-0)) = search rules in
    record {
      goes_on = acts_by_command c.args.lead c.args.pass.now c.book.new.pass (Book c.args.stay) None (book_answer c.book.result)
          c.args.optimiser.now c.book.ensures.called c.requires.goes;
      attempt = is_made c.args.pass.now c.book.new.pass (Book c.args.stay) None (book_answer (Ok c.in-Ok.field-0)) adds (book_logged c.in-Ok.field-0);
    }

pub returns-in-Err-HistoryFull : goal.returns-in-Err-HistoryFull
returns-in-Err-HistoryFull g c =
    let adds : AddsCall c.args.pass.now c.book.new.pass (Do (Book c.args.stay) None) NoEntry = search rules in
    let called : IsCalled c.args.pass.now c.book.new.pass (Do (Book c.args.stay) None) NoEntry = search rules in
    record {
      goes_on = acts_by_command c.args.lead c.args.pass.now c.book.new.pass (Book c.args.stay) None (book_answer c.book.result)
          c.args.optimiser.now c.book.ensures.called c.requires.goes;
      attempt = is_full c.args.pass.now c.book.new.pass (Book c.args.stay) None called adds;
    }

pub returns-then-full : goal.returns-then-full
returns-then-full g c =
    let b = c.in-Err-Behind in
    let adds : AddsCall c.args.pass.now c.book.new.pass (Do (Book c.args.stay) None) (Behind b.field-0-0 b.field-0-1) = search rules in
    let called : IsCalled c.args.pass.now c.book.new.pass (Do (Book c.args.stay) None) (Behind b.field-0-0 b.field-0-1) = search rules in
    record {
      goes_on = acts_by_command c.args.lead c.args.pass.now c.book.new.pass (Book c.args.stay) None (book_answer c.book.result)
          c.args.optimiser.now c.book.ensures.called c.requires.goes;
      attempt = is_behind c.args.pass.now c.book.new.pass (Book c.args.stay) None b.field-0-0 b.field-0-1 called adds (c.requires.full c.if-full.true);
    }

pub returns-else-full : goal.returns-else-full
returns-else-full g c =
    let b = c.in-Err-Behind in
    let adds : AddsCall c.args.pass.now c.book.new.pass (Do (Book c.args.stay) None) (Behind b.field-0-0 b.field-0-1) = search rules in
    record {
      goes_on = acts_twice c.args.lead c.args.pass.now c.book.new.pass c.publish_again.new.pass c.publish_again.new.optimiser
          (command_acts c.args.lead c.args.pass.now c.book.new.pass (Book c.args.stay) None (book_answer c.book.result) c.book.ensures.called)
          c.publish_again.ensures.goes_on;
      attempt = attempt_after (Book c.args.stay) c.args.pass.now c.book.new.pass c.publish_again.new.pass c.publish_again.result (ap commands_in adds)
          (c.publish_again.ensures.attempt (Book c.args.stay));
    }
