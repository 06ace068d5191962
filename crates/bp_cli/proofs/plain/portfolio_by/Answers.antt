use Rattle.std.proofs.Common.{refl, rules, Some, ◌≡◌, codes}
use Rattle.bp_cli.specs.Words.{IsFileName}
use Rattle.bp_cli.proofs.plain.portfolio_by.Goals as goal

pub returns : goal.returns
returns c =
    let option : c.args.option.now ≡ codes "--workers" = search rules in
    let name : IsFileName c.args.list.now = search rules in
    let number = c.in_ok-workers.ensures in
    record {
      given = Some c.args.workers.now;
      words_are = rw (option, c.new-list.ensures) refl;
      file_name = rw c.new-list.ensures name;
      workers_are = (number.0, number.2);
    }
