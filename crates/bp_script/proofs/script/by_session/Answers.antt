use Rattle.std.proofs.Common.{◌≡◌, ◌∙◌, ◌+◌, rules, ap₂, ◌∷◌, ◌++◌, [], true, arith, sym}
use Rattle.std.specs.Result.{is_ok}
use Rattle.std.proofs.lemmas.List.FromFn.{map-range_with_len_more}
use Rattle.bp_script.specs.Scripts.{commands_of}
use Rattle.bp_script.proofs.script.by_session.Goals as goal

pub loop-before-preserved : goal.loop-before-preserved
loop-before-preserved c =
    let good : is_ok c.push.result ≡ true = search rules in
    let items = rw good at c.push.ensures.items in
    rw (items, c.loop-before.invariant, c.in_ok-commands.ensures)
    (sym (map-range_with_len_more (commands_of c.args.requests.now) 1 c.loop-before.before (c.loop-before.before + 1) (omega arith)))
