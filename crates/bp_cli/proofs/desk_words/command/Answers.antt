use Rattle.std.proofs.Common.{◌≡◌, ◌∙◌, ap₂}
use Rattle.std.proofs.lemmas.Result.{IfOk-weaker}
use Rattle.clap.specs.Simple.{with_rule}
use Rattle.bp_cli.proofs.desk_words.command.Goals as goal

pub returns : goal.returns
returns c =
    let one = c.in_ok-one.ensures ∙ ap₂ with_rule c.named.ensures c.file.ensures.rule in
    let two = c.in_ok-two.ensures ∙ ap₂ with_rule one c.file-2.ensures.rule in
    let three = c.in_ok-three.ensures ∙ ap₂ with_rule two c.file-3.ensures.rule in
    let four = c.in_ok-four.ensures ∙ ap₂ with_rule three c.file-4.ensures.rule in
    let five = c.in_ok-five.ensures ∙ ap₂ with_rule four c.file-5.ensures.rule in
    IfOk-weaker c.with-6.result _ _ (λ r h. h ∙ ap₂ with_rule five c.workers.ensures.rule) c.with-6.ensures
