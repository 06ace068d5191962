use Rattle.std.proofs.Common.{◌≡◌, ◌∙◌, ◌∷◌, ◌<◌, rules, subst, sym, ap, List, length, drop, String}
use Rattle.std.specs.declared.alloc.Global.{Global}
use Rattle.std.proofs.lemmas.List.{take_rest}
use Rattle.bp_cli.specs.Words.{Word, texts}
use Rattle.bp_cli.specs.Asked.{IsAnswered}
use Rattle.bp_cli.specs.Forms.{command_of}
use Rattle.bp_cli.proofs.Lines.{form_tells, first_and_rest}
use Rattle.bp_cli.proofs.line.parse.Goals as goal

pub returns : goal.returns
returns c =
    let words : List (String Global) = c.args.words.now in
    let some : 0 < length words = search rules in
    let parts = first_and_rest words c.index-words-0.result some c.index-words-0.is in
    let named = form_tells c.as_str.result.now c.in-Some.form (sym c.in-Some.ensures) in
    let first = sym c.as_str.ensures.value ∙ named in
    let line : texts words ≡ command_of c.in-Some.form ∷ texts (drop 1 words) = parts ∙ ap (λ (w : Word). w ∷ texts (drop 1 words)) first in
    let answered : IsAnswered (command_of c.in-Some.form ∷ texts (drop 1 words)) c.task_by.result =
    subst (λ (behind : List (String Global)). IsAnswered (command_of c.in-Some.form ∷ texts behind) c.task_by.result) (take_rest words 1) c.task_by.ensures in
    subst (λ (ws : List Word). IsAnswered ws c.task_by.result) (sym line) answered
