use Rattle.std.proofs.Common.{◌≡◌, ◌∷◌, codes, subst, sym, List}
use Rattle.std.specs.Option.{ok_or}
use Rattle.bp_cli.specs.declared.error.WordsError.TheVariants.{Usage}
use Rattle.bp_cli.specs.Words.{Word, texts}
use Rattle.bp_cli.specs.Tasks.{IsPlain}
use Rattle.bp_cli.specs.Asked.{IsAnswered}
use Rattle.bp_cli.specs.Clap.{words_of}
use Rattle.bp_cli.proofs.Meaning.{plain_line}
use Rattle.bp_cli.proofs.Lines.{task_answered}
use Rattle.bp_cli.proofs.desk.desk_line.Goals as goal

pub desk_words-requires : goal.desk_words-requires
desk_words-requires c = plain_line (texts c.args.words.now) (c.is_desk_line.ensures.0 c.if-not-is_desk_line.false)

pub returns : goal.returns
returns c =
    let plain = c.is_desk_line.ensures.0 c.if-not-is_desk_line.false in
    let (line, is_plain, are) = plain_line (texts c.args.words.now) plain in
    let gives = c.in-Ok.ensures line is_plain are in
    let asks = c.task_of.ensures line (subst (λ (ws : List Word). IsPlain (codes "desk" ∷ ws)) are plain) gives in
    let answered = task_answered (codes "desk" ∷ words_of line) c.task_of.result asks in
    rw c.ok_or.ensures.value (subst (λ (ws : List Word). IsAnswered (codes "desk" ∷ ws) (ok_or c.task_of.result Usage)) (sym are) answered)
