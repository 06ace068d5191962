use Rattle.std.proofs.Common.{◌++◌, ◌∙◌, ap}
use Rattle.bp_text.specs.Lines.{numbers_text}
use Rattle.bp_journal.proofs.SpeltLemmas.{phrase_is}
use Rattle.bp_journal.proofs.spell.push_phrase.Goals as goal

pub returns : goal.returns
returns c =
    c.in_ok-push_numbers.ensures
    ∙ ap (λ t. t ++ numbers_text c.args.numbers.now) (c.in_ok-extend_from_slice.ensures.items ∙ ap (λ t. t ++ c.args.word.now) c.in_ok-push.ensures.items)
    ∙ phrase_is c.args.text.now.items c.args.word.now c.args.numbers.now
