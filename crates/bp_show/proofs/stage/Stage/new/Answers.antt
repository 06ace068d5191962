use Rattle.std.proofs.Common.{rules, ap, fold, ◌∙◌}
use Rattle.bp_show.proofs.Faces.{names_same}
use Rattle.bp_show.proofs.Steps.{opens, splits_gift}
use Rattle.bp_show.proofs.stage.Stage.new.Goals as goal

pub of_words-requires : goal.of_words-requires
of_words-requires g c = rw (c.of-about.ensures) (opens c.args.vector)

pub split_seat-like-requires : goal.split_seat-like-requires
split_seat-like-requires g c = (search rules, search rules, splits_gift _ _)

pub publish_as-writer-requires : goal.publish_as-writer-requires
publish_as-writer-requires g c next is =
    let made = c.in_ok-writer.ensures in
    names_same _ _ _ next (is ∙ ap (fold _ _) made.1)
