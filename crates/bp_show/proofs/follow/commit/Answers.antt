use Rattle.std.proofs.Common.{rules}
use Rattle.bp_show.proofs.Steps.{commits}
use Rattle.bp_show.proofs.follow.commit.Goals as goal

pub store-requires : goal.store-requires
store-requires c = (search rules, search rules, commits _ _ _ _ _ (search rules) (search rules) c.requires.claim c.requires.rises)
