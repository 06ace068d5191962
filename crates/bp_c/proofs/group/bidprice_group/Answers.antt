use Rattle.std.proofs.Common.{◌≡◌, refl, arith, true, false}
use Rattle.bp_c.proofs.Held.{group_there}
use Rattle.bp_c.proofs.Lines.{group_asked, group_not_asked}
use Rattle.bp_c.proofs.group.bidprice_group.Goals as goal

pub reply_to_one-requires-clause-there : goal.reply_to_one-requires-clause-there
reply_to_one-requires-clause-there c = group_there _ _ c.new.ensures c.args.from c.args.to c.args.rooms

-- the numbers are none that a line may have
pub returns-then-not-are_group_numbers : goal.returns-then-not-are_group_numbers
returns-then-not-are_group_numbers c =
    c.reply_to_none.ensures _
    (group_not_asked _ _ _ (omega (arith, c.ranges.from)) (omega (arith, c.ranges.to)) (omega (arith, c.ranges.rooms))
    (λ are. let no : false ≡ true = c.if-not-are_group_numbers.ensures.1 are in cc))

pub returns : goal.returns
returns c = c.reply_to_one.ensures _ (group_asked _ _ _ _ c.new.ensures (c.if-not-are_group_numbers.ensures.0 refl))
