use Rattle.std.proofs.Common.{◌≡◌, rules, ◌∙◌}
use Rattle.bp_turn.specs.Prefix.{IsPrefix, longer}
use Rattle.bp_turn.proofs.Prefixes.{longer_comm}
use Rattle.bp_turn.proofs.Splits.{notes}
use Rattle.bp_turn.proofs.turn.Turn.meet.Goals as goal

pub split_seat-of_seat-requires : goal.split_seat-of_seat-requires
split_seat-of_seat-requires g c = (search rules, search rules, notes _ _ _ _ _ _)

pub split_seat-of_other-requires : goal.split_seat-of_other-requires
split_seat-of_other-requires g c = (search rules, search rules, notes _ _ _ _ _ _)

-- the longer list is the same from either side
pub returns-clause-other : goal.returns-clause-other
returns-clause-other g c =
    let xs = c.seat.inside.place.me.0.seen in
    let ys = c.other.inside.place.me.0.seen in
    let p : IsPrefix xs (longer xs ys) = search rules in
    let q : IsPrefix ys (longer xs ys) = search rules in
    let heard : c.hear-2.new.place.me.0.seen ≡ longer ys xs = search rules in
    let same : c.hear-2.new.place.me.0.seen ≡ longer xs ys = heard ∙ longer_comm xs ys p q in
    search rules
