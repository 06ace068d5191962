use Rattle.std.proofs.Common.{◌≡◌, ℕ, suc, ◌+◌, [], ◌∷◌, rules, arith, ap, refl, ◌∙◌}
use Rattle.bp_show.proofs.Steps.{prepares, splits_gift}
use Rattle.bp_show.proofs.follow.prepare.Goals as goal

pub compare_exchange_with-requires : goal.compare_exchange_with-requires
compare_exchange_with-requires c = (search rules, search rules, prepares _ _ _ _ (search rules))

pub split_seat-requires : goal.split_seat-requires
split_seat-requires c = (search rules, search rules, splits_gift _ _)

pub returns-clause-place : goal.returns-clause-place
returns-clause-place c =
    let old = c.args.place.now.me in
    let more : suc old.0.stamp ≡ old.0.stamp + 1 = omega arith in
    c.split_seat.ensures.2 ∙ c.compare_exchange_with.ensures.2 c.args.vector.now refl ∙
    ap (λ (n : ℕ). (record old.0 { stamp = n; claim = c.args.vector.now ∷ [] }, old.1)) more
