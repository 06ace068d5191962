use Rattle.std.proofs.Common.{◌≡◌, ◌∙◌, sym, ap, rules, arith, true, [], ◌∷◌, ◌++◌}
use Rattle.std.specs.Result.{is_ok}
use Rattle.std.proofs.lemmas.List.FromFn.{map-range_with_len_more}
use Rattle.std.proofs.lemmas.List.Elements.{All-push}
use Rattle.bp_script.specs.Demo.{state_after, next, drawn_stay, stay_drawn, IsSmallStay}
use Rattle.bp_script.proofs.DemoLemmas.{state-four}
use Rattle.bp_script.proofs.generator.stays_drawn.Goals as goal

pub loop-number-preserved : goal.loop-number-preserved
loop-number-preserved c =
    let so_far = c.loop-number.invariant in
    let good : is_ok c.push.result ≡ true = search rules in
    let items = rw good at c.push.ensures.items in
    let n = c.loop-number._number in
    let stay = c.stay-stay.ensures.stay ∙ ap (drawn_stay c.args.nights) so_far.state in
    record {
      state = c.stay-stay.ensures.state ∙ ap (λ x. next (next (next (next x)))) so_far.state ∙ sym (state-four c.args.seed n);
      drawn = rw (items, so_far.drawn, stay) (sym (map-range_with_len_more (stay_drawn c.args.seed c.args.nights) 0 n n (omega arith)));
      small = rw items (All-push (IsSmallStay c.args.nights) c.loop-number.drawn.items c.stay-stay.result so_far.small c.stay-stay.ensures.small);
    }
