use Rattle.std.proofs.Common.{◌≡◌, ℕ, ◌+◌, ◌-◌, ◌*◌, ◌<◌, sym, ap, subst, arith}
use Rattle.std.specs.Prelude.{min}
use Rattle.bp_types.specs.declared.stay.Stay.{Stay}
use Rattle.bp_script.specs.Demo.{IsSmallStay}
use Rattle.bp_script.proofs.DemoLemmas.{small_stay}
use Rattle.bp_script.proofs.generator.Draws.stay.Goals as goal

pub returns-clause-small : goal.returns-clause-small
returns-clause-small c =
    let length : 1 + c.draw.result ≡ c.from-3.result = sym c.from-3.ensures in
    let P : ℕ → Type 0 = λ l. IsSmallStay c.args.nights (record {
      span = record { from = c.draw-from.result; to = c.draw-from.result + (1 + c.draw.result) };
      rate = l * (5000 + c.draw-2.result);
      forecast = c.draw-forecast.result;
    }) in
    subst P length (small_stay c.args.nights c.draw-from.result c.draw.result c.draw-2.result c.draw-forecast.result (omega arith) (omega arith) (omega arith)
    (omega arith))
