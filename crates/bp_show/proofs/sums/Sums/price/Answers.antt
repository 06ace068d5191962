use Rattle.std.proofs.Common.{length, sym, ap, subst, arith}
use Rattle.bp_types.specs.Program.{price}
use Rattle.bp_types.specs.Spans.{IsSpanWithin}
use Rattle.bp_show.specs.Vectors.{Vector}
use Rattle.bp_show.proofs.Falls.{falls_length, price_of_falls}
use Rattle.bp_show.proofs.sums.Sums.price.Goals as goal

pub bounds-self-inside-span : goal.bounds-self-inside-span
bounds-self-inside-span c =
    let inside = subst (λ (v : Vector). IsSpanWithin (length v.prices) c.args.span) (sym c.self.view_is) c.requires in
    omega (arith, inside.0, inside.1, falls_length c.self.inside.nights c.self.inside.sums, c.self.invariant.most)

pub bounds-self-inside-span-2 : goal.bounds-self-inside-span-2
bounds-self-inside-span-2 c =
    let inside = subst (λ (v : Vector). IsSpanWithin (length v.prices) c.args.span) (sym c.self.view_is) c.requires in
    omega (arith, inside.0, inside.1, falls_length c.self.inside.nights c.self.inside.sums, c.self.invariant.most)

pub overflow_sub-result : goal.overflow_sub-result
overflow_sub-result c =
    let inside = subst (λ (v : Vector). IsSpanWithin (length v.prices) c.args.span) (sym c.self.view_is) c.requires in
    let fall = price_of_falls c.self.inside.nights c.self.inside.sums c.args.span c.self.invariant inside in
    omega (arith, fall)

pub returns : goal.returns
returns c =
    let inside = subst (λ (v : Vector). IsSpanWithin (length v.prices) c.args.span) (sym c.self.view_is) c.requires in
    let fall = price_of_falls c.self.inside.nights c.self.inside.sums c.args.span c.self.invariant inside in
    let same = ap (λ (v : Vector). price v.prices c.args.span) c.self.view_is in
    omega (arith, fall, same)
