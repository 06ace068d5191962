use Rattle.std.proofs.Common.{sym, subst, ap, arith, length}
use Rattle.bp_types.specs.Program.{price}
use Rattle.bp_types.specs.Spans.{IsSpanWithin}
use Rattle.bp_board.specs.Posted.{Posted}
use Rattle.bp_board.proofs.PriceLemmas.{read_sums}
use Rattle.bp_board.proofs.board.Board.price.Goals as goal

pub overflow_sub-result : goal.overflow_sub-result
overflow_sub-result c =
    let b : Posted = record { position = c.self.inside.position; certificate = c.self.inside.certificate } in
    let span : IsSpanWithin (length b.certificate.prices) c.args.span = let P : Posted →
    Type 0 = λ x. IsSpanWithin (length x.certificate.prices) c.args.span in subst P (sym c.self.view_is) c.requires in
    omega (
      arith,
      read_sums c.self.inside.certificate.prices c.self.inside.sums.items c.args.span _ _ c.self.invariant.2 c.self.invariant.1 span.0 span.1
          c.index.ensures c.index-2.ensures,
    )

pub returns : goal.returns
returns c =
    let b : Posted = record { position = c.self.inside.position; certificate = c.self.inside.certificate } in
    let span : IsSpanWithin (length b.certificate.prices) c.args.span = let P : Posted →
    Type 0 = λ x. IsSpanWithin (length x.certificate.prices) c.args.span in subst P (sym c.self.view_is) c.requires in
    let same = ap (λ (x : Posted). price x.certificate.prices c.args.span) c.self.view_is in
    omega (
      arith,
      same,
      read_sums c.self.inside.certificate.prices c.self.inside.sums.items c.args.span _ _ c.self.invariant.2 c.self.invariant.1 span.0
          span.1 c.index.ensures c.index-2.ensures,
    )
