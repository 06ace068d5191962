use Rattle.std.proofs.Common.{ap}
use Rattle.bp_types.specs.Claim.{Claim}
use Rattle.bp_demo.proofs.SummaryLemmas.{has_prices, summed}
use Rattle.bp_demo.proofs.summary.sum_up_by.Goals as goal

pub new-requires : goal.new-requires
new-requires g c = has_prices c.args.house c.in_ok-first.first c.nights-nights.ensures.house c.in_ok-first.ensures

pub returns : goal.returns
returns g c =
    summed c.args.house c.in_ok-first.first c.in_ok-board.board c.in_ok-book.book c.book_each-counts.new.book _ _ _ _
    c.in_ok-first.ensures (ap (λ (k : Claim). k.value) c.first.view_is) c.in_ok-board.ensures c.price_of_all-prices.ensures c.in_ok-book.ensures
    c.book_each-counts.ensures.house c.book_each-counts.ensures.history c.book_each-counts.ensures.counts c.in_ok-closing.ensures
