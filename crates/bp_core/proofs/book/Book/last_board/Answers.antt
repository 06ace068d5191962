use Rattle.std.proofs.Common.{◌∙◌, sym, ap, arith, length, slice_get}
use Rattle.bp_core.specs.Lines.{boards, last_number, last_position, last_prices}
use Rattle.bp_core.specs.Acting.{Diary}
use Rattle.bp_core.proofs.Boards.{ends_with}
use Rattle.bp_core.proofs.Vectors.{last_position_within}
use Rattle.bp_core.proofs.book.Book.last_board.Goals as goal

pub last-requires : goal.last-requires
last-requires c = let ends = ends_with _ _ c.self.invariant.legal in ends.some_vector c.self.invariant.legal.some_line

pub returns-clause-last : goal.returns-clause-last
returns-clause-last c = ap (λ (b : Diary). slice_get (boards b.history) (last_number b.history)) (sym c.self.view_is) ∙ c.last.ensures

pub returns-clause-within : goal.returns-clause-within
returns-clause-within c =
    let ends = ends_with _ _ c.self.invariant.legal in
    omega (arith, (ends.last _ c.last.ensures).0, last_position_within _ _ c.self.invariant.legal, ap (λ (b : Diary). length b.history) c.self.view_is)

pub returns-clause-position : goal.returns-clause-position
returns-clause-position c =
    let ends = ends_with _ _ c.self.invariant.legal in
    (ends.last _ c.last.ensures).0 ∙ ap (λ (b : Diary). last_position b.history) c.self.view_is

pub returns-clause-prices : goal.returns-clause-prices
returns-clause-prices c =
    let ends = ends_with _ _ c.self.invariant.legal in
    (ends.last _ c.last.ensures).1 ∙ ap (λ (b : Diary). last_prices b.history) c.self.view_is

pub returns-clause-nights : goal.returns-clause-nights
returns-clause-nights c =
    let ends = ends_with _ _ c.self.invariant.legal in
    (ends.last _ c.last.ensures).2 ∙ ap (λ (b : Diary). length b.house.rooms) c.self.view_is
