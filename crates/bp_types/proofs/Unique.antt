-- Least prices and displacements are unique.
use Rattle.std.proofs.Common.{◌≡◌, ◌+◌, ◌∙◌, sym, arith, length, slice_index}
use Rattle.std.proofs.lemmas.List.{same_lists, get_or_default}
use Rattle.bp_types.specs.Laws.{LeastPricesAreUnique}
use Rattle.bp_types.proofs.Suffixes.{price_from-falls}

pub least_prices_are_unique : LeastPricesAreUnique
least_prices_are_unique p a b first second =
    let one_length : length a ≡ length b = first.optimal.one_each ∙ sym second.optimal.one_each in
    same_lists a b one_length (λ k d h.
    let here = first.least b second.optimal k in
    let there = second.least a first.optimal k in
    let here' = first.least b second.optimal (k + 1) in
    let there' = second.least a first.optimal (k + 1) in
    let one : slice_index a k ≡ slice_index b k = omega (arith, here, there, here', there', price_from-falls a k h, price_from-falls b k (omega arith)) in
    get_or_default a k d 0 h ∙ one ∙ get_or_default b k 0 d (omega arith))
