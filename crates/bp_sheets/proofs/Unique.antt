-- A program has one sheet, and its prices lie in the bands.
use Rattle.std.proofs.Common.{◌≡◌, ℕ, ◌+◌, ◌≤◌, refl, ap, sym, ◌∙◌, ◌++◌, subst, arith, List, length, slice_index, Option, Some, None, MatchOption}
use Rattle.std.specs.Prelude.{slice_get}
use Rattle.std.specs.Option.{ForSome}
use Rattle.bp_types.specs.declared.limits.TheConstants.{MOST_ROOMS}
use Rattle.bp_types.specs.Program.{Program}
use Rattle.bp_types.specs.Optimum.{IsOptimum}
use Rattle.bp_types.specs.Displacement.{IsGain, IsLoss, with_more, night_span}
use Rattle.bp_types.specs.Laws.{OptimumIsUnique, LeastPricesAreUnique, DisplacementIsUnique, GainIsBelowPrice, PriceIsBelowLoss}
use Rattle.bp_sheets.specs.declared.band.Band.{Band}
use Rattle.bp_sheets.specs.Bands.{IsBand, IsPriced, AreBands}
use Rattle.bp_sheets.specs.Lengths.{IsOpenAmong, IsLeastAmong}
use Rattle.bp_sheets.specs.Sheets.{IsSheet, night_lines, arrival_lines}
use Rattle.bp_sheets.specs.Laws.{BandsHoldPrices, SheetsAreUnique}
use Rattle.bp_text.specs.Lines.{text_of}
use Rattle.bp_sheets.proofs.Members.{same_members}

gain_is_one : OptimumIsUnique → (p : Program) (night a b : ℕ) → IsGain p night a → IsGain p night b → a ≡ b
gain_is_one unique p night a b g h =
    let before = unique p g.before h.before g.optimum h.optimum in
    let after = unique (with_more p (night_span night) 1) g.after h.after g.optimum_with h.optimum_with in
    let one = g.difference in
    let two = h.difference in
    omega arith

gains_are_one : OptimumIsUnique → (p : Program) (night : ℕ) (a b : Option ℕ) → MatchOption a (slice_index p.rooms night ≡ MOST_ROOMS) (IsGain p night) →
    MatchOption b (slice_index p.rooms night ≡ MOST_ROOMS) (IsGain p night) → a ≡ b
gains_are_one unique p night None None a b = refl
gains_are_one unique p night None (Some g) full is = absurd (let space = is.has_space in omega arith)
gains_are_one unique p night (Some g) None is full = absurd (let space = is.has_space in omega arith)
gains_are_one unique p night (Some g) (Some h) a b = ap Some (gain_is_one unique p night g h a b)

losses_are_one : DisplacementIsUnique → (p : Program) (night : ℕ) (a b : Option ℕ) → MatchOption a (slice_index p.rooms night ≡ 0) (IsLoss p night) →
    MatchOption b (slice_index p.rooms night ≡ 0) (IsLoss p night) → a ≡ b
losses_are_one unique p night None None a b = refl
losses_are_one unique p night None (Some l) none is = absurd (let has = is.displacement.has_units night (omega arith) (omega arith) in omega arith)
losses_are_one unique p night (Some l) None is none = absurd (let has = is.displacement.has_units night (omega arith) (omega arith) in omega arith)
losses_are_one unique p night (Some l) (Some m) a b = ap Some (unique p (night_span night) 1 l m a.displacement b.displacement)

band_is_one : OptimumIsUnique → DisplacementIsUnique → (p : Program) (price night : ℕ) (a b : Band) → IsBand p price night a → IsBand p price night b → a ≡ b
band_is_one optimum displacement p price night a b is also =
    let prices : a.price ≡ b.price = is.price_is ∙ sym also.price_is in
    let gains : a.gain ≡ b.gain = gains_are_one optimum p night a.gain b.gain is.gain_is also.gain_is in
    let losses : a.loss ≡ b.loss = losses_are_one displacement p night a.loss b.loss is.loss_is also.loss_is in
    let made : ℕ → Option ℕ → Option ℕ → Band = λ x g l. record { price = x; gain = g; loss = l } in
    ap (λ x. made x a.gain a.loss) prices ∙ ap (λ g. made b.price g a.loss) gains ∙ ap (λ l. made b.price b.gain l) losses

lengths_are_one : (p : Program) (prices : List ℕ) (count arrival : ℕ) (a b : Option ℕ) → IsLeastAmong p prices count arrival a →
    IsLeastAmong p prices count arrival b → a ≡ b
lengths_are_one p prices count arrival None None a b = refl
lengths_are_one p prices count arrival None (Some k) none is = absurd (none k is.0)
lengths_are_one p prices count arrival (Some k) None is none = absurd (none k is.0)
lengths_are_one p prices count arrival (Some k) (Some m) a b = ap Some (let low = a.1 m b.0 in let high = b.1 k a.0 in omega arith)

pub sheets_are_unique : OptimumIsUnique → LeastPricesAreUnique → DisplacementIsUnique → SheetsAreUnique
sheets_are_unique optimum least displacement p a b is also =
    let prices : is.prices ≡ also.prices = least p is.prices also.prices is.priced.least also.priced.least in
    let other : IsPriced p is.prices also.bands = subst (λ l. IsPriced p l also.bands) (sym prices) also.priced in
    let bands : is.bands ≡ also.bands = same_members is.bands also.bands (is.priced.beside.one_each ∙ sym other.beside.one_each) (λ n x y at there.
    band_is_one optimum displacement p (slice_index is.prices n) n x y (is.priced.beside.each n x at) (other.beside.each n y there)) in
    let lengths : is.lengths ≡ also.lengths = same_members is.lengths also.lengths (is.shortest.one_each ∙ sym also.shortest.one_each) (λ n x y at there.
    lengths_are_one p is.prices (length p.stays) n x y (is.shortest.each n x at)
    (subst (λ l. IsLeastAmong p l (length p.stays) n y) (sym prices) (also.shortest.each n y there))) in
    is.text_is ∙ ap (λ bs. text_of (night_lines 0 bs) ++ text_of (arrival_lines is.prices 0 is.lengths)) bands
    ∙ ap (λ ks. text_of (night_lines 0 also.bands) ++ text_of (arrival_lines is.prices 0 ks)) lengths
    ∙ ap (λ l. text_of (night_lines 0 also.bands) ++ text_of (arrival_lines l 0 also.lengths)) prices ∙ sym also.text_is

pub bands_hold_prices : GainIsBelowPrice → PriceIsBelowLoss → BandsHoldPrices
bands_hold_prices gains losses p bands night band (prices, priced) at =
    let is = priced.beside.each night band at in
    (above band.gain is.gain_is, below band.loss is.loss_is)
  where
    above : (gain : Option ℕ) → MatchOption gain (slice_index p.rooms night ≡ MOST_ROOMS) (IsGain p night) → (g : ℕ) → gain ≡ Some g → g ≤ band.price
    above None full g given = absurd (cc)
    above (Some k) is g given =
        let same : k ≡ g = (cc) in
        let most = gains p prices night k priced.least.optimal is in
        let price = (priced.beside.each night band at).price_is in
        omega (arith, most, price, same)

    below : (loss : Option ℕ) → MatchOption loss (slice_index p.rooms night ≡ 0) (IsLoss p night) → (l : ℕ) → loss ≡ Some l → band.price ≤ l
    below None none l given = absurd (cc)
    below (Some k) is l given =
        let same : k ≡ l = (cc) in
        let least = losses p prices night k priced.least.optimal is in
        let price = (priced.beside.each night band at).price_is in
        omega (arith, least, price, same)
