-- Another rate of a stay.
use Rattle.std.specs.Prelude.{ℕ, ◌+◌, ◌≤◌, ◌<◌, slice_index}
use Rattle.bp_types.specs.Program.{stay_at}
use Rattle.bp_residual.specs.Network.{Priced}

-- at the rate too no step over the stay has a negative reduced cost: where more could be sold it is no more than the potentials ask, and where
-- some is sold no less
pub record StandsAtRate (p : Priced) (stay rate : ℕ) : Type 0 where
  pub more : slice_index p.flow.sell stay < (stay_at p.flow.program stay).forecast →
      slice_index p.potentials (stay_at p.flow.program stay).span.to + rate ≤ slice_index p.potentials (stay_at p.flow.program stay).span.from
  pub less : 0 < slice_index p.flow.sell stay →
      slice_index p.potentials (stay_at p.flow.program stay).span.from ≤ slice_index p.potentials (stay_at p.flow.program stay).span.to + rate
