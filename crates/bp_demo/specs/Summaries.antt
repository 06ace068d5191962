-- What it comes to, when each stay of a house is booked once.
use Rattle.std.specs.Prelude.{◌≡◌, ℕ, [], ◌∷◌, length}
use Rattle.bp_types.specs.declared.stay.Span.{Span}
use Rattle.bp_types.specs.Program.{price}
use Rattle.bp_types.specs.Optimum.{IsOptimum}
use Rattle.bp_types.specs.Claim.{Claim, IsLeastCertificate}
use Rattle.bp_types.specs.House.{Inn, opening}
use Rattle.bp_core.specs.Lines.{History}
use Rattle.bp_core.specs.Instance.{instance_of}
use Rattle.bp_core.specs.Acting.{opening_line}
use Rattle.bp_demo.specs.Bookings.{booked_behind, counts_of}
use Rattle.bp_demo.specs.declared.summary.Summary.{Summary}

-- all nights from the first to the last
abbrev pub all_nights : ℕ → Span
all_nights nights = record { from = 0; to = nights }

-- the history of a desk that opens with a certificate, after each stay of the house was booked once
abbrev pub all_booked : Inn → Claim → History
all_booked h first = booked_behind h (opening_line (record { position = 0; certificate = first }) ∷ []) (length h.stays)

-- the house opens with its optimum and the least prices, each stay is booked once, and this is what comes of it
pub record IsSummary (h : Inn) (s : Summary) : Type 0 where
  pub first : Claim
  pub solved : IsLeastCertificate (opening h) first
  pub value : s.value ≡ first.value
  pub prices : s.prices ≡ price first.prices (all_nights (length h.rooms))
  pub counts : s.counts ≡ counts_of (all_booked h first)
  pub closing : IsOptimum (instance_of h (all_booked h first)) s.closing
