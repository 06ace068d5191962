-- Laws over histories.
use Rattle.std.specs.Prelude.{◌≡◌, ℕ, ◌<◌, ◌≤◌, List, length, take}
use Rattle.bp_types.specs.Limits.{IsWithinLimits}
use Rattle.bp_types.specs.House.{Inn, IsHouse, opening}
use Rattle.bp_types.specs.Changes.{Leads}
use Rattle.bp_types.specs.Claim.{IsCertificateOf}
use Rattle.bp_board.specs.Posted.{Posted}
use Rattle.bp_core.specs.declared.call.Answer.{Answer}
use Rattle.bp_core.specs.declared.calls.Made.{Made}
use Rattle.bp_core.specs.Acting.{Diary}
use Rattle.bp_core.specs.Calls.{MayMakeAll, AreAnswered, opened_by}
use Rattle.bp_core.specs.Lines.{History}
use Rattle.bp_core.specs.Instance.{rooms_at, sold_at, instance_of, instance_at}
use Rattle.bp_core.specs.Changes.{deltas_between}
use Rattle.bp_core.specs.Legal.{IsLegal}

-- each prefix of a legal history that is not empty is legal
abbrev pub PrefixesAreLegal : Type 0
PrefixesAreLegal = (h : Inn) (H : History) (n : ℕ) → IsLegal h H → 1 ≤ n → n ≤ length H → IsLegal h (take n H)

-- no night is sold above its rooms at any position, and the instance keeps to its limits
pub record KeepsLimits (h : Inn) (H : History) : Type 0 where
  pub not_oversold : (n : ℕ) → n < length h.rooms → sold_at h H n ≤ rooms_at h H n
  pub instance : IsWithinLimits (instance_of h H)

-- so it is at every position of a legal history
abbrev pub NeverOversold : Type 0
NeverOversold =
    (h : Inn) (H : History) (position : ℕ) → IsHouse h → IsLegal h H → position ≤ length H → KeepsLimits h (take position H)

-- what stands between two positions of a legal history leads from the instance at the one to that at the other
abbrev pub DeltasLead : Type 0
DeltasLead =
    (h : Inn) (H : History) (a b : ℕ) → IsHouse h → IsLegal h H → a ≤ b → b ≤ length H → Leads (instance_at h H a) (deltas_between h H a b) (instance_at h H b)

-- a book of this house, with a legal history that oversells no night
pub record IsSoundBook (h : Inn) (b : Diary) : Type 0 where
  pub house : b.house ≡ h
  pub legal : IsLegal h b.history
  pub keeps_limits : KeepsLimits h b.history

-- from the opening on, whatever list of callers and calls that meet their conditions is made, in whatever order
abbrev pub EveryListIsLegal : Type 0
EveryListIsLegal =
    (h : Inn) (board : Posted) (calls : List Made) (answers : List Answer) (new : Diary) →
    IsHouse h → board.position ≡ 0 → IsCertificateOf (opening h) board.certificate →
    MayMakeAll (opened_by h board) calls → AreAnswered (opened_by h board) new calls answers → IsSoundBook h new
