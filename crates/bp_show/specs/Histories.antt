-- The vectors shown, as vectors of a history.
use Rattle.std.specs.Prelude.{◌≡◌, ◌≤◌, List, length, All, slice_get, Some}
use Rattle.bp_types.specs.Claim.{Claim, IsCertificateOf}
use Rattle.bp_types.specs.Optimum.{IsOptimum}
use Rattle.bp_types.specs.House.{Inn}
use Rattle.bp_board.specs.Posted.{Posted}
use Rattle.bp_core.specs.Lines.{History, boards}
use Rattle.bp_core.specs.Instance.{instance_at}
use Rattle.bp_core.specs.Legal.{IsLegal}
use Rattle.bp_core.specs.Staying.{IsPrefix}
use Rattle.bp_show.specs.Vectors.{Vector, vector_on}

-- it is the vector of its number in the history
abbrev pub IsVectorIn : History → Vector → Type 0
IsVectorIn H v = (board : Posted) × (slice_get (boards H) v.number ≡ Some board) × (v ≡ vector_on v.number board)

-- so is each
abbrev pub AreVectorsIn : History → List Vector → Type 0
AreVectorsIn H shown = All (IsVectorIn H) shown

-- its prices are those of a certificate for the instance at its position, whose value is the optimum there
pub record IsCertifiedIn (h : Inn) (H : History) (v : Vector) : Type 0 where
  pub claim : Claim
  pub prices : claim.prices ≡ v.prices
  pub so_far : v.position ≤ length H
  pub certifies : IsCertificateOf (instance_at h H v.position) claim
  pub optimum : IsOptimum (instance_at h H v.position) claim.value

-- the vectors of a history are those of each longer one
abbrev pub VectorsStay : Type 0
VectorsStay = (G H : History) (shown : List Vector) → IsPrefix G H → AreVectorsIn G shown → AreVectorsIn H shown

-- each vector of a legal history certifies the instance at its position
abbrev pub VectorsCertify : Type 0
VectorsCertify = (h : Inn) (H : History) (shown : List Vector) → IsLegal h H → AreVectorsIn H shown → All (IsCertifiedIn h H) shown
