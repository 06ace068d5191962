-- Laws over flows.
use Rattle.std.specs.Prelude.{◌≡◌, ℕ, ◌+◌, ◌-◌, ◌≤◌, ◌<◌, min, List, length, All}
use Rattle.bp_types.specs.Program.{Program, stay_at, worth, bound}
use Rattle.bp_types.specs.Limits.{IsWithinLimits}
use Rattle.bp_types.specs.Optimum.{IsFeasible, AreSuffixSums, AreLeastPrices}
use Rattle.bp_residual.specs.Network.{
  Flow,
  Step,
  Admits,
  tail,
  head,
  IsSlack,
  IsTight,
  AreTight,
  AdmitsAlong,
  Joins,
  reduced_cost,
  IsPath,
  path_cost,
  pushed,
  pushed_along,
  IsBalanced,
  HasImbalance,
  IsFlow,
}

-- complementary slackness: where no reduced cost is negative, revenue and dual value agree
abbrev pub SlackFlowsAreOptimal : Type 0
SlackFlowsAreOptimal =
    (f : Flow) (u : ℕ → ℕ) (prices : List ℕ) →
    IsWithinLimits f.program → IsFlow f → IsBalanced f →
    length prices ≡ length f.program.rooms → AreSuffixSums u prices → IsSlack f u →
    IsFeasible f.program f.sell × (worth f.program f.sell ≡ bound f.program prices)

-- and where they agree, none is negative
abbrev pub OptimalPricesAreSlack : Type 0
OptimalPricesAreSlack =
    (f : Flow) (u : ℕ → ℕ) (prices : List ℕ) →
    IsWithinLimits f.program → IsFlow f → IsBalanced f →
    length prices ≡ length f.program.rooms → AreSuffixSums u prices → worth f.program f.sell ≡ bound f.program prices →
    IsSlack f u

-- a push over a step of reduced cost 0 leaves none negative
abbrev pub PushKeepsSlack : Type 0
PushKeepsSlack =
    (f : Flow) (u : ℕ → ℕ) (s : Step) (units : ℕ) →
    IsFlow f → IsSlack f u → IsTight f.program u s → IsSlack (pushed f s units) u

-- a number for each node that grows over no residual step by more than its reduced cost, as shortest distances do
abbrev pub GrowsAlong : Flow → (ℕ → ℕ) → (ℕ → ℕ) → Type 0
GrowsAlong f u by = (s : Step) → Admits f s 1 → by (head f.program s) ≤ by (tail f.program s) + reduced_cost f.program u s

-- potentials raised by no more over a residual step than its reduced cost
abbrev pub LiftKeepsSlack : Type 0
LiftKeepsSlack =
    (f : Flow) (u by lifted : ℕ → ℕ) (c : ℕ) →
    IsWithinLimits f.program →
    IsSlack f u → GrowsAlong f u by → ((v : ℕ) → v ≤ length f.program.rooms → lifted v + c ≡ u v + by v) → IsSlack f lifted

-- prices brought down to a limit that no rate exceeds
abbrev pub LimitKeepsSlack : Type 0
LimitKeepsSlack =
    (f : Flow) (u limited : ℕ → ℕ) (limit : ℕ) →
    IsWithinLimits f.program → ((j : ℕ) → j < length f.program.stays → (stay_at f.program j).rate ≤ limit) →
    IsSlack f u →
    ((n : ℕ) → n < length f.program.rooms → limited n ≡ min (u n - u (n + 1)) limit + limited (n + 1)) →
    IsSlack f limited

-- while an imbalance stands, a residual path leads from the one node to the other
abbrev pub PathsExist : Type 0
PathsExist =
    (f : Flow) (from to units : ℕ) →
    IsWithinLimits f.program → IsFlow f → from ≤ length f.program.rooms → to ≤ length f.program.rooms →
    0 < units → HasImbalance f from to units → (path : List Step) × IsPath f from to path

-- no residual path is shorter than the growth
abbrev pub GrowthBoundsPaths : Type 0
GrowthBoundsPaths =
    (f : Flow) (u by : ℕ → ℕ) (a b : ℕ) (path : List Step) →
    GrowsAlong f u by → IsPath f a b path → by b ≤ by a + path_cost f.program u path

-- a residual path as long as the growth has reduced costs 0 after the lift
abbrev pub ShortestPathsBecomeTight : Type 0
ShortestPathsBecomeTight =
    (f : Flow) (u by lifted : ℕ → ℕ) (c a b : ℕ) (path : List Step) →
    IsWithinLimits f.program → IsSlack f u → GrowsAlong f u by → IsPath f a b path →
    by b ≡ by a + path_cost f.program u path →
    ((v : ℕ) → v ≤ length f.program.rooms → lifted v + c ≡ u v + by v) → AreTight f.program lifted path

-- a push along a path of reduced costs 0: none is negative afterwards, and the imbalance is smaller
abbrev pub PushMovesImbalance : Type 0
PushMovesImbalance =
    (f : Flow) (u : ℕ → ℕ) (path : List Step) (from to units more : ℕ) →
    IsWithinLimits f.program → IsFlow f → IsSlack f u → AreTight f.program u path →
    Joins f.program from to path → AdmitsAlong f path units → HasImbalance f from to (units + more) →
    IsFlow (pushed_along f path units) × IsSlack (pushed_along f path units) u × HasImbalance (pushed_along f path units) from to more

-- far is the distance of each node to the last one by residual paths, and settled is what the potentials keep above it
pub record IsSettledBy (f : Flow) (u far settled : ℕ → ℕ) : Type 0 where
  pub shortest : (s : Step) → Admits f s 1 → far (tail f.program s) ≤ reduced_cost f.program u s + far (head f.program s)
  pub reached : (v : ℕ) → v ≤ length f.program.rooms → (path : List Step) × IsPath f v (length f.program.rooms) path × (path_cost f.program u path ≡ far v)
  pub lowered : (v : ℕ) → v ≤ length f.program.rooms → settled v + far v ≡ u v

-- then no reduced cost is negative, and no optimal prices sum to less from any night on
abbrev pub SettledPricesAreLeast : Type 0
SettledPricesAreLeast =
    (f : Flow) (u far settled : ℕ → ℕ) (prices : List ℕ) →
    IsWithinLimits f.program → IsFlow f → IsBalanced f → IsSlack f u → u (length f.program.rooms) ≡ 0 → IsSettledBy f u far settled →
    length prices ≡ length f.program.rooms → AreSuffixSums settled prices → AreLeastPrices f.program prices

-- no least price exceeds a limit that no rate exceeds
abbrev pub LeastPricesAreWithinRates : Type 0
LeastPricesAreWithinRates =
    (p : Program) (prices : List ℕ) (limit : ℕ) →
    IsWithinLimits p → AreLeastPrices p prices → ((j : ℕ) → j < length p.stays → (stay_at p j).rate ≤ limit) → All (λ x. x ≤ limit) prices

-- a push of all units over one step of reduced cost 0 moves the node that they come from
abbrev pub PushMovesTheStart : Type 0
PushMovesTheStart =
    (f : Flow) (u : ℕ → ℕ) (s : Step) (to units : ℕ) →
    IsWithinLimits f.program → IsFlow f → IsSlack f u → IsTight f.program u s → Admits f s units →
    HasImbalance f (tail f.program s) to units →
    IsFlow (pushed f s units) × IsSlack (pushed f s units) u × HasImbalance (pushed f s units) (head f.program s) to units

-- and likewise the node that they go to
abbrev pub PushMovesTheEnd : Type 0
PushMovesTheEnd =
    (f : Flow) (u : ℕ → ℕ) (s : Step) (from units : ℕ) →
    IsWithinLimits f.program → IsFlow f → IsSlack f u → IsTight f.program u s → Admits f s units →
    HasImbalance f from (head f.program s) units →
    IsFlow (pushed f s units) × IsSlack (pushed f s units) u × HasImbalance (pushed f s units) from (tail f.program s) units
