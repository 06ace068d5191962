-- The load of a night, by who arrives and who departs.
use Rattle.std.specs.Prelude.{◌≡◌, ℕ, ◌<◌, ◌==◌, if◌then◌else◌, List, length, slice_index}
use Rattle.bp_types.specs.declared.limits.TheConstants.{MOST_NODES}
use Rattle.bp_types.specs.Sums.{sum_below}
use Rattle.bp_types.specs.Program.{Program, stay_at, load}

-- what is sold of the first j stays to guests who arrive on night n
abbrev pub arriving_below : Program → List ℕ → ℕ → ℕ → ℕ
arriving_below p sell j n = sum_below (λ i. if (stay_at p i).span.from == n then slice_index sell i else 0) j

-- what is sold of the first j stays to guests who depart on the morning of night n
abbrev pub departing_below : Program → List ℕ → ℕ → ℕ → ℕ
departing_below p sell j n = sum_below (λ i. if (stay_at p i).span.to == n then slice_index sell i else 0) j

-- what is sold to guests who arrive on night n
abbrev pub arriving : Program → List ℕ → ℕ → ℕ
arriving p sell n = arriving_below p sell (length p.stays) n

-- what is sold to guests who depart on the morning of night n
abbrev pub departing : Program → List ℕ → ℕ → ℕ
departing p sell n = departing_below p sell (length p.stays) n

-- the list has the count of each of its places
abbrev pub Counts : (ℕ → ℕ) → List ℕ → Type 0
Counts count list = (n : ℕ) → n < MOST_NODES → slice_index list n ≡ count n

-- the list has the load of each night
abbrev pub AreLoads : Program → List ℕ → List ℕ → Type 0
AreLoads p sell loads = (n : ℕ) → n < length p.rooms → slice_index loads n ≡ load p sell n
