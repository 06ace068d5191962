-- The numbers that an act in range sets.
use Rattle.std.proofs.Common.{◌≡◌, ℕ, ◌≤◌, subst, arith, IsTrue, Some}
use Rattle.std.proofs.lemmas.Bool.{and_parts, leb-true}
use Rattle.bp_types.specs.declared.command.Command.TheVariants.{Book, Cancel, Reforecast, Reprice, Resize, Group}
use Rattle.bp_types.specs.House.{Inn}
use Rattle.bp_types.specs.declared.limits.TheConstants.{MOST_FORECAST, MOST_RATE, MOST_ROOMS}
use Rattle.bp_core.specs.declared.line.Act.{Act}
use Rattle.bp_core.specs.declared.line.Act.TheVariants.{Do, Publish, Enrol, Leave}
use Rattle.bp_core.specs.Instance.{resize_rooms, reforecast_count, reprice_rate}
use Rattle.bp_core.specs.Legal.{is_in_range}
use Rattle.bp_core.proofs.Cases.{cond_some}

below_along : (most a b : ℕ) → a ≡ b → a ≤ most → b ≤ most
below_along most a b e h = omega arith

pub rooms_in_range : (h : Inn) (n : ℕ) (act : Act) (rooms : ℕ) → IsTrue (is_in_range h act) → resize_rooms n act ≡ Some rooms → rooms ≤ MOST_ROOMS
rooms_in_range h n (Do (Resize night rooms)) r range is = below_along _ rooms r (cond_some _ rooms r is) (leb-true _ _ (and_parts _ _ range).1)
rooms_in_range h n (Do (Book stay)) r range is = absurd (cc)
rooms_in_range h n (Do (Cancel nth)) r range is = absurd (cc)
rooms_in_range h n (Do (Reforecast stay count)) r range is = absurd (cc)
rooms_in_range h n (Do (Reprice stay rate)) r range is = absurd (cc)
rooms_in_range h n (Do (Group span rooms amount)) r range is = absurd (cc)
rooms_in_range h n (Publish position) r range is = absurd (cc)
rooms_in_range h n Enrol r range is = absurd (cc)
rooms_in_range h n Leave r range is = absurd (cc)

pub count_in_range : (h : Inn) (j : ℕ) (act : Act) (count : ℕ) → IsTrue (is_in_range h act) → reforecast_count j act ≡ Some count → count ≤ MOST_FORECAST
count_in_range h j (Do (Reforecast stay count)) r range is = below_along _ count r (cond_some _ count r is) (leb-true _ _ (and_parts _ _ range).1)
count_in_range h j (Do (Book stay)) r range is = absurd (cc)
count_in_range h j (Do (Cancel nth)) r range is = absurd (cc)
count_in_range h j (Do (Resize night rooms)) r range is = absurd (cc)
count_in_range h j (Do (Reprice stay rate)) r range is = absurd (cc)
count_in_range h j (Do (Group span rooms amount)) r range is = absurd (cc)
count_in_range h j (Publish position) r range is = absurd (cc)
count_in_range h j Enrol r range is = absurd (cc)
count_in_range h j Leave r range is = absurd (cc)

-- a rate that a stay may have
abbrev pub IsRate : ℕ → Type 0
IsRate r = (1 ≤ r) × (r ≤ MOST_RATE)

pub rate_in_range : (h : Inn) (j : ℕ) (act : Act) (rate : ℕ) → IsTrue (is_in_range h act) → reprice_rate j act ≡ Some rate → IsRate rate
rate_in_range h j (Do (Reprice stay rate)) r range is =
    let parts = and_parts _ _ (and_parts _ _ range).1 in
    let e : rate ≡ r = cond_some _ rate r is in
    subst IsRate e (leb-true _ _ parts.0, leb-true _ _ parts.1)
rate_in_range h j (Do (Book stay)) r range is = absurd (cc)
rate_in_range h j (Do (Cancel nth)) r range is = absurd (cc)
rate_in_range h j (Do (Resize night rooms)) r range is = absurd (cc)
rate_in_range h j (Do (Reforecast stay count)) r range is = absurd (cc)
rate_in_range h j (Do (Group span rooms amount)) r range is = absurd (cc)
rate_in_range h j (Publish position) r range is = absurd (cc)
rate_in_range h j Enrol r range is = absurd (cc)
rate_in_range h j Leave r range is = absurd (cc)
