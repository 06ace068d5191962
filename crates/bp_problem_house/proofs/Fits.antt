-- The house of a problem breaks no limit. The law of a hotel's house says it of any rooms, stays and limits, so it is
-- asked of a season that begins on the first day of all.
use Rattle.std.proofs.Common.{◌≡◌, ℕ, refl, arith, length, None}
use Rattle.std.proofs.lemmas.List.{length-replicate, get_or-replicate}
use Rattle.std.specs.Prelude.{replicate}
use Rattle.bp_types.specs.Program.{Program}
use Rattle.bp_types.specs.House.{house_refusal}
use Rattle.bp_cert.specs.Texts.{IsProblem}
use Rattle.bp_hotelfile.specs.Dates.{first_day}
use Rattle.bp_hotelfile.specs.Season.{Season}
use Rattle.bp_stayfile.specs.Laws.{HousesAreInLimits}
use Rattle.bp_problem_house.specs.Houses.{greatest_limits}

pub problem_fits : HousesAreInLimits → (p : Program) → IsProblem p → house_refusal p.rooms (replicate (length p.rooms) 0) p.stays greatest_limits ≡ None
problem_fits law p is =
    let season : Season = record { first = first_day; rooms = p.rooms; limits = greatest_limits } in
    law season p.stays (replicate (length p.rooms) 0)
    (record {
      some_night = is.limits.some_night;
      nights = is.limits.nights;
      rooms = is.rooms;
      from = omega arith;
      to = omega (arith, is.limits.nights);
      stale_after = refl;
      entries = refl;
      publications = refl;
      unit = refl;
    })
    (record { few = is.limits.stays; spans = is.limits.spans; rates = is.limits.rates; forecasts = is.limits.forecasts })
    (record {
      one_each = length-replicate (length p.rooms) 0;
      fit =
          λ n below. (let none = get_or-replicate {A = ℕ} (length p.rooms) n 0 0 below in omega (arith, none));
    })
