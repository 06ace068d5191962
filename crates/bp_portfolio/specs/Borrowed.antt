-- The names that a line has, by their bytes.
use Rattle.bp_portfolio.specs.Lists.{FiveNames}
use Rattle.bp_portfolio.specs.declared.names.NamesOf.{NamesOf}

-- the five names as texts of their own
abbrev pub named : NamesOf → FiveNames
named n = record { hotel = n.hotel.now; stays = n.stays.now; forecast = n.forecast.now; bookings = n.bookings.now; script = n.script.now }
