use Rattle.std.proofs.Common.{◌≡◌, take, None}
use Rattle.bp_hotelfile.specs.Steps.{first_below}
use Rattle.bp_hotelfile.specs.Nights.{wrong_at}
use Rattle.bp_hotelfile.proofs.NightLemmas.{Holds}
use Rattle.bp_hotelfile.proofs.nights.rooms_by_night.Given as goal

-- the tables before this one are right, and their rooms stand at their nights
abbrev pub invariant-loop-index : goal.invariant-loop-index
invariant-loop-index l = record {
  right : first_below (wrong_at l.settings.first l.nights l.tables) l.index ≡ None;
  holds : Holds l.settings.first l.nights (take l.index l.tables) l.own.items;
}
