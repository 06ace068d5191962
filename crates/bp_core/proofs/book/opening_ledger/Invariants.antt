use Rattle.std.proofs.Common.{◌≡◌, take}
use Rattle.bp_core.proofs.book.opening_ledger.Given as goal

-- the nights before this one are done
abbrev pub invariant-loop-night : goal.invariant-loop-night
invariant-loop-night l = record {
  rooms : l.rooms.items ≡ take l.night l.house.rooms;
  sold : l.sold.items ≡ take l.night l.house.sold;
}
