use Rattle.std.proofs.Common.{◌≡◌, length, map}
use Rattle.std.specs.Prelude.{IsTrue}
use Rattle.std.specs.List.{list_all}
use Rattle.bp_text.specs.Reading.{GivesLines}
use Rattle.bp_portfolio.specs.Lists.{is_named, names_line}
use Rattle.bp_portfolio.proofs.list.read_hotels.Given as goal

-- the hotels so far, and their lines
abbrev pub invariant-loop : goal.invariant-loop
invariant-loop l = record {
  counted : length l.hotels.items ≡ l.counter;
  are : IsTrue (list_all is_named l.hotels.items);
  gives : GivesLines l.fn.lines l.lines (map names_line l.hotels.items) l.lines.rest;
}
