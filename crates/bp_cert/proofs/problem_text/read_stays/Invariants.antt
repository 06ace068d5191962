use Rattle.std.proofs.Common.{◌≡◌, length, map}
use Rattle.bp_text.specs.Reading.{GivesLines}
use Rattle.bp_cert.specs.Texts.{stay_line, AreStaysWithin}
use Rattle.bp_cert.proofs.problem_text.read_stays.Given as goal

-- the stays so far, and their lines
abbrev pub invariant-loop : goal.invariant-loop
invariant-loop l = record {
  counted : length l.stays.items ≡ l.counter;
  within : AreStaysWithin (length l.rooms) l.stays.items;
  gives : GivesLines l.fn.lines l.lines (map stay_line l.stays.items) l.lines.rest;
}
