use Rattle.std.proofs.Common.{◌∙◌, sym, ap}
use Rattle.bp_hotelfile.specs.Dates.{day_of}
use Rattle.bp_hotelfile.proofs.DateLemmas.{day_by_parts}
use Rattle.bp_hotelfile.proofs.date.day_of.Goals as goal

pub returns : goal.returns
returns c = record {
  value =
      c.day_of_parts.ensures
      ∙ sym (ap day_of (sym c.as_bytes-bytes.ensures.value) ∙
      day_by_parts c.as_bytes-bytes.result.now _ _ _ c.if-bytes-ne10.false c.if-bytes-ne45.false c.if-bytes-ne45-2.false c.in_ok-year.ensures
      c.in_ok-month.ensures c.in_ok-day.ensures);
}
