use Rattle.std.proofs.Common.{◌∙◌}
use Rattle.bp_hotelfile.proofs.DayLemmas.{year_from_one, day_of_text, day_of_date, cast_of_year, year_comes_back}
use Rattle.bp_hotelfile.proofs.date.text_of.Goals as goal

pub overflow_cast-year : goal.overflow_cast-year
overflow_cast-year c =
    let date = c.from_days_since_min-date in
    cast_of_year date.result.year (year_from_one date.result c.args.day date.ensures c.requires.from) date.result.year_in.1

pub returns : goal.returns
returns c =
    let date = c.from_days_since_min-date in
    let e = c.two_digits-y1.ensures in
    let f = c.two_digits-y3.ensures in
    let m = c.two_digits-m1.ensures in
    let d = c.two_digits-d1.ensures in
    let late = year_from_one date.result c.args.day date.ensures c.requires.from in
    day_of_text _ _ _ _ _ _ _ _ _ _ _ e.tens e.ones f.tens f.ones m.tens m.ones d.tens d.ones e.value f.value m.value d.value
    ∙ rw (year_comes_back date.result.year late date.result.year_in.1, c.from.ensures, c.from-2.ensures)
    (day_of_date date.result.year date.result.month date.result.day c.args.day late date.result.year_in.1 date.result.month_in date.result.day_in date.ensures)
