use Rattle.std.proofs.Common.{◌<◌, ◌∙◌, List, sym, ap, length, get_or, arith}
use Rattle.std.proofs.lemmas.List.FromFn.{length-map-range_with_len}
use Rattle.bp_types.specs.declared.limits.TheConstants.{CALLERS}
use Rattle.bp_core.specs.declared.line.Entry.{Entry}
use Rattle.bp_core.specs.Lines.{booked_stay}
use Rattle.bp_report.specs.declared.tally.Tally.{Tally}
use Rattle.bp_report.specs.Tallies.{tally_of}
use Rattle.bp_report.proofs.EntryLemmas.{book_caller, book_stay}
use Rattle.bp_report.proofs.TallyLemmas.{tallies-small, small-more, tallies-same, booked-same, booked-few, booked-by-size, entry-at, booked-read, tallies-read}
use Rattle.bp_report.proofs.counting.count_entry.Goals as goal

pub count_book-requires-clause-caller : goal.count_book-requires-clause-caller
count_book-requires-clause-caller c =
    let H = c.args.book.now.history in
    let e = entry-at H c.args.place c.in-Some.entry c.requires.place c.in-Some.ensures in
    let some = ap (λ (x : Entry). booked_stay x.act) (sym e) ∙ sym c.in-Some-booked_stay.ensures in
    let small = book_caller c.args.book.now.house H c.args.place c.in-Some-booked_stay.stay c.facts.ensures.legal c.requires.place some in
    omega (arith, ap (λ (x : Entry). x.caller) e, small, ap (λ l. length l) c.requires.booked, booked-by-size H c.args.place)

pub count_book-requires-clause-stay : goal.count_book-requires-clause-stay
count_book-requires-clause-stay c =
    let H = c.args.book.now.history in
    let e = entry-at H c.args.place c.in-Some.entry c.requires.place c.in-Some.ensures in
    let some = ap (λ (x : Entry). booked_stay x.act) (sym e) ∙ sym c.in-Some-booked_stay.ensures in
    let inside = book_stay c.args.book.now.house H c.args.place c.in-Some-booked_stay.stay c.facts.ensures.legal c.requires.place some in
    omega (
      arith,
      inside,
      ap (λ (l : List Tally). length l) c.requires.tallies,
      length-map-range_with_len (tally_of H c.args.place) 0 (length c.args.book.now.house.stays),
    )

pub count_book-requires-clause-few : goal.count_book-requires-clause-few
count_book-requires-clause-few c =
    let H = c.args.book.now.history in
    let e = entry-at H c.args.place c.in-Some.entry c.requires.place c.in-Some.ensures in
    let some = ap (λ (x : Entry). booked_stay x.act) (sym e) ∙ sym c.in-Some-booked_stay.ensures in
    let small = book_caller c.args.book.now.house H c.args.place c.in-Some-booked_stay.stay c.facts.ensures.legal c.requires.place some in
    let inside : c.in-Some.entry.caller < CALLERS = omega (arith, small, ap (λ (x : Entry). x.caller) e) in
    omega (arith, booked-few H c.args.place c.in-Some.entry.caller inside, ap (λ l. get_or l c.in-Some.entry.caller 0) c.requires.booked, c.requires.fits)

pub count_book-requires-clause-small : goal.count_book-requires-clause-small
count_book-requires-clause-small c =
    let H = c.args.book.now.history in
    let e = entry-at H c.args.place c.in-Some.entry c.requires.place c.in-Some.ensures in
    let some = ap (λ (x : Entry). booked_stay x.act) (sym e) ∙ sym c.in-Some-booked_stay.ensures in
    let inside = book_stay c.args.book.now.house H c.args.place c.in-Some-booked_stay.stay c.facts.ensures.legal c.requires.place some in
    small-more _ c.args.place 18446744073709551614 (omega (arith, c.requires.fits))
    (tallies-small H (length c.args.book.now.house.stays) c.args.place c.in-Some-booked_stay.stay c.args.tallies.now inside c.requires.tallies)

pub returns-in-Some-booked_stay-clause-booked : goal.returns-in-Some-booked_stay-clause-booked
returns-in-Some-booked_stay-clause-booked c =
    let H = c.args.book.now.history in
    let e = entry-at H c.args.place c.in-Some.entry c.requires.place c.in-Some.ensures in
    let stay = c.in-Some-booked_stay.stay in
    let some = ap (λ (x : Entry). booked_stay x.act) (sym e) ∙ sym c.in-Some-booked_stay.ensures in
    let small = book_caller c.args.book.now.house H c.args.place stay c.facts.ensures.legal c.requires.place some in
    booked-read H c.args.place stay c.in-Some.entry c.args.booked.now c.count_book.new.booked c.requires.place small e some c.requires.booked
    c.count_book.ensures.booked

pub returns-in-Some-booked_stay-clause-tallies : goal.returns-in-Some-booked_stay-clause-tallies
returns-in-Some-booked_stay-clause-tallies c =
    let H = c.args.book.now.history in
    let e = entry-at H c.args.place c.in-Some.entry c.requires.place c.in-Some.ensures in
    let stay = c.in-Some-booked_stay.stay in
    let some = ap (λ (x : Entry). booked_stay x.act) (sym e) ∙ sym c.in-Some-booked_stay.ensures in
    let small = book_caller c.args.book.now.house H c.args.place stay c.facts.ensures.legal c.requires.place some in
    let inside = book_stay c.args.book.now.house H c.args.place stay c.facts.ensures.legal c.requires.place some in
    tallies-read H (length c.args.book.now.house.stays) c.args.place stay c.in-Some.entry c.args.booked.now c.args.tallies.now c.count_book.new.tallies
    c.requires.place small inside e some c.requires.booked c.requires.tallies c.count_book.ensures.tallies

pub returns-in-None-clause-booked : goal.returns-in-None-clause-booked
returns-in-None-clause-booked c =
    let H = c.args.book.now.history in
    let e = entry-at H c.args.place c.in-Some.entry c.requires.place c.in-Some.ensures in
    let none = ap (λ (x : Entry). booked_stay x.act) (sym e) ∙ sym c.in-None.ensures in
    c.requires.booked ∙ booked-same H c.args.place c.requires.place none

pub returns-in-None-clause-tallies : goal.returns-in-None-clause-tallies
returns-in-None-clause-tallies c =
    let H = c.args.book.now.history in
    let e = entry-at H c.args.place c.in-Some.entry c.requires.place c.in-Some.ensures in
    let none = ap (λ (x : Entry). booked_stay x.act) (sym e) ∙ sym c.in-None.ensures in
    c.requires.tallies ∙ tallies-same H (length c.args.book.now.house.stays) c.args.place none
