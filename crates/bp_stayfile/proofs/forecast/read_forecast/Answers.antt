use Rattle.std.proofs.Common.{length, arith}
use Rattle.std.proofs.lemmas.List.{with_items_is}
use Rattle.bp_stayfile.proofs.ForecastLemmas.{laid_out_by, all_set, refused_file, set_before}
use Rattle.bp_stayfile.proofs.forecast.read_forecast.Goals as goal

pub set_forecasts-requires : goal.set_forecasts-requires
set_forecasts-requires c =
    let places = with_items_is c.in_ok-counts.counts c.put_counts-outcome.new.counts
    (omega (arith, c.put_counts-outcome.auto.counts, c.deref_mut.ensures.len)) in
    rw (c.deref.ensures.value, places)
    (laid_out_by c.args.stays.now.codes (length c.args.stays.now.codes)
    c.in_ok-header.header.behind c.put_counts-outcome.new.counts c.put_counts-outcome.result c.in_ok-refusal.refusal c.in_ok-refusal.ensures
    (rw c.codes-2.ensures.value at c.put_counts-outcome.ensures.read)
    (rw c.codes-2.ensures.value at c.put_counts-outcome.ensures.refused))

pub returns-in-Some-clause-refused : goal.returns-in-Some-clause-refused
returns-in-Some-clause-refused c =
    let refusal = rw c.in-Some.is at c.in_ok-refusal.ensures in
    let (named, refused, laid_out) = rw (c.codes-2.ensures.value, refusal) at c.put_counts-outcome.ensures.refused in
    refused_file c.args.stays.now c.args.bytes.now c.in_ok-header.header.behind named _ c.in_ok-header.ensures.read.table refused

pub returns-in-Some-clause-set_before : goal.returns-in-Some-clause-set_before
returns-in-Some-clause-set_before c =
    let refusal = rw c.in-Some.is at c.in_ok-refusal.ensures in
    let (named, refused, laid_out) = rw (c.codes-2.ensures.value, refusal) at c.put_counts-outcome.ensures.refused in
    let places = with_items_is c.in_ok-counts.counts c.put_counts-outcome.new.counts
    (omega (arith, c.put_counts-outcome.auto.counts, c.deref_mut.ensures.len)) in
    let set = c.set_forecasts.ensures named (rw (c.deref.ensures.value, places) laid_out) in
    set_before c.args.stays.now c.set_forecasts.new.self c.args.bytes.now c.in_ok-header.header.behind named _ c.in_ok-header.ensures.read.table refused set

pub returns-clause-read : goal.returns-clause-read
returns-clause-read c =
    let whole = rw c.in-None.is at c.in_ok-refusal.ensures in
    let (named, read, laid_out) = rw (c.codes-2.ensures.value, whole) at c.put_counts-outcome.ensures.read in
    let places = with_items_is c.in_ok-counts.counts c.put_counts-outcome.new.counts
    (omega (arith, c.put_counts-outcome.auto.counts, c.deref_mut.ensures.len)) in
    let set = c.set_forecasts.ensures named (rw (c.deref.ensures.value, places) laid_out) in
    all_set c.args.stays.now c.set_forecasts.new.self c.args.bytes.now c.in_ok-header.header.behind named c.in_ok-header.ensures.read.table read set
