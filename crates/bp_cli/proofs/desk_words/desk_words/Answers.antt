use Rattle.std.proofs.Common.{◌≡◌, ◌∙◌, ap, ap₂, codes, sym, subst}
use Rattle.clap.specs.Matches.{found_of}
use Rattle.clap.specs.Simple.{is_simple, matches_of}
use Rattle.clap.specs.Takes.{takes}
use Rattle.clap.proofs.WalkLemmas.{first_value-rows}
use Rattle.bp_cli.proofs.Walks.{simple, reads, takes_words, GivesRows}
use Rattle.bp_cli.proofs.desk_words.desk_words.Goals as goal

pub unreachable-requires : goal.unreachable-requires
unreachable-requires c =
    let plain = c.requires in
    c.in_default.not-OutOfMemory (c.kind.ensures ∙ c.in-Err.ensures.passes (ap₂ takes c.in_ok-command.ensures plain.2 ∙ takes_words plain.0 plain.1))

pub returns-in-Ok : goal.returns-in-Ok
returns-in-Ok c n p is =
    let has = c.in-Ok.ensures.matches (ap is_simple c.in_ok-command.ensures ∙ simple) in
    let rows = has.0 ∙ ap₂ matches_of c.in_ok-command.ensures is in
    let f = found_of c.in-Ok.matches in
    let gives = subst (GivesRows n) (sym rows) (reads n p) in
    record {
      hotel_is = c.get_str.ensures ∙ first_value-rows f (codes "hotel") ∙ gives.hotel_is;
      stays_is = c.get_str-in-Ok.ensures ∙ first_value-rows f (codes "stays") ∙ gives.stays_is;
      forecast_is = c.get_str-in-Ok-2.ensures ∙ first_value-rows f (codes "forecast") ∙ gives.forecast_is;
      bookings_is = c.get_str-in-Ok-3.ensures ∙ first_value-rows f (codes "bookings") ∙ gives.bookings_is;
      script_is = c.get_str-in-Ok-4.ensures ∙ first_value-rows f (codes "script") ∙ gives.script_is;
      workers_is = c.get_str-in-Ok-5.ensures ∙ first_value-rows f (codes "workers") ∙ gives.workers_is;
    }
