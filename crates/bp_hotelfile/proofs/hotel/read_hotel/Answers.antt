use Rattle.std.proofs.Common.{sym, rules}
use Rattle.bp_types.specs.declared.limits.TheConstants.{MOST_NIGHTS}
use Rattle.toml.specs.View.{table_view}
use Rattle.bp_hotelfile.specs.declared.key.Key.TheVariants as key
use Rattle.bp_hotelfile.specs.Settings.{value_at}
use Rattle.bp_hotelfile.proofs.SeasonLemmas.{settings_tell, at_most, tables_fit, season_is, season_of-tells}
use Rattle.bp_hotelfile.proofs.hotel.read_hotel.Goals as goal

pub rooms_by_night-requires : goal.rooms_by_night-requires
rooms_by_night-requires c =
    (at_most 1 MOST_NIGHTS _ (settings_tell (table_view c.in_ok-table.table) c.in_ok-settings.settings (sym c.in_ok-settings.ensures)).nights).1

pub invariant_of-result : goal.invariant_of-result
invariant_of-result c =
    season_is c.in_ok-settings.settings c.deref.result.now c.in_ok-rooms.rooms.items
    (settings_tell (table_view c.in_ok-table.table) c.in_ok-settings.settings (sym c.in_ok-settings.ensures))
    (rw c.deref.ensures.value (tables_fit (value_at key.Night (table_view c.in_ok-table.table)) c.in_ok-tables.tables.items c.in_ok-tables.ensures.ok))
    c.in_ok-rooms.ensures.ok.1

pub returns-clause-season : goal.returns-clause-season
returns-clause-season c = season_of-tells c.args.bytes.now _ (search rules)
