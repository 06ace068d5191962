use Rattle.bp_hotelfile.proofs.DigitLemmas.{value_read, bad_read, none_too_great}
use Rattle.bp_stayfile.proofs.tables.fields.digits.Goals as goal

pub unreachable-requires : goal.unreachable-requires
unreachable-requires c = none_too_great c.args.bytes.now 18 c.requires c.in-Great.ensures

pub returns-in-Value : goal.returns-in-Value
returns-in-Value c = value_read c.args.bytes.now 999999999999999999 c.in-Value.value c.in-Value.ensures

pub returns-in-Bad : goal.returns-in-Bad
returns-in-Bad c = bad_read c.args.bytes.now 999999999999999999 c.in-Bad.ensures
