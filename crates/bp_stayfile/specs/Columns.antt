-- The columns of the tables.
use Rattle.std.specs.Prelude.{codes, ℕ, List}
use Rattle.bp_stayfile.specs.declared.column.Column.{Column}
use Rattle.bp_stayfile.specs.declared.column.Column.TheVariants as column

-- the name of a column in a header
abbrev pub column_text : Column → List ℕ
column_text column.Code = codes "code"
column_text column.Arrival = codes "arrival"
column_text column.Nights = codes "nights"
column_text column.Rate = codes "rate"
column_text column.Count = codes "count"
column_text column.Session = codes "session"
column_text column.Verb = codes "verb"
column_text column.Item = codes "item"
column_text column.Rooms = codes "rooms"
column_text column.Amount = codes "amount"
