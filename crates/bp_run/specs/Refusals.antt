-- What the refusal of a file says.
use Rattle.std.specs.Prelude.{ℕ, List, [], ◌∷◌, ◌++◌, codes}
use Rattle.std.specs.Fmt.{decimal}
use Rattle.bp_text.specs.declared.text_error.TextError.{TextError}
use Rattle.bp_text.specs.declared.text_error.TextError.TheVariants.{BadLine, Limit, TooShort, Trailing, Memory}
use Rattle.bp_hotelfile.specs.Keys.{key_text}
use Rattle.bp_hotelfile.specs.declared.error.HotelRefusal.{HotelRefusal}
use Rattle.bp_hotelfile.specs.declared.error.HotelRefusal.TheVariants as hotel
use Rattle.bp_stayfile.specs.Columns.{column_text}
use Rattle.bp_stayfile.specs.declared.error.TableRefusal.{TableRefusal}
use Rattle.bp_stayfile.specs.declared.error.TableRefusal.TheVariants as table
use Rattle.bp_run.specs.Texts.{line}
use Rattle.bp_inputs.specs.declared.cause.Cause.{Cause}
use Rattle.bp_inputs.specs.declared.cause.Cause.TheVariants.{TooLong, Reader}
use Rattle.bp_inputs.specs.declared.cause.FileError.TheVariants.{Text, Hotel, Table}

-- the file with this number is refused with a word and numbers
abbrev pub refused : ℕ → List ℕ → List ℕ → List ℕ
refused file word numbers = codes "refused " ++ (decimal file ++ line word numbers)

-- or with a word and a name
abbrev pub refused_at : ℕ → List ℕ → List ℕ → List ℕ
refused_at file word name = codes "refused " ++ (decimal file ++ (word ++ (name ++ 10 ∷ [])))

-- why a text is refused. No end has want of memory as its cause
abbrev pub text_refusal : ℕ → TextError → List ℕ
text_refusal file (BadLine number) = refused file (codes " badline") (number ∷ [])
text_refusal file (Limit number) = refused file (codes " limit") (number ∷ [])
text_refusal file TooShort = refused file (codes " tooshort") []
text_refusal file (Trailing number) = refused file (codes " trailing") (number ∷ [])
text_refusal file Memory = refused file (codes " memory") []

-- why a hotel file is refused
abbrev pub hotel_refusal : ℕ → HotelRefusal → List ℕ
hotel_refusal file hotel.NotToml = refused file (codes " nottoml") []
hotel_refusal file (hotel.Missing key) = refused_at file (codes " missing ") (key_text key)
hotel_refusal file (hotel.Kind key) = refused_at file (codes " kind ") (key_text key)
hotel_refusal file (hotel.Date key) = refused_at file (codes " date ") (key_text key)
hotel_refusal file (hotel.Range key) = refused_at file (codes " range ") (key_text key)
hotel_refusal file (hotel.NightShape index) = refused file (codes " nightshape") (index ∷ [])
hotel_refusal file (hotel.NightOutside index) = refused file (codes " nightoutside") (index ∷ [])
hotel_refusal file (hotel.TwiceNight index) = refused file (codes " twicenight") (index ∷ [])

-- why a table is refused
abbrev pub table_refusal : ℕ → TableRefusal → List ℕ
table_refusal file (table.Column column) = refused_at file (codes " column ") (column_text column)
table_refusal file (table.NotCsv number) = refused file (codes " notcsv") (number ∷ [])
table_refusal file (table.Code number) = refused file (codes " code") (number ∷ [])
table_refusal file (table.NoCode number) = refused file (codes " nocode") (number ∷ [])
table_refusal file (table.Date number) = refused file (codes " date") (number ∷ [])
table_refusal file (table.Number number) = refused file (codes " number") (number ∷ [])
table_refusal file (table.Limit number) = refused file (codes " limit") (number ∷ [])
table_refusal file (table.Outside number) = refused file (codes " outside") (number ∷ [])
table_refusal file (table.TwiceCode number) = refused file (codes " twicecode") (number ∷ [])
table_refusal file (table.Verb number) = refused file (codes " verb") (number ∷ [])
table_refusal file (table.Session number) = refused file (codes " session") (number ∷ [])
table_refusal file (table.Overbooked night) = refused file (codes " overbooked") (night ∷ [])

-- why a file is refused
abbrev pub refusal_line : ℕ → Cause → List ℕ
refusal_line file TooLong = refused file (codes " toolong") []
refusal_line file (Reader (Text e)) = text_refusal file e
refusal_line file (Reader (Hotel e)) = hotel_refusal file e
refusal_line file (Reader (Table e)) = table_refusal file e
