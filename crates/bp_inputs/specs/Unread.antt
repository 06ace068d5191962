-- Why a reader gives no value of a file.
use Rattle.bp_text.specs.declared.text_error.TextError.{TextError}
use Rattle.bp_text.specs.declared.text_error.TextError.TheVariants.{BadLine, Limit, TooShort, Trailing, Memory as NoTextMemory}
use Rattle.bp_hotelfile.specs.declared.error.HotelError.{HotelError}
use Rattle.bp_hotelfile.specs.declared.error.HotelError.TheVariants.{Refused as RefusedHotel, Memory as NoHotelMemory}
use Rattle.bp_stayfile.specs.declared.error.TableError.{TableError}
use Rattle.bp_stayfile.specs.declared.error.TableError.TheVariants.{Refused as RefusedTable, Memory as NoTableMemory}
use Rattle.bp_inputs.specs.declared.cause.FileError.{FileError}
use Rattle.bp_inputs.specs.declared.cause.FileError.TheVariants.{Text, Hotel, Table}
use Rattle.bp_inputs.specs.declared.unread.Unread.{Unread}
use Rattle.bp_inputs.specs.declared.unread.Unread.TheVariants.{Memory, Refused}

-- what the error of a text's reader means
abbrev pub of_text : TextError → Unread
of_text NoTextMemory = Memory
of_text (BadLine line) = Refused (Text (BadLine line))
of_text (Limit line) = Refused (Text (Limit line))
of_text TooShort = Refused (Text TooShort)
of_text (Trailing line) = Refused (Text (Trailing line))

-- what the error of a hotel file's reader means
abbrev pub of_hotel : HotelError → Unread
of_hotel NoHotelMemory = Memory
of_hotel (RefusedHotel refusal) = Refused (Hotel refusal)

-- what the error of a table's reader means
abbrev pub of_table : TableError → Unread
of_table NoTableMemory = Memory
of_table (RefusedTable refusal) = Refused (Table refusal)

-- P holds of the refusal, where the file is refused
abbrev pub IfRefused : Unread → (FileError → Type 0) → Type 0
IfRefused Memory P = Unit {0}
IfRefused (Refused error) P = P error
