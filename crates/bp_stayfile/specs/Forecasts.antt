-- The forecast file: what it says of the stays of a list.
use Rattle.std.specs.Prelude.{◌≡◌, ℕ, List, map, length, slice_index_or, Option, Some, None, Result, Ok, Err}
use Rattle.std.specs.List.{range_with_len}
use Rattle.bp_types.specs.declared.stay.Stay.{Stay}
use Rattle.bp_types.specs.Program.{no_stay}
use Rattle.bp_hotelfile.specs.Steps.{◌>>=◌}
use Rattle.bp_stayfile.specs.declared.counts.Counted.{Counted}
use Rattle.bp_stayfile.specs.declared.error.TableRefusal.{TableRefusal}
use Rattle.bp_stayfile.specs.Tables.{Table, table_of}
use Rattle.bp_stayfile.specs.Reading.{IsRefusedAfter}
use Rattle.bp_stayfile.specs.Counts.{count_of, count_rule, count_columns, counts_file}
use Rattle.bp_stayfile.specs.StayList.{StayList}

-- a stay with its count for a forecast, where it has one
abbrev pub forecast_by : Option ℕ → Stay → Stay
forecast_by None s = s
forecast_by (Some count) s = record s { forecast = count }

-- the stays with the forecasts of a file
abbrev pub forecasts_set : List Counted → List Stay → List Stay
forecasts_set counts stays =
    map (λ j. forecast_by (count_of counts j) (slice_index_or stays j no_stay)) (range_with_len 0 (length stays))

-- the same of a list of stays with codes
abbrev pub with_forecasts : StayList → List Counted → StayList
with_forecasts list counts = record list { stays = forecasts_set counts list.stays }

-- the stays with the forecasts of a forecast file, or its first refusal
abbrev pub forecast_file : StayList → List ℕ → Result StayList TableRefusal
forecast_file list bytes = counts_file list.codes bytes >>= (λ counts. Ok (with_forecasts list counts))

-- the stays after a refusal: the records before the refused one have set their forecasts, and none has where the header
-- is refused
abbrev pub sets_before : Result Table TableRefusal → TableRefusal → StayList → StayList → Type 0
sets_before (Ok table) e old new =
    (counts : List Counted) × IsRefusedAfter (count_rule old.codes) table counts e × (new ≡ with_forecasts old counts)
sets_before (Err refusal) e old new = (e ≡ refusal) × (new ≡ old)

-- the same, of the bytes of the file
abbrev pub SetsBefore : List ℕ → TableRefusal → StayList → StayList → Type 0
SetsBefore bytes e old new = sets_before (table_of count_columns bytes) e old new
