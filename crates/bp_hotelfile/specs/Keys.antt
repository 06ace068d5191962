-- The keys of the hotel file.
use Rattle.std.specs.Prelude.{codes, ℕ, List}
use Rattle.bp_hotelfile.specs.declared.key.Key.{Key}
use Rattle.bp_hotelfile.specs.declared.key.Key.TheVariants as key

-- a key as it stands in the file
abbrev pub key_text : Key → List ℕ
key_text key.Name = codes "name"
key_text key.FirstNight = codes "first_night"
key_text key.Nights = codes "nights"
key_text key.Rooms = codes "rooms"
key_text key.StaleAfter = codes "stale_after"
key_text key.Entries = codes "entries"
key_text key.Publications = codes "publications"
key_text key.Unit = codes "unit"
key_text key.Night = codes "night"
