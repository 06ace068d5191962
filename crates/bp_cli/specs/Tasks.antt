-- What plain words ask for.
use Rattle.std.specs.Prelude.{◌≡◌, ℕ, ◌≤◌, List, [], ◌∷◌, Option, Some, None, codes}
use Rattle.bp_types.specs.declared.limits.TheConstants.{MOST_NIGHTS, MOST_ROOMS, MOST_STAYS, MOST_GROUP_ROOMS}
use Rattle.bp_types.specs.declared.limits.TheConstants.{MOST_WORKERS}
use Rattle.bp_cli.specs.declared.number.TheConstants.{WORKERS}
use Rattle.bp_cli.specs.Words.{Word, IsFileName, IsNumber}

-- the names of a desk's files: those of its house, and last its script, or a journal
pub record FiveNames : Type 0 where
  pub hotel : Word
  pub stays : Word
  pub forecast : Word
  pub bookings : Word
  pub last : Word

-- what a line asks for, with the names of its files
pub data Task : Type 0 where
  -- to check, with the names of a problem and of a certificate
  check : Word → Word → Task
  -- to solve, with the name of a problem
  solve : Word → Task
  -- to quote a group, with the name of a problem, the first night, the night after the last, and the rooms
  group : Word → ℕ → ℕ → ℕ → Task
  -- to judge, with the names of a problem and of a journal
  judge : Word → Word → Task
  -- to run a desk, with the names of its files, and the number of workers
  desk : FiveNames → ℕ → Task
  -- to judge a desk's journal, with the names of the files
  replay : FiveNames → Task
  -- to report of a desk's journal, with the names of the files
  report : FiveNames → Task
  -- to make a desk and book on it, with a seed, the nights, the rooms and the stays
  demo : ℕ → ℕ → ℕ → ℕ → Task
  -- to solve scenarios, with the names of a problem and of its changes
  scenarios : Word → Word → Task
  -- to print the sheet of a problem, with its name
  sheet : Word → Task
  -- to run the desks of a list of hotels, with its name, and the number of workers
  portfolio : Word → ℕ → Task

-- the words of a group: its nights may be any numbers
pub record AsksGroup (words : List Word) (problem : Word) (from to rooms : ℕ) : Type 0 where
  pub from_word : Word
  pub to_word : Word
  pub rooms_word : Word
  pub words_are : words ≡ codes "group" ∷ problem ∷ from_word ∷ to_word ∷ rooms_word ∷ []
  pub file_name : IsFileName problem
  pub from_is : IsNumber from_word from
  pub to_is : IsNumber to_word to
  pub rooms_is : IsNumber rooms_word rooms
  pub some_rooms : 1 ≤ rooms
  pub few_rooms : rooms ≤ MOST_GROUP_ROOMS

-- the words of a demo: its seed may be any number
pub record AsksDemo (words : List Word) (seed nights rooms stays : ℕ) : Type 0 where
  pub seed_word : Word
  pub nights_word : Word
  pub rooms_word : Word
  pub stays_word : Word
  pub words_are : words ≡ codes "demo" ∷ seed_word ∷ nights_word ∷ rooms_word ∷ stays_word ∷ []
  pub seed_is : IsNumber seed_word seed
  pub nights_is : IsNumber nights_word nights
  pub rooms_is : IsNumber rooms_word rooms
  pub stays_is : IsNumber stays_word stays
  pub some_night : 1 ≤ nights
  pub few_nights : nights ≤ MOST_NIGHTS
  pub few_rooms : rooms ≤ MOST_ROOMS
  pub few_stays : stays ≤ MOST_STAYS

-- each of the five is a name that a file may have
pub record AreFileNames (names : FiveNames) : Type 0 where
  pub hotel : IsFileName names.hotel
  pub stays : IsFileName names.stays
  pub forecast : IsFileName names.forecast
  pub bookings : IsFileName names.bookings
  pub last : IsFileName names.last

-- the words of five names, and those behind them
abbrev pub names_and : FiveNames → List Word → List Word
names_and names behind = names.hotel ∷ names.stays ∷ names.forecast ∷ names.bookings ∷ names.last ∷ behind

-- the words that give a number of workers, at the end of a line
abbrev pub workers_words : Option Word → List Word
workers_words None = []
workers_words (Some word) = codes "--workers" ∷ word ∷ []

-- an option and its word give a number of workers
abbrev pub GiveWorkers : Word → Word → Type 0
GiveWorkers option word = (option ≡ codes "--workers") × (workers : ℕ) × IsNumber word workers × (workers ≤ MOST_WORKERS)

-- so many workers: as many as the word says, or the usual number
abbrev pub AsksWorkers : Option Word → ℕ → Type 0
AsksWorkers None workers = workers ≡ WORKERS
AsksWorkers (Some word) workers = IsNumber word workers × (workers ≤ MOST_WORKERS)

-- the words of a desk
pub record AsksDesk (words : List Word) (names : FiveNames) (workers : ℕ) : Type 0 where
  pub given : Option Word
  pub words_are : words ≡ codes "desk" ∷ names_and names (workers_words given)
  pub file_names : AreFileNames names
  pub workers_are : AsksWorkers given workers

-- the words of a portfolio
pub record AsksPortfolio (words : List Word) (list : Word) (workers : ℕ) : Type 0 where
  pub given : Option Word
  pub words_are : words ≡ codes "portfolio" ∷ list ∷ workers_words given
  pub file_name : IsFileName list
  pub workers_are : AsksWorkers given workers

-- the words ask for this task, word for word
abbrev pub Asks : List Word → Task → Type 0
Asks words (check problem certificate) =
    (words ≡ codes "check" ∷ problem ∷ certificate ∷ []) × IsFileName problem × IsFileName certificate
Asks words (solve problem) = (words ≡ codes "solve" ∷ problem ∷ []) × IsFileName problem
Asks words (group problem from to rooms) = AsksGroup words problem from to rooms
Asks words (judge problem journal) =
    (words ≡ codes "judge" ∷ problem ∷ journal ∷ []) × IsFileName problem × IsFileName journal
Asks words (desk names workers) = AsksDesk words names workers
Asks words (replay names) = (words ≡ codes "replay" ∷ names_and names []) × AreFileNames names
Asks words (report names) = (words ≡ codes "report" ∷ names_and names []) × AreFileNames names
Asks words (demo seed nights rooms stays) = AsksDemo words seed nights rooms stays
Asks words (scenarios problem changes) =
    (words ≡ codes "scenarios" ∷ problem ∷ changes ∷ []) × IsFileName problem × IsFileName changes
Asks words (sheet problem) = (words ≡ codes "sheet" ∷ problem ∷ []) × IsFileName problem
Asks words (portfolio list workers) = AsksPortfolio words list workers

-- the words ask for some task
abbrev pub IsPlain : List Word → Type 0
IsPlain words = (task : Task) × Asks words task
