-- The task that words mean, if they mean one.
use Rattle.std.proofs.Common.{
  ◌≡◌,
  ◌∙◌,
  ℕ,
  ◌≤◌,
  sym,
  subst,
  refl,
  arith,
  codes,
  Bool,
  true,
  false,
  cond,
  List,
  [],
  ◌∷◌,
  length,
  get_or,
  drop,
  Option,
  Some,
  None,
  ap,
}
use Rattle.std.specs.Str.{bytes_eq}
use Rattle.std.specs.Str.Parse.{digits_value}
use Rattle.std.proofs.lemmas.Str.Parse.{digit_at}
use Rattle.bp_cli.specs.declared.form.Form.{Form}
use Rattle.bp_cli.specs.declared.form.Form.TheVariants as form
use Rattle.bp_cli.specs.declared.number.TheConstants.{WORKERS}
use Rattle.bp_cli.specs.Words.{Word, IsFileName, IsNumber}
use Rattle.bp_cli.specs.Tasks.{
  Task,
  check,
  solve,
  group,
  judge,
  desk,
  replay,
  report,
  demo,
  scenarios,
  sheet,
  portfolio,
  FiveNames,
  AreFileNames,
  AsksGroup,
  AsksDemo,
  AsksDesk,
  AsksPortfolio,
  AsksWorkers,
  GiveWorkers,
  workers_words,
  names_and,
  Asks,
  IsPlain,
}
use Rattle.bp_cli.specs.Forms.{form_of}
use Rattle.bp_cli.specs.Clap.{DeskLine, IsPlainLine, IsPlainOption, words_of}

-- a word of a line, or none
abbrev word_at : List Word → ℕ → Word
word_at words k = get_or words k []

abbrev number_at : List Word → ℕ → ℕ
number_at words k = digits_value 10 (word_at words k)

-- the number of workers by the word for it, if there is one
abbrev workers_by : Word → ℕ
workers_by [] = WORKERS
workers_by (digit ∷ digits) = digits_value 10 (digit ∷ digits)

abbrev names_at : List Word → FiveNames
names_at words = record { hotel = word_at words 1; stays = word_at words 2; forecast = word_at words 3; bookings = word_at words 4; last = word_at words 5 }

-- the task of a form with these words
abbrev task_by : Option Form → List Word → Task
task_by None words = solve []
task_by (Some form.Check) words = check (word_at words 1) (word_at words 2)
task_by (Some form.Solve) words = solve (word_at words 1)
task_by (Some form.Group) words = group (word_at words 1) (number_at words 2) (number_at words 3) (number_at words 4)
task_by (Some form.Judge) words = judge (word_at words 1) (word_at words 2)
task_by (Some form.Desk) words = desk (names_at words) (workers_by (word_at words 7))
task_by (Some form.Replay) words = replay (names_at words)
task_by (Some form.Report) words = report (names_at words)
task_by (Some form.Demo) words = demo (number_at words 1) (number_at words 2) (number_at words 3) (number_at words 4)
task_by (Some form.Scenarios) words = scenarios (word_at words 1) (word_at words 2)
task_by (Some form.Sheet) words = sheet (word_at words 1)
task_by (Some form.Portfolio) words = portfolio (word_at words 1) (workers_by (word_at words 3))

-- the task that words mean
abbrev pub meaning : List Word → Task
meaning words = task_by (form_of (word_at words 0)) words

workers_mean : (given : Option Word) (workers : ℕ) → AsksWorkers given workers → workers_by (get_or (workers_words given) 1 []) ≡ workers
workers_mean None workers is = sym is
workers_mean (Some []) workers (number, few) = absurd (omega (arith, number.digits.0))
workers_mean (Some (digit ∷ digits)) workers (number, few) = sym number.value

-- words that ask for a task mean that task
pub means : (words : List Word) (t : Task) → Asks words t → meaning words ≡ t
means words (check problem certificate) asks = subst (λ w. meaning w ≡ check problem certificate) (sym asks.0) refl
means words (solve problem) asks = subst (λ w. meaning w ≡ solve problem) (sym asks.0) refl
means words (group problem from to rooms) asks =
    subst (λ w. meaning w ≡ group problem from to rooms) (sym asks.words_are) (rw (asks.from_is.value, asks.to_is.value, asks.rooms_is.value) refl)
means words (judge problem journal) asks = subst (λ w. meaning w ≡ judge problem journal) (sym asks.0) refl
means words (desk names workers) asks =
    subst (λ w. meaning w ≡ desk names workers) (sym asks.words_are) (ap (desk names) (workers_mean asks.given workers asks.workers_are))
means words (replay names) asks = subst (λ w. meaning w ≡ replay names) (sym asks.0) refl
means words (report names) asks = subst (λ w. meaning w ≡ report names) (sym asks.0) refl
means words (demo seed nights rooms stays) asks =
    subst (λ w. meaning w ≡ demo seed nights rooms stays) (sym asks.words_are)
    (rw (asks.seed_is.value, asks.nights_is.value, asks.rooms_is.value, asks.stays_is.value) refl)
means words (scenarios problem changes) asks = subst (λ w. meaning w ≡ scenarios problem changes) (sym asks.0) refl
means words (sheet problem) asks = subst (λ w. meaning w ≡ sheet problem) (sym asks.0) refl
means words (portfolio list workers) asks =
    subst (λ w. meaning w ≡ portfolio list workers) (sym asks.words_are) (ap (portfolio list) (workers_mean asks.given workers asks.workers_are))

-- plain words ask for the task that they mean
pub plain_means : (words : List Word) → IsPlain words → Asks words (meaning words)
plain_means words (t, asks) = subst (Asks words) (sym (means words t asks)) asks

-- the first word of a plain line names a command
pub plain_names : (words : List Word) → IsPlain words → form_of (word_at words 0) ≡ None → ⊥
plain_names words (check problem certificate, asks) none = absurd (let e : form_of (codes "check") ≡ None = rw asks.0 at none in (cc))
plain_names words (solve problem, asks) none = absurd (let e : form_of (codes "solve") ≡ None = rw asks.0 at none in (cc))
plain_names words (group problem from to rooms, asks) none = absurd (let e : form_of (codes "group") ≡ None = rw asks.words_are at none in (cc))
plain_names words (judge problem journal, asks) none = absurd (let e : form_of (codes "judge") ≡ None = rw asks.0 at none in (cc))
plain_names words (desk names workers, asks) none = absurd (let e : form_of (codes "desk") ≡ None = rw asks.words_are at none in (cc))
plain_names words (replay names, asks) none = absurd (let e : form_of (codes "replay") ≡ None = rw asks.0 at none in (cc))
plain_names words (report names, asks) none = absurd (let e : form_of (codes "report") ≡ None = rw asks.0 at none in (cc))
plain_names words (demo seed nights rooms stays, asks) none = absurd (let e : form_of (codes "demo") ≡ None = rw asks.words_are at none in (cc))
plain_names words (scenarios problem changes, asks) none = absurd (let e : form_of (codes "scenarios") ≡ None = rw asks.0 at none in (cc))
plain_names words (sheet problem, asks) none = absurd (let e : form_of (codes "sheet") ≡ None = rw asks.0 at none in (cc))
plain_names words (portfolio list workers, asks) none = absurd (let e : form_of (codes "portfolio") ≡ None = rw asks.words_are at none in (cc))

-- the option and its word in the words of a number of workers
given_words : (given : Option Word) (option word : Word) (workers : ℕ) → option ∷ word ∷ [] ≡ workers_words given → AsksWorkers given workers →
    GiveWorkers option word
given_words None option word workers e is = absurd (cc)
given_words (Some w) option word workers e (number, few) =
    let named : option ≡ codes "--workers" = ap (λ (l : List Word). get_or l 0 []) e in
    let same : word ≡ w = ap (λ (l : List Word). get_or l 1 []) e in
    (named, workers, rw same number, few)

-- the words of a desk with a number of workers
pub desk_gives : (names : FiveNames) (option word : Word) → IsPlain (codes "desk" ∷ names_and names (option ∷ word ∷ [])) →
    AreFileNames names × GiveWorkers option word
desk_gives names option word plain =
    let asks = plain_means (codes "desk" ∷ names_and names (option ∷ word ∷ [])) plain in
    (asks.file_names, given_words asks.given option word (workers_by word) (ap (λ (l : List Word). drop 6 l) asks.words_are) asks.workers_are)

-- a number does not begin with `-`
number_is_plain : (word : Word) (n : ℕ) → IsNumber word n → IsFileName word
number_is_plain [] n number = absurd (omega (arith, number.digits.0))
number_is_plain (first ∷ rest) n number = λ dash. (let digit = digit_at (first ∷ rest) 0 number.digits.1 (omega arith) in omega (arith, digit.0, dash))

workers_are_plain : (given : Option Word) (workers : ℕ) → AsksWorkers given workers → IsPlainOption given
workers_are_plain None workers is = tt
workers_are_plain (Some word) workers is = number_is_plain word workers is.0

-- what `clap` needs of the words behind `desk`
pub plain_line : (behind : List Word) → IsPlain (codes "desk" ∷ behind) → (line : DeskLine) × IsPlainLine line × (behind ≡ words_of line)
plain_line behind plain =
    let words = codes "desk" ∷ behind in
    let asks = plain_means words plain in (
      record { names = names_at words; workers = asks.given },
      record { names = asks.file_names; workers = workers_are_plain asks.given (workers_by (word_at words 7)) asks.workers_are },
      ap (λ (l : List Word). drop 1 l) asks.words_are,
    )
