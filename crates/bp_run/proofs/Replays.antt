-- What a desk wrote is legal by `replay`.
use Rattle.std.proofs.Common.{◌≡◌, ◌≢◌, ◌∙◌, ℕ, ◌+◌, refl, sym, ap, subst, List, length, Option, Some, Ok, Err}
use Rattle.std.specs.FinMap.{get}
use Rattle.bp_edges.specs.Held.{Files}
use Rattle.bp_types.specs.House.{Inn, IsHouse}
use Rattle.bp_types.proofs.HouseLemmas.{house_from_no_refusal}
use Rattle.bp_hotelfile.specs.Laws.{FilesGiveSeasons}
use Rattle.bp_stayfile.specs.Laws.{FilesGiveStays, ForecastsKeepLimits, BookingsFit, HousesAreInLimits}
use Rattle.bp_stayfile.specs.StayList.{AreStays}
use Rattle.bp_core.specs.Lines.{History}
use Rattle.bp_core.specs.Legal.{IsLegal}
use Rattle.bp_journal.specs.Journals.{journal_text}
use Rattle.bp_journal.specs.Read.{IsJournalText}
use Rattle.bp_journal.specs.Laws.{WrittenIsRead}
use Rattle.bp_judge.specs.Judging.{NotBoth}
use Rattle.bp_desk_run.specs.declared.callers.Ran.{Ran}
use Rattle.bp_cli.specs.Words.{Word}
use Rattle.bp_inputs.specs.Stages.{Stage, Plan, done, ask, followed_by, IsReadAs, Gives, AreReadOneWay}
use Rattle.bp_inputs.specs.HotelPlan.{HotelNames, hotel_plan}
use Rattle.bp_inputs.specs.HotelFiles.{hotel_file, stays_of_hotel, forecast_of_stays, bookings_of_hotel}
use Rattle.bp_inputs.specs.JournalFiles.{journal_file}
use Rattle.bp_run.specs.Command.{IsAnswered}
use Rattle.bp_run.specs.Judge.{Charge, IsRuling, ruling_command, journal_plan, replay_plan}
use Rattle.bp_desk_run.specs.RightRun.{Staged}
use Rattle.bp_run.specs.Desk.{script_plan, desk_command, run_said}
use Rattle.bp_run.specs.Laws.{HoldOneHotel, RunsAreLegal}
use Rattle.bp_inputs.specs.declared.house.OpenHotel.{OpenHotel}
use Rattle.bp_run.specs.declared.commands.judge.Ruling.{Ruling}
use Rattle.bp_run.specs.declared.commands.judge.Ruling.TheVariants.{Legal, Illegal}
use Rattle.bp_inputs.proofs.HotelOneWay.{hotel_plan_one_way}

-- the laws of the crates below
pub record LawsBelow : Type 0 where
  pub seasons : FilesGiveSeasons
  pub stays : FilesGiveStays
  pub forecasts : ForecastsKeepLimits
  pub bookings : BookingsFit
  pub houses : HousesAreInLimits
  pub written : WrittenIsRead
  pub not_both : NotBoth

-- what the files of two plans give, taken apart
record Parts {A B : Type 0} (held : Option Files) (plan : Plan A) (after : A → Plan B) (first next : ℕ) (b : B) : Type 0 where
  a : A
  middle : ℕ
  early : Gives held plan first middle a
  late : Gives held (after a) middle next b

gives_apart : {A B : Type 0} (held : Option Files) (plan : Plan A) (after : A → Plan B) (first next : ℕ) (b : B) →
    Gives held (followed_by plan after) first next b → Parts held plan after first next b
gives_apart held (done x) after first next b gives = record { a = x; middle = first; early = (refl, refl); late = gives }
gives_apart held (ask s rest) after first next b (v, was_read, gives) =
    let parts = gives_apart held (rest v) after (first + 1) next b gives in
    record { a = parts.a; middle = parts.middle; early = (v, was_read, parts.early); late = parts.late }

-- files that are read in one way give one thing
same_read : (files : Files) (s : Stage) (v w : s.Value) → ((bytes : List ℕ) (x y : s.Value) → s.Accepts bytes x → s.Accepts bytes y → x ≡ y)
    → IsReadAs (Some files) s v → IsReadAs (Some files) s w → v ≡ w
same_read files s v w one first second =
    let x : get files s.name ≡ Some first.bytes = first.is_read.told files refl in
    let y : get files s.name ≡ Some second.bytes = second.is_read.told files refl in
    let same : second.bytes ≡ first.bytes = cc in
    let P : List ℕ → Type 0 = λ b. s.Accepts b w in
    one first.bytes v w first.accepted (subst P same second.accepted)

gives_same : {A : Type 0} (files : Files) (plan : Plan A) (first m n : ℕ) (a b : A) → AreReadOneWay plan → Gives (Some files) plan first m a →
    Gives (Some files) plan first n b → a ≡ b
gives_same files (done x) first m n a b one_way (is, p) (is_too, q) = sym is ∙ is_too
gives_same {A} files (ask s rest) first m n a b (here, later) (v, read_v, gives) (w, read_w, gives_too) =
    let P : s.Value → Type 0 = λ x. Gives (Some files) (rest x) (first + 1) n b in
    gives_same files (rest v) (first + 1) m n a b (later v) gives (subst P (sym (same_read files s v w here.one_value read_v read_w)) gives_too)

-- a file that two shelves hold alike
read_here : (before later : Files) (s : Stage) (v : s.Value) → get before s.name ≡ get later s.name → IsReadAs (Some later) s v → IsReadAs (Some before) s v
read_here before later s v alike read = record {
  bytes = read.bytes;
  is_read = record {
    short = read.is_read.short;
    told = λ files e. (let x : get later s.name ≡ Some read.bytes = read.is_read.told later refl in let y : files ≡ before = (cc) in cc);
  };
  accepted = read.accepted;
}

-- so the four files of a hotel give the same
hotel_here : (before later : Files) (names : HotelNames) (first next : ℕ) (inn : OpenHotel) → HoldOneHotel names before later
    → Gives (Some later) (hotel_plan names) first next inn → Gives (Some before) (hotel_plan names) first next inn
hotel_here before later names first next inn alike (season, hotel_read, (listed, listed_read, (stays, stays_read, (sold, sold_read, (is, same))))) = (
  season,
  read_here before later (hotel_file names.hotel) season alike.hotel hotel_read,
  (
    listed,
    read_here before later (stays_of_hotel season names.stays) listed alike.stays listed_read,
    (
      stays,
      read_here before later (forecast_of_stays listed names.forecast) stays alike.forecast stays_read,
      (sold, read_here before later (bookings_of_hotel season stays names.bookings) sold alike.bookings sold_read, (is, same)),
    ),
  ),
)

-- their house keeps to every limit
hotel_is_house : LawsBelow → (held : Option Files) (names : HotelNames) (first next : ℕ) (inn : OpenHotel) → Gives held (hotel_plan names) first next inn →
    IsHouse inn.house
hotel_is_house laws held names first next inn (season, hotel_read, (listed, listed_read, (stays, stays_read, (sold, sold_read, (is, same))))) =
    let is_season = laws.seasons hotel_read.bytes season hotel_read.accepted in
    let first_list = laws.stays season listed_read.bytes listed listed_read.accepted in
    let list = laws.forecasts listed stays stays_read.bytes first_list.0 stays_read.accepted in
    let nights : stays.nights ≡ length season.rooms = list.1 ∙ first_list.1 in
    let are = subst (λ n. AreStays n stays.stays) nights list.0.stays in
    let fits = laws.bookings season.rooms stays sold_read.bytes sold sold_read.accepted in
    let P : OpenHotel → Type 0 = λ o. IsHouse o.house in
    subst P is (house_from_no_refusal season.rooms sold stays.stays season.limits (laws.houses season stays.stays sold is_season are fits))

-- a ruling on legal lines
legal_ruling : LawsBelow → (h : Inn) (H : History) (ruling : Ruling) → IsLegal h H → IsRuling (record { house = h; lines = H }) ruling →
    ruling ≡ Legal (length H)
legal_ruling laws h H (Legal entries) legal right = ap Legal right.1
legal_ruling laws h H (Illegal place rule) legal right = absurd (laws.not_both h H place rule legal right)

pub runs_are_legal : LawsBelow → RunsAreLegal
runs_are_legal laws before later names script journal workers ran ruling alike holds desk replay =
    let run = gives_apart (Some before) (hotel_plan names) (λ (inn : OpenHotel). script_plan script inn) 1 desk.next desk.given desk.gives in
    let judged = gives_apart (Some later) (hotel_plan names) (λ (inn : OpenHotel). journal_plan journal inn.house) 1 replay.next replay.given replay.gives in
    let inn : judged.a ≡ run.a =
    gives_same before (hotel_plan names) 1 judged.middle run.middle judged.a run.a (hotel_plan_one_way names)
    (hotel_here before later names 1 judged.middle judged.a alike judged.early) run.early in
    let (scripts, scripts_read, (run_is, run_next)) = run.late in
    let (H, journal_read, (judged_is, judged_next)) = judged.late in
    let opened : run.a.house ≡ desk.given.house = ap (λ (g : Staged). g.house) run_is in
    let house : judged.a.house ≡ desk.given.house = ap (λ (o : OpenHotel). o.house) inn ∙ opened in
    let is_house : IsHouse desk.given.house = subst IsHouse opened (hotel_is_house laws (Some before) names 1 run.middle run.a run.early) in
    let text : journal_read.bytes ≡ journal_text ran.book.history =
    (let x : get later journal ≡ Some journal_read.bytes = journal_read.is_read.told later refl in cc) in
    let read_as = subst (λ (b : List ℕ). IsJournalText b (Ok H)) text journal_read.accepted in
    let lines : H ≡ ran.book.history =
    (let same = laws.written desk.given.house ran.book.history (Ok H) is_house desk.right.run.legal (λ e. cc) read_as in cc) in
    let right = subst (λ (g : Charge). IsRuling g ruling) (sym judged_is) replay.right in
    let on_house = subst (λ (h : Inn). IsRuling (record { house = h; lines = H }) ruling) house right in
    let on_lines = subst (λ (L : History). IsRuling (record { house = desk.given.house; lines = L }) ruling) lines on_house in
    legal_ruling laws desk.given.house ran.book.history ruling desk.right.run.legal on_lines
