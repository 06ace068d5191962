-- What a request tells that was read of a row: its session and its command are within their limits.
use Rattle.std.proofs.Common.{
  ◌≡◌,
  ◌∙◌,
  sym,
  ap,
  refl,
  subst,
  ℕ,
  ◌+◌,
  ◌≤◌,
  ◌<◌,
  Bool,
  true,
  false,
  cond,
  ◌&&◌,
  nat_le,
  nat_lt,
  List,
  [],
  length,
  get_or,
  Option,
  Some,
  None,
  Result,
  Ok,
  Err,
  IsTrue,
  arith,
}
use Rattle.std.specs.Option.{ok_or}
use Rattle.std.proofs.lemmas.Bool.{and_parts, leb-true, ltb-true, le-leb, lt-ltb}
use Rattle.bp_types.specs.declared.stay.Span.{Span}
use Rattle.bp_types.specs.declared.command.Command.{Command}
use Rattle.bp_types.specs.declared.command.Command.TheVariants.{Book, Cancel, Reforecast, Reprice, Resize, Group}
use Rattle.bp_types.specs.declared.limits.TheConstants.{MOST_RATE, MOST_FORECAST, MOST_ROOMS, MOST_GROUP_ROOMS, MOST_AMOUNT, MOST_ENTRIES}
use Rattle.bp_types.specs.House.{Inn}
use Rattle.bp_core.specs.Legal.{is_command_in_range}
use Rattle.bp_hotelfile.specs.declared.error.DateError.{DateError}
use Rattle.bp_hotelfile.specs.declared.error.DateError.TheVariants.{NotADate, Outside as NoNight}
use Rattle.bp_hotelfile.specs.Dates.{day_of}
use Rattle.bp_hotelfile.specs.Nights.{night_on}
use Rattle.bp_hotelfile.specs.Numbers.{is_between}
use Rattle.bp_hotelfile.specs.Season.{Season, night_of}
use Rattle.bp_hotelfile.specs.Steps.{◌>>=◌}
use Rattle.bp_hotelfile.proofs.NightLemmas.{night_on-tells}
use Rattle.bp_stayfile.specs.declared.error.TableRefusal.{TableRefusal}
use Rattle.bp_stayfile.specs.declared.error.TableRefusal.TheVariants.{NoCode, Limit, Outside, Session}
use Rattle.bp_stayfile.specs.Tables.{Record}
use Rattle.bp_stayfile.specs.Fields.{number_of}
use Rattle.bp_stayfile.specs.Codes.{stay_with}
use Rattle.bp_stayfile.specs.Cells.{code_in, number_in, date_in, span_in}
use Rattle.bp_stayfile.proofs.CodeLemmas.{position-within}
use Rattle.bp_script.specs.declared.request.Request.{Request}
use Rattle.bp_types.specs.declared.limits.TheConstants.{MOST_SESSIONS}
use Rattle.bp_script.specs.declared.verb.Verb.{Verb}
use Rattle.bp_script.specs.declared.verb.Verb.TheVariants as verb
use Rattle.bp_script.specs.Verbs.{verb_in}
use Rattle.bp_script.specs.Commands.{
  stay_in,
  number_within,
  nights_in,
  night_in,
  book_in,
  cancel_in,
  reforecast_in,
  reprice_in,
  resize_in,
  group_in,
  item_cell,
  nights_cell,
  rooms_cell,
  amount_cell,
  command_in,
}
use Rattle.bp_script.specs.Scripts.{session_of, session_in, room_in, request_in}

-- what was passed, where what comes after it was passed
pub passed : {A B E : Type 0} (r : Result A E) (next : A → Result B E) (b : B) → (r >>= next) ≡ Ok b → (a : A) × (r ≡ Ok a) × (next a ≡ Ok b)
passed (Ok a) next b e = (a, refl, e)
passed (Err x) next b e = absurd (cc)

-- a test that was passed
tested : {A E : Type 0} (b : Bool) (a : A) (x : E) (c : A) → cond b (Ok a) (Err x) ≡ Ok c → (b ≡ true) × (a ≡ c)
tested true a x c e = (refl, (cc))
tested false a x c e = absurd (cc)

found : {A E : Type 0} (o : Option A) (x : E) (a : A) → ok_or o x ≡ Ok a → o ≡ Some a
found (Some b) x a e = (cc)
found None x a e = absurd (cc)

-- the stay of a code is one of the stays
stay_in-tells : (codes : List (List ℕ)) (line : ℕ) (t : List ℕ) (stay : ℕ) → stay_in codes line t ≡ Ok stay → stay < length codes
stay_in-tells codes line t stay e =
    let (u, code, named) = passed (code_in line t) (λ _. ok_or (stay_with codes t) (NoCode line)) stay e in
    position-within _ codes stay (found (stay_with codes t) (NoCode line) stay named)

-- a number is from least to most
number_within-tells : (least most line : ℕ) (t : List ℕ) (n : ℕ) → number_within least most line t ≡ Ok n → is_between least most n ≡ true
number_within-tells least most line t n e =
    let (m, number, within) = passed (number_in line t) (λ n. cond (is_between least most n) (Ok n) (Err (Limit line))) n e in
    let (test, same) = tested (is_between least most m) m (Limit line) n within in
    rw (← same) test

at_most : (least most n : ℕ) → is_between least most n ≡ true → nat_le n most ≡ true
at_most least most n test = (and_parts (nat_le least n) (nat_le n most) test).1

nights_in-tells : (line : ℕ) (t : List ℕ) (n : ℕ) → nights_in line t ≡ Ok n → 1 ≤ n
nights_in-tells line t n e =
    let (m, number, within) = passed (number_in line t) (λ n. cond (nat_le 1 n) (Ok n) (Err (Limit line))) n e in
    let (test, same) = tested (nat_le 1 m) m (Limit line) n within in
    omega (arith, leb-true 1 m test, same)

-- a date's night is one of the hotel's
night_of-tells : (season : Season) (t : List ℕ) (night : ℕ) → night_of season t ≡ Ok night → night < length season.rooms
night_of-tells season t night e =
    let (day, date, there) = passed (ok_or (day_of t) NotADate) (λ day. ok_or (night_on season.first (length season.rooms) day) NoNight) night e in
    (night_on-tells season.first (length season.rooms) day night (found (night_on season.first (length season.rooms) day) NoNight night there)).1

night_in-tells : (line : ℕ) (date : Result ℕ DateError) (night : ℕ) → night_in line date ≡ Ok night → date ≡ Ok night
night_in-tells line (Ok n) night e = (cc)
night_in-tells line (Err x) night e = absurd (cc)

-- a span has a night at least, and ends within the hotel's
span_in-tells : (line total : ℕ) (arrival : Result ℕ DateError) (nights : ℕ) (s : Span) → 1 ≤ nights → span_in line total arrival nights ≡ Ok s →
    (s.from < s.to) × (s.to ≤ total)
span_in-tells line total (Ok from) nights s some e =
    let (fits, same) = tested (nat_le (from + nights) total) (record { from = from; to = from + nights }) (Outside line) s e in
    let starts = ap (λ (x : Span). x.from) same in
    let ends = ap (λ (x : Span). x.to) same in
    (omega (arith, starts, ends), omega (arith, ends, leb-true (from + nights) total fits))
span_in-tells line total (Err x) nights s some e = absurd (cc)

-- the command keeps its limits in a house
abbrev Fits : Inn → Command → Type 0
Fits h c = is_command_in_range h c ≡ true

module _ (h : Inn) (season : Season) (codes : List (List ℕ)) (nights : length h.rooms ≡ length season.rooms) (stays : length h.stays ≡ length codes) where
  has_stay : (line : ℕ) (t : List ℕ) (stay : ℕ) → stay_in codes line t ≡ Ok stay → nat_lt stay (length h.stays) ≡ true
  has_stay line t stay e = lt-ltb stay (length h.stays) (omega (arith, stays, stay_in-tells codes line t stay e))

  book_fits : (line : ℕ) (item : List ℕ) (c : Command) → book_in codes line item ≡ Ok c → Fits h c
  book_fits line item c e =
      let (stay, named, is) = passed (stay_in codes line item) (λ stay. Ok (Book stay)) c e in
      let same : Book stay ≡ c = (cc) in
      subst (Fits h) same (has_stay line item stay named)

  cancel_fits : (line : ℕ) (item : List ℕ) (c : Command) → cancel_in line item ≡ Ok c → Fits h c
  cancel_fits line item c e =
      let (nth, number, is) = passed (number_within 1 MOST_ENTRIES line item) (λ nth. Ok (Cancel nth)) c e in
      let same : Cancel nth ≡ c = (cc) in
      subst (Fits h) same (number_within-tells 1 MOST_ENTRIES line item nth number)

  reforecast_fits : (line : ℕ) (item amount : List ℕ) (c : Command) → reforecast_in codes line item amount ≡ Ok c → Fits h c
  reforecast_fits line item amount c e =
      let (stay, named, more) =
      passed (stay_in codes line item) (λ stay. number_within 0 MOST_FORECAST line amount >>= (λ count. Ok (Reforecast stay count))) c e in
      let (count, number, is) = passed (number_within 0 MOST_FORECAST line amount) (λ count. Ok (Reforecast stay count)) c more in
      let same : Reforecast stay count ≡ c = (cc) in
      let most = at_most 0 MOST_FORECAST count (number_within-tells 0 MOST_FORECAST line amount count number) in
      subst (Fits h) same (rw (has_stay line item stay named, most) refl)

  reprice_fits : (line : ℕ) (item amount : List ℕ) (c : Command) → reprice_in codes line item amount ≡ Ok c → Fits h c
  reprice_fits line item amount c e =
      let (stay, named, more) = passed (stay_in codes line item) (λ stay. number_within 1 MOST_RATE line amount >>= (λ rate. Ok (Reprice stay rate))) c e in
      let (rate, number, is) = passed (number_within 1 MOST_RATE line amount) (λ rate. Ok (Reprice stay rate)) c more in
      let same : Reprice stay rate ≡ c = (cc) in
      subst (Fits h) same (rw (has_stay line item stay named) (number_within-tells 1 MOST_RATE line amount rate number))

  resize_fits : (line : ℕ) (item rooms : List ℕ) (c : Command) → resize_in line (night_of season item) rooms ≡ Ok c → Fits h c
  resize_fits line item rooms c e =
      let date = night_of season item in
      let (u, dated, more) = passed (date_in line date)
      (λ _. number_within 0 MOST_ROOMS line rooms >>= (λ rooms. night_in line date >>= (λ night. Ok (Resize night rooms)))) c e in
      let (n, number, last) = passed (number_within 0 MOST_ROOMS line rooms) (λ rooms. night_in line date >>= (λ night. Ok (Resize night rooms))) c more in
      let (night, there, is) = passed (night_in line date) (λ night. Ok (Resize night n)) c last in
      let same : Resize night n ≡ c = (cc) in
      let most = at_most 0 MOST_ROOMS n (number_within-tells 0 MOST_ROOMS line rooms n number) in
      let within = lt-ltb night (length h.rooms) (omega (arith, nights, night_of-tells season item night (night_in-tells line date night there))) in
      subst (Fits h) same (rw (within, most) refl)

  group_fits : (line : ℕ) (arrival : Result ℕ DateError) (stayed rooms amount : List ℕ) (c : Command) →
      group_in line (length season.rooms) arrival stayed rooms amount ≡ Ok c → Fits h c
  group_fits line arrival stayed rooms amount c e =
      let (u, dated, one) = passed (date_in line arrival) _ c e in
      let (n, some, two) = passed (nights_in line stayed) _ c one in
      let (r, roomed, three) = passed (number_within 1 MOST_GROUP_ROOMS line rooms) _ c two in
      let (a, paid, four) = passed (number_within 0 MOST_AMOUNT line amount) _ c three in
      let (s, spans, is) = passed (span_in line (length season.rooms) arrival n) (λ span. Ok (Group span r a)) c four in
      let same : Group s r a ≡ c = (cc) in
      let (from, to) = span_in-tells line (length season.rooms) arrival n s (nights_in-tells line stayed n some) spans in
      let starts = lt-ltb s.from s.to from in
      let ends = le-leb s.to (length h.rooms) (omega (arith, nights, to)) in
      let most = at_most 0 MOST_AMOUNT a (number_within-tells 0 MOST_AMOUNT line amount a paid) in
      subst (Fits h) same (rw (starts, ends, number_within-tells 1 MOST_GROUP_ROOMS line rooms r roomed, most) refl)

  -- the command of a row keeps its limits
  command_fits : (line : ℕ) (row : Record) (v : Verb) (c : Command) → command_in season codes line row v ≡ Ok c → Fits h c
  command_fits line row verb.Book c e = book_fits line (item_cell row) c e
  command_fits line row verb.Cancel c e = cancel_fits line (item_cell row) c e
  command_fits line row verb.Reforecast c e = reforecast_fits line (item_cell row) (amount_cell row) c e
  command_fits line row verb.Reprice c e = reprice_fits line (item_cell row) (amount_cell row) c e
  command_fits line row verb.Resize c e = resize_fits line (item_cell row) (rooms_cell row) c e
  command_fits line row verb.Group c e = group_fits line (night_of season (item_cell row)) (nights_cell row) (rooms_cell row) (amount_cell row) c e

  -- a request's command keeps its limits
  pub request_fits : (before : ℕ) (row : Record) (r : Request) → request_in season codes before row ≡ Ok r → IsTrue (is_command_in_range h r.command)
  request_fits before row r e =
      let line = before + 2 in
      let (session, named, one) = passed (session_in line (get_or row 0 [])) _ r e in
      let (v, spoken, two) = passed (verb_in line (get_or row 1 [])) _ r one in
      let (c, asked, three) = passed (command_in season codes line row v) _ r two in
      let (u, room, is) = passed (room_in line before) (λ _. Ok (record { session = session; command = c })) r three in
      let same : c ≡ r.command = ap (λ (x : Result Request TableRefusal). command_or c x) is in
      rw (← same) (command_fits line row v c asked)
    where
      command_or : Command → Result Request TableRefusal → Command
      command_or c (Ok x) = x.command
      command_or c (Err x) = c

session_of-tells : (line : ℕ) (o : Option ℕ) (session : ℕ) → session_of line o ≡ Ok session → session ≤ MOST_SESSIONS
session_of-tells line None session e = absurd (cc)
session_of-tells line (Some n) session e =
    let (test, same) = tested (is_between 1 MOST_SESSIONS n) n (Session line) session e in
    omega (arith, leb-true n MOST_SESSIONS (at_most 1 MOST_SESSIONS n test), same)

-- a request's session is one that there may be
pub request-session : (season : Season) (codes : List (List ℕ)) (before : ℕ) (row : Record) (r : Request) → request_in season codes before row ≡ Ok r →
    r.session ≤ MOST_SESSIONS
request-session season codes before row r e =
    let line = before + 2 in
    let (session, named, one) = passed (session_in line (get_or row 0 [])) _ r e in
    let (v, spoken, two) = passed (verb_in line (get_or row 1 [])) _ r one in
    let (c, asked, three) = passed (command_in season codes line row v) _ r two in
    let (u, room, is) = passed (room_in line before) (λ _. Ok (record { session = session; command = c })) r three in
    let same : session ≡ r.session = ap (λ (x : Result Request TableRefusal). session_or session x) is in
    omega (arith, same, session_of-tells line (number_of (get_or row 0 [])) session named)
  where
    session_or : ℕ → Result Request TableRefusal → ℕ
    session_or s (Ok x) = x.session
    session_or s (Err x) = s

-- a request is read where there is room for one more
pub request-room : (season : Season) (codes : List (List ℕ)) (before : ℕ) (row : Record) (r : Request) → request_in season codes before row ≡ Ok r →
    before < MOST_ENTRIES
request-room season codes before row r e =
    let line = before + 2 in
    let (session, named, one) = passed (session_in line (get_or row 0 [])) _ r e in
    let (v, spoken, two) = passed (verb_in line (get_or row 1 [])) _ r one in
    let (c, asked, three) = passed (command_in season codes line row v) _ r two in
    let (u, room, is) = passed (room_in line before) (λ _. Ok (record { session = session; command = c })) r three in
    ltb-true before MOST_ENTRIES (tested (nat_lt before MOST_ENTRIES) tt (Limit line) u room).0
