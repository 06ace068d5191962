-- A stay that is read is within its limits.
use Rattle.std.proofs.Common.{
  ◌≡◌,
  ◌∙◌,
  sym,
  ap,
  subst,
  refl,
  ℕ,
  zero,
  suc,
  ◌+◌,
  ◌≤◌,
  ◌<◌,
  Bool,
  true,
  false,
  cond,
  List,
  [],
  ◌∷◌,
  ◌++◌,
  length,
  get_or,
  Option,
  Some,
  None,
  Result,
  Ok,
  Err,
  nat_le,
  nat_lt,
  ◌&&◌,
  arith,
  is_some,
  length-append,
}
use Rattle.std.proofs.lemmas.Bool.{and_parts, leb-true, ltb-true}
use Rattle.std.proofs.lemmas.List.{length-map, map-append}
use Rattle.std.proofs.lemmas.List.Elements.{All-push}
use Rattle.bp_types.specs.declared.stay.Span.{Span}
use Rattle.bp_types.specs.declared.stay.Stay.{Stay}
use Rattle.bp_hotelfile.specs.declared.error.DateError.{DateError}
use Rattle.bp_types.specs.declared.limits.TheConstants.{MOST_STAYS, MOST_RATE, MOST_FORECAST}
use Rattle.bp_types.specs.Limits.{is_rate}
use Rattle.bp_hotelfile.specs.Season.{Season, night_of}
use Rattle.bp_hotelfile.specs.Steps.{◌>>=◌}
use Rattle.bp_stayfile.specs.declared.error.TableRefusal.{TableRefusal}
use Rattle.bp_stayfile.specs.declared.error.TableRefusal.TheVariants.{Limit, TwiceCode}
use Rattle.bp_stayfile.specs.Tables.{Record, table_of}
use Rattle.bp_stayfile.specs.Reading.{rows_read, unless_stopped, table_read}
use Rattle.bp_stayfile.specs.Cells.{code_in, number_in, date_in, span_in, limits_in}
use Rattle.bp_stayfile.specs.Codes.{stay_with, IsCodes}
use Rattle.bp_stayfile.specs.Stays.{Coded, codes_of, once, stay_in, stay_rule, stays_of, stay_columns, list_of, stays_under, stays_file}
use Rattle.bp_stayfile.specs.StayList.{StayList, AreStays, IsStayList}
use Rattle.bp_hotelfile.proofs.StepLemmas.{steps_tell}
use Rattle.bp_stayfile.proofs.CodeLemmas.{IsCodes-more}

-- what is known of a stay that was read
pub record IsStay (nights : ℕ) (s : Stay) : Type 0 where
  pub some_night : s.span.from < s.span.to
  pub within : s.span.to ≤ nights
  pub least : 1 ≤ s.rate
  pub most : s.rate ≤ MOST_RATE
  pub forecast : s.forecast ≡ 0

limits_tell : (b : Bool) (u : Unit {0}) (e : TableRefusal) → cond b (Ok tt) (Err e) ≡ Ok u → b ≡ true
limits_tell true u e h = refl
limits_tell false u e h = absurd (cc)

span_ok : (b : Bool) (s t : Span) (e : TableRefusal) → cond b (Ok s) (Err e) ≡ Ok t → (b ≡ true) × (s ≡ t)
span_ok true s t e h = (refl, (cc))
span_ok false s t e h = absurd (cc)

span_tells : (line total : ℕ) (arrival : Result ℕ DateError) (nights : ℕ) (s : Span) → 1 ≤ nights → span_in line total arrival nights ≡ Ok s →
    (s.from < s.to) × (s.to ≤ total)
span_tells line total (Ok from) nights s some h =
    let (fits, same) = span_ok (nat_le (from + nights) total) (record { from = from; to = from + nights }) s _ h in
    let starts = ap (λ (x : Span). x.from) same in
    let ends = ap (λ (x : Span). x.to) same in
    (omega (arith, starts, ends), omega (arith, ends, leb-true (from + nights) total fits))
span_tells line total (Err e) nights s some h = absurd (cc)

once_tells : (found : Option ℕ) (line : ℕ) (v : Unit {0}) → cond (is_some found) (Err (TwiceCode line)) (Ok tt) ≡ Ok v → found ≡ None
once_tells None line v e = refl
once_tells (Some stay) line v e = absurd (cc)

-- a test that says no more than that it was passed
abbrev Test : Type 0
Test = Result (Unit {0}) TableRefusal

-- a number, or a refusal
abbrev Answer : Type 0
Answer = Result ℕ TableRefusal

stay_end : (f : Test) (g : Result Span TableRefusal) (o : Test) (rate : ℕ) (s : Stay) →
    (f >>= (λ _. g >>= (λ span. o >>= (λ _. Ok (record { span = span; rate = rate; forecast = 0 }))))) ≡ Ok s →
    ((u : Unit {0}) × (f ≡ Ok u)) × (g ≡ Ok s.span) × ((v : Unit {0}) × (o ≡ Ok v)) × (rate ≡ s.rate) × (0 ≡ s.forecast)
stay_end (Ok u) (Ok span) (Ok o) rate s e =
    let same : record { span = span; rate = rate; forecast = 0 } ≡ s = (cc) in
    ((u, refl), ap (λ (x : Stay). Ok x.span) same, (o, refl), ap (λ (x : Stay). x.rate) same, ap (λ (x : Stay). x.forecast) same)
stay_end (Err x) g o rate s e = absurd (cc)
stay_end (Ok u) (Err x) o rate s e = absurd (cc)
stay_end (Ok u) (Ok span) (Err x) rate s e = absurd (cc)

stay_parts : (a b : Test) (n r : Answer) (f : ℕ → ℕ → Test) (g : ℕ → Result Span TableRefusal) (o : Test) (s : Stay) →
    (a >>= (λ _. b >>= (λ _. n >>=
    (λ nights. r >>= (λ rate. f nights rate >>= (λ _. g nights >>= (λ span. o >>= (λ _. Ok (record { span = span; rate = rate; forecast = 0 }))))))))) ≡
    Ok s →
    (nights : ℕ) × (rate : ℕ) × ((u : Unit {0}) × (f nights rate ≡ Ok u)) × (g nights ≡ Ok s.span) × ((v : Unit {0}) × (o ≡ Ok v)) × (rate ≡ s.rate) ×
    (0 ≡ s.forecast)
stay_parts (Ok a) (Ok b) (Ok n) (Ok r) f g o s e =
    let (limits, span, new, rate, forecast) = stay_end (f n r) (g n) o r s e in
    (n, r, limits, span, new, rate, forecast)
stay_parts (Err x) b n r f g o s e = absurd (cc)
stay_parts (Ok a) (Err x) n r f g o s e = absurd (cc)
stay_parts (Ok a) (Ok b) (Err x) r f g o s e = absurd (cc)
stay_parts (Ok a) (Ok b) (Ok n) (Err x) f g o s e = absurd (cc)

-- a stay that is read is within its limits, and there is room for it
pub stay_in-tells : (season : Season) (codes : List (List ℕ)) (row : Record) (s : Stay) → stay_in season codes row ≡ Ok s →
    IsStay (length season.rooms) s × (length codes < MOST_STAYS) × (stay_with codes (get_or row 0 []) ≡ None)
stay_in-tells season codes row s e =
    let line = length codes + 2 in
    let arrival = night_of season (get_or row 1 []) in
    let (nights, rate, limits, span, new, same_rate, forecast) =
    stay_parts (code_in line (get_or row 0 [])) (date_in line arrival) (number_in line (get_or row 2 [])) (number_in line (get_or row 3 []))
    (limits_in line (length codes)) (span_in line (length season.rooms) arrival) (once line codes (get_or row 0 [])) s e in
    let test = limits_tell (nat_le 1 nights && is_rate rate && nat_lt (length codes) MOST_STAYS) limits.0 (Limit line) limits.1 in
    let (numbers, room) = and_parts (nat_le 1 nights && is_rate rate) (nat_lt (length codes) MOST_STAYS) test in
    let (some, in_range) = and_parts (nat_le 1 nights) (is_rate rate) numbers in
    let (least, most) = and_parts (nat_le 1 rate) (nat_le rate MOST_RATE) in_range in
    let ends = span_tells line (length season.rooms) arrival nights s.span (leb-true 1 nights some) span in (
      record {
        some_night = ends.0;
        within = ends.1;
        least = omega (arith, leb-true 1 rate least, same_rate);
        most = omega (arith, leb-true rate MOST_RATE most, same_rate);
        forecast = sym forecast;
      },
      ltb-true (length codes) MOST_STAYS room,
      once_tells (stay_with codes (get_or row 0 [])) line new.0 new.1,
    )

-- one stay more
pub AreStays-more : (nights : ℕ) (stays : List Stay) (s : Stay) → AreStays nights stays → IsStay nights s → length stays < MOST_STAYS →
    AreStays nights (stays ++ s ∷ [])
AreStays-more nights stays s all here room =
    record {
      few = omega (arith, length-append stays (s ∷ []));
      spans = All-push (λ x. (x.span.from < x.span.to) × (x.span.to ≤ nights)) stays s all.spans (here.some_night, here.within);
      rates = All-push (λ x. (1 ≤ x.rate) × (x.rate ≤ MOST_RATE)) stays s all.rates (here.least, here.most);
      forecasts = All-push (λ x. x.forecast ≤ MOST_FORECAST) stays s all.forecasts (omega (arith, here.forecast));
    }

-- what a row says, by the codes before it
pub stay_rule-ok : (season : Season) (before : List Coded) (codes : List (List ℕ)) (row : Record) (s : Stay) → codes ≡ codes_of before →
    stay_in season codes row ≡ Ok s →
    stay_rule season before row ≡ Ok (get_or row 0 [], s)
stay_rule-ok season before codes row s same e = rw (← same, e)

pub stay_rule-err : (season : Season) (before : List Coded) (codes : List (List ℕ)) (row : Record) (e : TableRefusal) → codes ≡ codes_of before →
    stay_in season codes row ≡ Err e →
    stay_rule season before row ≡ Err e
stay_rule-err season before codes row e same h = rw (← same, h)

-- what is known of stays with codes that were read
pub record AreCoded (nights : ℕ) (coded : List Coded) : Type 0 where
  pub codes : IsCodes (codes_of coded)
  pub stays : AreStays nights (stays_of coded)

none_coded : (nights : ℕ) → AreCoded nights []
none_coded nights =
    record {
      codes = record { few = omega arith; distinct = λ i j before within. absurd (omega (arith, within)) };
      stays = record {
        few = omega arith;
        spans = λ k d h. absurd (omega (arith, h));
        rates = λ k d h. absurd (omega (arith, h));
        forecasts =
            λ k d h. absurd (omega (arith, h));
      };
    }

one_more_coded : (season : Season) (before : List Coded) (row : Record) (s : Stay) → AreCoded (length season.rooms) before →
    stay_in season (codes_of before) row ≡ Ok s →
    AreCoded (length season.rooms) (before ++ (get_or row 0 [], s) ∷ [])
one_more_coded season before row s h e =
    let (is, room, new) = stay_in-tells season (codes_of before) row s e in
    let coded : Coded = (get_or row 0 [], s) in
    let many = length-map before (λ (x : Coded). x.0) in
    let as_many = length-map before (λ (x : Coded). x.1) in
    record {
      codes = rw (map-append (λ (x : Coded). x.0) before (coded ∷ [])) (IsCodes-more (codes_of before) (get_or row 0 []) h.codes room new);
      stays = rw (map-append (λ (x : Coded). x.1) before (coded ∷ []))
          (AreStays-more (length season.rooms) (stays_of before) s h.stays is (omega (arith, room, many, as_many)));
    }

-- stays that are read keep to every limit
pub coded_tell : (season : Season) (rows : List Record) (n : ℕ) (coded : List Coded) → rows_read (stay_rule season) rows n ≡ Ok coded →
    AreCoded (length season.rooms) coded
coded_tell season rows zero coded e = let same : [] ≡ coded = (cc) in subst (AreCoded (length season.rooms)) same (none_coded (length season.rooms))
coded_tell season rows (suc n) coded e =
    let row : Record = get_or rows n [] in
    let (before, read, rest) = steps_tell (rows_read (stay_rule season) rows n) (λ b. stay_rule season b row >>= (λ a. Ok (b ++ a ∷ []))) coded e in
    let (one, answer, last) = steps_tell (stay_rule season before row) (λ a. Ok (before ++ a ∷ [])) coded rest in
    let (stay, is, made) = steps_tell (stay_in season (codes_of before) row) (λ s. Ok (get_or row 0 [], s)) one answer in
    let same_one : (get_or row 0 [], stay) ≡ one = (cc) in
    let same : before ++ one ∷ [] ≡ coded = (cc) in
    subst (AreCoded (length season.rooms)) (ap (λ x. before ++ x ∷ []) same_one ∙
    same) (one_more_coded season before row stay (coded_tell season rows n before read) is)

pub list_of-tells : (season : Season) (coded : List Coded) → AreCoded (length season.rooms) coded → IsStayList (list_of season coded)
list_of-tells season coded h =
    record { codes = h.codes; one_each = length-map coded (λ (x : Coded). x.0) ∙ sym (length-map coded (λ (x : Coded). x.1)); stays = h.stays }

unless_stopped-tells : (stop : Option ℕ) (coded all : List Coded) → unless_stopped stop coded ≡ Ok all → coded ≡ all
unless_stopped-tells None coded all e = (cc)
unless_stopped-tells (Some line) coded all e = absurd (cc)

-- what a stays file says keeps to every limit
pub stays_file-tells : (season : Season) (bytes : List ℕ) (list : StayList) → stays_file season bytes ≡ Ok list →
    IsStayList list × (list.nights ≡ length season.rooms)
stays_file-tells season bytes list e =
    let (table, read, rest) = steps_tell (table_of stay_columns bytes) (stays_under season) list e in
    let (coded, told, made) = steps_tell (table_read (stay_rule season) table) (λ coded. Ok (list_of season coded)) list rest in
    let (before, rows, all) = steps_tell (rows_read (stay_rule season) table.rows (length table.rows)) (unless_stopped table.stop) coded told in
    let same_coded = unless_stopped-tells table.stop before coded all in
    let same : list_of season coded ≡ list = (cc) in
    let is = list_of-tells season coded (subst (AreCoded (length season.rooms)) same_coded (coded_tell season table.rows (length table.rows) before rows)) in
    (subst IsStayList same is, sym (ap (λ (l : StayList). l.nights) same))
