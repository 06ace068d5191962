-- What a forecast file sets, whole or up to its refusal.
use Rattle.std.proofs.Common.{
  ◌≡◌,
  ◌∙◌,
  sym,
  ap,
  refl,
  subst,
  ℕ,
  zero,
  suc,
  ◌+◌,
  ◌<◌,
  ◌≤◌,
  Bool,
  true,
  false,
  cond,
  eqb,
  List,
  [],
  ◌∷◌,
  ◌++◌,
  map,
  length,
  get_or,
  All,
  Option,
  Some,
  None,
  Result,
  Ok,
  Err,
  arith,
}
use Rattle.std.specs.Prelude.{IfOk, IfErr, MatchOption}
use Rattle.std.specs.List.{range_with_len}
use Rattle.std.proofs.lemmas.List.Elements.{All-push}
use Rattle.bp_types.specs.declared.stay.Stay.{Stay}
use Rattle.bp_types.specs.declared.limits.TheConstants.{MOST_FORECAST}
use Rattle.bp_types.specs.Program.{no_stay}
use Rattle.bp_hotelfile.specs.Steps.{◌>>=◌}
use Rattle.bp_stayfile.specs.declared.counts.Counted.{Counted}
use Rattle.bp_stayfile.specs.declared.error.TableRefusal.{TableRefusal}
use Rattle.bp_stayfile.specs.declared.error.TableError.{TableError}
use Rattle.bp_stayfile.specs.declared.error.TableError.TheVariants.{Refused}
use Rattle.bp_stayfile.specs.Tables.{Record, Table, table_of}
use Rattle.bp_stayfile.specs.Reading.{rows_read, unless_stopped, table_read, IsRefusedAfter}
use Rattle.bp_stayfile.specs.Refusals.{IfRefused}
use Rattle.bp_stayfile.specs.StayList.{StayList, IsStayList}
use Rattle.bp_stayfile.specs.Counts.{count_of, counted_in, once_counted, count_rule, count_columns, counts_file}
use Rattle.bp_stayfile.specs.Forecasts.{forecast_by, forecasts_set, with_forecasts, forecast_file, sets_before}
use Rattle.bp_stayfile.specs.LaidOut.{AreLaidOut}
use Rattle.bp_hotelfile.proofs.StepLemmas.{steps_tell}
use Rattle.bp_stayfile.proofs.ReadLemmas.{refused_after-table}
use Rattle.bp_stayfile.proofs.CountLemmas.{counted_in-tells, forecasts-laid_out, forecasts_set-AreStays, length-forecasts_set}

-- counts that are laid out, put at their stays
pub laid_out-set : (list : StayList) (named : List Counted) (places : List (Option ℕ)) (new : List Stay) → IsStayList list →
    AreLaidOut (length list.codes) named places
    → new ≡ map (λ j. forecast_by (get_or places j None) (get_or list.stays j no_stay)) (range_with_len 0 (length list.stays))
    → new ≡ forecasts_set named list.stays
laid_out-set list named places new is laid_out set = set ∙ forecasts-laid_out named places list.stays (rw is.one_each at laid_out)

-- stays with their forecasts keep to their limits
with_forecasts-small : (list : StayList) (named : List Counted) → IsStayList list →
    ((j c : ℕ) → j < length list.stays → count_of named j ≡ Some c → c ≤ MOST_FORECAST) → IsStayList (with_forecasts list named)
with_forecasts-small list named is small =
    record {
      codes = is.codes;
      one_each = is.one_each ∙ sym (length-forecasts_set named list.stays);
      stays = forecasts_set-AreStays list.nights named list.stays small is.stays;
    }

pub with_forecasts-IsStayList : (list : StayList) (named : List Counted) (places : List (Option ℕ)) → IsStayList list →
    AreLaidOut (length list.codes) named places → IsStayList (with_forecasts list named)
with_forecasts-IsStayList list named places is laid_out =
    with_forecasts-small list named is (λ j c below e. laid_out.small j c (laid_out.each j (omega (arith, below, is.one_each)) ∙ e))

of_file : (list : StayList) (bytes : List ℕ) (table : Table) (answer : Result (List Counted) TableRefusal) → table_of count_columns bytes ≡ Ok table →
    table_read (count_rule list.codes) table ≡ answer →
    forecast_file list bytes ≡ (answer >>= (λ counts. Ok (with_forecasts list counts)))
of_file list bytes table answer file read =
    ap (λ t. (t >>= table_read (count_rule list.codes)) >>= (λ counts. Ok (with_forecasts list counts))) file
    ∙ ap (λ counts. counts >>= (λ cs. Ok (with_forecasts list cs))) read

pub all_set : (list new : StayList) (bytes : List ℕ) (table : Table) (named : List Counted) → table_of count_columns bytes ≡ Ok table →
    table_read (count_rule list.codes) table ≡ Ok named →
    new ≡ with_forecasts list named → forecast_file list bytes ≡ Ok new
all_set list new bytes table named file read set = of_file list bytes table (Ok named) file read ∙ ap (λ l. Ok l) (sym set)

pub refused_file : (list : StayList) (bytes : List ℕ) (table : Table) (named : List Counted) (e : TableRefusal) → table_of count_columns bytes ≡ Ok table →
    IsRefusedAfter (count_rule list.codes) table named e →
    forecast_file list bytes ≡ Err e
refused_file list bytes table named e file refused = of_file list bytes table (Err e) file (refused_after-table (count_rule list.codes) table named e refused)

pub set_before : (list new : StayList) (bytes : List ℕ) (table : Table) (named : List Counted) (e : TableRefusal) → table_of count_columns bytes ≡ Ok table →
    IsRefusedAfter (count_rule list.codes) table named e →
    new ≡ with_forecasts list named → sets_before (table_of count_columns bytes) e list new
set_before list new bytes table named e file refused set =
    let P : Result Table TableRefusal → Type 0 = λ t. sets_before t e list new in
    subst P (sym file) (named, refused, set)

-- the counts that were put are laid out, whether or not a row was refused
pub laid_out_by : (codes : List (List ℕ)) (stays : ℕ) (table : Table) (places : List (Option ℕ)) (r : Result (Unit {0}) TableError) (o : Option TableRefusal) →
    MatchOption o (r ≡ Ok tt) (λ e. r ≡ Err (Refused e)) →
    IfOk r (λ _. (named : List Counted) × (table_read (count_rule codes) table ≡ Ok named) × AreLaidOut stays named places) →
    IfErr r (λ e. IfRefused e (λ refusal. (named : List Counted) × IsRefusedAfter (count_rule codes) table named refusal × AreLaidOut stays named places)) →
    (named : List Counted) × AreLaidOut stays named places
laid_out_by codes stays table places r None is read refused = let all = rw is at read in (all.0, all.2)
laid_out_by codes stays table places r (Some e) is read refused = let before = rw is at refused in (before.0, before.2)

once_counted-tells : (line : ℕ) (earlier : Option ℕ) (c d : Counted) → once_counted line earlier c ≡ Ok d → c ≡ d
once_counted-tells line None c d e = (cc)
once_counted-tells line (Some k) c d e = absurd (cc)

-- each count that is read is in range
counts_tell : (codes : List (List ℕ)) (rows : List Record) (n : ℕ) (counts : List Counted) → rows_read (count_rule codes) rows n ≡ Ok counts →
    All (λ c. c.count ≤ MOST_FORECAST) counts
counts_tell codes rows zero counts e =
    let same : [] ≡ counts = (cc) in subst (λ cs. All (λ c. c.count ≤ MOST_FORECAST) cs) same (λ k d h. absurd (omega (arith, h)))
counts_tell codes rows (suc n) counts e =
    let row : Record = get_or rows n [] in
    let (before, read, rest) = steps_tell (rows_read (count_rule codes) rows n) (λ b. count_rule codes b row >>= (λ a. Ok (b ++ a ∷ []))) counts e in
    let (one, answer, last) = steps_tell (count_rule codes before row) (λ a. Ok (before ++ a ∷ [])) counts rest in
    let line = length before + 2 in
    let (counted, is, once) = steps_tell (counted_in codes line row) (λ c. once_counted line (count_of before c.stay) c) one answer in
    let small = (counted_in-tells codes line row counted is).1 in
    let same = once_counted-tells line (count_of before counted.stay) counted one once in
    let all : before ++ one ∷ [] ≡ counts = (cc) in
    subst (λ cs. All (λ c. c.count ≤ MOST_FORECAST) cs) all
    (All-push (λ (c : Counted). c.count ≤ MOST_FORECAST) before one (counts_tell codes rows n before read)
    (omega (arith, small, ap (λ (x : Counted). x.count) same)))

small_of : (counts : List Counted) → All (λ c. c.count ≤ MOST_FORECAST) counts → (j c : ℕ) → count_of counts j ≡ Some c → c ≤ MOST_FORECAST
small_of [] all j c e = absurd (cc)
small_of (d ∷ counts) all j c e = by_stay (eqb d.stay j) (small_of counts (λ k x below. all (suc k) x (omega (arith, below))) j c) e
  where
    by_stay : (b : Bool) → (count_of counts j ≡ Some c → c ≤ MOST_FORECAST) → cond b (Some d.count) (count_of counts j) ≡ Some c → c ≤ MOST_FORECAST
    by_stay true later h = let same : d.count ≡ c = (cc) in omega (arith, all 0 d (omega arith), same)
    by_stay false later h = later h

unless_stopped-tells : (stop : Option ℕ) (counts all : List Counted) → unless_stopped stop counts ≡ Ok all → counts ≡ all
unless_stopped-tells None counts all e = (cc)
unless_stopped-tells (Some line) counts all e = absurd (cc)

-- a forecast file leaves codes and nights as they are, and every stay within its limits
pub forecast_file-tells : (list new : StayList) (bytes : List ℕ) → IsStayList list → forecast_file list bytes ≡ Ok new →
    IsStayList new × (new.nights ≡ list.nights) × (new.codes ≡ list.codes)
forecast_file-tells list new bytes is e =
    let (counts, file, made) = steps_tell (counts_file list.codes bytes) (λ counts. Ok (with_forecasts list counts)) new e in
    let (table, read, told) = steps_tell (table_of count_columns bytes) (table_read (count_rule list.codes)) counts file in
    let (before, rows, all) = steps_tell (rows_read (count_rule list.codes) table.rows (length table.rows)) (unless_stopped table.stop) counts told in
    let same_counts = unless_stopped-tells table.stop before counts all in
    let small = counts_tell list.codes table.rows (length table.rows) before rows in
    let same : with_forecasts list counts ≡ new = (cc) in
    let kept = with_forecasts-small list counts is (λ j c below h. small_of before small j c (ap (λ cs. count_of cs j) same_counts ∙ h)) in
    (subst IsStayList same kept, sym (ap (λ (l : StayList). l.nights) same), sym (ap (λ (l : StayList). l.codes) same))
