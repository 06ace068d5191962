-- The counts of a file, laid out by stay.
use Rattle.std.proofs.Common.{
  ◌≡◌,
  ◌∙◌,
  sym,
  ap,
  refl,
  subst,
  count_by,
  ℕ,
  zero,
  suc,
  ◌+◌,
  ◌≤◌,
  ◌<◌,
  Bool,
  true,
  false,
  cond,
  eqb,
  eq-eqb,
  nat_le,
  List,
  [],
  ◌∷◌,
  ◌++◌,
  map,
  length,
  get_or,
  set,
  replicate,
  unwrap_or,
  Option,
  Some,
  None,
  is_some,
  Result,
  Ok,
  Err,
  arith,
  inl,
  inr,
  length-set,
  get_or-set_same,
  get_or-set_other,
}
use Rattle.std.proofs.lemmas.Bool.{cases_eq, leb-true, false≢true}
use Rattle.std.proofs.lemmas.Bool.Decides.{nat_tests}
use Rattle.std.proofs.lemmas.List.{length-replicate}
use Rattle.std.specs.List.{range_with_len}
use Rattle.std.proofs.lemmas.List.FromFn.{length-map-range_with_len, get_or-map-range_with_len, fill_by_all}
use Rattle.bp_types.specs.declared.stay.Stay.{Stay}
use Rattle.bp_types.specs.Program.{covers, no_stay}
use Rattle.bp_types.proofs.SumLemmas.{sum_below-cong}
use Rattle.std.specs.Option.{ok_or}
use Rattle.std.specs.Str.{bytes_eq}
use Rattle.std.proofs.lemmas.List.Sums.{count_by-le-length, sum_by-cons}
use Rattle.bp_hotelfile.specs.Steps.{◌>>=◌}
use Rattle.bp_hotelfile.proofs.StepLemmas.{steps_tell}
use Rattle.bp_stayfile.specs.Reading.{rows_read}
use Rattle.bp_stayfile.specs.declared.counts.Counted.{Counted}
use Rattle.bp_stayfile.specs.declared.error.TableRefusal.{TableRefusal}
use Rattle.bp_stayfile.specs.declared.error.TableRefusal.TheVariants.{NoCode, Limit, TwiceCode}
use Rattle.bp_stayfile.specs.Tables.{Record}
use Rattle.bp_stayfile.specs.Cells.{code_in, number_in}
use Rattle.bp_stayfile.specs.Codes.{stay_with}
use Rattle.bp_stayfile.specs.Counts.{count_of, count_in, counted_in, once_counted, count_rule}
use Rattle.bp_stayfile.specs.Forecasts.{forecast_by, forecasts_set}
use Rattle.bp_stayfile.specs.Bookings.{sold_on, sold_by_night}
use Rattle.bp_stayfile.specs.LaidOut.{AreLaidOut, sold_at}
use Rattle.bp_types.specs.declared.limits.TheConstants.{MOST_FORECAST}
use Rattle.bp_stayfile.specs.StayList.{AreStays}
use Rattle.bp_stayfile.proofs.CodeLemmas.{position-within}

free_before : (b : Bool) (x : ℕ) (rest : Option ℕ) → cond b (Some x) rest ≡ None → (b ≡ false) × (rest ≡ None)
free_before true x rest e = absurd (cc)
free_before false x rest e = (refl, e)

exchanged : (p q : Bool) (x y : ℕ) (rest : Option ℕ) → (p ≡ true → q ≡ true → ⊥) →
    cond p (Some x) (cond q (Some y) rest) ≡ cond q (Some y) (cond p (Some x) rest)
exchanged true true x y rest apart = absurd (apart refl refl)
exchanged true false x y rest apart = refl
exchanged false true x y rest apart = refl
exchanged false false x y rest apart = refl

not_both : (a b stay : ℕ) → eqb a b ≡ false → eqb a stay ≡ true → eqb b stay ≡ true → ⊥
not_both a b stay apart here there = grind (arith, nat_tests)

-- a count more, of a stay that has none
count_of-more : (cs : List Counted) (c : Counted) (stay : ℕ) → count_of cs c.stay ≡ None →
    count_of (cs ++ c ∷ []) stay ≡ cond (eqb c.stay stay) (Some c.count) (count_of cs stay)
count_of-more [] c stay free = refl
count_of-more (d ∷ cs) c stay free =
    let (apart, rest) = free_before (eqb d.stay c.stay) d.count (count_of cs c.stay) free in
    rw (count_of-more cs c stay rest) (exchanged (eqb d.stay stay) (eqb c.stay stay) d.count c.count (count_of cs stay) (not_both d.stay c.stay stay apart))

nothing : (n j : ℕ) → get_or {A = Option ℕ} (replicate n None) j None ≡ None
nothing zero j = refl
nothing (suc n) zero = refl
nothing (suc n) (suc j) = nothing n j

none_some : (o : Option ℕ) (c : ℕ) → o ≡ None → o ≡ Some c → ⊥
none_some o c none some = let e : None ≡ Some c = sym none ∙ some in (cc)

pub AreLaidOut-none : (stays : ℕ) (places : List (Option ℕ)) → places ≡ replicate stays None → AreLaidOut stays [] places
AreLaidOut-none stays places e =
    record {
      one_each = rw e (length-replicate stays None);
      each = λ j h. rw e (nothing stays j);
      small = λ j c h. absurd (none_some (get_or places j None) c (rw e (nothing stays j)) h);
    }

-- a count more, laid out at its stay
pub AreLaidOut-more : (stays : ℕ) (counts : List Counted) (places : List (Option ℕ)) (c : Counted) → AreLaidOut stays counts places → c.stay < stays →
    c.count ≤ MOST_FORECAST → get_or places c.stay None ≡ None →
    AreLaidOut stays (counts ++ c ∷ []) (set places c.stay (Some c.count))
AreLaidOut-more stays counts places c h within small free =
    record {
      one_each = length-set places c.stay (Some c.count) ∙ h.one_each;
      each = λ j below. rw (count_of-more counts c j (sym (h.each c.stay within) ∙ free)) (put_at j below);
      small = λ j k e. small_at j k e;
    }
  where
    put_at : (j : ℕ) → j < stays → get_or (set places c.stay (Some c.count)) j None ≡ cond (eqb c.stay j) (Some c.count) (count_of counts j)
    put_at j below =
        elim (cases_eq j c.stay) [
          | inl here ↦ rw (here, eq-eqb c.stay c.stay refl, get_or-set_same places c.stay (Some c.count) None (omega (arith, h.one_each)))
          | inr other ↦ let apart : eqb c.stay j ≡ false = grind (arith, nat_tests) in
              rw (apart, get_or-set_other places c.stay j (Some c.count) None other) (h.each j below)
        ]

    small_at : (j k : ℕ) → get_or (set places c.stay (Some c.count)) j None ≡ Some k → k ≤ MOST_FORECAST
    small_at j k e =
        elim (cases_eq j c.stay) [
          | inl here ↦
              let at : get_or (set places c.stay (Some c.count)) j None ≡ Some c.count =
              rw here (get_or-set_same places c.stay (Some c.count) None (omega (arith, h.one_each))) in
              let same : Some c.count ≡ Some k = sym at ∙ e in
              let is : c.count ≡ k = (cc) in
              omega (arith, small, is)
          | inr other ↦ h.small j k (sym (get_or-set_other places c.stay j (Some c.count) None other) ∙ e)
        ]

count_ok : (b : Bool) (c d : Counted) (e : TableRefusal) → cond b (Ok c) (Err e) ≡ Ok d → (b ≡ true) × (c ≡ d)
count_ok true c d e h = (refl, (cc))
count_ok false c d e h = absurd (cc)

-- a count that is read is of a stay, and a million at most
pub counted_in-tells : (codes : List (List ℕ)) (line : ℕ) (row : Record) (c : Counted) → counted_in codes line row ≡ Ok c →
    (c.stay < length codes) × (c.count ≤ MOST_FORECAST)
counted_in-tells codes line row c e = parts (code_in line (get_or row 0 [])) (stay_with codes (get_or row 0 [])) (number_in line (get_or row 1 [])) refl e
  where
    parts : (a : Result (Unit {0}) TableRefusal) (s : Option ℕ) (n : Result ℕ TableRefusal) → s ≡ stay_with codes (get_or row 0 []) →
        (a >>= (λ _. ok_or s (NoCode line) >>= (λ stay. n >>= (λ count. count_in line (record { stay = stay; count = count }))))) ≡ Ok c →
        (c.stay < length codes) × (c.count ≤ MOST_FORECAST)
    parts (Err x) s n is h = absurd (cc)
    parts (Ok a) None n is h = absurd (cc)
    parts (Ok a) (Some s) (Err x) is h = absurd (cc)
    parts (Ok a) (Some s) (Ok n) is h =
        let (small, same) = count_ok (nat_le n MOST_FORECAST) (record { stay = s; count = n }) c (Limit line) h in
        let within = position-within (bytes_eq (get_or row 0 [])) codes s (sym is) in
        (omega (arith, within, ap (λ (x : Counted). x.stay) same), omega (arith, leb-true n MOST_FORECAST small, ap (λ (x : Counted). x.count) same))

-- what a row says, by the counts before it
pub count_rule-ok : (codes : List (List ℕ)) (before : List Counted) (line : ℕ) (row : Record) (c : Counted) → length before + 2 ≡ line →
    counted_in codes line row ≡ Ok c → count_of before c.stay ≡ None →
    count_rule codes before row ≡ Ok c
count_rule-ok codes before line row c at e free = rw (at, e, free)

pub count_rule-err : (codes : List (List ℕ)) (before : List Counted) (line : ℕ) (row : Record) (e : TableRefusal) → length before + 2 ≡ line →
    counted_in codes line row ≡ Err e → count_rule codes before row ≡ Err e
count_rule-err codes before line row e at h = rw (at, h)

twice : (o : Option ℕ) (line : ℕ) (c : Counted) → is_some o ≡ true → once_counted line o c ≡ Err (TwiceCode line)
twice None line c h = absurd (false≢true h)
twice (Some x) line c h = refl

pub count_rule-twice : (codes : List (List ℕ)) (before : List Counted) (line : ℕ) (row : Record) (c : Counted) → length before + 2 ≡ line →
    counted_in codes line row ≡ Ok c → is_some (count_of before c.stay) ≡ true →
    count_rule codes before row ≡ Err (TwiceCode line)
count_rule-twice codes before line row c at e taken = rw (at, e) (twice (count_of before c.stay) line c taken)

-- forecasts that are set by the counts as they are laid out
pub forecasts-laid_out : (counts : List Counted) (places : List (Option ℕ)) (stays : List Stay) → AreLaidOut (length stays) counts places →
    map (λ j. forecast_by (get_or places j None) (get_or stays j no_stay)) (range_with_len 0 (length stays)) ≡ forecasts_set counts stays
forecasts-laid_out counts places stays h =
    fill_by_all (λ j. forecast_by (count_of counts j) (get_or stays j no_stay)) _ (length stays) no_stay
    (length-map-range_with_len (λ j. forecast_by (get_or places j None) (get_or stays j no_stay)) 0 (length stays))
    (λ k below. get_or-map-range_with_len (λ j. forecast_by (get_or places j None) (get_or stays j no_stay)) 0 (length stays) k k no_stay below (omega arith)
    ∙ ap (λ o. forecast_by o (get_or stays k no_stay)) (h.each k below))

-- the rooms that counts take of a night, as they are laid out
pub sold-laid_out : (counts : List Counted) (places : List (Option ℕ)) (stays : List Stay) (n : ℕ) → AreLaidOut (length stays) counts places →
    sold_at places stays (length stays) n ≡ sold_on counts stays n
sold-laid_out counts places stays n h =
    sum_below-cong _ _ (length stays) (λ j below. ap (λ o. cond (covers (get_or stays j no_stay).span n) (unwrap_or o 0) 0) (h.each j below))

pub sold_by_night-is : (nights : ℕ) (counts : List Counted) (places : List (Option ℕ)) (stays : List Stay) (sold : List ℕ) →
    AreLaidOut (length stays) counts places → length sold ≡ nights →
    ((n : ℕ) → n < nights → get_or sold n 0 ≡ sold_at places stays (length stays) n) → sold ≡ sold_by_night nights counts stays
sold_by_night-is nights counts places stays sold h size each =
    fill_by_all (sold_on counts stays) sold nights 0 size (λ k below. each k below ∙ sold-laid_out counts places stays k h)

-- a count of one stay is a million at most
pub one_sold : (counts : List Counted) (places : List (Option ℕ)) (stays j : ℕ) → AreLaidOut stays counts places →
    unwrap_or (get_or places j None) 0 ≤ MOST_FORECAST
one_sold counts places stays j h = by_place (get_or places j None) refl
  where
    by_place : (o : Option ℕ) → o ≡ get_or places j None → unwrap_or o 0 ≤ MOST_FORECAST
    by_place None e = omega arith
    by_place (Some c) e = h.small j c (sym e)

-- a stay with a forecast of a million at most
forecast_fits : (o : Option ℕ) (s : Stay) → s.forecast ≤ MOST_FORECAST → ((c : ℕ) → o ≡ Some c → c ≤ MOST_FORECAST) → (forecast_by o s).forecast ≤ MOST_FORECAST
forecast_fits None s was new = was
forecast_fits (Some c) s was new = new c refl

forecast_by-span : (o : Option ℕ) (s : Stay) → (forecast_by o s).span ≡ s.span
forecast_by-span None s = refl
forecast_by-span (Some c) s = refl

forecast_by-rate : (o : Option ℕ) (s : Stay) → (forecast_by o s).rate ≡ s.rate
forecast_by-rate None s = refl
forecast_by-rate (Some c) s = refl

pub length-forecasts_set : (counts : List Counted) (stays : List Stay) → length (forecasts_set counts stays) ≡ length stays
length-forecasts_set counts stays = length-map-range_with_len (λ j. forecast_by (count_of counts j) (get_or stays j no_stay)) 0 (length stays)

-- stays keep to their limits when their forecasts are set
pub forecasts_set-AreStays : (nights : ℕ) (counts : List Counted) (stays : List Stay) →
    ((j c : ℕ) → j < length stays → count_of counts j ≡ Some c → c ≤ MOST_FORECAST) → AreStays nights stays → AreStays nights (forecasts_set counts stays)
forecasts_set-AreStays nights counts stays small all =
    record {
      few = omega (arith, size, all.few);
      spans = λ k d below.
          let within : k < length stays = omega (arith, size) in
          rw (at k d within, forecast_by-span (count_of counts k) (get_or stays k no_stay)) (all.spans k no_stay within);
      rates = λ k d below.
          let within : k < length stays = omega (arith, size) in
          rw (at k d within, forecast_by-rate (count_of counts k) (get_or stays k no_stay)) (all.rates k no_stay within);
      forecasts = λ k d below.
          let within : k < length stays = omega (arith, size) in
          rw (at k d within) (forecast_fits (count_of counts k) (get_or stays k no_stay) (all.forecasts k no_stay within) (λ c e. small k c within e));
    }
  where
    size : length (forecasts_set counts stays) ≡ length stays
    size = length-forecasts_set counts stays

    at : (k : ℕ) (d : Stay) → k < length stays → get_or (forecasts_set counts stays) k d ≡ forecast_by (count_of counts k) (get_or stays k no_stay)
    at k d within = get_or-map-range_with_len (λ j. forecast_by (count_of counts j) (get_or stays j no_stay)) 0 (length stays) k k d within (omega arith)
