-- How the tallies of stays and the counts of callers grow with one place more.
use Rattle.std.proofs.Common.{
  ◌≡◌,
  ◌≢◌,
  ℕ,
  zero,
  suc,
  ◌+◌,
  ◌≤◌,
  ◌<◌,
  ◌==◌,
  Bool,
  true,
  false,
  cond,
  ◌&&◌,
  List,
  take,
  length,
  count_by,
  get_or,
  set,
  Option,
  Some,
  None,
  is_some,
  refl,
  sym,
  ap,
  subst,
  ◌∙◌,
  arith,
  add-one,
  zero-add,
  length-take,
  replicate,
  inl,
  inr,
  get_or-set_same,
  get_or-set_other,
}
use Rattle.std.specs.Prelude.{slice_set, slice_get, unwrap_or}
use Rattle.std.specs.Option.{option_map}
use Rattle.std.proofs.Math.ListN.{length-set}
use Rattle.std.proofs.lemmas.List.{length-replicate, get_or-replicate}
use Rattle.std.proofs.lemmas.Option.{slice_get-get_or}
use Rattle.std.proofs.lemmas.Bool.{cases_Bool, cases_eq, eq-eqb, ne_eqb}
use Rattle.std.proofs.lemmas.List.FromFn.{length-map-range_with_len, get_or-map-range_with_len, fill_by_all}
use Rattle.std.proofs.lemmas.List.Sums.{sum_by_more, count_by-le-length}
use Rattle.bp_types.specs.declared.limits.TheConstants.{CALLERS}
use Rattle.bp_types.specs.Sums.{sum_below}
use Rattle.bp_core.specs.declared.line.Line.{Line}
use Rattle.bp_core.specs.declared.line.Entry.{Entry}
use Rattle.bp_core.specs.Lines.{History, no_line, line_at, booked_stay, is_book_by, is_accepted, has_given_up}
use Rattle.bp_core.specs.Instance.{book_number}
use Rattle.bp_report.specs.declared.tally.Tally.{Tally}
use Rattle.bp_report.specs.Tallies.{
  is_too_low,
  is_no_room,
  reply_at,
  asks_for,
  is_called_off,
  places,
  no_tally,
  IsSmall,
  tally_of,
  with_book,
  tallies_of,
  booked_of,
}

places-more : (test : ℕ → Bool) (n : ℕ) → places test (n + 1) ≡ places test n + cond (test n) 1 0
places-more test n = ap (sum_below (λ i. cond (test i) 1 0)) (add-one n)

places-same : (test : ℕ → Bool) (n : ℕ) → test n ≡ false → places test (n + 1) ≡ places test n
places-same test n e = let none = ap (λ (b : Bool). cond {A = ℕ} b 1 0) e in omega (arith, places-more test n, none)

places-few : (test : ℕ → Bool) (n : ℕ) → places test n ≤ n
places-few test zero = omega arith
places-few test (suc n) =
    elim (cases_Bool (test n)) [
      | inl t ↦ omega (arith, places-few test n, ap (λ (b : Bool). cond {A = ℕ} b 1 0) t)
      | inr f ↦ omega (arith, places-few test n, ap (λ (b : Bool). cond {A = ℕ} b 1 0) f)
    ]

-- no count is above the number of places
pub tally-small : (H : History) (n j : ℕ) → IsSmall (tally_of H n j) n
tally-small H n j = record {
  asked = places-few (asks_for H j) n;
  accepted = places-few (λ i. asks_for H j i && is_accepted (reply_at H i)) n;
  too_low = places-few (λ i. asks_for H j i && is_too_low (reply_at H i)) n;
  no_room = places-few (λ i. asks_for H j i && is_no_room (reply_at H i)) n;
  cancelled = places-few (λ i. asks_for H j i && is_called_off H i) n;
}

-- a tally of five numbers
abbrev tally : ℕ → ℕ → ℕ → ℕ → ℕ → Tally
tally a b c d e = record { asked = a; accepted = b; too_low = c; no_room = d; cancelled = e }

tally-by : (a a' b b' c c' d d' e e' : ℕ) → a ≡ a' → b ≡ b' → c ≡ c' → d ≡ d' → e ≡ e' → tally a b c d e ≡ tally a' b' c' d' e'
tally-by a a' b b' c c' d d' e e' p q r s t = (cc)

-- a place at which the stay is not asked for
pub tally-same : (H : History) (n j : ℕ) → asks_for H j n ≡ false → tally_of H (n + 1) j ≡ tally_of H n j
tally-same H n j none =
    tally-by _ _ _ _ _ _ _ _ _ _
    (places-same (asks_for H j) n none)
    (places-same (λ i. asks_for H j i && is_accepted (reply_at H i)) n (ap (λ b. b && is_accepted (reply_at H n)) none))
    (places-same (λ i. asks_for H j i && is_too_low (reply_at H i)) n (ap (λ b. b && is_too_low (reply_at H n)) none))
    (places-same (λ i. asks_for H j i && is_no_room (reply_at H i)) n (ap (λ b. b && is_no_room (reply_at H n)) none))
    (places-same (λ i. asks_for H j i && is_called_off H i) n (ap (λ b. b && is_called_off H n) none))

places-and : (asks test : ℕ → Bool) (n : ℕ) → asks n ≡ true → places (λ i. asks i && test i) (n + 1) ≡ places (λ i. asks i && test i) n + cond (test n) 1 0
places-and asks test n some =
    places-more (λ i. asks i && test i) n ∙ ap (λ b. places (λ i. asks i && test i) n + cond (b && test n) 1 0) some

-- a place at which it is
pub tally-grows : (H : History) (n j : ℕ) → asks_for H j n ≡ true → tally_of H (n + 1) j ≡ with_book (tally_of H n j) (reply_at H n) (is_called_off H n)
tally-grows H n j some =
    tally-by _ _ _ _ _ _ _ _ _ _
    (places-more (asks_for H j) n ∙ ap (λ b. places (asks_for H j) n + cond b 1 0) some)
    (places-and (asks_for H j) (λ i. is_accepted (reply_at H i)) n some)
    (places-and (asks_for H j) (λ i. is_too_low (reply_at H i)) n some)
    (places-and (asks_for H j) (λ i. is_no_room (reply_at H i)) n some)
    (places-and (asks_for H j) (is_called_off H) n some)

-- the stay that is asked for at a place is the one that its Book names
asks-by : (H : History) (n j : ℕ) (o : Option ℕ) → booked_stay (line_at H n).entry.act ≡ o → asks_for H j n ≡ (is_some o && (unwrap_or o 0 == j))
asks-by H n j o e = ap (λ o. is_some o && (unwrap_or o 0 == j)) e

-- a place without a Book
pub tallies-same : (H : History) (stays n : ℕ) → booked_stay (line_at H n).entry.act ≡ None → tallies_of H stays n ≡ tallies_of H stays (n + 1)
tallies-same H stays n none =
    fill_by_all (tally_of H (n + 1)) (tallies_of H stays n) stays no_tally (length-map-range_with_len (tally_of H n) 0 stays)
    (λ k within. get_or-map-range_with_len (tally_of H n) 0 stays k k no_tally within (zero-add k) ∙ sym (tally-same H n k (asks-by H n k None none)))

-- a Book of a stay at a place changes that stay's tally alone
pub tallies-grow : (H : History) (stays n s : ℕ) → s < stays → booked_stay (line_at H n).entry.act ≡ Some s
    → set (tallies_of H stays n) s (with_book (get_or (tallies_of H stays n) s no_tally) (reply_at H n) (is_called_off H n)) ≡ tallies_of H stays (n + 1)
tallies-grow H stays n s inside some =
    let old = tallies_of H stays n in
    let size : length old ≡ stays = length-map-range_with_len (tally_of H n) 0 stays in
    let here : get_or old s no_tally ≡ tally_of H n s = get_or-map-range_with_len (tally_of H n) 0 stays s s no_tally inside (zero-add s) in
    let more : Tally = with_book (get_or old s no_tally) (reply_at H n) (is_called_off H n) in
    let at : (k : ℕ) → k < stays → get_or (set old s more) k no_tally ≡ tally_of H (n + 1) k = λ k within.
    elim (cases_eq s k) [
      | inl same ↦
          let lt : s < length old = omega arith in
          let asked : asks_for H s n ≡ true = asks-by H n s (Some s) some ∙ eq-eqb s s refl in
          let P : ℕ → Type 0 = λ i. get_or (set old s more) i no_tally ≡ tally_of H (n + 1) i in
          subst P same (get_or-set_same old s more no_tally lt ∙ ap (λ t. with_book t (reply_at H n) (is_called_off H n)) here ∙ sym (tally-grows H n s asked))
      | inr differ ↦
          let ne : k ≢ s = λ e. differ (sym e) in
          get_or-set_other old s k more no_tally ne ∙ get_or-map-range_with_len (tally_of H n) 0 stays k k no_tally within (zero-add k)
          ∙ sym (tally-same H n k (asks-by H n k (Some s) some ∙ ne_eqb s k differ))
    ] in
    fill_by_all (tally_of H (n + 1)) (set old s more) stays no_tally (length-set old s more ∙ size) at

-- how many Books of a caller stand at the first n places
abbrev pub booked_by : History → ℕ → ℕ → ℕ
booked_by H n caller = count_by (is_book_by caller) (take n H)

booked-more : (H : History) (n caller : ℕ) (o : Option ℕ) → n < length H → booked_stay (line_at H n).entry.act ≡ o
    → booked_by H (n + 1) caller ≡ booked_by H n caller + cond (((line_at H n).entry.caller == caller) && is_some o) 1 0
booked-more H n caller o within is =
    sum_by_more (λ x. cond {A = ℕ} (is_book_by caller x) 1 0) H n no_line within
    ∙ ap (λ o. booked_by H n caller + cond (((line_at H n).entry.caller == caller) && is_some o) 1 0) is

no_more : (b : Bool) (k : ℕ) → k + cond (b && false) 1 0 ≡ k
no_more true k = omega arith
no_more false k = omega arith

pub booked-same : (H : History) (n : ℕ) → n < length H → booked_stay (line_at H n).entry.act ≡ None → booked_of H n ≡ booked_of H (n + 1)
booked-same H n within none =
    fill_by_all (booked_by H (n + 1)) (booked_of H n) CALLERS 0 (length-map-range_with_len (booked_by H n) 0 CALLERS)
    (λ k small. get_or-map-range_with_len (booked_by H n) 0 CALLERS k k 0 small (zero-add k)
    ∙ sym (booked-more H n k None within none ∙ no_more ((line_at H n).entry.caller == k) (booked_by H n k)))

-- the caller's count at a place, which is below the place's number
pub booked-at : (H : History) (n caller : ℕ) → caller < CALLERS → get_or (booked_of H n) caller 0 ≡ booked_by H n caller
booked-at H n caller small = get_or-map-range_with_len (booked_by H n) 0 CALLERS caller caller 0 small (zero-add caller)

-- a Book changes its caller's count alone
pub booked-grow : (H : History) (n s : ℕ) → n < length H → (line_at H n).entry.caller < CALLERS → booked_stay (line_at H n).entry.act ≡ Some s
    → set (booked_of H n) (line_at H n).entry.caller (get_or (booked_of H n) (line_at H n).entry.caller 0 + 1) ≡ booked_of H (n + 1)
booked-grow H n s within small some =
    let caller = (line_at H n).entry.caller in
    let old = booked_of H n in
    let size : length old ≡ CALLERS = length-map-range_with_len (booked_by H n) 0 CALLERS in
    let here = booked-at H n caller small in
    let more : ℕ = get_or old caller 0 + 1 in
    let at : (k : ℕ) → k < CALLERS → get_or (set old caller more) k 0 ≡ booked_by H (n + 1) k = λ k inside.
    elim (cases_eq caller k) [
      | inl same ↦
          let lt : caller < length old = omega arith in
          let P : ℕ → Type 0 = λ i. get_or (set old caller more) i 0 ≡ booked_by H (n + 1) i in
          let one = ap (λ b. booked_by H n caller + cond (b && true) 1 0) (eq-eqb caller caller refl) in
          subst P same (get_or-set_same old caller more 0 lt ∙ ap (λ k. k + 1) here ∙ sym (booked-more H n caller (Some s) within some ∙ one))
      | inr differ ↦
          let ne : k ≢ caller = λ e. differ (sym e) in
          let none = ap (λ b. booked_by H n k + cond (b && true) 1 0) (ne_eqb caller k differ) in
          get_or-set_other old caller k more 0 ne ∙ get_or-map-range_with_len (booked_by H n) 0 CALLERS k k 0 inside (zero-add k)
          ∙ sym (booked-more H n k (Some s) within some ∙ none ∙ (let z : booked_by H n k + 0 ≡ booked_by H n k = omega arith in z))
    ] in
    fill_by_all (booked_by H (n + 1)) (set old caller more) CALLERS 0 (length-set old caller more ∙ size) at

-- which of its caller's Books the one at a place is
pub number-at : (H : History) (n s : ℕ) → n < length H → (line_at H n).entry.caller < CALLERS → booked_stay (line_at H n).entry.act ≡ Some s
    → get_or (booked_of H n) (line_at H n).entry.caller 0 + 1 ≡ book_number H n
number-at H n s within small some =
    let caller = (line_at H n).entry.caller in
    let one = ap (λ b. booked_by H n caller + cond (b && true) 1 0) (eq-eqb caller caller refl) in
    ap (λ k. k + 1) (booked-at H n caller small) ∙ sym (booked-more H n caller (Some s) within some ∙ one)

-- the entry that is read at a place is that of the line there
pub entry-at : (H : History) (n : ℕ) (e : Entry) → n < length H → Some e ≡ option_map (λ (x : Line). x.entry) (slice_get H n) → e ≡ (line_at H n).entry
entry-at H n e within is =
    let there : slice_get H n ≡ Some (line_at H n) = slice_get-get_or H n no_line within in
    let same : Some e ≡ Some (line_at H n).entry = is ∙ ap (option_map (λ (x : Line). x.entry)) there in
    (cc)

-- the same of what was read
pub booked-read : (H : History) (n s : ℕ) (e : Entry) (booked new : List ℕ) → n < length H → (line_at H n).entry.caller < CALLERS → e ≡ (line_at H n).entry →
    booked_stay (line_at H n).entry.act ≡ Some s → booked ≡ booked_of H n
    → new ≡ slice_set booked e.caller (get_or booked e.caller 0 + 1) → new ≡ booked_of H (n + 1)
booked-read H n s e booked new within small is some before after =
    after ∙ ap (λ (x : Entry). set booked x.caller (get_or booked x.caller 0 + 1)) is
    ∙ ap (λ b. set b (line_at H n).entry.caller (get_or b (line_at H n).entry.caller 0 + 1)) before
    ∙ booked-grow H n s within small some

pub tallies-read : (H : History) (stays n s : ℕ) (e : Entry) (booked : List ℕ) (old new : List Tally) → n < length H → (line_at H n).entry.caller < CALLERS →
    s < stays → e ≡ (line_at H n).entry → booked_stay (line_at H n).entry.act ≡ Some s → booked ≡ booked_of H n → old ≡ tallies_of H stays n
    → new ≡ slice_set old s (with_book (get_or old s no_tally) e.reply (has_given_up H e.caller (get_or booked e.caller 0 + 1))) →
    new ≡ tallies_of H stays (n + 1)
tallies-read H stays n s e booked old new within small inside is some before so_far after =
    let x = line_at H n in
    after ∙ ap (λ (y : Entry). set old s (with_book (get_or old s no_tally) y.reply (has_given_up H y.caller (get_or booked y.caller 0 + 1)))) is
    ∙ ap (λ b. set old s (with_book (get_or old s no_tally) x.entry.reply (has_given_up H x.entry.caller (get_or b x.entry.caller 0 + 1)))) before
    ∙ ap (λ nth. set old s (with_book (get_or old s no_tally) x.entry.reply (has_given_up H x.entry.caller nth))) (number-at H n s within small some)
    ∙ ap (λ t. set t s (with_book (get_or t s no_tally) x.entry.reply (is_called_off H n))) so_far
    ∙ tallies-grow H stays n s inside some

-- there is a number for each caller, and none is above the number of places
pub booked-by-size : (H : History) (n : ℕ) → length (booked_of H n) ≡ CALLERS
booked-by-size H n = length-map-range_with_len (booked_by H n) 0 CALLERS

pub booked-few : (H : History) (n caller : ℕ) → caller < CALLERS → get_or (booked_of H n) caller 0 ≤ n
booked-few H n caller small =
    omega (arith, booked-at H n caller small, count_by-le-length (is_book_by caller) (take n H), length-take n H)

-- a stay's tally among them has none either
pub tallies-small : (H : History) (stays n s : ℕ) (t : List Tally) → s < stays → t ≡ tallies_of H stays n → IsSmall (get_or t s no_tally) n
tallies-small H stays n s t inside is =
    let P : Tally → Type 0 = λ x. IsSmall x n in
    subst P (sym (ap (λ (l : List Tally). get_or l s no_tally) is ∙ get_or-map-range_with_len (tally_of H n) 0 stays s s no_tally inside (zero-add s)))
    (tally-small H n s)

pub small-more : (t : Tally) (n most : ℕ) → n ≤ most → IsSmall t n → IsSmall t most
small-more t n most few small = record {
  asked = omega (arith, small.asked);
  accepted = omega (arith, small.accepted);
  too_low = omega (arith, small.too_low);
  no_room = omega (arith, small.no_room);
  cancelled = omega (arith, small.cancelled);
}

-- nothing is counted before the first place
pub booked-none : (H : History) → replicate CALLERS 0 ≡ booked_of H 0
booked-none H = refl

pub tallies-none : (H : History) (stays : ℕ) → replicate stays no_tally ≡ tallies_of H stays 0
tallies-none H stays =
    fill_by_all (tally_of H 0) (replicate stays no_tally) stays no_tally (length-replicate stays no_tally)
    (λ k within. get_or-replicate stays k no_tally no_tally within)
