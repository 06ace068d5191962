-- One summary for one house: histories that open with certificates of the same value and prices, and go on alike, have
-- the same replies and the same instance, whatever their certificates sell.
use Rattle.std.proofs.Common.{
  ◌≡◌,
  ℕ,
  zero,
  suc,
  ◌+◌,
  ◌-◌,
  ◌*◌,
  ◌∙◌,
  ap,
  sym,
  subst,
  refl,
  arith,
  Bool,
  not,
  ◌&&◌,
  cond,
  List,
  [],
  ◌∷◌,
  ◌++◌,
  length,
  map,
  inl,
  inr,
  count_by,
  take,
  drop,
}
use Rattle.std.specs.Prelude.{nat_lt, if◌then◌else◌}
use Rattle.std.specs.List.{list_any, range_with_len, sum_by}
use Rattle.std.proofs.lemmas.Bool.{cases_Bool}
use Rattle.std.proofs.lemmas.List.FromFn.{fill_by_all, get_or-map-range_with_len, length-map-range_with_len}
use Rattle.bp_types.specs.declared.stay.Stay.{Stay}
use Rattle.bp_types.specs.declared.command.Command.TheVariants.{Book}
use Rattle.bp_types.specs.Program.{Program, no_stay, price, covers}
use Rattle.bp_types.specs.Optimum.{IsOptimum}
use Rattle.bp_types.specs.Claim.{Claim}
use Rattle.bp_types.specs.House.{Inn, opening}
use Rattle.bp_types.specs.Laws.{OptimumIsUnique, LeastPricesAreUnique}
use Rattle.bp_types.proofs.SumLemmas.{sum_below-cong}
use Rattle.bp_core.specs.declared.line.Act.TheVariants.{Do}
use Rattle.bp_core.specs.declared.line.Reply.{Reply}
use Rattle.bp_core.specs.declared.line.Reply.TheVariants.{TooLow}
use Rattle.bp_core.specs.declared.line.Line.{Line}
use Rattle.bp_core.specs.Lines.{History, line_at, since, last_number, last_value, is_book, is_book_by, is_accepted, is_cancellation}
use Rattle.bp_core.specs.Instance.{
  house_stay,
  span_of,
  rooms_at,
  sold_at,
  rooms_left_at,
  holds_room,
  rooms_of_group,
  stay_booked,
  is_book_of,
  is_reforecast_of,
  reforecast_count,
  rate_of,
  stay_now,
  units_left_at,
  instance_of,
}
use Rattle.bp_core.specs.Answer.{sum_of, book_reply, covered_reply}
use Rattle.bp_core.specs.Acting.{opening_line, plain_line}
use Rattle.bp_core.proofs.Stocking.{find-same}
use Rattle.bp_text.specs.Lines.{text_of}
use Rattle.bp_demo.specs.declared.counts.Counts.{Counts}
use Rattle.bp_demo.specs.declared.summary.Summary.{Summary}
use Rattle.bp_demo.specs.Bookings.{booking, booked_behind, counts_of}
use Rattle.bp_demo.specs.Summaries.{all_nights, all_booked}
use Rattle.bp_demo.specs.Demos.{demo_lines}
use Rattle.bp_demo.specs.Laws.{SummariesAreUnique, DemosAreUnique}

-- the opening of a certificate
abbrev opened_by : ℕ → List ℕ → List ℕ → Line
opened_by value prices sell = opening_line (record { position = 0; certificate = record { value = value; sell = sell; prices = prices } })

-- two lists made of functions that are the same on so many numbers
made_alike : {X : Type 0} (f g : ℕ → X) (n : ℕ) (d : X) → ((k : ℕ) → f k ≡ g k) → map f (range_with_len 0 n) ≡ map g (range_with_len 0 n)
made_alike f g n d same =
    fill_by_all g (map f (range_with_len 0 n)) n d (length-map-range_with_len f 0 n)
    (λ k below. get_or-map-range_with_len f 0 n k k d below (omega arith) ∙ same k)

module _ (h : Inn) (value : ℕ) (prices sell other : List ℕ) (rest : History) where
  holds_alike : (n i : ℕ) → holds_room h (opened_by value prices sell ∷ rest) n i ≡ holds_room h (opened_by value prices other ∷ rest) n i
  holds_alike n zero = refl
  holds_alike n (suc i) =
      let x = line_at rest i in
      let held : Line → ℕ → Bool =
      λ z k. ((is_book x && is_accepted x.entry.reply) && not
      (list_any (is_cancellation x.entry.caller (count_by (is_book_by x.entry.caller) (take k (z ∷ rest)))) (drop k (z ∷ rest)))) && covers
      (span_of h (stay_booked (z ∷ rest) (suc i))) n in
      let next : suc i + 1 ≡ suc (i + 1) = omega arith in
      ap (held (opened_by value prices sell)) next ∙ ap (held (opened_by value prices other)) (sym next)

  sold_alike : (n : ℕ) → sold_at h (opened_by value prices sell ∷ rest) n ≡ sold_at h (opened_by value prices other ∷ rest) n
  sold_alike n =
      let groups : sum_by (rooms_of_group n) (opened_by value prices sell ∷ rest) ≡ sum_by (rooms_of_group n) (opened_by value prices other ∷ rest) = refl in
      let held = sum_below-cong (λ i. cond (holds_room h (opened_by value prices sell ∷ rest) n i) 1 0)
      (λ i. cond (holds_room h (opened_by value prices other ∷ rest) n i) 1 0) (length (opened_by value prices sell ∷ rest))
      (λ k below. ap (λ (b : Bool). cond {A = ℕ} b 1 0) (holds_alike n k)) in
      omega (arith, groups, held)

  left_alike : (n : ℕ) → rooms_left_at h (opened_by value prices sell ∷ rest) n ≡ rooms_left_at h (opened_by value prices other ∷ rest) n
  left_alike n = ap (λ sold. rooms_at h (opened_by value prices other ∷ rest) n - sold) (sold_alike n)

  reply_alike : (stay : ℕ) → book_reply h (opened_by value prices sell ∷ rest) stay ≡ book_reply h (opened_by value prices other ∷ rest) stay
  reply_alike stay =
      let G : History = opened_by value prices other ∷ rest in
      let short = find-same (λ n. nat_lt (rooms_left_at h (opened_by value prices sell ∷ rest) n) 1) (λ n. nat_lt (rooms_left_at h G n) 1)
      (span_of h stay).from ((span_of h stay).to - (span_of h stay).from)
      (λ k above below. ap (λ r. nat_lt r 1) (left_alike k)) in
      ap (λ night. if nat_lt (rate_of h G stay) (sum_of h G stay) then TooLow (last_number G) (sum_of h G stay) (rate_of h G stay) else covered_reply
      (last_number G) (sum_of h G stay) night) short

  counts_alike : counts_of (opened_by value prices sell ∷ rest) ≡ counts_of (opened_by value prices other ∷ rest)
  counts_alike = refl

  asked_alike : (stay : ℕ) →
      count_by (is_book_of stay) (since (is_reforecast_of stay) (opened_by value prices sell ∷ rest)) ≡
      count_by (is_book_of stay) (since (is_reforecast_of stay) (opened_by value prices other ∷ rest))
  asked_alike stay = elim (cases_Bool (list_any (is_reforecast_of stay) rest)) [
    | inl some ↦ rw some refl
    | inr none ↦ rw none refl
  ]

  stay_alike : (stay : ℕ) → stay_now h (opened_by value prices sell ∷ rest) stay ≡ stay_now h (opened_by value prices other ∷ rest) stay
  stay_alike stay =
      let G : History = opened_by value prices other ∷ rest in
      ap (λ asked. record {
        span = span_of h stay;
        rate = rate_of h G stay;
        forecast =
            last_value (λ (x : Line). reforecast_count stay x.entry.act) (house_stay h stay).forecast G - h.limits.unit * asked;
      }) (asked_alike stay)

  instance_alike : instance_of h (opened_by value prices sell ∷ rest) ≡ instance_of h (opened_by value prices other ∷ rest)
  instance_alike =
      let H : History = opened_by value prices sell ∷ rest in
      let G : History = opened_by value prices other ∷ rest in
      let rooms = made_alike (units_left_at h H) (units_left_at h G) (length h.rooms) 0 (λ k. ap (λ r. h.limits.unit * r) (left_alike k)) in
      let stays = made_alike (stay_now h H) (stay_now h G) (length h.stays) no_stay stay_alike in
      ap (λ (r : List ℕ). record { rooms = r; stays = map (stay_now h H) (range_with_len 0 (length h.stays)) }) rooms
      ∙ ap (λ (s : List Stay). record { rooms = map (units_left_at h G) (range_with_len 0 (length h.rooms)); stays = s }) stays

-- two histories that open with certificates of the same value and prices, and go on alike
record AreAlike (value : ℕ) (prices sell other : List ℕ) (a b : History) : Type 0 where
  rest : History
  first : a ≡ opened_by value prices sell ∷ rest
  second : b ≡ opened_by value prices other ∷ rest

-- so are those of a house, after any bookings
booked_alike : (h : Inn) (value : ℕ) (prices sell other : List ℕ) (n : ℕ) →
    AreAlike value prices sell other (booked_behind h (opened_by value prices sell ∷ []) n) (booked_behind h (opened_by value prices other ∷ []) n)
booked_alike h value prices sell other zero = record { rest = []; first = refl; second = refl }
booked_alike h value prices sell other (suc n) =
    let so_far = booked_alike h value prices sell other n in
    record {
      rest = so_far.rest ++ booking h (opened_by value prices sell ∷ so_far.rest) n ∷ [];
      first = ap (λ (G : History). G ++ booking h G n ∷ []) so_far.first;
      second = ap (λ (G : History). G ++ booking h G n ∷ []) so_far.second
          ∙ ap (λ (r : Reply). opened_by value prices other ∷ (so_far.rest ++ plain_line 0 (Do (Book n)) r ∷ []))
          (sym (reply_alike h value prices sell other so_far.rest n));
    }

-- what is counted of both is the same, and so is where they come to
counted_alike : (value : ℕ) (prices sell other : List ℕ) (a b : History) (h : Inn) → AreAlike value prices sell other a b →
    (counts_of a ≡ counts_of b) × (instance_of h a ≡ instance_of h b)
counted_alike value prices sell other a b h alike = (
  ap counts_of alike.first ∙ counts_alike h value prices sell other alike.rest ∙ ap counts_of (sym alike.second),
  ap (instance_of h) alike.first ∙ instance_alike h value prices sell other alike.rest ∙ ap (instance_of h) (sym alike.second),
)

-- the parts of two summaries are the same, so they are
same_summary : (s t : Summary) → s.value ≡ t.value → s.prices ≡ t.prices → s.counts ≡ t.counts → s.closing ≡ t.closing → s ≡ t
same_summary s t value prices counts closing =
    ap (λ v. record { value = v; prices = s.prices; counts = s.counts; closing = s.closing }) value
    ∙ ap (λ p. record { value = t.value; prices = p; counts = s.counts; closing = s.closing }) prices
    ∙ ap (λ (c : Counts). record { value = t.value; prices = t.prices; counts = c; closing = s.closing }) counts
    ∙ ap (λ v. record { value = t.value; prices = t.prices; counts = t.counts; closing = v }) closing

-- where both certificates have the same value and prices
summary_alike : OptimumIsUnique → (h : Inn) (c d : Claim) (s t : Summary) → c.value ≡ d.value → c.prices ≡ d.prices
    → s.value ≡ c.value → t.value ≡ d.value → s.prices ≡ price c.prices (all_nights (length h.rooms)) → t.prices ≡ price d.prices (all_nights (length h.rooms))
    → s.counts ≡ counts_of (all_booked h c) → t.counts ≡ counts_of (all_booked h d)
    → IsOptimum (instance_of h (all_booked h c)) s.closing → IsOptimum (instance_of h (all_booked h d)) t.closing → s ≡ t
summary_alike unique h c d s t value prices s_value t_value s_prices t_prices s_counts t_counts s_closing t_closing =
    let same : d ≡ record { value = c.value; sell = d.sell; prices = c.prices } =
    ap (λ v. record { value = v; sell = d.sell; prices = d.prices }) (sym value) ∙
    ap (λ (p : List ℕ). record { value = c.value; sell = d.sell; prices = p }) (sym prices) in
    let alike = booked_alike h c.value c.prices c.sell d.sell (length h.stays) in
    let both = counted_alike c.value c.prices c.sell d.sell _ _ h alike in
    let P : Program → Type 0 = λ p. IsOptimum p t.closing in
    let there = subst P (ap (λ (k : Claim). instance_of h (all_booked h k)) same ∙ sym both.1) t_closing in
    same_summary s t (s_value ∙ value ∙ sym t_value)
    (s_prices ∙ ap (λ (p : List ℕ). price p (all_nights (length h.rooms))) prices ∙ sym t_prices)
    (s_counts ∙ both.0 ∙ ap (λ (k : Claim). counts_of (all_booked h k)) (sym same) ∙ sym t_counts)
    (unique (instance_of h (all_booked h c)) s.closing t.closing s_closing there)

pub summaries_are_unique : OptimumIsUnique → LeastPricesAreUnique → SummariesAreUnique
summaries_are_unique optimum least h s t a b =
    let value = optimum (opening h) a.first.value b.first.value a.solved.optimum b.solved.optimum in
    let prices = least (opening h) a.first.prices b.first.prices a.solved.least b.solved.least in
    summary_alike optimum h a.first b.first s t value prices a.value b.value a.prices b.prices a.counts b.counts a.closing b.closing

pub demos_are_unique : OptimumIsUnique → LeastPricesAreUnique → DemosAreUnique
demos_are_unique optimum least seed nights rooms stays a b is also =
    let same = summaries_are_unique optimum least _ is.summary also.summary is.sums_up also.sums_up in
    is.text_is ∙ ap (λ (s : Summary). text_of (demo_lines seed nights rooms stays s)) same ∙ sym also.text_is
