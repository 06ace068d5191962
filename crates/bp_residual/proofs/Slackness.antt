-- Complementary slackness: no reduced cost is negative exactly where revenue and dual value agree.
use Rattle.std.proofs.Common.{◌≡◌, ℕ, ◌+◌, ◌*◌, ◌-◌, ◌<◌, ◌≤◌, ap, ◌∙◌, arith, List, length, slice_index, inl, inr}
use Rattle.std.proofs.Math.Nat.{mul-add, mul_comm, mul-le-mul_left}
use Rattle.std.proofs.lemmas.Bool.{cases_lt}
use Rattle.bp_types.specs.Sums.{sum_below}
use Rattle.bp_types.specs.Program.{Program, no_stay, stay_at, load, worth, bound, price, surplus, rooms_value, stays_value}
use Rattle.bp_types.specs.Limits.{IsWithinLimits}
use Rattle.bp_types.specs.Optimum.{AreSuffixSums}
use Rattle.bp_types.proofs.SumLemmas.{sum_below-cong, sum_below-le, sum_below-add, sum_below-tight}
use Rattle.bp_types.proofs.Duality.{paid_is_earned}
use Rattle.bp_residual.specs.Network.{Flow, sell_more, sell_less, spare_more, spare_less, IsNonNegative, IsBalanced, IsFlow}
use Rattle.bp_residual.specs.Laws.{SlackFlowsAreOptimal, OptimalPricesAreSlack}
use Rattle.bp_types.proofs.Spans.{price_is_fall}

-- ---- one stay, and one night

mul_below : (k m n : ℕ) → 0 < k → m < n → k * m < k * n
mul_below k m n some below =
    let h : k * (m + 1) ≤ k * n = mul-le-mul_left k (omega arith) in
    omega (arith, h, mul-add k m 1)

stay_is_tight : (rate cost sold forecast : ℕ) → sold ≤ forecast → (sold < forecast → rate ≤ cost) → (0 < sold → cost ≤ rate) →
    rate * sold ≡ sold * cost + forecast * (rate - cost)
stay_is_tight rate cost sold forecast within short some =
    elim (cases_lt sold forecast) [
      | inl left ↦
          let none : rate - cost ≡ 0 = let h = short left in omega arith in
          elim (cases_lt 0 sold) [
            | inl positive ↦ let e : rate ≡ cost = let h = short left in let g = some positive in omega arith in rw none (rw e (grind arith))
            | inr zero' ↦ let e : sold ≡ 0 = omega arith in rw none (rw e (omega arith))
          ]
      | inr full ↦
          let e : sold ≡ forecast = omega arith in
          elim (cases_lt 0 sold) [
            | inl positive ↦
                let over = rate - cost in
                let split : rate ≡ cost + over = let g = some positive in omega arith in
                let parts : forecast * rate ≡ forecast * cost + forecast * over = ap (λ r. forecast * r) split ∙ mul-add forecast cost over in
                rw e (mul_comm rate forecast ∙ parts)
            | inr zero' ↦ let n : forecast ≡ 0 = omega arith in let m : sold ≡ 0 = omega arith in rw n (rw m (omega arith))
          ]
    ]

stay_from_tight : (rate cost sold forecast : ℕ) → sold ≤ forecast → rate * sold ≡ sold * cost + forecast * (rate - cost) →
    (sold < forecast → rate ≤ cost) × (0 < sold → cost ≤ rate)
stay_from_tight rate cost sold forecast within tight = (
  λ left. elim (cases_lt cost rate) [
    | inr fine ↦ fine
    | inl above ↦
        let over = rate - cost in
        let split : rate ≡ cost + over = omega arith in
        let parts : sold * rate ≡ sold * cost + sold * over = ap (λ r. sold * r) split ∙ mul-add sold cost over in
        let turned : rate * sold ≡ sold * rate = mul_comm rate sold in
        let more : over * sold < over * forecast = mul_below over sold forecast (omega arith) left in
        let swap1 : over * sold ≡ sold * over = mul_comm over sold in
        let swap2 : over * forecast ≡ forecast * over = mul_comm over forecast in
        absurd (omega arith)
  ],
  λ some. elim (cases_lt rate cost) [
    | inr fine ↦ fine
    | inl below ↦
        let none : rate - cost ≡ 0 = omega arith in
        let less : sold * rate < sold * cost = mul_below sold rate cost some below in
        let turned : rate * sold ≡ sold * rate = mul_comm rate sold in
        let nothing : forecast * (rate - cost) ≡ 0 = rw none (omega arith) in
        absurd (omega arith)
  ],
)

night_is_tight : (x taken spare rooms : ℕ) → taken + spare ≡ rooms → (0 < spare → x ≡ 0) → x * taken ≡ rooms * x
night_is_tight x taken spare rooms balance free =
    elim (cases_lt 0 spare) [
      | inl some ↦ rw (free some) (omega arith)
      | inr none ↦ let e : taken ≡ rooms = omega arith in rw e (mul_comm x rooms)
    ]

night_from_tight : (x taken spare rooms : ℕ) → taken + spare ≡ rooms → x * taken ≡ rooms * x → 0 < spare → x ≡ 0
night_from_tight x taken spare rooms balance tight some =
    elim (cases_lt 0 x) [
      | inr none ↦ omega arith
      | inl positive ↦
          let less : x * taken < x * rooms = mul_below x taken rooms positive (omega arith) in
          let turned : x * rooms ≡ rooms * x = mul_comm x rooms in
          absurd (omega arith)
    ]

-- ---- the whole flow

stay_in_range : (p : Program) (j : ℕ) → IsWithinLimits p → j < length p.stays →
    ((stay_at p j).span.from < (stay_at p j).span.to) × ((stay_at p j).span.to ≤ length p.rooms)
stay_in_range p j limits h = limits.spans j no_stay h

price_falls : (f : Flow) (u : ℕ → ℕ) (prices : List ℕ) (j : ℕ) → IsWithinLimits f.program → length prices ≡ length f.program.rooms → AreSuffixSums u prices →
    j < length f.program.stays → price prices (stay_at f.program j).span + u (stay_at f.program j).span.to ≡ u (stay_at f.program j).span.from
price_falls f u prices j limits one_each sums h =
    let range = stay_in_range f.program j limits h in
    price_is_fall u prices (stay_at f.program j).span sums (omega (arith, range.0)) (omega (arith, range.1, one_each))

worth_is_paid : (f : Flow) (prices : List ℕ) → length prices ≡ length f.program.rooms →
    sum_below (λ j. slice_index f.sell j * price prices (stay_at f.program j).span + (stay_at f.program j).forecast * surplus f.program prices j)
    (length f.program.stays)
    ≡ sum_below (λ n. slice_index prices n * load f.program f.sell n) (length f.program.rooms) + stays_value f.program prices
worth_is_paid f prices one_each =
    let p = f.program in
    let paid : ℕ → ℕ = λ j. slice_index f.sell j * price prices (stay_at p j).span in
    let over : ℕ → ℕ = λ j. (stay_at p j).forecast * surplus p prices j in
    let exchange : sum_below paid (length p.stays) ≡ sum_below (λ n. slice_index prices n * load p f.sell n) (length p.rooms) =
    paid_is_earned p f.sell prices ∙ ap (sum_below (λ n. slice_index prices n * load p f.sell n)) one_each in
    sum_below-add paid over (length p.stays) ∙ ap (λ x. x + sum_below over (length p.stays)) exchange

pub slack_flows_are_optimal : SlackFlowsAreOptimal
slack_flows_are_optimal f u prices limits flow balance one_each sums slack =
    let p = f.program in
    let M = length p.stays in
    let N = length p.rooms in
    let each_stay : worth p f.sell ≡ sum_below (λ j. slice_index f.sell j * price prices (stay_at p j).span + (stay_at p j).forecast * surplus p prices j) M =
    sum_below-cong _ _ M (λ j h.
    let fall = price_falls f u prices j limits one_each sums h in
    stay_is_tight (stay_at p j).rate (price prices (stay_at p j).span) (slice_index f.sell j) (stay_at p j).forecast (flow.within_forecast j h)
    (λ left. let s : IsNonNegative p u (sell_more j) = slack (sell_more j) (h, omega arith) in omega arith)
    (λ some. let s : IsNonNegative p u (sell_less j) = slack (sell_less j) (h, omega arith) in omega arith)) in
    let each_night : sum_below (λ n. slice_index prices n * load p f.sell n) N ≡ rooms_value p prices = sum_below-cong _ _ N (λ n h.
    let fall : u n ≡ slice_index prices n + u (n + 1) = sums.falls n (omega (arith, one_each)) in
    night_is_tight (slice_index prices n) (load p f.sell n) (slice_index f.spare n) (slice_index p.rooms n) (balance n h)
    (λ some. let s : IsNonNegative p u (spare_less n) = slack (spare_less n) (h, omega arith) in omega arith)) in (
      record {
        one_each = flow.one_each_stay;
        within_forecast = λ j h. let w = flow.within_forecast j h in omega arith;
        within_rooms = λ n h. let b = balance n h in omega arith;
      },
      each_stay ∙ worth_is_paid f prices one_each ∙ ap (λ x. x + stays_value p prices) each_night,
    )

-- each stay and each night is tight, where the whole is
tight_parts : (f : Flow) (prices : List ℕ) → IsFlow f → IsBalanced f → length prices ≡ length f.program.rooms →
    worth f.program f.sell ≡ bound f.program prices →
    ((j : ℕ) → j < length f.program.stays →
    (stay_at f.program j).rate * slice_index f.sell j ≡
    slice_index f.sell j * price prices (stay_at f.program j).span + (stay_at f.program j).forecast * surplus f.program prices j)
    × ((n : ℕ) → n < length f.program.rooms → slice_index prices n * load f.program f.sell n ≡ slice_index f.program.rooms n * slice_index prices n)
tight_parts f prices flow balance one_each agree =
    let p = f.program in
    let M = length p.stays in
    let N = length p.rooms in
    let sold : ℕ → ℕ = λ j. (stay_at p j).rate * slice_index f.sell j in
    let paid : ℕ → ℕ = λ j. slice_index f.sell j * price prices (stay_at p j).span + (stay_at p j).forecast * surplus p prices j in
    let earned : ℕ → ℕ = λ n. slice_index prices n * load p f.sell n in
    let full : ℕ → ℕ = λ n. slice_index p.rooms n * slice_index prices n in
    let pays : (j : ℕ) → j < M →
    sold j ≤ paid j = λ j h. stay_pays (stay_at p j).rate (price prices (stay_at p j).span) (slice_index f.sell j) (stay_at p j).forecast
    (flow.within_forecast j h) in
    let earns : (n : ℕ) → n < N →
    earned n ≤ full n = λ n h. night_earns (slice_index prices n) (load p f.sell n) (slice_index p.rooms n) (let b = balance n h in omega arith) in
    let all_pay : sum_below sold M ≤ sum_below paid M = sum_below-le sold paid M pays in
    let all_earn : sum_below earned N ≤ sum_below full N = sum_below-le earned full N earns in
    let exchange : sum_below paid M ≡ sum_below earned N + stays_value p prices = worth_is_paid f prices one_each in
    let whole : sum_below sold M ≡ sum_below full N + stays_value p prices = agree in
    (sum_below-tight sold paid M pays (omega (arith, all_earn, exchange, whole)), sum_below-tight earned full N earns (omega (arith, all_pay, exchange, whole)))
  where
    stay_pays : (rate cost sold forecast : ℕ) → sold ≤ forecast → rate * sold ≤ sold * cost + forecast * (rate - cost)
    stay_pays rate cost sold forecast within =
        let over = rate - cost in
        let all : sold * rate ≤ sold * (cost + over) = mul-le-mul_left sold (omega arith) in
        let more : over * sold ≤ over * forecast = mul-le-mul_left over within in
        let turned : rate * sold ≡ sold * rate = mul_comm rate sold in
        let parts : sold * (cost + over) ≡ sold * cost + sold * over = mul-add sold cost over in
        let swap1 : over * sold ≡ sold * over = mul_comm over sold in
        let swap2 : over * forecast ≡ forecast * over = mul_comm over forecast in
        omega arith

    night_earns : (x taken rooms : ℕ) → taken ≤ rooms → x * taken ≤ rooms * x
    night_earns x taken rooms within =
        let h : x * taken ≤ x * rooms = mul-le-mul_left x within in
        omega (arith, h, mul_comm rooms x)

pub optimal_prices_are_slack : OptimalPricesAreSlack
optimal_prices_are_slack f u prices limits flow balance one_each sums agree (sell_more j) admits =
    let p = f.program in
    let fall = price_falls f u prices j limits one_each sums admits.0 in
    let tight = (tight_parts f prices flow balance one_each agree).0 j admits.0 in
    let facts = stay_from_tight (stay_at p j).rate (price prices (stay_at p j).span) (slice_index f.sell j) (stay_at p j).forecast
    (flow.within_forecast j admits.0) tight in
    let cheap : (stay_at p j).rate ≤ price prices (stay_at p j).span = facts.0 (omega (arith, admits.1)) in
    omega arith
optimal_prices_are_slack f u prices limits flow balance one_each sums agree (sell_less j) admits =
    let p = f.program in
    let fall = price_falls f u prices j limits one_each sums admits.0 in
    let tight = (tight_parts f prices flow balance one_each agree).0 j admits.0 in
    let facts = stay_from_tight (stay_at p j).rate (price prices (stay_at p j).span) (slice_index f.sell j) (stay_at p j).forecast
    (flow.within_forecast j admits.0) tight in
    let dear : price prices (stay_at p j).span ≤ (stay_at p j).rate = facts.1 (omega (arith, admits.1)) in
    omega arith
optimal_prices_are_slack f u prices limits flow balance one_each sums agree (spare_more n) admits =
    let fall : u n ≡ slice_index prices n + u (n + 1) = sums.falls n (omega (arith, one_each)) in
    omega arith
optimal_prices_are_slack f u prices limits flow balance one_each sums agree (spare_less n) admits =
    let p = f.program in
    let fall : u n ≡ slice_index prices n + u (n + 1) = sums.falls n (omega (arith, one_each, admits.0)) in
    let tight = (tight_parts f prices flow balance one_each agree).1 n admits.0 in
    let free : slice_index prices n ≡ 0 =
    night_from_tight (slice_index prices n) (load p f.sell n) (slice_index f.spare n) (slice_index p.rooms n) (balance n admits.0) tight
    (omega (arith, admits.1)) in
    omega arith
