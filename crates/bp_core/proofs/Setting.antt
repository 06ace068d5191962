-- A forecast or a rate is set.
use Rattle.std.proofs.Common.{
  ◌≡◌,
  ℕ,
  ◌*◌,
  ◌-◌,
  ◌<◌,
  refl,
  ap,
  sym,
  ◌∙◌,
  arith,
  ◌==◌,
  nat_lt,
  IsTrue,
  List,
  [],
  ◌∷◌,
  ◌++◌,
  length,
  set,
  count_by,
  Option,
  Some,
  is_some,
  unwrap_or,
  inl,
  inr,
}
use Rattle.std.proofs.lemmas.Bool.{cases_lt, lt-ltb, cond-true, cond-false}
use Rattle.bp_types.specs.House.{Inn}
use Rattle.bp_types.specs.declared.command.Command.TheVariants.{Reforecast, Reprice}
use Rattle.bp_ledger.specs.Inventory.{Inventory}
use Rattle.bp_core.specs.declared.line.Act.TheVariants.{Do}
use Rattle.bp_core.specs.declared.line.Reply.TheVariants.{Done}
use Rattle.bp_core.specs.declared.line.Line.{Line}
use Rattle.bp_core.specs.Acting.{plain_line}
use Rattle.bp_core.specs.Lines.{History, since, commands}
use Rattle.bp_core.specs.Callers.{may_log}
use Rattle.bp_core.specs.Instance.{house_stay, forecast_of, rate_of, reforecast_count, reprice_rate, is_reforecast_of, is_book_of}
use Rattle.bp_core.specs.Legal.{IsLegal, IsLegalLine, is_in_range}
use Rattle.bp_core.specs.Log.{LogView}
use Rattle.bp_core.specs.Roll.{RollView}
use Rattle.bp_core.specs.Keeping.{AreInStep}
use Rattle.bp_core.proofs.Counts.{and_false, own_number, other_number, commands_fit}
use Rattle.bp_core.proofs.Pushes.{last_value-push, since-push_hit}
use Rattle.bp_core.proofs.Effects.{numbers_set, count_set, opened, rate_kept}
use Rattle.bp_core.proofs.InStepMore.{Follows}
use Rattle.bp_core.proofs.Quiet.{IsQuiet, follows_quiet, quiet_forecast, quiet_forecasts, quiet_rates}

-- a history that is not full has an entry left to give
pub not_full_allowed : (h : Inn) (H : History) → IsLegal h H → ((commands H ≡ h.limits.entries) → ⊥) → IsTrue (nat_lt (commands H) h.limits.entries)
not_full_allowed h H legal not_full =
    elim (cases_lt (commands H) h.limits.entries) [
      | inl less ↦ lt-ltb _ _ less
      | inr full ↦ absurd (not_full (omega (arith, commands_fit h H legal)))
    ]

pub reforecast_is_legal : (h : Inn) (H : History) (caller stay count : ℕ) → IsLegal h H → IsTrue (may_log H caller (Do (Reforecast stay count))) →
    IsTrue (is_in_range h (Do (Reforecast stay count))) → ((commands H ≡ h.limits.entries) → ⊥) →
    IsLegalLine h H (plain_line caller (Do (Reforecast stay count)) Done)
reforecast_is_legal h H caller stay count legal may range not_full = record {
  opening = opened h H (plain_line caller (Do (Reforecast stay count)) Done) legal;
  caller = may;
  range = range;
  limit = not_full_allowed h H legal not_full;
  behind = refl;
  position = refl;
  certificate = refl;
  reply = refl;
}

pub reprice_is_legal : (h : Inn) (H : History) (caller stay rate : ℕ) → IsLegal h H → IsTrue (may_log H caller (Do (Reprice stay rate))) →
    IsTrue (is_in_range h (Do (Reprice stay rate))) → ((commands H ≡ h.limits.entries) → ⊥) →
    IsLegalLine h H (plain_line caller (Do (Reprice stay rate)) Done)
reprice_is_legal h H caller stay rate legal may range not_full = record {
  opening = opened h H (plain_line caller (Do (Reprice stay rate)) Done) legal;
  caller = may;
  range = range;
  limit = not_full_allowed h H legal not_full;
  behind = refl;
  position = refl;
  certificate = refl;
  reply = refl;
}

pub reforecast_is_quiet : (caller stay count : ℕ) → IsQuiet (plain_line caller (Do (Reforecast stay count)) Done)
reforecast_is_quiet caller stay count = record { no_book = refl; no_resize = λ n. refl; no_cancel = λ k nth. and_false (caller == k); no_group = λ n. refl }

pub reprice_is_quiet : (caller stay rate : ℕ) → IsQuiet (plain_line caller (Do (Reprice stay rate)) Done)
reprice_is_quiet caller stay rate = record { no_book = refl; no_resize = λ n. refl; no_cancel = λ k nth. and_false (caller == k); no_group = λ n. refl }

-- the forecast that is set
pub forecast_set : (h : Inn) (H : History) (caller stay count : ℕ) → forecast_of h (H ++ plain_line caller (Do (Reforecast stay count)) Done ∷ []) stay ≡ count
forecast_set h H caller stay count =
    let x : Line = plain_line caller (Do (Reforecast stay count)) Done in
    let value : Line → Option ℕ = λ y. reforecast_count stay y.entry.act in
    let own : reforecast_count stay (Do (Reforecast stay count)) ≡ Some count = cond-true _ _ _ (own_number stay) in
    let now : count_set h (H ++ x ∷ []) stay ≡ count = last_value-push value (house_stay h stay).forecast H x ∙
    ap (λ o. unwrap_or o (count_set h H stay)) own in
    let none = since-push_hit (is_reforecast_of stay) H x (ap (λ (o : Option ℕ). is_some o) own) in
    ap (λ n. n - h.limits.unit * count_by (is_book_of stay) (since (is_reforecast_of stay) (H ++ x ∷ []))) now ∙
    ap (λ l. count - h.limits.unit * count_by (is_book_of stay) l) none ∙
    (let zero_times : h.limits.unit * 0 ≡ 0 = omega arith in omega (arith, zero_times))

pub reforecast_follows : (h : Inn) (log : LogView) (roll : RollView) (inventory : Inventory) (forecasts rates : List ℕ) (caller stay count : ℕ) →
    AreInStep h log roll inventory forecasts rates → stay < length h.stays →
    Follows h log.lines roll roll inventory (set forecasts stay count) rates (plain_line caller (Do (Reforecast stay count)) Done)
reforecast_follows h log roll inventory forecasts rates caller stay count kept within =
    let H : History = log.lines in
    let x : Line = plain_line caller (Do (Reforecast stay count)) Done in
    let quiet = reforecast_is_quiet caller stay count in
    let others : (j : ℕ) → j < length h.stays → (j ≡ stay → ⊥) →
    forecast_of h H j ≡ forecast_of h (H ++ x ∷ []) j = λ j g ne. quiet_forecast h H x j quiet (cond-false _ _ _ (other_number stay j ne)) in
    follows_quiet h log roll inventory forecasts (set forecasts stay count) rates rates x kept quiet refl refl
    (ap (λ (l : List ℕ). set l stay count) kept.forecasts_are ∙
    numbers_set (forecast_of h H) (forecast_of h (H ++ x ∷ [])) (length h.stays) stay count within (sym (forecast_set h H caller stay count)) others)
    (kept.rates_are ∙ quiet_rates h H x (λ j. refl))

pub rate_set : (h : Inn) (H : History) (caller stay rate : ℕ) → rate_of h (H ++ plain_line caller (Do (Reprice stay rate)) Done ∷ []) stay ≡ rate
rate_set h H caller stay rate =
    let x : Line = plain_line caller (Do (Reprice stay rate)) Done in
    let value : Line → Option ℕ = λ y. reprice_rate stay y.entry.act in
    let own : reprice_rate stay (Do (Reprice stay rate)) ≡ Some rate = cond-true _ _ _ (own_number stay) in
    last_value-push value (house_stay h stay).rate H x ∙ ap (λ o. unwrap_or o (rate_of h H stay)) own

pub reprice_follows : (h : Inn) (log : LogView) (roll : RollView) (inventory : Inventory) (forecasts rates : List ℕ) (caller stay rate : ℕ) →
    AreInStep h log roll inventory forecasts rates → stay < length h.stays →
    Follows h log.lines roll roll inventory forecasts (set rates stay rate) (plain_line caller (Do (Reprice stay rate)) Done)
reprice_follows h log roll inventory forecasts rates caller stay rate kept within =
    let H : History = log.lines in
    let x : Line = plain_line caller (Do (Reprice stay rate)) Done in
    let quiet = reprice_is_quiet caller stay rate in
    let others : (j : ℕ) → j < length h.stays → (j ≡ stay → ⊥) →
    rate_of h H j ≡ rate_of h (H ++ x ∷ []) j = λ j g ne. rate_kept h H x j (cond-false _ _ _ (other_number stay j ne)) in
    follows_quiet h log roll inventory forecasts forecasts rates (set rates stay rate) x kept quiet refl refl
    (kept.forecasts_are ∙ quiet_forecasts h H x quiet (λ j. refl))
    (ap (λ (l : List ℕ). set l stay rate) kept.rates_are ∙
    numbers_set (rate_of h H) (rate_of h (H ++ x ∷ [])) (length h.stays) stay rate within (sym (rate_set h H caller stay rate)) others)
