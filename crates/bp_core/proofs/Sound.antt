-- No night of a legal history is oversold, and its instance keeps to the limits.
use Rattle.std.proofs.Common.{
  ◌≡◌,
  ℕ,
  ◌+◌,
  ◌<◌,
  ◌≤◌,
  ap,
  sym,
  subst,
  ◌∙◌,
  arith,
  cond,
  IsTrue,
  ◌==◌,
  ◌&&◌,
  [],
  ◌∷◌,
  ◌++◌,
  length,
  take,
  slice_index,
  Option,
  None,
  unwrap_or,
  inl,
  inr,
}
use Rattle.std.proofs.Math.Nat.{mul-le-mul}
use Rattle.std.proofs.Math.Seq.{take-length}
use Rattle.std.proofs.lemmas.Bool.{cases_Bool, and_parts, eqb-true}
use Rattle.std.proofs.lemmas.List.FromFn.{length-map-range_with_len, get_or-map-range_with_len}
use Rattle.bp_types.specs.declared.stay.Stay.{Stay}
use Rattle.bp_types.specs.declared.command.Command.TheVariants.{Book, Cancel, Reforecast, Reprice, Resize, Group}
use Rattle.bp_types.specs.Claim.{Claim}
use Rattle.bp_types.specs.Program.{covers, no_stay}
use Rattle.bp_types.specs.House.{Inn, IsHouse}
use Rattle.bp_types.proofs.HouseLemmas.{unit_is_small}
use Rattle.bp_types.specs.declared.limits.TheConstants.{MOST_FORECAST, MOST_UNITS, MOST_ROOMS}
use Rattle.bp_core.specs.declared.line.Act.{Act}
use Rattle.bp_core.specs.declared.line.Act.TheVariants.{Do, Publish, Enrol, Leave}
use Rattle.bp_core.specs.declared.line.Reply.{Reply}
use Rattle.bp_core.specs.declared.line.Line.{Line}
use Rattle.bp_core.specs.Lines.{History, last_value, is_accepted, is_done, is_group_accepted}
use Rattle.bp_core.specs.Instance.{
  house_stay,
  span_of,
  resized_rooms,
  rooms_at,
  sold_at,
  rooms_left_at,
  rooms_of_group,
  reforecast_count,
  reprice_rate,
  rate_of,
  stay_now,
  units_left_at,
}
use Rattle.bp_core.specs.Answer.{IsReply}
use Rattle.bp_core.specs.Legal.{IsLegal, IsLegalLine, is_in_range}
use Rattle.bp_core.specs.Laws.{KeepsLimits, NeverOversold}
use Rattle.bp_core.proofs.Cases.{cases_Option, cond_same, cond_some_of, enough_on}
use Rattle.bp_core.proofs.Ranges.{IsRate, rooms_in_range, count_in_range, rate_in_range}
use Rattle.bp_core.proofs.Prefixes.{at_each_position}
use Rattle.bp_core.proofs.Replies.{accepted_has_room, done_is_above_sold, accepted_group_has_rooms}
use Rattle.bp_core.proofs.Pushes.{last_value-push}
use Rattle.bp_core.proofs.Sold.{books_night, sold_at-push_le}

abbrev pub a_line : ℕ → Act → Reply → Option Claim → Line
a_line caller act reply certificate = record { entry = record { caller = caller; act = act; reply = reply }; certificate = certificate }

-- what the line sells is left, or its rooms are above what is sold
sells_what_is_left : (h : Inn) (H : History) (n caller : ℕ) (act : Act) (reply : Reply) (certificate : Option Claim) →
    IsReply h H caller act reply → sold_at h H n ≤ rooms_at h H n →
    sold_at h H n + cond (books_night h n (a_line caller act reply certificate)) 1 0 + rooms_of_group n (a_line caller act reply certificate) ≤ unwrap_or
    (resized_rooms n (a_line caller act reply certificate)) (rooms_at h H n)
sells_what_is_left h H n caller (Do (Book stay)) reply certificate replies below =
    rw (cond_same {X = Option ℕ} (is_done reply) None, cond_same {X = ℕ} (is_group_accepted reply) 0)
    (elim (cases_Bool (is_accepted reply && covers (span_of h stay) n)) [
      | inl both ↦
          let parts = and_parts _ _ both in
          let room : 1 ≤ rooms_left_at h H n =
          enough_on (rooms_left_at h H) 1 (span_of h stay) n (accepted_has_room h H stay (sym (ap is_accepted replies) ∙ parts.0)) parts.1 in
          rw both (omega (arith, room, below))
      | inr none ↦ rw none (omega (arith, below))
    ])
sells_what_is_left h H n caller (Do (Cancel nth)) reply certificate replies below =
    rw (cond_same {X = Option ℕ} (is_done reply) None, cond_same {X = ℕ} (is_group_accepted reply) 0) (omega (arith, below))
sells_what_is_left h H n caller (Do (Reforecast stay count)) reply certificate replies below =
    rw (cond_same {X = Option ℕ} (is_done reply) None, cond_same {X = ℕ} (is_group_accepted reply) 0) (omega (arith, below))
sells_what_is_left h H n caller (Do (Reprice stay rate)) reply certificate replies below =
    rw (cond_same {X = Option ℕ} (is_done reply) None, cond_same {X = ℕ} (is_group_accepted reply) 0) (omega (arith, below))
sells_what_is_left h H n caller (Do (Resize night rooms)) reply certificate replies below =
    rw (cond_same {X = ℕ} (is_group_accepted reply) 0)
    (elim (cases_Bool (is_done reply)) [
      | inl done ↦
          rw done
          (elim (cases_Bool (night == n)) [
            | inl here ↦
                let above : sold_at h H night ≤ rooms = done_is_above_sold h H night rooms (sym (ap is_done replies) ∙ done) in
                let e : night ≡ n = eqb-true _ _ here in
                rw here (omega (arith, above, ap (sold_at h H) e))
            | inr other ↦ rw other (omega (arith, below))
          ])
      | inr undone ↦ rw undone (omega (arith, below))
    ])
sells_what_is_left h H n caller (Do (Group span rooms amount)) reply certificate replies below =
    rw (cond_same {X = Option ℕ} (is_done reply) None)
    (elim (cases_Bool (is_group_accepted reply)) [
      | inl accepted ↦
          rw accepted
          (elim (cases_Bool (covers span n)) [
            | inl inside ↦
                let enough : rooms ≤ rooms_left_at h H n =
                enough_on (rooms_left_at h H) rooms span n (accepted_group_has_rooms h H span rooms amount reply replies accepted) inside in
                rw inside (omega (arith, enough, below))
            | inr outside ↦ rw outside (omega (arith, below))
          ])
      | inr refused ↦ rw refused (omega (arith, below))
    ])
sells_what_is_left h H n caller (Publish position) reply certificate replies below =
    rw (cond_same {X = Option ℕ} (is_done reply) None, cond_same {X = ℕ} (is_group_accepted reply) 0) (omega (arith, below))
sells_what_is_left h H n caller Enrol reply certificate replies below =
    rw (cond_same {X = Option ℕ} (is_done reply) None, cond_same {X = ℕ} (is_group_accepted reply) 0) (omega (arith, below))
sells_what_is_left h H n caller Leave reply certificate replies below =
    rw (cond_same {X = Option ℕ} (is_done reply) None, cond_same {X = ℕ} (is_group_accepted reply) 0) (omega (arith, below))

-- what holds at each position of a legal history
pub record IsSound (h : Inn) (H : History) : Type 0 where
  pub sold : (n : ℕ) → n < length h.rooms → sold_at h H n ≤ rooms_at h H n
  pub rooms : (n : ℕ) → n < length h.rooms → rooms_at h H n ≤ MOST_ROOMS
  pub rates : (j : ℕ) → j < length h.stays → IsRate (rate_of h H j)
  pub counts : (j : ℕ) → j < length h.stays → last_value (λ (x : Line). reforecast_count j x.entry.act) (house_stay h j).forecast H ≤ MOST_FORECAST

sound_at_start : (h : Inn) → IsHouse h → IsSound h []
sound_at_start h is = record {
  sold = λ n g. omega (arith, is.sold n g);
  rooms = λ n g. is.rooms n 0 g;
  rates = λ j g. is.instance.rates j no_stay g;
  counts = λ j g. is.instance.forecasts j no_stay g;
}

rooms_stay_small : (h : Inn) (H : History) (n : ℕ) (x : Line) → IsTrue (is_in_range h x.entry.act) → rooms_at h H n ≤ MOST_ROOMS →
    rooms_at h (H ++ x ∷ []) n ≤ MOST_ROOMS
rooms_stay_small h H n x range before =
    rw (last_value-push (resized_rooms n) (slice_index h.rooms n) H x)
    (elim (cases_Option (resized_rooms n x)) [
      | inl none ↦ rw none before
      | inr (r, some) ↦ rw some (rooms_in_range h n x.entry.act r range (cond_some_of (is_done x.entry.reply) _ r some))
    ])

rates_stay_rates : (h : Inn) (H : History) (j : ℕ) (x : Line) → IsTrue (is_in_range h x.entry.act) → IsRate (rate_of h H j) → IsRate (rate_of h (H ++ x ∷ []) j)
rates_stay_rates h H j x range before =
    let rate : Line → Option ℕ = λ y. reprice_rate j y.entry.act in
    subst IsRate (sym (last_value-push rate (house_stay h j).rate H x))
    (elim (cases_Option (reprice_rate j x.entry.act)) [
      | inl none ↦ let e : rate_of h H j ≡ unwrap_or (rate x) (rate_of h H j) = ap (λ o. unwrap_or o (rate_of h H j)) (sym none) in subst IsRate e before
      | inr (r, some) ↦ let e : r ≡ unwrap_or (rate x) (rate_of h H j) = ap (λ o. unwrap_or o (rate_of h H j)) (sym some) in
          subst IsRate e (rate_in_range h j x.entry.act r range some)
    ])

counts_stay_small : (h : Inn) (j d : ℕ) (H : History) (x : Line) → IsTrue (is_in_range h x.entry.act) →
    last_value (λ (y : Line). reforecast_count j y.entry.act) d H ≤ MOST_FORECAST →
    last_value (λ (y : Line). reforecast_count j y.entry.act) d (H ++ x ∷ []) ≤ MOST_FORECAST
counts_stay_small h j d H x range before =
    let count : Line → Option ℕ = λ y. reforecast_count j y.entry.act in
    rw (last_value-push count d H x)
    (elim (cases_Option (reforecast_count j x.entry.act)) [
      | inl none ↦ rw none before
      | inr (r, some) ↦ rw some (count_in_range h j x.entry.act r range some)
    ])

pub sound_more : (h : Inn) (H : History) (x : Line) → IsSound h H → IsLegalLine h H x → IsSound h (H ++ x ∷ [])
sound_more h H x sound legal = record {
  sold = λ n g.
      let sells = sells_what_is_left h H n x.entry.caller x.entry.act x.entry.reply x.certificate legal.reply (sound.sold n g) in
      omega (arith, sells, sold_at-push_le h H x n, last_value-push (resized_rooms n) (slice_index h.rooms n) H x);
  rooms = λ n g. rooms_stay_small h H n x legal.range (sound.rooms n g);
  rates = λ j g. rates_stay_rates h H j x legal.range (sound.rates j g);
  counts = λ j g. counts_stay_small h j (house_stay h j).forecast H x legal.range (sound.counts j g);
}

-- at each position of a legal history
pub sound_at : (h : Inn) (H : History) (n : ℕ) → IsHouse h → IsLegal h H → n ≤ length H → IsSound h (take n H)
sound_at h H n is legal within = at_each_position h (IsSound h) (sound_at_start h is) (λ G x sound line. sound_more h G x sound line) H legal n within

pub units_stay_small : (h : Inn) (H : History) (n : ℕ) → IsHouse h → IsSound h H → n < length h.rooms → units_left_at h H n ≤ MOST_UNITS
units_stay_small h H n is sound g =
    let unit = unit_is_small h.limits.unit is.unit in
    let left : rooms_left_at h H n ≤ MOST_ROOMS = omega (arith, sound.rooms n g) in
    omega (arith, mul-le-mul unit.1 left)

pub keeps_limits : (h : Inn) (H : History) → IsHouse h → IsSound h H → KeepsLimits h H
keeps_limits h H is sound =
    let nights = length-map-range_with_len (units_left_at h H) 0 (length h.rooms) in
    let stays = length-map-range_with_len (stay_now h H) 0 (length h.stays) in
    let stay_is = λ (j : ℕ). λ (d : Stay). λ (g : j < length h.stays). get_or-map-range_with_len (stay_now h H) 0 (length h.stays) j j d g (omega arith) in
    record {
      not_oversold = sound.sold;
      instance = record {
        some_night = omega (arith, is.instance.some_night, nights);
        nights = omega (arith, is.instance.nights, nights);
        stays = omega (arith, is.instance.stays, stays);
        rooms = λ n d g. let e = get_or-map-range_with_len (units_left_at h H) 0 (length h.rooms) n n d (omega (arith, nights)) (omega arith) in
            omega (arith, e, units_stay_small h H n is sound (omega (arith, nights)));
        spans = λ j d g. let within : j < length h.stays = omega (arith, stays) in rw (stay_is j d within, nights) (is.instance.spans j no_stay within);
        rates = λ j d g. let within : j < length h.stays = omega (arith, stays) in rw (stay_is j d within) (sound.rates j within);
        forecasts = λ j d g. let within : j < length h.stays = omega (arith, stays) in rw (stay_is j d within) (omega (arith, sound.counts j within));
      };
    }

pub never_oversold : NeverOversold
never_oversold h H position is legal within = keeps_limits h (take position H) is (sound_at h H position is legal within)

-- after a legal history
pub sound_now : (h : Inn) (H : History) → IsHouse h → IsLegal h H → IsSound h H
sound_now h H is legal = subst (IsSound h) (take-length H) (sound_at h H (length H) is legal (omega arith))
