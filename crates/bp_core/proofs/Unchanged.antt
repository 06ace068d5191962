-- Lines that are no change leave the instance.
use Rattle.std.proofs.Common.{
  ◌≡◌,
  ℕ,
  zero,
  suc,
  ◌+◌,
  ◌*◌,
  ◌-◌,
  ◌<◌,
  ◌≤◌,
  refl,
  ap,
  sym,
  ◌∙◌,
  arith,
  Bool,
  false,
  cond,
  ◌==◌,
  ◌&&◌,
  List,
  [],
  ◌∷◌,
  ◌++◌,
  length,
  map,
  take,
  count_by,
  Option,
  None,
  slice_index,
  unwrap_or,
  inl,
  inr,
}
use Rattle.std.specs.List.{range_with_len}
use Rattle.std.proofs.Math.Seq.{take-length}
use Rattle.std.proofs.lemmas.Bool.{cases_Bool}
use Rattle.std.proofs.lemmas.List.FromFn.{fill_by_all, length-map-range_with_len, get_or-map-range_with_len}
use Rattle.bp_types.specs.declared.stay.Stay.{Stay}
use Rattle.bp_types.specs.declared.command.Command.TheVariants.{Book, Cancel, Reforecast, Reprice, Resize, Group}
use Rattle.bp_types.specs.Claim.{Claim}
use Rattle.bp_types.specs.Program.{no_stay}
use Rattle.bp_types.specs.House.{Inn}
use Rattle.bp_core.specs.declared.line.Act.{Act}
use Rattle.bp_core.specs.declared.line.Act.TheVariants.{Do, Publish, Enrol, Leave}
use Rattle.bp_core.specs.declared.line.Reply.{Reply}
use Rattle.bp_core.specs.declared.line.Line.{Line}
use Rattle.bp_core.specs.Lines.{History, line_at, is_done, is_group_accepted}
use Rattle.bp_core.specs.Changes.{is_change, act_changes, changes_after}
use Rattle.bp_core.specs.Instance.{
  resized_rooms,
  rooms_at,
  sold_at,
  reforecast_count,
  forecast_of,
  reprice_rate,
  rate_of,
  span_of,
  stay_now,
  units_left_at,
  instance_of,
}
use Rattle.bp_core.specs.Log.{changes_in}
use Rattle.bp_core.proofs.Counts.{and_false}
use Rattle.bp_core.proofs.Cases.{cond_same}
use Rattle.bp_core.proofs.Effects.{numbers_same, rate_kept}
use Rattle.bp_core.proofs.LogLemmas.{changes_between-in}
use Rattle.bp_core.proofs.Prefixes.{take-more}
use Rattle.bp_core.proofs.Pushes.{last_value-push, count-push}
use Rattle.bp_core.proofs.Quiet.{IsQuiet, quiet_forecast}
use Rattle.bp_core.proofs.Sold.{sold_at-push}

-- a line that is no change is quiet, and sets no forecast and no rate
pub record IsStill (x : Line) : Type 0 where
  pub quiet : IsQuiet x
  pub no_count : (j : ℕ) → reforecast_count j x.entry.act ≡ None
  pub no_rate : (j : ℕ) → reprice_rate j x.entry.act ≡ None

still : (caller : ℕ) (act : Act) (reply : Reply) (certificate : Option Claim) → act_changes act reply ≡ false →
    IsStill (record { entry = record { caller = caller; act = act; reply = reply }; certificate = certificate })
still caller (Do (Book stay)) reply certificate silent = absurd (cc)
still caller (Do (Cancel nth)) reply certificate silent = record {
  quiet = record {
    no_book = refl;
    no_resize = λ n. cond_same {X = Option ℕ} (is_done reply) None;
    no_cancel = λ k m. ap (λ b. (caller == k) && ((nth == m) && b)) silent ∙ ap (λ b. (caller == k) && b) (and_false (nth == m)) ∙ and_false (caller == k);
    no_group = λ n. cond_same {X = ℕ} (is_group_accepted reply) 0;
  };
  no_count = λ j. refl;
  no_rate = λ j. refl;
}
still caller (Do (Reforecast stay count)) reply certificate silent = absurd (cc)
still caller (Do (Reprice stay rate)) reply certificate silent = absurd (cc)
still caller (Do (Resize night rooms)) reply certificate silent = record {
  quiet = record {
    no_book = refl;
    no_resize = λ n. rw silent refl;
    no_cancel = λ k m. and_false (caller == k);
    no_group = λ n. cond_same {X = ℕ} (is_group_accepted reply) 0;
  };
  no_count = λ j. refl;
  no_rate = λ j. refl;
}
still caller (Do (Group span rooms amount)) reply certificate silent = record {
  quiet = record {
    no_book = refl;
    no_resize = λ n. cond_same {X = Option ℕ} (is_done reply) None;
    no_cancel = λ k m. and_false (caller == k);
    no_group = λ n. rw silent refl;
  };
  no_count = λ j. refl;
  no_rate = λ j. refl;
}
still caller (Publish position) reply certificate silent = record {
  quiet = record {
    no_book = refl;
    no_resize = λ n. cond_same {X = Option ℕ} (is_done reply) None;
    no_cancel = λ k m. and_false (caller == k);
    no_group = λ n. cond_same {X = ℕ} (is_group_accepted reply) 0;
  };
  no_count = λ j. refl;
  no_rate = λ j. refl;
}
still caller Enrol reply certificate silent = record {
  quiet = record {
    no_book = refl;
    no_resize = λ n. cond_same {X = Option ℕ} (is_done reply) None;
    no_cancel = λ k m. and_false (caller == k);
    no_group = λ n. cond_same {X = ℕ} (is_group_accepted reply) 0;
  };
  no_count = λ j. refl;
  no_rate = λ j. refl;
}
still caller Leave reply certificate silent = record {
  quiet = record {
    no_book = refl;
    no_resize = λ n. cond_same {X = Option ℕ} (is_done reply) None;
    no_cancel = λ k m. and_false (caller == k);
    no_group = λ n. cond_same {X = ℕ} (is_group_accepted reply) 0;
  };
  no_count = λ j. refl;
  no_rate = λ j. refl;
}

-- a line that is no change leaves the instance
pub instance_kept : (h : Inn) (H : History) (x : Line) → is_change x ≡ false → instance_of h H ≡ instance_of h (H ++ x ∷ [])
instance_kept h H x silent =
    let s = still x.entry.caller x.entry.act x.entry.reply x.certificate silent in
    let rooms : (n : ℕ) → rooms_at h H n ≡ rooms_at h (H ++ x ∷ []) n =
    λ n. sym (last_value-push (resized_rooms n) (slice_index h.rooms n) H x ∙ ap (λ o. unwrap_or o (rooms_at h H n)) (s.quiet.no_resize n)) in
    let sold : (n : ℕ) → sold_at h H n ≡ sold_at h (H ++ x ∷ []) n =
    λ n. sym (sold_at-push h H x n s.quiet.no_cancel ∙ rw (s.quiet.no_book, s.quiet.no_group n) (omega arith)) in
    let left : (n : ℕ) → units_left_at h H n ≡ units_left_at h (H ++ x ∷ []) n = λ n. ap (λ r. h.limits.unit * (r - sold_at h H n)) (rooms n) ∙
    ap (λ t. h.limits.unit * (rooms_at h (H ++ x ∷ []) n - t)) (sold n) in
    let stay : (j : ℕ) → stay_now h H j ≡ stay_now h (H ++ x ∷ []) j =
    λ j. ap (λ r. record { span = span_of h j; rate = r; forecast = forecast_of h H j }) (rate_kept h H x j (s.no_rate j)) ∙
    ap (λ f. record { span = span_of h j; rate = rate_of h (H ++ x ∷ []) j; forecast = f }) (quiet_forecast h H x j s.quiet (s.no_count j)) in
    let all_rooms = numbers_same (units_left_at h H) (units_left_at h (H ++ x ∷ [])) (length h.rooms) (λ n g. left n) in
    let all_stays = fill_by_all (stay_now h (H ++ x ∷ [])) (map (stay_now h H) (range_with_len 0 (length h.stays))) (length h.stays) no_stay
    (length-map-range_with_len (stay_now h H) 0 (length h.stays))
    (λ j g. get_or-map-range_with_len (stay_now h H) 0 (length h.stays) j j no_stay g (omega arith) ∙ stay j) in
    ap (λ (r : List ℕ). record { rooms = r; stays = (instance_of h H).stays }) all_rooms ∙
    ap (λ (t : List Stay). record { rooms = (instance_of h (H ++ x ∷ [])).rooms; stays = t }) all_stays

changes_in-more : (H : History) (k : ℕ) → k < length H → changes_in H (k + 1) ≡ changes_in H k + cond (is_change (line_at H k)) 1 0
changes_in-more H k within = ap (count_by is_change) (take-more H k within) ∙ count-push is_change (take k H) (line_at H k)

-- while no change comes
instance_stays : (h : Inn) (H : History) (d p : ℕ) → p + d ≡ length H → changes_in H p ≡ changes_in H (length H) → instance_of h (take p H) ≡ instance_of h H
instance_stays h H zero p at same = ap (instance_of h) (ap (λ n. take n H) (let e : p ≡ length H = omega arith in e) ∙ take-length H)
instance_stays h H (suc d) p at same =
    let more = changes_in-more H p (omega arith) in
    let rest = changes_between-in H (p + 1) (length H) (omega arith) in
    let still_none : ◌≡◌ {A = ℕ} (cond (is_change (line_at H p)) 1 0) 0 = omega (arith, more, rest, same) in
    let next : changes_in H (p + 1) ≡ changes_in H (length H) = omega (arith, more, still_none, same) in
    let silent : is_change (line_at H p) ≡ false = elim (cases_Bool (is_change (line_at H p))) [
      | inl t ↦ absurd (let e = ap (λ (b : Bool). cond {A = ℕ} b 1 0) t in omega (arith, e, still_none))
      | inr f ↦ f
    ] in
    instance_kept h (take p H) (line_at H p) silent ∙ ap (instance_of h) (sym (take-more H p (omega arith))) ∙ instance_stays h H d (p + 1) (omega arith) next

pub instance_unchanged : (h : Inn) (H : History) (p : ℕ) → p ≤ length H → changes_after H p ≡ 0 → instance_of h (take p H) ≡ instance_of h H
instance_unchanged h H p within none =
    instance_stays h H (length H - p) p (omega arith) (let e = changes_between-in H p (length H) within in omega (arith, e, none))
