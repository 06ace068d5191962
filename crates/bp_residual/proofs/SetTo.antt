-- An instance set to another one of the same nights and spans, stay by stay and night by night.
use Rattle.std.proofs.Common.{
  ◌≡◌,
  ℕ,
  ◌+◌,
  ◌<◌,
  ◌≤◌,
  ◌∙◌,
  sym,
  ap,
  subst,
  arith,
  List,
  length,
  slice_index,
  slice_index_or,
  slice_set,
  inl,
  inr,
  get_or-set_same,
  get_or-set_other,
  length-set,
}
use Rattle.std.proofs.lemmas.Bool.{cases_eq}
use Rattle.std.proofs.lemmas.List.{same_lists, get_or_default, set-set}
use Rattle.bp_types.specs.declared.stay.Span.{Span}
use Rattle.bp_types.specs.declared.stay.Stay.{Stay}
use Rattle.bp_types.specs.declared.change.Change.TheVariants.{Demand, Rate}
use Rattle.bp_types.specs.Program.{Program, no_stay, stay_at}
use Rattle.bp_types.specs.Changes.{changed, with_forecast, with_rate}
use Rattle.bp_residual.specs.Alike.{IsAlike}

-- the programs are alike, and the stays below a number are the other's
pub record StaysSoFar (p q : Program) (k : ℕ) : Type 0 where
  pub alike : IsAlike p q
  pub done : (j : ℕ) → j < k → stay_at p j ≡ stay_at q j

-- there are as many nights, and those below a number have the other's rooms
pub record RoomsSoFar (xs ys : List ℕ) (k : ℕ) : Type 0 where
  pub each : length xs ≡ length ys
  pub done : (n : ℕ) → n < k → slice_index xs n ≡ slice_index ys n

-- a stay gets the forecast and the rate of another one of its span
pub terms_set : (p : Program) (j : ℕ) (t : Stay) → j < length p.stays → (stay_at p j).span ≡ t.span →
    (changed (changed p (Demand j t.forecast)) (Rate j t.rate)).stays ≡ slice_set p.stays j t
terms_set p j t h span =
    let once : Stay = with_forecast (stay_at p j) t.forecast in
    let p1 : Program = changed p (Demand j t.forecast) in
    let at_one : stay_at p1 j ≡ once = get_or-set_same p.stays j once no_stay h in
    let make : Span → Stay = λ s. record { span = s; rate = t.rate; forecast = t.forecast } in
    let back : with_rate (stay_at p1 j) t.rate ≡ t = ap (λ (z : Stay). with_rate z t.rate) at_one ∙ ap make span in
    set-set p.stays j once (with_rate (stay_at p1 j) t.rate) ∙ ap (λ (z : Stay). slice_set p.stays j z) back

-- one stay more, which was the other's already
pub stay_kept : (p q : Program) (k : ℕ) → StaysSoFar p q k → stay_at p k ≡ stay_at q k → StaysSoFar p q (k + 1)
stay_kept p q k so_far is =
    let P : ℕ → Type 0 = λ v. stay_at p v ≡ stay_at q v in
    record {
      alike = so_far.alike;
      done = λ j h. elim (cases_eq j k) [
        | inl e ↦ subst P (sym e) is
        | inr ne ↦ so_far.done j (omega arith)
      ];
    }

-- one stay more, which is set to the other's
pub stay_set : (p q r : Program) (k : ℕ) (t : Stay) → StaysSoFar p q k → k < length q.stays → t ≡ stay_at q k → r.rooms ≡ p.rooms →
    r.stays ≡ slice_set p.stays k t → StaysSoFar r q (k + 1)
stay_set p q r k t so_far in_range is rooms stays =
    let at : (j : ℕ) → stay_at r j ≡ slice_index_or (slice_set p.stays k t) j no_stay = λ j. ap (λ (ss : List Stay). slice_index_or ss j no_stay) stays in
    let here : stay_at r k ≡ stay_at q k = at k ∙ get_or-set_same p.stays k t no_stay (omega (arith, so_far.alike.stays, in_range)) ∙ is in
    let other : (j : ℕ) → (j ≡ k → ⊥) → stay_at r j ≡ stay_at p j = λ j ne. at j ∙ get_or-set_other p.stays k j t no_stay ne in
    let each : length r.stays ≡ length p.stays = ap (λ (ss : List Stay). length ss) stays ∙ length-set p.stays k t in
    let P : ℕ → Type 0 = λ v. stay_at r v ≡ stay_at q v in
    let S : ℕ → Type 0 = λ v. (stay_at r v).span ≡ (stay_at q v).span in
    record {
      alike = record {
        nights = ap (λ (rs : List ℕ). length rs) rooms ∙ so_far.alike.nights;
        stays = each ∙ so_far.alike.stays;
        spans = λ j h. elim (cases_eq j k) [
          | inl e ↦ subst S (sym e) (ap (λ (s : Stay). s.span) here)
          | inr ne ↦ ap (λ (s : Stay). s.span) (other j ne) ∙ so_far.alike.spans j (omega (arith, each, h))
        ];
      };
      done = λ j h. elim (cases_eq j k) [
        | inl e ↦ subst P (sym e) here
        | inr ne ↦ other j ne ∙ so_far.done j (omega arith)
      ];
    }

-- all stays are the other's
pub stays_done : (p q : Program) (k : ℕ) → StaysSoFar p q k → length q.stays ≤ k → p.stays ≡ q.stays
stays_done p q k so_far all =
    same_lists p.stays q.stays so_far.alike.stays (λ j d h.
    get_or_default p.stays j d no_stay h ∙ so_far.done j (omega (arith, h, so_far.alike.stays, all)) ∙
    get_or_default q.stays j no_stay d (omega (arith, h, so_far.alike.stays)))

-- one night more, which has the other's rooms already
pub night_kept : (xs ys : List ℕ) (k : ℕ) → RoomsSoFar xs ys k → slice_index xs k ≡ slice_index ys k → RoomsSoFar xs ys (k + 1)
night_kept xs ys k so_far is =
    let P : ℕ → Type 0 = λ v. slice_index xs v ≡ slice_index ys v in
    record {
      each = so_far.each;
      done = λ n h. elim (cases_eq n k) [
        | inl e ↦ subst P (sym e) is
        | inr ne ↦ so_far.done n (omega arith)
      ];
    }

-- one night more, whose rooms are set to the other's
pub night_set : (xs ys zs : List ℕ) (k rooms : ℕ) → RoomsSoFar xs ys k → k < length ys → rooms ≡ slice_index ys k → zs ≡ slice_set xs k rooms →
    RoomsSoFar zs ys (k + 1)
night_set xs ys zs k rooms so_far in_range is set =
    let at : (n : ℕ) → slice_index zs n ≡ slice_index (slice_set xs k rooms) n = λ n. ap (λ (rs : List ℕ). slice_index rs n) set in
    let here : slice_index zs k ≡ slice_index ys k = at k ∙ get_or-set_same xs k rooms 0 (omega (arith, so_far.each, in_range)) ∙ is in
    let P : ℕ → Type 0 = λ v. slice_index zs v ≡ slice_index ys v in
    record {
      each = ap (λ (rs : List ℕ). length rs) set ∙ length-set xs k rooms ∙ so_far.each;
      done = λ n h. elim (cases_eq n k) [
        | inl e ↦ subst P (sym e) here
        | inr ne ↦ at n ∙ get_or-set_other xs k n rooms 0 ne ∙ so_far.done n (omega arith)
      ];
    }

-- all nights have the other's rooms
pub rooms_done : (xs ys : List ℕ) (k : ℕ) → RoomsSoFar xs ys k → k ≡ length ys → xs ≡ ys
rooms_done xs ys k so_far all =
    same_lists xs ys so_far.each (λ n d h.
    get_or_default xs n d 0 h ∙ so_far.done n (omega (arith, h, so_far.each, all)) ∙ get_or_default ys n 0 d (omega (arith, h, so_far.each)))

-- programs with the same rooms and stays are one
pub same_program : (p q : Program) → p.rooms ≡ q.rooms → p.stays ≡ q.stays → p ≡ q
same_program p q rooms stays =
    let with_rooms : List ℕ → Program = λ rs. record { rooms = rs; stays = p.stays } in
    let with_stays : List Stay → Program = λ ss. record { rooms = q.rooms; stays = ss } in
    ap with_rooms rooms ∙ ap with_stays stays
