-- Where there are entries and vectors enough, a run is whole.
use Rattle.std.proofs.Common.{
  ◌≡◌,
  ◌≢◌,
  ◌⊎◌,
  inl,
  inr,
  ℕ,
  ◌+◌,
  ◌*◌,
  ◌/◌,
  ◌<◌,
  ◌≤◌,
  Bool,
  true,
  false,
  List,
  [],
  ◌∷◌,
  length,
  count_by,
  refl,
  sym,
  ap,
  subst,
  ◌∙◌,
  arith,
}
use Rattle.std.proofs.lemmas.Nat.{le-div}
use Rattle.bp_types.specs.House.{Inn}
use Rattle.bp_types.specs.declared.command.Command.{Command}
use Rattle.bp_core.specs.Lines.{History, calls, commands, vectors, last_position}
use Rattle.bp_core.specs.Changes.{changes_after}
use Rattle.bp_optimise.specs.declared.round.Round.{Round}
use Rattle.bp_optimise.specs.declared.round.Round.TheVariants.{Unchanged, Published, Superseded, PublicationsFull}
use Rattle.bp_desk_run.specs.DeskRun.{lead_of, IsDeskRun, NoEntryLeft, NoVectorLeft}
use Rattle.bp_desk_run.specs.DeskRun.{all_commands, HasRoomFor}
use Rattle.bp_desk_run.specs.Laws.{VectorsAreFew}
use Rattle.bp_desk_run.specs.Closing.{IsClosing, has_closed}
use Rattle.bp_desk_run.proofs.Counting.{other_vector, paid_after, bounded, vectors_few, opener_few, one_more}
use Rattle.bp_desk_run.proofs.Totals.{commands_at_most, commands_lacking}

lead_small : (n : ℕ) → 1 ≤ n → (n + 1) / 2 ≤ n
lead_small n le = omega (arith, le)

lead_positive : (n : ℕ) → 1 ≤ n → 1 ≤ (n + 1) / 2
lead_positive n le = omega (arith, le)

-- no session stops early
pub none_stops : (house : Inn) (scripts : List (List Command)) (workers : ℕ) (H : History) → IsDeskRun house scripts workers H →
    1 ≤ house.limits.stale_after → HasRoomFor house (all_commands scripts) → NoEntryLeft house scripts H ⊎ NoVectorLeft house scripts H → ⊥
none_stops house scripts workers H r some room (inl (full, (i, lt, other))) =
    let e = room.0 in
    absurd (omega (arith, commands_lacking house scripts workers H r i lt other, full, e))
none_stops house scripts workers H r some room (inr (full, stale, (i, lt, other))) =
    let lead = lead_of house in
    let p = paid_after house scripts workers H r in
    let k = count_by other_vector H in
    let under : (k + 1) * lead ≤ all_commands scripts =
    omega (arith, one_more k lead, p, stale, lead_small house.limits.stale_after some, commands_at_most house scripts workers H r) in
    let most : k + 1 ≤ all_commands scripts / lead =
    le-div (k + 1) (all_commands scripts) lead (let l = lead_positive house.limits.stale_after some in omega (arith, l)) under in
    let v = room.1 in
    absurd (omega (arith, most, v, full, vectors_few H, opener_few H r.opener))

-- vectors are few
pub vectors_are_few : VectorsAreFew
vectors_are_few house scripts workers H some r =
    bounded house scripts workers H (all_commands scripts) r (lead_positive house.limits.stale_after some) (commands_at_most house scripts workers H r)

-- and the last round finds a vector
pub closing_has_room : (house : Inn) (scripts : List (List Command)) (workers : ℕ) (H : History) → IsDeskRun house scripts workers H →
    1 ≤ house.limits.stale_after → HasRoomFor house (all_commands scripts) → length (calls H 0) ≤ 1 → vectors H ≡ house.limits.publications → ⊥
closing_has_room house scripts workers H r some room one full =
    let lead = lead_of house in
    let p = paid_after house scripts workers H r in
    let k = count_by other_vector H in
    let most : k ≤ all_commands scripts / lead =
    le-div k (all_commands scripts) lead (let l = lead_positive house.limits.stale_after some in
    omega (arith, l)) (let c = commands_at_most house scripts workers H r in omega (arith, p, c)) in
    let v = room.1 in
    absurd (omega (arith, most, v, full, one, vectors_few H))

-- a last round that found no number left made no entry
pub no_entry : (house : Inn) (G H : History) (round : Round) → IsClosing house G H round → has_closed round ≡ false → H ≡ G
no_entry house G H (Unchanged changes) c is = absurd (cc)
no_entry house G H (Published number) c is = absurd (cc)
no_entry house G H (Superseded p changes) c is = absurd c
no_entry house G H PublicationsFull c is = c.0
