-- A solver from nothing, shortage by shortage.
use Rattle.std.proofs.Common.{◌≡◌, ℕ, ◌+◌, ◌-◌, ◌<◌, ◌≤◌, ap, ◌∙◌, sym, subst, arith, Bool, List, true, false, length, slice_index, inl, inr}
use Rattle.bp_types.specs.Limits.{IsWithinLimits}
use Rattle.std.proofs.lemmas.Bool.{cases_eq}
use Rattle.std.proofs.lemmas.List.{same_lists, get_or_default}
use Rattle.bp_types.specs.declared.stay.Span.{Span}
use Rattle.bp_types.specs.declared.stay.Stay.{Stay}
use Rattle.bp_types.specs.declared.change.Change.TheVariants.{Rooms}
use Rattle.bp_types.specs.Program.{Program}
use Rattle.bp_types.specs.Rooms.{moved, room_moved, rooms_moved}
use Rattle.bp_types.specs.Changes.{changed, Fits}
use Rattle.bp_types.proofs.RoomLemmas.{length-rooms_moved, rooms_moved-at, room_moved-inside, room_moved-before}
use Rattle.bp_residual.specs.Network.{Priced, Flow, IsPriced, IsEmptyFlowOf, greatest_rate}
use Rattle.bp_residual.proofs.Empty.{empty_is_slack, empty_is_balanced}
use Rattle.bp_flow.specs.Solving.{Solving, priced}
use Rattle.bp_flow.specs.Rising.{rises, repairs}
use Rattle.bp_flow.specs.Solvers.{IsSolvedFlow, IsSolved, ColdSoFar, IsShortage, HasAll, IsSolverOf, lacking, difference}
use Rattle.bp_flow.specs.Settled.{IsSettled}
use Rattle.bp_flow.proofs.Rising.{repairs_fall, repairs_from_none}

pub cold_none : (program copied : Program) (p : Priced) → copied ≡ program → IsPriced p → IsEmptyFlowOf copied p → ColdSoFar program 0 p
cold_none program copied p same priced made =
    record {
      solved = record {
        priced = priced;
        balanced = empty_is_balanced p (greatest_rate copied) made.empty;
        slack =
            empty_is_slack p (greatest_rate copied) priced made.empty;
      };
      stays = made.stays ∙ ap (λ (x : Program). x.stays) same;
      each = made.nights ∙ ap (λ (x : Program). length x.rooms) same;
      done = λ n h. absurd (omega arith);
    }

-- and no more repairs lead from it to the program's rooms than those rise by
pub none_repaired : (program copied : Program) (p : Priced) → IsEmptyFlowOf copied p → repairs p.flow.program.rooms program.rooms ≤ rises program.rooms
none_repaired program copied p made = repairs_from_none p.flow.program.rooms program.rooms made.empty.rooms

-- the rooms of a night after a move
after_move : (was : List ℕ) (span : Span) (up : Bool) (units n : ℕ) → n < length was →
    slice_index (rooms_moved was span up units) n ≡ room_moved was span up units n
after_move was span up units n h = rooms_moved-at was span up units n 0 h

pub cold_moved : (program : Program) (p q : Priced) (up : Bool) (night to units : ℕ) → ColdSoFar program night p →
    IsShortage program p.flow.program.rooms up night to units
    → q.flow.program ≡ changed p.flow.program (Rooms (record { from = night; to = to }) up units) → IsSolvedFlow q → ColdSoFar program night q
cold_moved program p q up night to units so_far shortage is solved =
    let was : List ℕ = p.flow.program.rooms in
    let span : Span = record { from = night; to = to } in
    let rooms : q.flow.program.rooms ≡ rooms_moved was span up units = ap (λ (r : Program). r.rooms) is in
    let at : (n : ℕ) → n < length was → slice_index q.flow.program.rooms n ≡ room_moved was span up units n = λ n h. ap (λ xs. slice_index xs n) rooms ∙
    after_move was span up units n h in
    record {
      solved = solved;
      stays = ap (λ (r : Program). r.stays) is ∙ so_far.stays;
      each = ap (λ (xs : List ℕ). length xs) rooms ∙ length-rooms_moved was span up units ∙ so_far.each;
      done = λ n h. at n (omega (arith, so_far.each, shortage.some_night, shortage.in_range, h)) ∙ room_moved-before was span up units n h ∙ so_far.done n h;
    }

-- the first night of the shortage is nearer to the program's rooms after a move
pub cold_nearer : (program : Program) (p q : Priced) (up : Bool) (night to units : ℕ) → length p.flow.program.rooms ≡ length program.rooms →
    IsShortage program p.flow.program.rooms up night to units
    → q.flow.program ≡ changed p.flow.program (Rooms (record { from = night; to = to }) up units) →
    difference (slice_index q.flow.program.rooms night) (slice_index program.rooms night) < difference (slice_index p.flow.program.rooms night)
    (slice_index program.rooms night)
cold_nearer program p q up night to units each shortage is =
    let was : List ℕ = p.flow.program.rooms in
    let span : Span = record { from = night; to = to } in
    let rooms : q.flow.program.rooms ≡ rooms_moved was span up units = ap (λ (r : Program). r.rooms) is in
    let at : slice_index q.flow.program.rooms night ≡ moved (slice_index was night) up units = ap (λ xs. slice_index xs night) rooms ∙
    after_move was span up units night (omega (arith, each, shortage.some_night, shortage.in_range)) ∙
    room_moved-inside was span up units night (omega arith) shortage.some_night in
    by_way up at (shortage.each night (omega arith) shortage.some_night)
  where
    by_way : (b : Bool) → slice_index q.flow.program.rooms night ≡ moved (slice_index p.flow.program.rooms night) b units →
        units ≤ lacking b (slice_index p.flow.program.rooms night) (slice_index program.rooms night) →
        difference (slice_index q.flow.program.rooms night) (slice_index program.rooms night) < difference (slice_index p.flow.program.rooms night)
        (slice_index program.rooms night)
    by_way true at lacks = omega (arith, at, lacks, shortage.some_units)
    by_way false at lacks = omega (arith, at, lacks, shortage.some_units)

-- and fewer repairs are left, by as many as units
pub cold_repaired : (program : Program) (p q : Priced) (up : Bool) (night to units : ℕ) → ColdSoFar program night p →
    IsShortage program p.flow.program.rooms up night to units → HasAll up program.rooms p.flow.program.rooms to
    → q.flow.program ≡ changed p.flow.program (Rooms (record { from = night; to = to }) up units) →
    repairs q.flow.program.rooms program.rooms + units ≡ repairs p.flow.program.rooms program.rooms
cold_repaired program p q up night to units so_far shortage whole is =
    let was : List ℕ = p.flow.program.rooms in
    let span : Span = record { from = night; to = to } in
    let rooms : q.flow.program.rooms ≡ rooms_moved was span up units = ap (λ (r : Program). r.rooms) is in
    repairs_fall program was q.flow.program.rooms up night to units shortage whole so_far.done (λ n h. ap (λ xs. slice_index xs n) rooms ∙
    after_move was span up units n (omega (arith, so_far.each, h)))

-- a night that has the program's rooms is done
pub cold_more : (program : Program) (p : Priced) (night : ℕ) → ColdSoFar program night p →
    slice_index p.flow.program.rooms night ≡ slice_index program.rooms night → ColdSoFar program (night + 1) p
cold_more program p night so_far same = record {
  solved = so_far.solved;
  stays = so_far.stays;
  each = so_far.each;
  done = λ n h. elim (cases_eq n night) [
    | inl e ↦ let P : ℕ → Type 0 = λ k. slice_index p.flow.program.rooms k ≡ slice_index program.rooms k in subst P (sym e) same
    | inr ne ↦ so_far.done n (omega arith)
  ];
}

-- a shortage fits, both ways
pub shortage_fits : (program : Program) (p : Program) (up : Bool) (night to units : ℕ) → IsWithinLimits program → length p.rooms ≡ length program.rooms →
    IsShortage program p.rooms up night to units → Fits p (Rooms (record { from = night; to = to }) up units)
shortage_fits program p true night to units limits each shortage = (
  (shortage.some_night, omega (arith, shortage.in_range, each)),
  λ n above below. let some = shortage.some_units in
      let lacks : units ≤ slice_index program.rooms n - slice_index p.rooms n = shortage.each n above below in
      omega (arith, lacks, some, limits.rooms n 0 (omega (arith, below, shortage.in_range))),
)
shortage_fits program p false night to units limits each shortage = (
  (shortage.some_night, omega (arith, shortage.in_range, each)),
  λ n above below. let lacks : units ≤ slice_index p.rooms n - slice_index program.rooms n =
      shortage.each n above below in omega (arith, lacks),
)

pub cold_all : (program : Program) (p q : Solving) → ColdSoFar program (length program.rooms) (priced p) → q.flow ≡ p.flow → IsSettled q → IsSolved q →
    IsSolverOf program q
cold_all program p q so_far same settled solved =
    let rooms : p.flow.program.rooms ≡ program.rooms =
    same_lists p.flow.program.rooms program.rooms so_far.each (λ k d h. get_or_default p.flow.program.rooms k d 0 h ∙
    so_far.done k (omega (arith, so_far.each)) ∙ get_or_default program.rooms k 0 d (omega (arith, so_far.each))) in
    let make : List ℕ → List Stay → Program = λ r s. record { rooms = r; stays = s } in
    record {
      solved = solved;
      settled = settled;
      solves = ap (λ (f : Flow). f.program) same ∙ ap (λ r. make r p.flow.program.stays) rooms ∙ ap (λ s. make program.rooms s) so_far.stays;
    }
