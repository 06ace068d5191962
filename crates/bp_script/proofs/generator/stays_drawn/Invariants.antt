use Rattle.std.proofs.Common.{◌≡◌, ◌*◌, map}
use Rattle.std.specs.Prelude.{All}
use Rattle.std.specs.List.{range_with_len}
use Rattle.bp_script.specs.Demo.{state_after, stay_drawn, IsSmallStay}
use Rattle.bp_script.proofs.generator.stays_drawn.Given as goal

-- the stays so far are drawn, four draws each
abbrev pub invariant-loop-number : goal.invariant-loop-number
invariant-loop-number l = record {
  state : l.draws ≡ state_after l.seed (4 * l._number);
  drawn : l.drawn.items ≡ map (stay_drawn l.seed l.nights) (range_with_len 0 l._number);
  small : All (IsSmallStay l.nights) l.drawn.items;
}
