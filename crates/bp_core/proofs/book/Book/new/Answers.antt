use Rattle.std.proofs.Common.{◌∙◌, ◌+◌, ◌++◌, ◌∷◌, [], ap, List, ℕ, replicate}
use Rattle.std.specs.Arc.{arc_value}
use Rattle.bp_types.specs.declared.command.Limits.{Limits}
use Rattle.bp_types.specs.declared.limits.TheConstants.{CALLERS}
use Rattle.bp_core.specs.declared.roll.Standing.TheVariants.{New}
use Rattle.bp_core.specs.Acting.{opening_line}
use Rattle.bp_core.specs.Lines.{vectors}
use Rattle.bp_core.specs.Log.{LogView, published_line}
use Rattle.bp_core.proofs.Openings.{opening_in_step}
use Rattle.bp_core.proofs.book.Book.new.Goals as goal

pub invariant_of-result : goal.invariant_of-result
invariant_of-result c =
    let h = c.args.house in
    let posted = c.post.ensures.posted ∙
    ap (λ (l : LogView). record {
      lines = l.lines ++ published_line 0 (arc_value c.args.board) (vectors l.lines) ∷ [];
      deltas = l.deltas ++ [] ∷ [];
      line_room = l.line_room;
      board_room = l.board_room;
    }) c.in_ok-log.ensures in
    let log = posted ∙ ap (λ (m : Limits). record {
      lines = opening_line (arc_value c.args.board) ∷ [];
      deltas = [] ∷ [];
      line_room =
          m.entries + m.publications + 130;
      board_room = m.publications;
    }) c.limits-limits.ensures.value in
    let roll = c.in_ok-roll.ensures ∙
    ap (λ (m : Limits). record { standings = replicate CALLERS New; bookings = replicate CALLERS []; room = m.entries }) c.limits-limits.ensures.value in
    let ledger = ap (λ (r : List ℕ). record { rooms = r; sold = c.in_ok-ledger.ledger.sold }) c.in_ok-ledger.ensures.0 ∙
    ap (λ (s : List ℕ). record { rooms = c.args.house.rooms; sold = s }) c.in_ok-ledger.ensures.1 in
    opening_in_step c.args.house _ _ _ _ _ (arc_value c.args.board)
    c.limits-limits.ensures.house c.requires.position c.requires.certificate log roll ledger c.in_ok-forecasts.ensures c.in_ok-rates.ensures
