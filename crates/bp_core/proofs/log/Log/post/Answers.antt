use Rattle.std.proofs.Common.{◌≡◌, ◌≤◌, ◌∙◌, sym, ap, arith, length, map, ℕ, refl, Some, Option, ◌++◌, ◌∷◌, []}
use Rattle.std.proofs.lemmas.List.{map-append, length-map}
use Rattle.std.specs.Arc.{arc_value}
use Rattle.bp_board.specs.Posted.{Posted}
use Rattle.bp_core.specs.declared.line.Act.TheVariants.{Publish}
use Rattle.bp_core.specs.declared.line.Reply.TheVariants.{Vector}
use Rattle.bp_core.specs.declared.line.Entry.{Entry}
use Rattle.bp_core.specs.Lines.{History, vectors}
use Rattle.bp_core.specs.Deltas.{delta_list}
use Rattle.bp_core.specs.Log.{LogView, lines_of, changes_in, published_line}
use Rattle.bp_core.proofs.LogLemmas.{length-lines_of, vectors-lines_of, counts-length, count_read, lines_of-push_board, log_more_board}
use Rattle.bp_core.proofs.log.Log.post.Goals as goal

pub index-changes-requires : goal.index-changes-requires
index-changes-requires c =
    omega (
      arith,
      c.self.inside.counts.ok.0,
      c.self.inside.entries.ok.0,
      counts-length _ _ _ _ _ c.self.invariant.0,
      length-lines_of c.self.inside.entries.items (map arc_value c.self.inside.boards.items),
    )

pub push_reserved-requires : goal.push_reserved-requires
push_reserved-requires c =
    omega (
      arith,
      c.self.inside.entries.ok.0,
      length-lines_of c.self.inside.entries.items (map arc_value c.self.inside.boards.items),
      ap (λ (l : LogView). length l.lines) c.self.view_is,
      ap (λ (l : LogView). l.line_room) c.self.view_is,
      c.requires.room,
    )

pub push_reserved-requires-2 : goal.push_reserved-requires-2
push_reserved-requires-2 c =
    let each : length (map arc_value c.self.inside.boards.items) ≡ length c.self.inside.boards.items = length-map _ _ in
    omega (
      arith,
      c.self.inside.boards.ok.0,
      each,
      c.self.invariant.0.as_many,
      ap (λ (l : LogView). vectors l.lines) c.self.view_is,
      ap (λ (l : LogView). l.board_room) c.self.view_is,
      c.requires.board_room,
    )

pub push_reserved-requires-4 : goal.push_reserved-requires-4
push_reserved-requires-4 c =
    omega (
      arith,
      c.self.inside.counts.ok.0,
      counts-length _ _ _ _ _ c.self.invariant.0,
      c.self.invariant.2,
      length-lines_of c.self.inside.entries.items (map arc_value c.self.inside.boards.items),
      ap (λ (l : LogView). length l.lines) c.self.view_is,
      ap (λ (l : LogView). l.line_room) c.self.view_is,
      c.requires.room,
    )

pub invariant_of-self : goal.invariant_of-self
invariant_of-self c =
    let es = c.self.inside.entries.items in
    let bs = map arc_value c.self.inside.boards.items in
    let H : History = lines_of es bs in
    let e : Entry = record { caller = c.args.caller; act = Publish c.position-position.result; reply = Vector c.len-number.result } in
    let at : c.len.result ≡ length es = c.len.ensures ∙ c.self.inside.entries.ok.0 in
    let within : c.len.result ≤ length H = omega (arith, at, length-lines_of es bs) in
    let read : c.index-changes.result.now ≡ changes_in H (length es) = count_read H _ _ _ _ c.len.result _ c.self.invariant.0 within c.index-changes.ensures ∙
    ap (changes_in H) at in
    let position = ap {B = Option ℕ} Some (c.position-position.ensures.value ∙ ap (λ (b : Posted). b.position) c.deref.ensures) in
    let more = log_more_board es e bs (arc_value c.args.board) (map delta_list c.self.inside.deltas.items) []
    c.self.inside.counts.items _ _ position refl refl c.self.invariant.0 read in
    rw (
      c.push_reserved.ensures.items,
      c.push_reserved-2.ensures.items,
      c.push_reserved-3.ensures.items,
      c.push_reserved-4.ensures.items,
      map-append,
      map-append,
    ) (more, omega arith, omega arith)

pub returns-clause-posted : goal.returns-clause-posted
returns-clause-posted c =
    let es = c.self.inside.entries.items in
    let bs = map arc_value c.self.inside.boards.items in
    let e : Entry = record { caller = c.args.caller; act = Publish c.position-position.result; reply = Vector c.len-number.result } in
    let pushed = lines_of-push_board es bs e (arc_value c.args.board) refl (c.self.invariant.0.as_many ∙ vectors-lines_of es bs) in
    let position : c.position-position.result ≡ (arc_value c.args.board).position = c.position-position.ensures.value ∙
    ap (λ (b : Posted). b.position) c.deref.ensures in
    let number : c.len-number.result ≡ vectors (lines_of es bs) = c.len-number.ensures ∙ c.self.inside.boards.ok.0 ∙ sym (length-map _ _) ∙
    c.self.invariant.0.as_many in
    let before = ap (λ (l : LogView). record {
      lines = l.lines ++ published_line c.args.caller (arc_value c.args.board) (vectors l.lines) ∷ [];
      deltas =
          l.deltas ++ [] ∷ [];
      line_room = l.line_room;
      board_room = l.board_room;
    }) c.self.view_is in
    rw (
      c.push_reserved.ensures.items,
      c.push_reserved-2.ensures.items,
      c.push_reserved-3.ensures.items,
      c.push_reserved.ensures.capacity,
      c.push_reserved-2.ensures.capacity,
      map-append,
      map-append,
      pushed,
      position,
      number,
    ) before
