use Rattle.std.proofs.Common.{◌≡◌, ◌+◌, ◌<◌, ◌≤◌, ◌∙◌, ap, arith, length, map, ℕ, cond, refl, ◌^◌, Bool, true, false, None, Option, is_some, ◌++◌, ◌∷◌, []}
use Rattle.std.proofs.lemmas.List.{map-append}
use Rattle.std.specs.Arc.{arc_value}
use mir.Val.{bool_byte}
use Rattle.bp_core.specs.declared.line.Line.{Line}
use Rattle.bp_core.specs.Lines.{History, is_command}
use Rattle.bp_core.specs.Changes.{is_change}
use Rattle.bp_core.specs.Deltas.{delta_list}
use Rattle.bp_core.specs.Log.{LogView, lines_of, changes_in, publishes}
use Rattle.bp_core.proofs.LogLemmas.{length-lines_of, counts-length, count_read, changes_in-le, lines_of-push_plain, log_more_plain}
use Rattle.bp_core.proofs.log.Log.push.Goals as goal

byte_is : (b : Bool) → bool_byte b ≡ cond b 1 0
byte_is true = refl
byte_is false = refl

byte_small : (b : Bool) → bool_byte b ≤ 1
byte_small true = omega arith
byte_small false = omega arith

pub index-requires : goal.index-requires
index-requires c =
    omega (
      arith,
      c.self.inside.counts.ok.0,
      c.self.inside.entries.ok.0,
      counts-length _ _ _ _ _ c.self.invariant.0,
      length-lines_of c.self.inside.entries.items (map arc_value c.self.inside.boards.items),
    )

pub overflow_add-changes : goal.overflow_add-changes
overflow_add-changes c =
    let H : History = lines_of c.self.inside.entries.items (map arc_value c.self.inside.boards.items) in
    let at : c.len.result ≤ length H =
    omega (arith, c.len.ensures, c.self.inside.entries.ok.0, length-lines_of c.self.inside.entries.items (map arc_value c.self.inside.boards.items)) in
    let read = count_read H _ _ _ _ c.len.result _ c.self.invariant.0 at c.index.ensures in
    let small : length H < 2 ^ 63 =
    omega (
      arith,
      c.self.inside.entries.ok.0,
      c.self.inside.entries.ok.1,
      c.self.inside.entries.small,
      length-lines_of c.self.inside.entries.items (map arc_value c.self.inside.boards.items),
    ) in
    let one : c.from.result ≤ 1 = rw c.from.ensures (byte_small c.is_change.result) in
    omega (arith, read, changes_in-le H c.len.result, small, one)

pub push_reserved-requires : goal.push_reserved-requires
push_reserved-requires c =
    omega (
      arith,
      c.self.inside.entries.ok.0,
      length-lines_of c.self.inside.entries.items (map arc_value c.self.inside.boards.items),
      ap (λ (l : LogView). length l.lines) c.self.view_is,
      ap (λ (l : LogView). l.line_room) c.self.view_is,
      c.requires.room,
    )

pub push_reserved-requires-3 : goal.push_reserved-requires-3
push_reserved-requires-3 c =
    omega (
      arith,
      c.self.inside.counts.ok.0,
      counts-length _ _ _ _ _ c.self.invariant.0,
      c.self.invariant.2,
      length-lines_of c.self.inside.entries.items (map arc_value c.self.inside.boards.items),
      ap (λ (l : LogView). length l.lines) c.self.view_is,
      ap (λ (l : LogView). l.line_room) c.self.view_is,
      c.requires.room,
    )

pub invariant_of-self : goal.invariant_of-self
invariant_of-self c =
    let es = c.self.inside.entries.items in
    let bs = map arc_value c.self.inside.boards.items in
    let H : History = lines_of es bs in
    let at : c.len.result ≡ length es = c.len.ensures ∙ c.self.inside.entries.ok.0 in
    let within : c.len.result ≤ length H = omega (arith, at, length-lines_of es bs) in
    let read = count_read H _ _ _ _ c.len.result _ c.self.invariant.0 within c.index.ensures ∙ ap (changes_in H) at in
    let changes : c.index.result.now + c.from.result ≡ changes_in H (length es) + cond (is_change (record { entry = c.args.entry; certificate = None })) 1 0 =
    omega (arith, read, c.from.ensures ∙ byte_is c.is_change.result ∙ ap (λ (t : Bool). cond {A = ℕ} t 1 0) c.is_change.ensures) in
    let number : c.self.inside.commands + c.from-2.result ≡
    c.self.inside.commands + cond (is_command (record { entry = c.args.entry; certificate = None })) 1 0 =
    omega (arith, c.from-2.ensures ∙ byte_is c.is_command.result ∙ ap (λ (t : Bool). cond {A = ℕ} t 1 0) c.is_command.ensures) in
    let more = log_more_plain es c.args.entry bs (map delta_list c.self.inside.deltas.items) (delta_list c.args.deltas)
    c.self.inside.counts.items _ _ _ c.requires.plain c.self.invariant.0 changes number in
    rw (c.push_reserved.ensures.items, c.push_reserved-2.ensures.items, c.push_reserved-3.ensures.items, map-append) (more, omega arith, omega arith)

pub returns : goal.returns
returns c =
    let es = c.self.inside.entries.items in
    let bs = map arc_value c.self.inside.boards.items in
    let x : Line = record { entry = c.args.entry; certificate = None } in
    let silent : publishes c.args.entry ≡ false = ap (λ (o : Option ℕ). is_some o) c.requires.plain in
    let pushed = lines_of-push_plain es bs c.args.entry silent in
    let before = ap (λ (l : LogView). record {
      lines = l.lines ++ x ∷ [];
      deltas = l.deltas ++ delta_list c.args.deltas ∷ [];
      line_room = l.line_room;
      board_room = l.board_room;
    }) c.self.view_is in
    rw (c.push_reserved.ensures.items, c.push_reserved-2.ensures.items, c.push_reserved.ensures.capacity, map-append, pushed) before
