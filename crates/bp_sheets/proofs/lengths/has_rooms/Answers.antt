use Rattle.std.proofs.Common.{ℕ, Bool, nat_lt, slice_index, arith, ◌-◌, sym, ap}
use Rattle.std.specs.Option.{is_none}
use Rattle.std.proofs.lemmas.Bool.{lt-ltb}
use Rattle.bp_types.proofs.Firsts.{find-range_some, find-range_none}
use Rattle.bp_sheets.proofs.lengths.has_rooms.Goals as goal

pub returns-then-rooms-lt1 : goal.returns-then-rooms-lt1
returns-then-rooms-lt1 c =
    let is_short : ℕ → Bool = λ n. nat_lt (slice_index c.args.instance.now.rooms n) 1 in
    sym (ap is_none (find-range_some is_short c.args.span.from (c.args.span.to - c.args.span.from) c.loop-night.night (omega arith) (omega arith)
    (λ k h g. c.loop-night.invariant k h g) (lt-ltb _ _ (omega arith))))

pub returns : goal.returns
returns c =
    let is_short : ℕ → Bool = λ n. nat_lt (slice_index c.args.instance.now.rooms n) 1 in
    sym (ap is_none (find-range_none is_short c.args.span.from (c.args.span.to - c.args.span.from) (λ k h g. c.loop-night.invariant k h (omega arith))))
