use Rattle.std.proofs.Common.{◌≡◌, ◌+◌, sym, subst, List, ◌∷◌}
use Rattle.bp_edges.specs.Writing.{Writes, Appended}
use Rattle.bp_edges.proofs.Grows.{Appended-append, AppendedPrefix-append, AppendedPrefix-longer, Writes-refused}
use Rattle.bp_desk_run.specs.declared.callers.Ran.{Ran}
use Rattle.bp_run.specs.Portfolio.{hotel_said, hotels_said}
use Rattle.bp_run.proofs.commands.portfolio.+write_from.Goals as goal

pub returns-in_err-write_hotel-clause-writes : goal.returns-in_err-write_hotel-clause-writes
returns-in_err-write_hotel-clause-writes g t c =
    let are : c.args.runs.now ≡ c.in-Some.next.now ∷ c.in-Some.behind.now = c.in-Some.ensures.cases.0 in
    let P : List Ran → Type 0 =
    λ rs. Writes (g.K.Sink.written c.args.out.now) (g.K.Sink.written c.write_hotel.new.out) (hotels_said c.args.hotel rs) c.from_residual.result in
    subst P (sym are)
    (Writes-refused _ c.from_residual.ensures.0
    (AppendedPrefix-longer (hotel_said c.args.hotel c.in-Some.next.now) (hotels_said (c.args.hotel + 1) c.in-Some.behind.now)
    c.in_err-write_hotel.ensures.writes))

pub returns-in_err-write_from-clause-writes : goal.returns-in_err-write_from-clause-writes
returns-in_err-write_from-clause-writes g t c =
    let are : c.args.runs.now ≡ c.in-Some.next.now ∷ c.in-Some.behind.now = c.in-Some.ensures.cases.0 in
    let P : List Ran → Type 0 =
    λ rs. Writes (g.K.Sink.written c.args.out.now) (g.K.Sink.written c.write_from.new.out) (hotels_said c.args.hotel rs)
    c.from_residual-in_err-write_from.result in
    subst P (sym are)
    (Writes-refused _ c.from_residual-in_err-write_from.ensures.0
    (AppendedPrefix-append (hotel_said c.args.hotel c.in-Some.next.now) (hotels_said (c.args.hotel + 1) c.in-Some.behind.now)
    c.in_ok-write_hotel.ensures.writes c.in_err-write_from.ensures.writes))

pub returns-clause-writes : goal.returns-clause-writes
returns-clause-writes g t c =
    let are : c.args.runs.now ≡ c.in-Some.next.now ∷ c.in-Some.behind.now = c.in-Some.ensures.cases.0 in
    let P : List Ran → Type 0 = λ rs. Appended (g.K.Sink.written c.args.out.now) (g.K.Sink.written c.write_from.new.out) (hotels_said c.args.hotel rs) in
    subst P (sym are)
    (Appended-append (hotel_said c.args.hotel c.in-Some.next.now) (hotels_said (c.args.hotel + 1) c.in-Some.behind.now)
    c.in_ok-write_hotel.ensures.writes c.in_ok-write_from.ensures.writes)
