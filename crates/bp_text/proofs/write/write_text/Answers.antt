use Rattle.std.proofs.Common.{◌≡◌, ℕ, List, ◌++◌, drop, subst, sym, ap, ◌∙◌, arith}
use Rattle.bp_edges.specs.Writing.{AppendedPrefix}
use Rattle.bp_edges.proofs.Grows.{Appended-append, AppendedPrefix-append, AppendedPrefix-longer, Writes-refused, split_again}
use Rattle.bp_text.proofs.write.write_text.Goals as goal

pub returns-in_err-put-clause-writes : goal.returns-in_err-put-clause-writes
returns-in_err-put-clause-writes g c =
    let so_far = c.loop-rest.invariant in
    let rest : List ℕ = c.loop-rest.rest.now in
    let piece : List ℕ = c.split_at.result.0.now in
    let whole : c.args.text.now ≡ so_far.part ++ piece ++ drop 65536 rest = so_far.splits ∙ split_again so_far.part rest 65536 ∙
    ap (λ p. so_far.part ++ p ++ drop 65536 rest) (sym c.split_at.ensures.front) in
    let P : List ℕ → Type 0 = λ text. AppendedPrefix (g.K.Sink.written c.args.out.now) (g.K.Sink.written c.put.new.self) text in
    Writes-refused _ c.from_residual.ensures.0
    (subst P (sym whole) (AppendedPrefix-longer _ _ (AppendedPrefix-append _ _ so_far.written c.in_err-put.ensures.writes)))

pub loop-rest-preserved : goal.loop-rest-preserved
loop-rest-preserved g c =
    let so_far = c.loop-rest.invariant in
    let rest : List ℕ = c.loop-rest.rest.now in
    record {
      part = so_far.part ++ c.split_at.result.0.now;
      splits = so_far.splits ∙ split_again so_far.part rest 65536 ∙ ap (λ p. so_far.part ++ p ++ drop 65536 rest) (sym c.split_at.ensures.front) ∙
          ap (λ m. so_far.part ++ c.split_at.result.0.now ++ m) (sym c.split_at.ensures.back);
      written = Appended-append _ _ so_far.written c.in_ok-put.ensures.writes;
      steady = λ s. c.in_ok-put.ensures.steady (so_far.steady s);
      faults = omega (arith, so_far.faults, c.in_ok-put.ensures.faults);
    }

pub returns-in_err-put-2-clause-writes : goal.returns-in_err-put-2-clause-writes
returns-in_err-put-2-clause-writes g c =
    let so_far = c.loop-rest.invariant in
    let P : List ℕ → Type 0 = λ text. AppendedPrefix (g.K.Sink.written c.args.out.now) (g.K.Sink.written c.put-2.new.self) text in
    Writes-refused _ c.from_residual-in_err-put-2.ensures.0
    (subst P (sym so_far.splits) (AppendedPrefix-append _ _ so_far.written c.in_err-put-2.ensures.writes))
