use Rattle.std.proofs.Common.{◌++◌, ◌∷◌, [], subst, refl, Option}
use Rattle.std.specs.Prelude.{Ok}
use Rattle.std.proofs.lemmas.Result.{err_from_is_err_and}
use Rattle.bp_core.specs.declared.line.Line.{Line}
use Rattle.bp_core.specs.Lines.{History}
use Rattle.bp_journal.specs.Read.{IsLineRead}
use Rattle.bp_journal.proofs.BodyLemmas.{line_certificate}
use Rattle.bp_journal.proofs.PlaceLemmas.{refused_line, stopped_line, so_far_more, from_start}
use Rattle.bp_journal.proofs.reading.read_entries.Goals as goal

pub returns-in_err-line : goal.returns-in_err-line
returns-in_err-line c =
    let p = err_from_is_err_and c.from_residual.result c.from_residual.ensures.1 in
    let s = c.loop-line.invariant in
    let H : History = c.loop-line.journal in
    rw (p.1, p.2) (λ start head. refused_line c.args.version H _ start _ _ _ c.len.ensures s.journal s.within
    (from_start c.args.version start _ _ H head s.gives) c.in_err-line.ensures)

-- a line that was read has a certificate exactly where it publishes
pub push-requires : goal.push-requires
push-requires c =
    let P : Option Line → Type 0 = λ o. IsLineRead c.args.version c.len.result c.loop-line.lines c.read_line.new.lines (Ok o) in
    line_certificate c.args.version c.in-Some.line (subst P c.in-Some.is c.in_ok-line.ensures).0

pub loop-line-preserved : goal.loop-line-preserved
loop-line-preserved c =
    let s = c.loop-line.invariant in
    let H : History = c.loop-line.journal in
    let P : Option Line → Type 0 = λ o. IsLineRead c.args.version c.len.result c.loop-line.lines c.read_line.new.lines (Ok o) in
    so_far_more c.args.version c.args.lines.now c.loop-line.lines c.read_line.new.lines H c.push.new.self c.in-Some.line c.len.result
    c.in_ok-push.ensures.added c.len.ensures s (subst P c.in-Some.is c.in_ok-line.ensures)

pub returns-in_err-push : goal.returns-in_err-push
returns-in_err-push c =
    let p = err_from_is_err_and c.from_residual-in_err-push.result c.from_residual-in_err-push.ensures.1 in
    let s = c.loop-line.invariant in
    let H : History = c.loop-line.journal in
    let P : Option Line → Type 0 = λ o. IsLineRead c.args.version c.len.result c.loop-line.lines c.read_line.new.lines (Ok o) in
    let t = so_far_more c.args.version c.args.lines.now c.loop-line.lines c.read_line.new.lines H (H ++ c.in-Some.line ∷ [])
    c.in-Some.line c.len.result refl c.len.ensures s (subst P c.in-Some.is c.in_ok-line.ensures) in
    rw (p.1, p.2) (λ start head. stopped_line c.args.version (H ++ c.in-Some.line ∷ []) start _ t.journal t.within
    (from_start c.args.version start _ _ (H ++ c.in-Some.line ∷ []) head t.gives))
