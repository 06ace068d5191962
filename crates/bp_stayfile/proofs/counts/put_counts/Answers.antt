use Rattle.std.proofs.Common.{◌≡◌, ◌+◌, ◌∙◌, sym, [], ◌∷◌, ◌++◌, length, is_some, true, None, arith, length-append}
use Rattle.std.proofs.lemmas.Result.{err_from_is_err_and}
use Rattle.bp_stayfile.specs.declared.counts.Counted.{Counted}
use Rattle.bp_stayfile.specs.declared.error.TableRefusal.TheVariants.{TwiceCode}
use Rattle.bp_stayfile.specs.Tables.{Record}
use Rattle.bp_stayfile.specs.Counts.{count_of, count_rule}
use Rattle.bp_stayfile.proofs.ReadLemmas.{none_yet, one_more, read_whole, refused_at, refused_behind, IfRefused-weaker}
use Rattle.bp_stayfile.proofs.CountLemmas.{AreLaidOut-none, AreLaidOut-more, counted_in-tells, count_rule-ok, count_rule-err, count_rule-twice}
use Rattle.bp_stayfile.proofs.counts.put_counts.Goals as goal

pub returns-in_err-counted-clause-refused : goal.returns-in_err-counted-clause-refused
returns-in_err-counted-clause-refused c =
    let p = err_from_is_err_and c.from_residual-in_err-counted.result c.from_residual-in_err-counted.ensures.1 in
    let so_far = c.loop-row.invariant in
    let next = rw c.in-Some.is at c.in_ok-row.ensures.next in
    let row : Record = c.in-Some.row.fields in
    let wrong = count_rule-err c.args.codes.now so_far.before c.in-Some.row.line row c.in_err-counted.field-0.0 (omega (arith, next.line, so_far.line))
    (sym c.in_err-counted.ensures) in
    let refused = refused_at (count_rule c.args.codes.now)
    c.args.header.behind c.loop-row.at c.in-Some.row so_far.before c.in_err-counted.field-0.0 so_far.read next wrong in
    rw (p.1, p.2) (so_far.before, refused, so_far.laid_out)

pub returns-in_err-put-clause-refused : goal.returns-in_err-put-clause-refused
returns-in_err-put-clause-refused c =
    let p = err_from_is_err_and c.from_residual-in_err-put.result c.from_residual-in_err-put.ensures.1 in
    let so_far = c.loop-row.invariant in
    let next = rw c.in-Some.is at c.in_ok-row.ensures.next in
    let counted : Counted = c.in_ok-counted.counted in
    let row : Record = c.in-Some.row.fields in
    let line = c.in-Some.row.line in
    let tells = counted_in-tells c.args.codes.now line row counted (sym c.in_ok-counted.ensures) in
    let taken : is_some (count_of so_far.before counted.stay) ≡ true = rw (← so_far.laid_out.each counted.stay tells.0) c.in_err-put.ensures.1 in
    let wrong = count_rule-twice c.args.codes.now so_far.before line row counted (omega (arith, next.line, so_far.line)) (sym c.in_ok-counted.ensures) taken in
    let refused = refused_at (count_rule c.args.codes.now) c.args.header.behind c.loop-row.at c.in-Some.row so_far.before (TwiceCode line)
    so_far.read next wrong in
    rw (p.1, p.2, c.in_err-put.ensures.0, c.line.ensures, c.in_err-put.ensures.2) (so_far.before, refused, so_far.laid_out)

pub loop-row-preserved : goal.loop-row-preserved
loop-row-preserved c =
    let so_far = c.loop-row.invariant in
    let next = rw c.in-Some.is at c.in_ok-row.ensures.next in
    let counted : Counted = c.in_ok-counted.counted in
    let row : Record = c.in-Some.row.fields in
    let line = c.in-Some.row.line in
    let tells = counted_in-tells c.args.codes.now line row counted (sym c.in_ok-counted.ensures) in
    let put = c.in_ok-put.ensures in
    let free : count_of so_far.before counted.stay ≡ None = sym (so_far.laid_out.each counted.stay tells.0) ∙ put.0 in
    let answer = count_rule-ok c.args.codes.now so_far.before line row counted (omega (arith, next.line, so_far.line)) (sym c.in_ok-counted.ensures) free in
    record {
      before = so_far.before ++ counted ∷ [];
      read = one_more (count_rule c.args.codes.now) c.args.header.behind c.loop-row.at c.in-Some.row so_far.before counted so_far.read next answer;
      line = omega (arith, next.line, so_far.line, length-append so_far.before (counted ∷ []));
      columns = next.columns ∙ so_far.columns;
      laid_out = rw put.1 (AreLaidOut-more (length c.args.codes.now) so_far.before c.loop-row.counts counted so_far.laid_out tells.0 tells.1 put.0);
    }

pub returns-in_err-row-clause-refused : goal.returns-in_err-row-clause-refused
returns-in_err-row-clause-refused c =
    let p = err_from_is_err_and c.from_residual.result c.from_residual.ensures.1 in
    let so_far = c.loop-row.invariant in
    rw (p.1, p.2)
    (IfRefused-weaker c.in_err-row.field-0.0 _ _
    (λ r stop. (
      so_far.before,
      refused_behind (count_rule c.args.codes.now) c.args.header.behind c.loop-row.at so_far.before r so_far.read stop,
      so_far.laid_out,
    ))
    c.in_err-row.ensures.refused)

pub returns-clause-read : goal.returns-clause-read
returns-clause-read c =
    let so_far = c.loop-row.invariant in
    let last = rw c.in_default.is at c.in_ok-row.ensures.next in
    (so_far.before, read_whole (count_rule c.args.codes.now) c.args.header.behind c.loop-row.at so_far.before so_far.read last, so_far.laid_out)

pub loop-row-init : goal.loop-row-init
loop-row-init c =
    record {
      before = [];
      read = none_yet (count_rule c.args.codes.now) c.args.header.behind;
      line = c.requires.line;
      columns = c.requires.columns;
      laid_out = AreLaidOut-none (length c.args.codes.now) c.args.counts.now c.requires.empty;
    }

pub put-requires : goal.put-requires
put-requires c =
    let tells = counted_in-tells c.args.codes.now c.in-Some.row.line c.in-Some.row.fields c.in_ok-counted.counted (sym c.in_ok-counted.ensures) in
    omega (arith, tells.0, c.loop-row.invariant.laid_out.one_each)
