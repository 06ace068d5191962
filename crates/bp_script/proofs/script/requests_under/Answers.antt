use Rattle.std.proofs.Common.{◌≡◌, ◌∙◌, sym, rules, [], ◌∷◌, length, Ok, Err, true, arith, length-append}
use Rattle.std.specs.Result.{is_ok}
use Rattle.std.proofs.lemmas.Result.{err_from_is_err_and}
use Rattle.bp_stayfile.proofs.ReadLemmas.{one_more, read_whole, refused_at, refused_behind, refused_after-table, IfRefused-weaker}
use Rattle.bp_script.specs.declared.request.Request.{Request}
use Rattle.bp_script.specs.Scripts.{request_in, request_rule}
use Rattle.bp_script.proofs.script.requests_under.Goals as goal

pub returns-in_err-request-clause-refused : goal.returns-in_err-request-clause-refused
returns-in_err-request-clause-refused c =
    let p = err_from_is_err_and c.from_residual-in_err-request.result c.from_residual-in_err-request.ensures.1 in
    let so_far = c.loop-requests.invariant in
    let next = rw c.in-Some.is at c.in_ok-row.ensures.next in
    let rule = request_rule c.args.hotel.now c.args.codes.now in
    let many : c.len.result ≡ length c.loop-requests.requests.items = omega (arith, c.len.ensures) in
    let wrong : request_in c.args.hotel.now c.args.codes.now (length c.loop-requests.requests.items) c.in-Some.row.fields ≡ Err c.in_err-request.field-0.0 =
    rw many at (sym c.in_err-request.ensures) in
    let refused = refused_at rule c.args.header.behind c.loop-requests.at c.in-Some.row c.loop-requests.requests.items c.in_err-request.field-0.0 so_far.read
    next wrong in
    rw (p.1, p.2) (refused_after-table rule c.args.header.behind c.loop-requests.requests.items c.in_err-request.field-0.0 refused)

pub loop-requests-preserved : goal.loop-requests-preserved
loop-requests-preserved c =
    let good : is_ok c.push.result ≡ true = search rules in
    let items = rw good at c.push.ensures.items in
    let so_far = c.loop-requests.invariant in
    let next = rw c.in-Some.is at c.in_ok-row.ensures.next in
    let rule = request_rule c.args.hotel.now c.args.codes.now in
    let many : c.len.result ≡ length c.loop-requests.requests.items = omega (arith, c.len.ensures) in
    let request : Request = c.in_ok-request.request in
    let answer : request_in c.args.hotel.now c.args.codes.now (length c.loop-requests.requests.items) c.in-Some.row.fields ≡ Ok request =
    rw many at (sym c.in_ok-request.ensures) in
    record {
      read = rw items (one_more rule c.args.header.behind c.loop-requests.at c.in-Some.row c.loop-requests.requests.items request so_far.read next answer);
      line = rw items (omega (arith, next.line, so_far.line, length-append c.loop-requests.requests.items (request ∷ [])));
      columns = next.columns ∙ so_far.columns;
    }

pub returns-in_err-row-clause-refused : goal.returns-in_err-row-clause-refused
returns-in_err-row-clause-refused c =
    let p = err_from_is_err_and c.from_residual.result c.from_residual.ensures.1 in
    let so_far = c.loop-requests.invariant in
    let rule = request_rule c.args.hotel.now c.args.codes.now in
    rw (p.1, p.2)
    (IfRefused-weaker c.in_err-row.field-0.0 _ _
    (λ r stop. refused_after-table rule c.args.header.behind c.loop-requests.requests.items r
    (refused_behind rule c.args.header.behind c.loop-requests.at c.loop-requests.requests.items r so_far.read stop))
    c.in_err-row.ensures.refused)

pub returns-clause-read : goal.returns-clause-read
returns-clause-read c =
    let last = rw c.in_default.is at c.in_ok-row.ensures.next in
    read_whole (request_rule c.args.hotel.now c.args.codes.now)
    c.args.header.behind c.loop-requests.at c.loop-requests.requests.items c.loop-requests.invariant.read last
