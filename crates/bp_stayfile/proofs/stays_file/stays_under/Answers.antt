use Rattle.std.proofs.Common.{◌≡◌, ◌∙◌, sym, ap, rules, [], ◌∷◌, ◌++◌, get_or, length, true, Ok, arith, length-append}
use Rattle.std.specs.Result.{is_ok}
use Rattle.std.proofs.lemmas.List.{map-append}
use Rattle.std.proofs.lemmas.Result.{err_from_is_err_and}
use Rattle.bp_types.specs.declared.stay.Stay.{Stay}
use Rattle.bp_hotelfile.specs.Steps.{◌>>=◌}
use Rattle.bp_stayfile.specs.Tables.{Record}
use Rattle.bp_stayfile.specs.Stays.{Coded, stay_rule, list_of}
use Rattle.bp_stayfile.proofs.ReadLemmas.{one_more, read_whole, refused_at, refused_behind, refused_after-table, IfRefused-weaker}
use Rattle.bp_stayfile.proofs.StayLemmas.{stay_in-tells, stay_rule-ok, stay_rule-err, coded_tell, list_of-tells}
use Rattle.bp_stayfile.proofs.stays_file.stays_under.Goals as goal

pub add-requires-clause-room : goal.add-requires-clause-room
add-requires-clause-room c =
    (stay_in-tells c.args.hotel.now c.loop-stays.codes c.in-Some.row.fields c.in_ok-stay.stay (sym c.in_ok-stay.ensures)).1

pub add-requires-clause-new : goal.add-requires-clause-new
add-requires-clause-new c =
    rw c.field.ensures
    (stay_in-tells c.args.hotel.now c.loop-stays.codes c.in-Some.row.fields c.in_ok-stay.stay (sym c.in_ok-stay.ensures)).2

pub returns-in_err-stay-clause-refused : goal.returns-in_err-stay-clause-refused
returns-in_err-stay-clause-refused c =
    let p = err_from_is_err_and c.from_residual-in_err-stay.result c.from_residual-in_err-stay.ensures.1 in
    let so_far = c.loop-stays.invariant in
    let next = rw c.in-Some.is at c.in_ok-row.ensures.next in
    let wrong = stay_rule-err c.args.hotel.now so_far.before c.loop-stays.codes c.in-Some.row.fields c.in_err-stay.field-0.0 so_far.codes
    (sym c.in_err-stay.ensures) in
    let refused = refused_at (stay_rule c.args.hotel.now)
    c.args.header.behind c.loop-stays.at c.in-Some.row so_far.before c.in_err-stay.field-0.0 so_far.read next wrong in
    rw (p.1, p.2) (ap (λ r. r >>= (λ coded. Ok (list_of c.args.hotel.now coded)))
    (refused_after-table (stay_rule c.args.hotel.now) c.args.header.behind so_far.before c.in_err-stay.field-0.0 refused))

pub loop-stays-preserved : goal.loop-stays-preserved
loop-stays-preserved c =
    let good : is_ok c.push.result ≡ true = search rules in
    let items = rw good at c.push.ensures.items in
    let so_far = c.loop-stays.invariant in
    let next = rw c.in-Some.is at c.in_ok-row.ensures.next in
    let row : Record = c.in-Some.row.fields in
    let stay : Stay = c.in_ok-stay.stay in
    let answer = stay_rule-ok c.args.hotel.now so_far.before c.loop-stays.codes row stay so_far.codes (sym c.in_ok-stay.ensures) in
    let coded : Coded = (get_or row 0 [], stay) in
    let added = rw c.field.ensures at c.in_ok-add.ensures in
    record {
      before = so_far.before ++ coded ∷ [];
      read = one_more (stay_rule c.args.hotel.now) c.args.header.behind c.loop-stays.at c.in-Some.row so_far.before coded so_far.read next answer;
      line = omega (arith, next.line, so_far.line, length-append so_far.before (coded ∷ []));
      columns = next.columns ∙ so_far.columns;
      codes = added ∙ rw (map-append (λ (x : Coded). x.0) so_far.before (coded ∷ []), so_far.codes);
      stays = rw (items, map-append (λ (x : Coded). x.1) so_far.before (coded ∷ []), so_far.stays);
    }

pub invariant_of-result : goal.invariant_of-result
invariant_of-result c =
    let so_far = c.loop-stays.invariant in
    rw (c.nights.ensures.value, so_far.codes, so_far.stays)
    (list_of-tells c.args.hotel.now so_far.before
    (coded_tell c.args.hotel.now c.args.header.behind.rows (length so_far.read.first) so_far.before so_far.read.read))

pub returns-in_err-row-clause-refused : goal.returns-in_err-row-clause-refused
returns-in_err-row-clause-refused c =
    let p = err_from_is_err_and c.from_residual.result c.from_residual.ensures.1 in
    let so_far = c.loop-stays.invariant in
    let rule = stay_rule c.args.hotel.now in
    rw (p.1, p.2)
    (IfRefused-weaker c.in_err-row.field-0.0 _ _
    (λ r stop. ap (λ t. t >>= (λ coded. Ok (list_of c.args.hotel.now coded)))
    (refused_after-table rule c.args.header.behind so_far.before r
    (refused_behind rule c.args.header.behind c.loop-stays.at so_far.before r so_far.read stop)))
    c.in_err-row.ensures.refused)

pub returns-clause-read : goal.returns-clause-read
returns-clause-read c =
    let so_far = c.loop-stays.invariant in
    let last = rw c.in_default.is at c.in_ok-row.ensures.next in
    let read = read_whole (stay_rule c.args.hotel.now) c.args.header.behind c.loop-stays.at so_far.before so_far.read last in
    rw (c.nights.ensures.value, so_far.codes, so_far.stays) (ap (λ r. r >>= (λ coded. Ok (list_of c.args.hotel.now coded))) read)
