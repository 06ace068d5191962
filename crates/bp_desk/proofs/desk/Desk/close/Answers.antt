use Rattle.std.proofs.Common.{◌≡◌, ap, sym, ◌∙◌, subst}
use Rattle.bp_core.specs.Acting.{Diary}
use Rattle.bp_desk.specs.Passes.{PassState, HasAccounts}
use Rattle.bp_desk.proofs.Made.{at_turn}
use Rattle.bp_desk.proofs.Standing.{accounts_at}
use Rattle.bp_desk.proofs.desk.Desk.close.Goals as goal

pub returns-clause-accounts : goal.returns-clause-accounts
returns-clause-accounts g c =
    let s = c.pass.inside.seat in let H = c.into_inner-book.result.history in
    let at : c.take-shared.new.seat ≡ at_turn s H = c.take-shared.ensures.seat ∙
    ap (λ (d : Diary). at_turn s d.history) (sym (c.into_inner-book.ensures ∙ c.shared.view_is)) in
    subst (λ (q : PassState). HasAccounts (record q { seen = H })) c.pass.view_is (accounts_at s c.take-shared.new.seat H at c.facts.ensures)
