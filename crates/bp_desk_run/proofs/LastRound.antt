-- The opener's last round, and the book.
use Rattle.std.proofs.Common.{◌≡◌, ℕ, sym, subst, ◌∙◌}
use Rattle.bp_turn.specs.Prefix.{IsPrefix}
use Rattle.bp_core.specs.Acting.{Diary}
use Rattle.bp_core.specs.Legal.{IsLegal}
use Rattle.bp_desk.specs.Passes.{PassState, HasAccounts}
use Rattle.bp_optimise.specs.declared.round.Round.{Round}
use Rattle.bp_optimise.specs.Rounds.{IsRound}
use Rattle.bp_optimise.proofs.Settling.{round_acts}
use Rattle.bp_desk_run.specs.Closing.{HasAllBack, IsClosing}
use Rattle.bp_desk_run.specs.Finals.{IsClosedAfter}
use Rattle.bp_desk_run.proofs.Closing.{all_back, closes}
use Rattle.bp_desk_run.proofs.Finishing.{nothing_after}

pub closed_after_round : (most position : ℕ) (p q : PassState) (r : Round) (book : Diary) → HasAllBack most p → HasAccounts p → HasAccounts q →
    IsRound p q position 1 r → book.house ≡ q.house → IsPrefix q.seen book.history → IsLegal book.house book.history
    → HasAccounts (record q { seen = book.history }) → IsClosedAfter p book r
closed_after_round most position p q r book back before after round house begins legal at_end =
    let acted = (round_acts 1 position p q r round).0 in
    let same : book.history ≡ q.seen = nothing_after most q book.history (all_back most p q back acted.caller acted.free acted.ended) after at_end begins in
    record {
      house_is = house ∙ acted.house;
      legal = legal;
      last = q;
      seen = sym same;
      caller = acted.caller;
      free = acted.free;
      ended = acted.ended;
      accounts = after;
      closing = subst (λ H. IsClosing p.house p.seen H r) (sym same) (closes most position p q r back before after round);
    }
