use Rattle.std.proofs.Common.{subst}
use Rattle.bp_core.specs.Acting.{Diary}
use Rattle.bp_core.specs.Laws.{KeepsLimits}
use Rattle.bp_core.proofs.Sound.{keeps_limits, sound_now}
use Rattle.bp_core.proofs.book.Book.facts.Goals as goal

pub returns-clause-limits : goal.returns-clause-limits
returns-clause-limits c =
    let h = c.self.inside.house in
    let H = c.self.inside.log.lines in
    let P : Diary → Type 0 = λ b. KeepsLimits b.house b.history in
    subst P c.self.view_is (keeps_limits h H c.self.invariant.house (sound_now h H c.self.invariant.house c.self.invariant.legal))
