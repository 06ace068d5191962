use Rattle.std.proofs.Common.{ℕ, ◌^◌, ◌<◌, List, ◌∙◌, sym, subst, arith}
use Rattle.bp_text.specs.Drafts.{Drafts}
use Rattle.bp_text.proofs.NumberLemmas.{spelled-decimal}
use Rattle.bp_text.proofs.draft.Draft.push_number.Goals as goal

-- the digits that were formatted spell the number
pub returns-clause-writes : goal.returns-clause-writes
returns-clause-writes g c =
    let small : c.args.number < 10 ^ 64 = omega (arith, c.ranges.number.fits) in
    let P : List ℕ → Type 0 =
    λ bytes. Drafts (g.K.Sink.written c.args.out.now) (g.K.Sink.written c.push.new.out) c.args.self.now c.push.new.self bytes c.push.result in
    subst P (c.as_bytes.ensures.value ∙ c.format.ensures.text ∙ sym (spelled-decimal c.args.number small)) c.push.ensures.writes
