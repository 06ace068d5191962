use Rattle.std.proofs.Common.{◌≡◌, ℕ, ◌-◌, List, length, take, drop, subst, ◌∙◌, arith}
use Rattle.std.proofs.lemmas.List.{take_all, length-drop}
use Rattle.bp_text.specs.Drafts.{Drafts}
use Rattle.bp_text.proofs.draft.Draft.push_spaced_word.Goals as goal

-- what was pushed is all that was spelt: the space and the digits
pub returns-clause-writes : goal.returns-clause-writes
returns-clause-writes g c =
    let start = c.spell_spaced-start.result in
    let bytes = c.spell_spaced-start.new.bytes in
    let all : take (21 - start) (drop start bytes) ≡ drop start bytes =
    take_all (21 - start) (drop start bytes) (omega (arith, length-drop start bytes, c.spell_spaced-start.auto.bytes)) in
    let P : List ℕ → Type 0 =
    λ bytes. Drafts (g.K.Sink.written c.args.out.now) (g.K.Sink.written c.push.new.out) c.args.self.now c.push.new.self bytes c.push.result in
    subst P (all ∙ c.spell_spaced-start.ensures.spelled) c.push.ensures.writes
