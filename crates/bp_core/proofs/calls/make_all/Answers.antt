use Rattle.std.proofs.Common.{rules, ◌≡◌, [], ◌∷◌, ◌++◌, append-nil, append_assoc, ap, ◌∙◌, refl, sym, subst, arith, List, length}
use Rattle.std.specs.Vec.Iter.{into_iter_items}
use Rattle.bp_core.specs.declared.call.Answer.{Answer}
use Rattle.bp_core.specs.declared.calls.Made.{Made}
use Rattle.bp_core.specs.Calls.{AreAnswered}
use Rattle.bp_core.proofs.Growing.{continues_further, answered_continues}
use Rattle.bp_core.proofs.calls.make_all.Goals as goal

none_to_come : (calls : List Made) → length calls ≡ 0 → calls ≡ []
none_to_come [] none = refl
none_to_come (made ∷ calls) none = absurd (omega arith)

pub returns-clause-answered : goal.returns-clause-answered
returns-clause-answered c =
    let none : into_iter_items c.loop-made.made-iterator ≡ [] = none_to_come _ (omega (arith, c.loop-made.made-iterator.rest.ok, c.in-None.ensures.steps)) in
    let P : List Answer → Type 0 = λ l. AreAnswered c.args.book.now c.loop-made.book c.args.calls.items l in
    let Q : List Made → Type 0 = λ l. AreAnswered c.loop-made.book c.loop-made.book l [] in
    subst P (append-nil c.loop-made.answers.items) (c.loop-made.invariant.goes_on c.loop-made.book [] (subst Q (sym none) refl))

pub loop-made-preserved : goal.loop-made-preserved
loop-made-preserved c = record {
  may = search rules;
  goes_on = λ new more after.
      let P : List Answer → Type 0 = λ l. AreAnswered c.args.book.now new c.args.calls.items l in
      let Q : List Made → Type 0 = λ l. AreAnswered c.loop-made.book new l (c.act-answer.result ∷ more) in
      let next : into_iter_items c.loop-made.made-iterator ≡ c.in-Some.made ∷ into_iter_items c.next.new.self = search rules in
      let pushed : c.push_reserved.new.self.items ++ more ≡ c.loop-made.answers.items ++ c.act-answer.result ∷ more =
      ap (λ l. l ++ more) c.push_reserved.ensures.items ∙ append_assoc c.loop-made.answers.items (c.act-answer.result ∷ []) more in
      subst P (sym pushed) (c.loop-made.invariant.goes_on new (c.act-answer.result ∷ more)
      (subst Q (sym next) (c.act-answer.new.self, c.act-answer.ensures.answered, after)));
  continues = continues_further c.args.book.now c.loop-made.book c.act-answer.new.self c.loop-made.invariant.continues
      (answered_continues c.loop-made.book c.act-answer.new.self c.in-Some.made.caller c.in-Some.made.call c.act-answer.result c.act-answer.ensures.answered);
  legal = search rules;
  room = search rules;
}
