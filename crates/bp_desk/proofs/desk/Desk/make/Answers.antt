use Rattle.std.proofs.Common.{rules, sym, subst, ◌∙◌, ◌≡◌, ◌≢◌}
use Rattle.bp_core.specs.Acting.{Diary}
use Rattle.bp_core.specs.Lines.{last_number}
use Rattle.bp_desk.specs.Newest.{IsNewest}
use Rattle.bp_desk.specs.Calling.{HasTurn}
use Rattle.bp_desk.proofs.Made.{past, may_call, called, idle_again, past_refused, past_logged, story_more, adds_call}
use Rattle.bp_desk.proofs.Standing.{knows_called}
use Rattle.bp_desk.proofs.desk.Desk.make.Goals as goal

pub act-answer-requires : goal.act-answer-requires
act-answer-requires g c =
    let s = c.args.seat.now in let m = c.take-shared.new.seat in let b = c.deref_mut.result.now in
    let turn : HasTurn s m b = subst (λ (d : Diary). HasTurn s m d) (sym (c.deref_mut.ensures.value ∙ c.shared.view_is)) c.take-shared.ensures in
    may_call s m b c.args.caller c.args.call turn c.requires.number c.requires.may

pub give_logged-requires-clause-story : goal.give_logged-requires-clause-story
give_logged-requires-clause-story g c =
    let s = c.args.seat.now in let m = c.take-shared.new.seat in let b = c.deref_mut.result.now in let k = c.act-answer.new.self in
    let a = c.act-answer.result in
    let turn : HasTurn s m b = subst (λ (d : Diary). HasTurn s m d) (sym (c.deref_mut.ensures.value ∙ c.shared.view_is)) c.take-shared.ensures in
    story_more s m b k c.args.caller c.args.call a turn c.requires.number c.act-answer.ensures.answered (search rules)

pub returns-then-is_logged-clause-called : goal.returns-then-is_logged-clause-called
returns-then-is_logged-clause-called g c =
    let s = c.args.seat.now in let m = c.take-shared.new.seat in let b = c.deref_mut.result.now in let k = c.act-answer.new.self in
    let a = c.act-answer.result in
    let turn : HasTurn s m b = subst (λ (d : Diary). HasTurn s m d) (sym (c.deref_mut.ensures.value ∙ c.shared.view_is)) c.take-shared.ensures in
    let at : c.give_logged.new.seat ≡ past s b.history k.history =
    past_logged s m c.give_logged.new.seat b k c.args.caller c.args.call a turn c.requires.number c.act-answer.ensures.answered (search rules)
    c.give_logged.ensures in
    called s m c.give_logged.new.seat b k c.args.caller c.args.call a turn c.requires.number c.act-answer.ensures.answered c.act-answer.ensures.legal at

pub returns-then-is_logged-clause-calls : goal.returns-then-is_logged-clause-calls
returns-then-is_logged-clause-calls g c =
    let s = c.args.seat.now in let m = c.take-shared.new.seat in let b = c.deref_mut.result.now in let k = c.act-answer.new.self in
    let a = c.act-answer.result in
    let turn : HasTurn s m b = subst (λ (d : Diary). HasTurn s m d) (sym (c.deref_mut.ensures.value ∙ c.shared.view_is)) c.take-shared.ensures in
    let at : c.give_logged.new.seat ≡ past s b.history k.history =
    past_logged s m c.give_logged.new.seat b k c.args.caller c.args.call a turn c.requires.number c.act-answer.ensures.answered (search rules)
    c.give_logged.ensures in
    adds_call s m c.give_logged.new.seat b k c.args.caller c.args.call a turn c.requires.number c.act-answer.ensures.answered at

pub returns-then-is_logged-clause-idle : goal.returns-then-is_logged-clause-idle
returns-then-is_logged-clause-idle g c =
    let s = c.args.seat.now in let m = c.take-shared.new.seat in let b = c.deref_mut.result.now in let k = c.act-answer.new.self in
    let a = c.act-answer.result in
    let turn : HasTurn s m b = subst (λ (d : Diary). HasTurn s m d) (sym (c.deref_mut.ensures.value ∙ c.shared.view_is)) c.take-shared.ensures in
    let at : c.give_logged.new.seat ≡ past s b.history k.history =
    past_logged s m c.give_logged.new.seat b k c.args.caller c.args.call a turn c.requires.number c.act-answer.ensures.answered (search rules)
    c.give_logged.ensures in
    idle_again s m c.give_logged.new.seat b k c.args.caller c.args.call a turn c.act-answer.ensures.answered c.act-answer.ensures.legal at

pub returns-then-is_logged-clause-newest : goal.returns-then-is_logged-clause-newest
returns-then-is_logged-clause-newest g c =
    let s = c.args.seat.now in let m = c.take-shared.new.seat in let b = c.deref_mut.result.now in let k = c.act-answer.new.self in
    let a = c.act-answer.result in
    let turn : HasTurn s m b = subst (λ (d : Diary). HasTurn s m d) (sym (c.deref_mut.ensures.value ∙ c.shared.view_is)) c.take-shared.ensures in
    let at : c.give_logged.new.seat ≡ past s b.history k.history =
    past_logged s m c.give_logged.new.seat b k c.args.caller c.args.call a turn c.requires.number c.act-answer.ensures.answered (search rules)
    c.give_logged.ensures in
    knows_called s m c.give_logged.new.seat b k c.args.caller c.args.call a c.args.newest.now c.learn.new.self turn c.requires.idle c.requires.newest
    c.act-answer.ensures.answered c.act-answer.ensures.legal at
    (subst (λ (d : Diary). c.args.newest.now.number ≡ last_number d.history → c.learn.new.self ≡ c.args.newest.now) c.deref.ensures c.learn.ensures.same)
    (subst (λ (d : Diary). c.args.newest.now.number ≢ last_number d.history →
    IsNewest d.house d.history c.learn.new.self) c.deref.ensures c.learn.ensures.other)

pub returns-else-is_logged-clause-newest : goal.returns-else-is_logged-clause-newest
returns-else-is_logged-clause-newest g c =
    let s = c.args.seat.now in let m = c.take-shared.new.seat in let b = c.deref_mut.result.now in let k = c.act-answer.new.self in
    let a = c.act-answer.result in
    let turn : HasTurn s m b = subst (λ (d : Diary). HasTurn s m d) (sym (c.deref_mut.ensures.value ∙ c.shared.view_is)) c.take-shared.ensures in
    let at : c.give.new.seat ≡ past s b.history k.history =
    past_refused s m c.give.new.seat b k c.args.caller c.args.call a turn c.act-answer.ensures.answered (search rules) c.give.ensures in
    knows_called s m c.give.new.seat b k c.args.caller c.args.call a c.args.newest.now c.learn.new.self turn c.requires.idle c.requires.newest
    c.act-answer.ensures.answered c.act-answer.ensures.legal at
    (subst (λ (d : Diary). c.args.newest.now.number ≡ last_number d.history → c.learn.new.self ≡ c.args.newest.now) c.deref.ensures c.learn.ensures.same)
    (subst (λ (d : Diary). c.args.newest.now.number ≢ last_number d.history →
    IsNewest d.house d.history c.learn.new.self) c.deref.ensures c.learn.ensures.other)
