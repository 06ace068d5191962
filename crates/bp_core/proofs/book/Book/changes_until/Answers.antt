use Rattle.std.proofs.Common.{◌≡◌, ◌∙◌, ◌+◌, ◌≤◌, ap, sym, subst, arith, length, List}
use Rattle.bp_types.specs.declared.change.Change.{Change}
use Rattle.bp_types.specs.Changes.{Leads}
use Rattle.bp_core.specs.Acting.{Diary}
use Rattle.bp_core.specs.Changes.{deltas_between}
use Rattle.bp_core.specs.Instance.{instance_at}
use Rattle.bp_core.specs.Log.{stored_between}
use Rattle.bp_core.proofs.Between.{deltas_lead}
use Rattle.bp_core.proofs.StoredBetween.{stored_is_between}
use Rattle.bp_core.proofs.book.Book.changes_until.Goals as goal

pub returns-clause-items : goal.returns-clause-items
returns-clause-items c =
    let within : c.fill.result ≤ length c.self.inside.log.lines =
    omega (arith, c.fill.ensures.reached.1, c.requires.within, ap (λ (b : Diary). length b.history) c.self.view_is) in
    c.fill.ensures.items ∙ ap (λ l. stored_between l c.args.from c.fill.result) c.self.invariant.fed ∙
    stored_is_between c.self.inside.house c.self.inside.log.lines c.args.from c.fill.result within ∙
    ap (λ (b : Diary). deltas_between b.house b.history c.args.from c.fill.result) c.self.view_is

pub returns-clause-leads : goal.returns-clause-leads
returns-clause-leads c =
    let within : c.fill.result ≤ length c.self.inside.log.lines =
    omega (arith, c.fill.ensures.reached.1, c.requires.within, ap (λ (b : Diary). length b.history) c.self.view_is) in
    let leads = deltas_lead c.self.inside.house c.self.inside.log.lines c.args.from c.fill.result c.self.invariant.house c.self.invariant.legal
    c.fill.ensures.reached.0 within in
    let is : c.fill.new.into.items ≡ deltas_between c.self.inside.house c.self.inside.log.lines c.args.from c.fill.result = c.fill.ensures.items ∙
    ap (λ l. stored_between l c.args.from c.fill.result) c.self.invariant.fed ∙
    stored_is_between c.self.inside.house c.self.inside.log.lines c.args.from c.fill.result within in
    let P : List Change → Type 0 =
    λ l. Leads (instance_at c.self.inside.house c.self.inside.log.lines c.args.from) l
    (instance_at c.self.inside.house c.self.inside.log.lines c.fill.result) in
    let Q : Diary → Type 0 = λ b. Leads (instance_at b.house b.history c.args.from) c.fill.new.into.items (instance_at b.house b.history c.fill.result) in
    subst Q c.self.view_is (subst P (sym is) leads)

pub returns-clause-full : goal.returns-clause-full
returns-clause-full c = λ more.
    let within : c.fill.result + 1 ≤ length c.self.inside.log.lines =
    omega (arith, more, c.requires.within, ap (λ (b : Diary). length b.history) c.self.view_is) in
    let same = ap (λ l. stored_between l c.args.from (c.fill.result + 1)) c.self.invariant.fed ∙
    stored_is_between c.self.inside.house c.self.inside.log.lines c.args.from (c.fill.result + 1) within ∙
    ap (λ (b : Diary). deltas_between b.house b.history c.args.from (c.fill.result + 1)) c.self.view_is in
    omega (arith, c.fill.ensures.full more, ap (λ (l : List Change). length l) same)
