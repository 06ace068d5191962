use Rattle.std.proofs.Common.{◌≡◌, ℕ, ◌∙◌, ap, sym, subst, arith}
use Rattle.bp_types.specs.Program.{Program}
use Rattle.bp_warm.specs.Turns.{units_moved_by_all}
use Rattle.bp_judge.specs.declared.course.Course.{Course}
use Rattle.bp_judge.specs.Courses.{IsCourse}
use Rattle.bp_judge.specs.Searches.{moved_between}
use Rattle.bp_judge.proofs.Moving.{IsWay, way_on, way_step, moved_on, moved_step, moved_grows}
use Rattle.bp_judge.proofs.solved.Solved.reach.Goals as goal

pub returns-then-moved-left-clause-caught_up : goal.returns-then-moved-left-clause-caught_up
returns-then-moved-left-clause-caught_up g c =
    let h = c.args.book.now.house in
    let H = c.args.book.now.history in
    let here = c.loop-self.invariant in
    let step = c.step-moved.ensures in
    let from = c.args.self.now.course.position in
    let at = c.loop-self.self.course.position in
    let one = moved_step h H at c.step-moved.new.self.position c.step-moved.result c.step-moved.new.self.changes.items c.loop-self.self.course.instance
    step.goes_on here.is.course.program step.deltas step.moved in
    let both = moved_on h H from at c.step-moved.new.self.position here.from (omega (arith, step.goes_on)) here.way in
    let all = moved_grows h H from c.step-moved.new.self.position c.args.until (omega (arith, here.from, step.goes_on)) step.within in
    omega (arith, here.spent, c.if-moved-left.true, one, both, all)

pub loop-self-preserved : goal.loop-self-preserved
loop-self-preserved g c =
    let h = c.args.book.now.house in
    let H = c.args.book.now.history in
    let here = c.loop-self.invariant in
    let step = c.step-moved.ensures in
    let follows = c.follow.ensures in
    let from = c.args.self.now.course.position in
    let at = c.loop-self.self.course.position in
    let to = c.step-moved.new.self.position in
    let changes = c.step-moved.new.self.changes.items in
    let before = c.loop-self.self.course.instance in
    let C : Course → Type 0 = λ k. IsCourse h H k in
    let W : ℕ → Type 0 = λ n. IsWay h H from n in
    let there : c.follow.new.self.course.position ≡ to = ap (λ (k : Course). k.position) follows.course in
    let one = moved_step h H at to c.step-moved.result changes before step.goes_on here.is.course.program step.deltas step.moved in
    let way = way_step h H at to changes before c.step-moved.new.self.instance here.is.course.program step.deltas step.leads step.is.program in
    let both = moved_on h H from at to here.from (omega (arith, step.goes_on)) here.way in
    let same = ap (moved_between h H from) there in
    let own = ap (λ (p : Program). units_moved_by_all p changes) here.is.program in
    record {
      is = record {
        course = subst C (sym follows.course) step.is;
        program = follows.program ∙ ap (λ (k : Course). k.instance) (sym follows.course);
        settled =
            follows.settled;
      };
      within = omega (arith, there, step.within);
      more = omega (arith, here.more, follows.counted.0);
      counted = omega (arith, here.counted, follows.counted.1, own, step.moved, c.if-moved-left.false);
      from = omega (arith, here.from, step.goes_on, there);
      way = subst W (sym there) (way_on h H from at to here.from (omega (arith, step.goes_on)) here.way way);
      caught = omega (arith, here.caught, follows.counted.1, own, step.moved, one, both, same);
      spent = omega (arith, here.spent, one, both, same, c.if-moved-left.false);
    }
