use Rattle.std.proofs.Common.{◌∙◌, ap, sym, arith}
use Rattle.std.specs.Option.{option_map}
use Rattle.std.proofs.lemmas.Bool.{MatchBool-at_false}
use Rattle.bp_judge.specs.declared.solved.Solved.{Solved}
use Rattle.bp_judge.specs.Trails.{quoted_at}
use Rattle.bp_judge.proofs.Counting.{counts_anew, counts_first}
use Rattle.bp_judge.proofs.trail.Trail.solved_now.Goals as goal
use Rattle.bp_judge.proofs.trail.Trail.solved_now.Goals.{in-Some+else-reach, in-None+in_ok-course-in-None}

pub returns-clause-counted : goal.returns-clause-counted
returns-clause-counted g c =
    let h = c.args.book.now.house in
    let H = c.args.book.now.history in
    let end = c.length-until.ensures.value in
    let stands = c.advance.ensures.position ∙ end in
    let anew = c.cold.ensures.counted in
    elim c.match-take.branch [
      | in-Some+else-reach w ↦
          let some = ap (option_map (λ (s : Solved). s.course.position)) (sym c.take.ensures.value ∙ w.in-Some.is) in
          let few = w.reach.ensures.counted in
          let much = MatchBool-at_false _ _ w.if-reach.false w.reach.ensures.caught_up in
          counts_anew h H (quoted_at c.args.self.now)
          c.args.steps.now c.match-take.steps c.cold.new.steps w.in-Some.solved.course.position c.length-until.result c.advance.new.self.position
          c.advance.new.self.instance some end
          (omega (arith, few.0, w.steps-is), omega (arith, few.1, w.steps-is)) much stands c.advance.ensures.is.program anew
      | in-None+in_ok-course-in-None w ↦
          let none = ap (option_map (λ (s : Solved). s.course.position)) (sym c.take.ensures.value ∙ w.in-None.is) in
          counts_first h H (quoted_at c.args.self.now)
          c.args.steps.now c.cold.new.steps c.advance.new.self.position c.advance.new.self.instance none stands c.advance.ensures.is.program
          (omega (arith, anew.0, w.steps-is), omega (arith, anew.1, w.steps-is))
    ]
