use Rattle.std.proofs.Common.{◌≡◌, ◌<◌, ◌++◌, [], ◌∷◌, List, length, rules, arith, ap, sym, subst, ◌∙◌}
use Rattle.bp_show.specs.Vectors.{Vector}
use Rattle.bp_show.specs.Shown.{number_shown, Rises}
use Rattle.bp_show.specs.Screens.{Display}
use Rattle.bp_show.specs.Order.{Sat}
use Rattle.bp_show.specs.declared.face.Face.{Face}
use Rattle.bp_show.proofs.Lists.{ends_number, rises_push}
use Rattle.bp_show.proofs.stage.Stage.show.Goals as goal

pub commit-requires-clause-rises : goal.commit-requires-clause-rises
commit-requires-clause-rises g c =
    let last = ap (λ (d : Display). number_shown d.seen) c.self.view_is in
    let ends = ends_number _ _ c.self.invariant.0 in
    let newer : c.self.inside.writer.desk.shown.value.shown.number < c.args.vector.number = (let n = c.requires.newer in omega (arith, n, last, ends)) in
    let nights : length c.args.vector.prices ≡ length c.self.inside.writer.desk.shown.value.shown.prices = c.requires.nights ∙
    sym (ap (λ (d : Display). d.nights) c.self.view_is) in
    let seen : c.prepare-like.new.place.me.0.seen ≡ c.self.inside.place.me.0.seen = ap (λ (m : Sat). m.0.seen) c.prepare-like.ensures.place in
    subst (λ (l : List Vector). Rises (l ++ c.args.vector ∷ [])) (sym seen) (rises_push _ _ c.args.vector c.self.invariant.1 c.self.invariant.0 newer nights)

pub invariant_of-self-2 : goal.invariant_of-self-2
invariant_of-self-2 g c =
    let last = ap (λ (d : Display). number_shown d.seen) c.self.view_is in
    let ends = ends_number _ _ c.self.invariant.0 in
    let newer : c.self.inside.writer.desk.shown.value.shown.number < c.args.vector.number = (let n = c.requires.newer in omega (arith, n, last, ends)) in
    let nights : length c.args.vector.prices ≡ length c.self.inside.writer.desk.shown.value.shown.prices = c.requires.nights ∙
    sym (ap (λ (d : Display). d.nights) c.self.view_is) in
    let seen : c.prepare-like.new.place.me.0.seen ≡ c.self.inside.place.me.0.seen = ap (λ (m : Sat). m.0.seen) c.prepare-like.ensures.place in
    let now : c.hand_out.new.place.me.0.seen ≡ c.prepare-like.new.place.me.0.seen ++ c.args.vector ∷ [] =
    ap (λ (m : Sat). m.0.seen) (c.hand_out.ensures.1 ∙ c.commit.ensures.place) in
    let made : c.replace_with.new.dest.desk.shown.value.shown ≡ c.args.vector = ap (λ (f : Face). f.shown) c.in_ok-replace_with.ensures.1.0 ∙ c.copy.ensures in
    let many = ap (λ (v : Vector). length v.prices) made in (
      (c.prepare-like.new.place.me.0.seen, now ∙ ap (λ (v : Vector). c.prepare-like.new.place.me.0.seen ++ v ∷ []) (sym made)),
      subst Rises (sym (now ∙ ap (λ (l : List Vector). l ++ c.args.vector ∷ []) seen))
          (rises_push _ _ c.args.vector c.self.invariant.1 c.self.invariant.0 newer nights),
      (let some = c.self.invariant.2 in omega (arith, some, many, nights)),
      search rules,
      search rules,
      search rules,
      search rules,
      search rules,
      search rules,
      search rules,
      search rules,
    )
