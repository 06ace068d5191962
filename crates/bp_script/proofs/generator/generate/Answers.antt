use Rattle.std.proofs.Common.{◌∙◌, ap, length, rules}
use Rattle.std.proofs.lemmas.List.FromFn.{length-map-range_with_len}
use Rattle.bp_script.specs.Demo.{stay_drawn}
use Rattle.bp_script.proofs.DemoLemmas.{demo_within}
use Rattle.bp_script.proofs.generator.generate.Goals as goal

pub within-requires : goal.within-requires
within-requires c =
    let size = ap length c.in_ok-stays.ensures.stays ∙ length-map-range_with_len (stay_drawn c.args.seed c.args.nights) 0 c.args.stays in
    demo_within c.args.nights c.args.rooms c.in_ok-rooms.rooms.items c.in_ok-stays.stays.items c.args.stays
    c.requires.nights.0 c.requires.nights.1 c.requires.rooms c.requires.stays (search rules) size c.in_ok-stays.ensures.small
