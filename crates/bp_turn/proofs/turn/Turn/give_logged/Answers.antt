use Rattle.std.proofs.Common.{◌≡◌, ◌++◌, ◌∷◌, [], length, ap, arith, rules}
use Rattle.bp_turn.proofs.Logs.{logs_entry}
use Rattle.bp_turn.proofs.turn.Turn.give_logged.Goals as goal

-- the longer story's length is below 2^64, since `length` answered it
pub fetch_add-requires : goal.fetch_add-requires
fetch_add-requires g c =
    let entry = c.requires.story in
    let same : g.B.Story.story c.args.value ≡ c.put_back.new.place.me.0.seen ++ entry.0 ∷ [] = search rules in
    let n = ap length same in (
      search rules,
      search rules,
      logs_entry _ _ _ _ _ _ _ c.args.value entry.0 (search rules) (search rules) (search rules) same (search rules)
          (omega (arith, n, c.length-length.ensures, c.length-length.type_inv)),
    )
