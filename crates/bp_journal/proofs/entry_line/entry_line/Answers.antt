use Rattle.bp_journal.proofs.EntryLineLemmas.{not_placed, not_told, found_line}
use Rattle.bp_journal.proofs.entry_line.entry_line.Goals as goal

pub returns-then-not-is_place : goal.returns-then-not-is_place
returns-then-not-is_place c = not_placed c.args.version c.args.place c.args.line.now c.new-words.result c.new-words.ensures c.if-not-is_place.ensures

pub returns-in-None : goal.returns-in-None
returns-in-None c = not_told c.args.version c.args.place c.args.line.now c.new-words.result c.is_place.new.words c.new-words.ensures c.if-not-is_place.ensures
    c.in-None.ensures

pub found-requires : goal.found-requires
found-requires c = let t = c.in-Some.ensures in t.3.caller_is.0

pub returns-in-Some : goal.returns-in-Some
returns-in-Some c =
    let t = c.in-Some.ensures in
    found_line c.args.version c.args.place c.args.line.now c.new-words.result c.is_place.new.words t.0 c.found.result c.new-words.ensures
    c.if-not-is_place.ensures t.1 t.2 (c.found.ensures t.0 t.3)
