use Rattle.std.proofs.Common.{◌≡◌, drop}
use Rattle.std.specs.FinMap.{get}
use Rattle.bp_edges.specs.Memory.{files_of}
use Rattle.bp_edges.proofs.memory_shelf.find.Given as goal

-- the files from here on have at the name what all of them have
abbrev pub invariant-loop-file : goal.invariant-loop-file
invariant-loop-file l = get (files_of (drop l.file-index l.files)) l.name ≡ get (files_of l.files) l.name
