use Rattle.std.proofs.Common.{◌+◌, ◌≤◌, ◌++◌, List}
use Rattle.std.specs.Prelude.{vec_len, vec_capacity}
use Rattle.std.specs.Vec.Iter.{into_iter_items, into_iter_len}
use Rattle.bp_core.specs.declared.call.Answer.{Answer}
use Rattle.bp_core.specs.Acting.{Diary}
use Rattle.bp_core.specs.Calls.{MayMakeAll, AreAnswered, Continues}
use Rattle.bp_core.specs.Legal.{IsLegal}
use Rattle.bp_core.proofs.calls.make_all.Given as goal

-- what the calls to come are answered goes on from what those before were
abbrev pub invariant-loop-made : goal.invariant-loop-made
invariant-loop-made l = record {
  may : MayMakeAll l.book (into_iter_items l.made-iterator);
  goes_on : (new : Diary) (more : List Answer) → AreAnswered l.book new (into_iter_items l.made-iterator) more →
      AreAnswered l.fn.book new l.fn.calls.items (l.answers.items ++ more);
  continues : Continues l.fn.book l.book;
  legal : IsLegal l.book.house l.book.history;
  room : vec_len l.answers + into_iter_len l.made-iterator ≤ vec_capacity l.answers;
}
