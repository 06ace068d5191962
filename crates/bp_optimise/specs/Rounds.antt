-- What a round did.
use Rattle.std.specs.Prelude.{◌≡◌, ◌<◌, ◌≤◌, ℕ, Bool, true, false, length, Option, Some, None}
use Rattle.bp_core.specs.declared.line.Reply.TheVariants.{Vector}
use Rattle.bp_core.specs.declared.call.Answer.{Answer}
use Rattle.bp_core.specs.declared.call.Answer.TheVariants.{Logged, Superseded as LaterThere, PublicationsFull as NoneLeft}
use Rattle.bp_core.specs.Lines.{last_position}
use Rattle.bp_core.specs.Changes.{changes_after}
use Rattle.bp_desk.specs.Passes.{PassState}
use Rattle.bp_desk.specs.Calling.{HasRead}
use Rattle.bp_optimise.specs.declared.round.Round.{Round}
use Rattle.bp_optimise.specs.declared.round.Round.TheVariants.{Unchanged, Published, Superseded, PublicationsFull}
use Rattle.bp_optimise.specs.Following.{HasLooked, IsOffered}

-- enough had changed at the first turn, and a board for the position of that turn was offered and so answered
pub record HasOffered (old new : PassState) (position least : ℕ) (answer : Answer) : Type 0 where
  pub first : PassState
  pub middle : PassState
  pub looked : HasRead old first
  pub enough : least ≤ changes_after first.seen (last_position first.seen)
  pub between : HasLooked first middle
  pub caught_up : position ≡ length first.seen
  pub offered : IsOffered least position middle new answer

-- a round for so many changes; the position is the optimiser's afterwards
abbrev pub IsRound : PassState → PassState → ℕ → ℕ → Round → Type 0
IsRound old new position least (Unchanged changes) = HasRead old new × (changes ≡ changes_after new.seen (last_position new.seen)) × (changes < least)
IsRound old new position least (Published number) = HasOffered old new position least (Logged (Vector number))
IsRound old new position least (Superseded p changes) = HasOffered old new position least (LaterThere p changes)
IsRound old new position least PublicationsFull = HasOffered old new position least NoneLeft

-- what its board was answered; a round that found too few changes has none
abbrev pub answer_of : Round → Option Answer
answer_of (Unchanged changes) = None
answer_of (Published number) = Some (Logged (Vector number))
answer_of (Superseded p changes) = Some (LaterThere p changes)
answer_of PublicationsFull = Some NoneLeft

-- somebody else's vector came first
abbrev pub is_superseded : Round → Bool
is_superseded (Superseded p changes) = true
is_superseded _ = false

-- as many vectors as there may be are published
abbrev pub found_none_left : Round → Bool
found_none_left PublicationsFull = true
found_none_left _ = false
