-- `group`: what a group of rooms on a span displaces.
use Rattle.std.specs.Prelude.{◌≡◌, ℕ, List, [], ◌∷◌, ◌++◌, length, slice_index, codes, Some}
use Rattle.bp_types.specs.Program.{Program}
use Rattle.bp_types.specs.declared.stay.Span.{Span}
use Rattle.bp_types.specs.Claim.{IsLeastCertificate}
use Rattle.bp_types.specs.Spans.{IsSpanWithin, first_short}
use Rattle.bp_types.specs.Changes.{HasUnits}
use Rattle.bp_types.specs.Displacement.{IsDisplacement, without}
use Rattle.bp_cert.specs.Texts.{certificate_text}
use Rattle.bp_cli.specs.Words.{Word}
use Rattle.bp_inputs.specs.Stages.{one}
use Rattle.bp_inputs.specs.TextFiles.{problem_file}
use Rattle.bp_run.specs.Command.{Command}
use Rattle.bp_run.specs.Texts.{line}
use Rattle.bp_run.specs.declared.status.Status.{Status}
use Rattle.bp_run.specs.declared.status.Status.TheVariants.{Done, Refused}
use Rattle.bp_run.specs.declared.end.Answer.TheVariants.{Grouped}
use Rattle.bp_run.specs.declared.commands.group.GroupAnswer.{GroupAnswer}
use Rattle.bp_run.specs.declared.commands.group.GroupAnswer.TheVariants.{Quoted, BadSpan, NoRoom}

-- the span from a night up to another
abbrev pub span_of : ℕ → ℕ → Span
span_of from to = record { from = from; to = to }

-- what is answered to a group of so many rooms: that its span is none of the problem's, the first night that lacks the
-- rooms, or its displacement with certificates of both optima
abbrev pub IsGroupAnswer : Program → Span → ℕ → GroupAnswer → Type 0
IsGroupAnswer p span rooms BadSpan = IsSpanWithin (length p.rooms) span → ⊥
IsGroupAnswer p span rooms (NoRoom night) = IsSpanWithin (length p.rooms) span × (first_short (slice_index p.rooms) span rooms ≡ Some night)
IsGroupAnswer p span rooms (Quoted displacement before after) =
    IsDisplacement p span rooms displacement × IsLeastCertificate p before × IsLeastCertificate (without p span rooms) after

-- one problem; the group is served where its nights are there and have the rooms
abbrev pub group_command : Word → Span → ℕ → Command
group_command problem span rooms = record {
  Given = Program;
  plan = one (problem_file problem);
  Own = GroupAnswer;
  IsRight = λ p. IsGroupAnswer p span rooms;
  IsServed = λ p. IsSpanWithin (length p.rooms) span × HasUnits p span rooms;
  among = Grouped;
}

-- what is said to a group
abbrev pub group_said : GroupAnswer → List ℕ
group_said (Quoted displacement before after) = line (codes "displacement") (displacement ∷ []) ++ (certificate_text before ++ certificate_text after)
group_said BadSpan = line (codes "refused span") []
group_said (NoRoom night) = line (codes "noroom") (night ∷ [])

-- done, or refused
abbrev pub group_status : GroupAnswer → Status
group_status (Quoted displacement before after) = Done
group_status BadSpan = Refused
group_status (NoRoom night) = Refused
