-- What each end of a call says: its status and its text.
use Rattle.std.specs.Prelude.{ℕ, List, [], ◌∷◌, ◌++◌, codes}
use Rattle.bp_run.specs.Texts.{line}
use Rattle.bp_run.specs.Refusals.{refusal_line}
use Rattle.bp_run.specs.Commands.{answer_said, answer_status}
use Rattle.bp_run.specs.declared.status.Status.{Status}
use Rattle.bp_run.specs.declared.status.Status.TheVariants as status
use Rattle.bp_run.specs.declared.end.End.{End}
use Rattle.bp_run.specs.declared.end.End.TheVariants.{NotPlain, Fault, Refused, Answered}

-- the lines of the usage text
abbrev pub usage : List ℕ
usage =
    line (codes "usage:") []
    ++ line (codes "bidprice check PROBLEM CERTIFICATE") []
    ++ line (codes "bidprice solve PROBLEM") []
    ++ line (codes "bidprice group PROBLEM FROM TO ROOMS") []
    ++ line (codes "bidprice judge PROBLEM JOURNAL") []
    ++ line (codes "bidprice desk HOTEL STAYS FORECAST BOOKINGS SCRIPT [--workers W]") []
    ++ line (codes "bidprice replay HOTEL STAYS FORECAST BOOKINGS JOURNAL") []
    ++ line (codes "bidprice report HOTEL STAYS FORECAST BOOKINGS JOURNAL") []
    ++ line (codes "bidprice demo SEED NIGHTS ROOMS STAYS") []
    ++ line (codes "bidprice scenarios PROBLEM CHANGES") []
    ++ line (codes "bidprice sheet PROBLEM") []
    ++ line (codes "bidprice portfolio LIST [--workers W]") []

-- what an end says
abbrev pub said : End → List ℕ
said NotPlain = usage
said (Fault file) = line (codes "fault") (file ∷ [])
said (Refused file cause) = refusal_line file cause
said (Answered answer) = answer_said answer

-- the status of an end
abbrev pub end_status : End → Status
end_status NotPlain = status.NotPlain
end_status (Fault file) = status.Fault
end_status (Refused file cause) = status.Refused
end_status (Answered answer) = answer_status answer
