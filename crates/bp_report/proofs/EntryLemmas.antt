-- The Books of a legal history: each is by one of the callers, and of a stay of the house.
use Rattle.std.proofs.Common.{◌≡◌, ℕ, zero, suc, ◌<◌, ◌==◌, IsTrue, take, length, Some, sym, ◌∙◌, arith}
use Rattle.std.proofs.lemmas.Bool.{ltb-true, eqb-true}
use Rattle.bp_types.specs.declared.command.Command.TheVariants.{Book, Cancel, Reforecast, Reprice, Resize, Group}
use Rattle.bp_types.specs.declared.limits.TheConstants.{CALLERS}
use Rattle.bp_types.specs.House.{Inn}
use Rattle.bp_core.specs.declared.line.Act.{Act}
use Rattle.bp_core.specs.declared.line.Act.TheVariants.{Do, Publish, Enrol, Leave}
use Rattle.bp_core.specs.Callers.{may_act, may_log}
use Rattle.bp_core.specs.Legal.{IsLegal, is_in_range}
use Rattle.bp_core.specs.Lines.{History, line_at, booked_stay}
use Rattle.bp_core.proofs.Bookings.{act_is_small}
use Rattle.bp_core.proofs.Counts.{did_old}
use Rattle.bp_core.proofs.Prefixes.{prefixes_are_legal}

-- who may act at a place of a legal history
acts_small : (h : Inn) (H : History) (n caller : ℕ) → IsLegal h H → n < length H → IsTrue (may_act (take n H) caller) → caller < CALLERS
acts_small h H zero caller legal within may = omega (arith, eqb-true caller 0 (sym (did_old (caller == 0)) ∙ may))
acts_small h H (suc n) caller legal within may =
    act_is_small h (take (suc n) H) caller (prefixes_are_legal h H (suc n) legal (omega arith) (omega arith)) may

book_may : (H : History) (caller stay : ℕ) (act : Act) → booked_stay act ≡ Some stay → IsTrue (may_log H caller act) → IsTrue (may_act H caller)
book_may H caller stay (Do (Book s)) is may = may
book_may H caller stay (Do (Cancel nth)) is may = absurd (cc)
book_may H caller stay (Do (Reforecast s count)) is may = absurd (cc)
book_may H caller stay (Do (Reprice s rate)) is may = absurd (cc)
book_may H caller stay (Do (Resize night rooms)) is may = absurd (cc)
book_may H caller stay (Do (Group span rooms amount)) is may = absurd (cc)
book_may H caller stay (Publish position) is may = absurd (cc)
book_may H caller stay Enrol is may = absurd (cc)
book_may H caller stay Leave is may = absurd (cc)

book_range : (h : Inn) (stay : ℕ) (act : Act) → booked_stay act ≡ Some stay → IsTrue (is_in_range h act) → stay < length h.stays
book_range h stay (Do (Book s)) is range = let same : s ≡ stay = (cc) in omega (arith, ltb-true s (length h.stays) range, same)
book_range h stay (Do (Cancel nth)) is range = absurd (cc)
book_range h stay (Do (Reforecast s count)) is range = absurd (cc)
book_range h stay (Do (Reprice s rate)) is range = absurd (cc)
book_range h stay (Do (Resize night rooms)) is range = absurd (cc)
book_range h stay (Do (Group span rooms amount)) is range = absurd (cc)
book_range h stay (Publish position) is range = absurd (cc)
book_range h stay Enrol is range = absurd (cc)
book_range h stay Leave is range = absurd (cc)

-- a Book at a place is by one of the callers
pub book_caller : (h : Inn) (H : History) (n stay : ℕ) → IsLegal h H → n < length H → booked_stay (line_at H n).entry.act ≡ Some stay →
    (line_at H n).entry.caller < CALLERS
book_caller h H n stay legal within is =
    acts_small h H n (line_at H n).entry.caller legal within
    (book_may (take n H) (line_at H n).entry.caller stay (line_at H n).entry.act is (legal.lines n within).caller)

-- and of a stay of the house
pub book_stay : (h : Inn) (H : History) (n stay : ℕ) → IsLegal h H → n < length H → booked_stay (line_at H n).entry.act ≡ Some stay → stay < length h.stays
book_stay h H n stay legal within is = book_range h stay (line_at H n).entry.act is (legal.lines n within).range
