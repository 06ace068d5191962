-- Who has left has no later entry.
use Rattle.std.proofs.Common.{◌≡◌, ℕ, ◌==◌, Bool, true, false, not, ◌&&◌, ◌||◌, take, IsTrue, refl, ap, subst, ◌∙◌, arith, eq-eqb}
use Rattle.std.proofs.lemmas.Bool.{and_parts, and_from, not-true}
use Rattle.std.proofs.lemmas.List.{length-take-le}
use Rattle.std.proofs.lemmas.List.Folds.{list_any_at}
use Rattle.bp_core.specs.declared.line.Act.{Act}
use Rattle.bp_core.specs.declared.line.Act.TheVariants.{Do, Publish, Enrol, Leave}
use Rattle.bp_core.specs.declared.line.Line.{Line}
use Rattle.bp_core.specs.Lines.{History, no_line, line_at, is_by}
use Rattle.bp_core.specs.Callers.{is_leave, is_leave_by, has_entry, has_enrolled, has_left, may_act, may_log}
use Rattle.bp_core.specs.Counting.{LeaveIsLast}
use Rattle.bp_core.proofs.Prefixes.{line_at-take}

-- the opener does not leave
leaver_is_not_opener : (H : History) (caller : ℕ) (act : Act) → is_leave act ≡ true → IsTrue (may_log H caller act) → (caller == 0) ≡ false
leaver_is_not_opener H caller (Do command) leaves may = absurd (cc)
leaver_is_not_opener H caller (Publish position) leaves may = absurd (cc)
leaver_is_not_opener H caller Enrol leaves may = absurd (cc)
leaver_is_not_opener H caller Leave leaves may = not-true (caller == 0) (and_parts (not (caller == 0)) (may_act H caller) may).0

cannot_act : (z e l : Bool) → z ≡ false → l ≡ true → IsTrue (z || (e && not l)) → ⊥
cannot_act true e l other left may = absurd (cc)
cannot_act false true true other left may = absurd (cc)
cannot_act false true false other left may = absurd (cc)
cannot_act false false l other left may = absurd (cc)

cannot_enrol : (a e : Bool) → e ≡ true → IsTrue (a && not e) → ⊥
cannot_enrol true true here may = absurd (cc)
cannot_enrol true false here may = absurd (cc)
cannot_enrol false e here may = absurd (cc)

-- who has left may log nothing
gone_logs_nothing : (H : History) (caller : ℕ) (act : Act) → (caller == 0) ≡ false → has_entry H caller ≡ true → has_left H caller ≡ true →
    IsTrue (may_log H caller act) → ⊥
gone_logs_nothing H caller (Do command) other entry left may = cannot_act (caller == 0) (has_enrolled H caller) (has_left H caller) other left may
gone_logs_nothing H caller (Publish position) other entry left may = cannot_act (caller == 0) (has_enrolled H caller) (has_left H caller) other left may
gone_logs_nothing H caller Enrol other entry left may = cannot_enrol _ (has_entry H caller) entry may
gone_logs_nothing H caller Leave other entry left may =
    cannot_act (caller == 0) (has_enrolled H caller) (has_left H caller) other left (and_parts (not (caller == 0)) (may_act H caller) may).1

pub leave_is_last : LeaveIsLast
leave_is_last h H i j legal before within leaves same =
    let x : Line = line_at H i in
    let y : Line = line_at H j in
    let c = x.entry.caller in
    let G : History = take j H in
    let size = length-take-le j H (omega (arith, within)) in
    let here : line_at G i ≡ x = line_at-take H i j before in
    let by : is_by c x ≡ true = eq-eqb c c refl in
    let entry : has_entry G c ≡ true = list_any_at (is_by c) G i no_line (omega (arith, size, before)) (ap (is_by c) here ∙ by) in
    let left : has_left G c ≡ true = list_any_at (is_leave_by c) G i no_line (omega (arith, size, before)) (ap (is_leave_by c) here ∙ and_from _ _ by leaves) in
    let other = leaver_is_not_opener (take i H) c x.entry.act leaves (legal.lines i (omega (arith, before, within))).caller in
    gone_logs_nothing G c y.entry.act other entry left (subst (λ n. IsTrue (may_log G n y.entry.act)) same (legal.lines j within).caller)
