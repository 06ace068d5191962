use Rattle.std.proofs.Common.{◌≡◌, ℕ, List, length, subst, sym, arith}
use Rattle.std.proofs.lemmas.Result.{err_from_is_err_and}
use Rattle.bp_types.specs.declared.stay.Stay.{Stay}
use Rattle.bp_types.specs.Program.{Program}
use Rattle.bp_text.specs.Reading.{GivesLines, Spells}
use Rattle.bp_cert.specs.Texts.{problem_lines, head_lines, AreStaysWithin, IsProblem, IsHead}
use Rattle.bp_text.proofs.StageLemmas.{more_lines}
use Rattle.bp_cert.proofs.ProblemLemmas.{stays_read, end_refused, whole_problem}
use Rattle.bp_cert.proofs.problem_text.read_lines.Goals as goal

pub returns-in_err-stays : goal.returns-in_err-stays
returns-in_err-stays c =
    let p = err_from_is_err_and c.from_residual-in_err-stays.result c.from_residual-in_err-stays.ensures.1 in
    let P : List ℕ → Type 0 =
    λ rooms. GivesLines c.args.lines.now c.read_head.new.lines (head_lines rooms c.in_ok-head.head.stays) c.read_head.new.lines.rest in
    rw (p.1, p.2) (c.in_err-stays.ensures c.args.lines.now (subst P (sym c.deref.ensures.value) c.in_ok-head.ensures.1))

pub returns-in_err-word_line : goal.returns-in_err-word_line
returns-in_err-word_line c =
    let p = err_from_is_err_and c.from_residual-in_err-word_line.result c.from_residual-in_err-word_line.ensures.1 in
    let rooms : List ℕ = c.in_ok-head.head.rooms.items in
    let stays : List Stay = c.in_ok-stays.stays.items in
    let same = c.deref.ensures.value in
    let counted : length stays ≡ c.in_ok-head.head.stays = c.in_ok-stays.ensures.0 in
    let P : ℕ → Type 0 = λ n. IsHead rooms n in
    let Q : ℕ → Type 0 = λ n. GivesLines c.args.lines.now c.read_head.new.lines (head_lines rooms n) c.read_head.new.lines.rest in
    let R : List ℕ → Type 0 = λ r. AreStaysWithin (length r) stays in
    rw (p.1, p.2) (end_refused rooms stays _ _ _ _
    (stays_read rooms (length stays) 0 stays _ _ (subst P (sym counted) c.in_ok-head.ensures.0) (subst R same c.in_ok-stays.ensures.1) (omega arith)
    (more_lines _ _ _ _ _ (subst Q (sym counted) c.in_ok-head.ensures.1) c.in_ok-stays.ensures.2)) c.in_err-word_line.ensures)

pub returns : goal.returns
returns c =
    let rooms : List ℕ = c.in_ok-head.head.rooms.items in
    let stays : List Stay = c.in_ok-stays.stays.items in
    let same = c.deref.ensures.value in
    let counted : length stays ≡ c.in_ok-head.head.stays = c.in_ok-stays.ensures.0 in
    let P : ℕ → Type 0 = λ n. IsHead rooms n in
    let Q : ℕ → Type 0 = λ n. GivesLines c.args.lines.now c.read_head.new.lines (head_lines rooms n) c.read_head.new.lines.rest in
    let R : List ℕ → Type 0 = λ r. AreStaysWithin (length r) stays in
    let T : Program → Type 0 = λ v. Spells problem_lines IsProblem c.args.lines.now c.word_line.new.lines v in
    subst T (sym c.within.ensures) (whole_problem rooms stays _ _ _ (subst P (sym counted) c.in_ok-head.ensures.0) (subst R same c.in_ok-stays.ensures.1)
    (more_lines _ _ _ _ _ (subst Q (sym counted) c.in_ok-head.ensures.1) c.in_ok-stays.ensures.2) c.in_ok-word_line.ensures.2)
