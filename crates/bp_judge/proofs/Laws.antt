-- One judgement.
use Rattle.std.proofs.Common.{◌≡◌, ℕ, cond, ◌==◌, ◌≤◌, ◌<◌, inl, inr, ◌∙◌, refl, sym, subst, ap, arith, length, take, Option, MatchOption}
use Rattle.std.proofs.lemmas.Bool.{cases_order}
use Rattle.std.proofs.lemmas.Option.{slice_get-get_or, slice_get_past}
use Rattle.bp_types.specs.House.{Inn}
use Rattle.bp_core.specs.declared.line.Line.{Line}
use Rattle.bp_core.specs.Legal.{IsLegalLine}
use Rattle.bp_core.specs.Lines.{History, line_at, no_line}
use Rattle.bp_judge.specs.declared.judgement.Cause.{Cause}
use Rattle.bp_judge.specs.declared.judgement.Cause.TheVariants.{Opening, Caller, Range, Limit, Behind, Position, Certificate, Reply}
use Rattle.bp_judge.specs.Judging.{rank, IsFirstCause, IsCauseAt, IsFirstIllegal, OneJudgement, NotBoth}
use Rattle.bp_judge.proofs.Firsts.{keeps_all}

abbrev rank_back : ℕ → Cause
rank_back n = cond (n == 0) Opening
    (cond (n == 1) Caller (cond (n == 2) Range (cond (n == 3) Limit (cond (n == 4) Behind (cond (n == 5) Position (cond (n == 6) Certificate Reply))))))

back : (c : Cause) → rank_back (rank c) ≡ c
back Opening = refl
back Caller = refl
back Range = refl
back Limit = refl
back Behind = refl
back Position = refl
back Certificate = refl
back Reply = refl

-- a line has one first cause
pub cause_once : (h : Inn) (H : History) (x : Line) (c d : Cause) → IsFirstCause h H x c → IsFirstCause h H x d → c ≡ d
cause_once h H x c d a b = elim (cases_order (rank c) (rank d)) [
  | inl same ↦ sym (back c) ∙ ap rank_back same ∙ back d
  | inr other ↦ elim other [ inl less ↦ absurd (a.breaks (b.before c less)) | inr more ↦ absurd (b.breaks (a.before d more)) ]
]

-- a line with a cause is not legal
pub cause_illegal : (h : Inn) (H : History) (x : Line) (c : Cause) → IsFirstCause h H x c → IsLegalLine h H x → ⊥
cause_illegal h H x c is legal = is.breaks (keeps_all h H x legal c)

-- a place with a cause is not legal, where something stands there
at_place : (h : Inn) (H : History) (p : ℕ) (c : Cause) → p < length H → IsCauseAt h H p c → IsFirstCause h (take p H) (line_at H p) c
at_place h H p c within is =
    let P : Option Line → Type 0 = λ o. MatchOption o ((p ≡ 0) × (c ≡ Opening)) (λ x. IsFirstCause h (take p H) x c) in
    subst P (slice_get-get_or H p no_line within) is

past : (h : Inn) (H : History) (p : ℕ) (c : Cause) → length H ≤ p → IsCauseAt h H p c → (p ≡ 0) × (c ≡ Opening)
past h H p c within is =
    let P : Option Line → Type 0 = λ o. MatchOption o ((p ≡ 0) × (c ≡ Opening)) (λ x. IsFirstCause h (take p H) x c) in
    subst P (slice_get_past H p within) is

pub not_both : NotBoth
not_both h H p c legal is = elim (Rattle.std.proofs.lemmas.Bool.cases_lt p (length H)) [
  | inl within ↦ cause_illegal h (take p H) (line_at H p) c (at_place h H p c within is.cause_is) (legal.lines p within)
  | inr beyond ↦ let e = past h H p c beyond is.cause_is in let s = legal.some_line in let z = e.0 in absurd (omega arith)
]

clash : (h : Inn) (H : History) (p q : ℕ) (c d : Cause) → p < q → IsFirstIllegal h H p c → IsFirstIllegal h H q d → ⊥
clash h H p q c d less a b = elim (Rattle.std.proofs.lemmas.Bool.cases_lt p (length H)) [
  | inl within ↦ cause_illegal h (take p H) (line_at H p) c (at_place h H p c within a.cause_is) (b.before p less)
  | inr beyond ↦ let e = past h H q d (omega arith) b.cause_is in let z = e.0 in absurd (omega arith)
]

same_place : (h : Inn) (H : History) (p : ℕ) (c d : Cause) → IsCauseAt h H p c → IsCauseAt h H p d → c ≡ d
same_place h H p c d a b = elim (Rattle.std.proofs.lemmas.Bool.cases_lt p (length H)) [
  | inl within ↦ cause_once h (take p H) (line_at H p) c d (at_place h H p c within a) (at_place h H p d within b)
  | inr beyond ↦ (past h H p c beyond a).1 ∙ sym (past h H p d beyond b).1
]

pub one_judgement : OneJudgement
one_judgement h H p q c d a b = elim (cases_order p q) [
  | inl same ↦ (let P : ℕ → Type 0 = λ k. IsCauseAt h H k d in (same, same_place h H p c d a.cause_is (subst P (sym same) b.cause_is)))
  | inr other ↦ elim other [ inl less ↦ absurd (clash h H p q c d less a b) | inr more ↦ absurd (clash h H q p d c more b a) ]
]
