-- The certificate of the line at a place.
use Rattle.std.proofs.Common.{◌≡◌, ℕ, ◌<◌, Option, Some, None, option_and_then, slice_get, length, take, refl, sym, ap, subst, ◌∙◌, inl, inr}
use Rattle.std.specs.Option.{option_map}
use Rattle.std.proofs.lemmas.Bool.{cases_lt}
use Rattle.std.proofs.lemmas.Option.{slice_get-get_or, slice_get_past}
use Rattle.bp_types.specs.Claim.{Claim}
use Rattle.bp_types.specs.House.{Inn}
use Rattle.bp_board.specs.Posted.{Posted}
use Rattle.bp_core.specs.declared.line.Act.{Act}
use Rattle.bp_core.specs.declared.line.Act.TheVariants.{Do, Publish, Enrol, Leave}
use Rattle.bp_core.specs.declared.line.Line.{Line}
use Rattle.bp_core.specs.Answer.{IsReply}
use Rattle.bp_core.specs.Legal.{IsLegal, IsCertified}
use Rattle.bp_core.specs.Lines.{History, no_line, line_at, boards, vectors, certificate_at}
use Rattle.bp_core.specs.Log.{published_number}
use Rattle.bp_core.proofs.Vectors.{vector_at}

-- the certificate of the board of this number, if there is one
abbrev pub numbered : History → Option ℕ → Option Claim
numbered H number = option_map (λ (b : Posted). b.certificate) (option_and_then (slice_get (boards H)) number)

-- the certificate of a legal line is that of the board that its reply numbers
at_line : (h : Inn) (H : History) (i : ℕ) → IsLegal h H → i < length H → numbered H (published_number (line_at H i).entry) ≡ (line_at H i).certificate
at_line h H i legal within = by_act (line_at H i).entry.act refl (legal.lines i within).certificate (legal.lines i within).reply
  where
    by_act : (a : Act) → (line_at H i).entry.act ≡ a → IsCertified h (take i H) (line_at H i).entry.act (line_at H i).certificate →
        IsReply h (take i H) (line_at H i).entry.caller (line_at H i).entry.act (line_at H i).entry.reply →
        numbered H (published_number (line_at H i).entry) ≡ (line_at H i).certificate
    by_act (Publish position) is certified replies =
        let c = subst (λ (a : Act). IsCertified h (take i H) a (line_at H i).certificate) is certified in
        let r = subst (λ (a : Act). IsReply h (take i H) (line_at H i).entry.caller a (line_at H i).entry.reply) is replies in
        let e : published_number (line_at H i).entry ≡ Some (vectors (take i H)) = rw (is, r) refl in
        ap (numbered H) e ∙ ap (option_map (λ (b : Posted). b.certificate)) (vector_at h H i position c.0 legal within is c.1) ∙ sym c.1
    by_act (Do command) is certified replies =
        let c = subst (λ (a : Act). IsCertified h (take i H) a (line_at H i).certificate) is certified in
        let e : published_number (line_at H i).entry ≡ None = rw is refl in
        ap (numbered H) e ∙ sym c
    by_act Enrol is certified replies =
        let c = subst (λ (a : Act). IsCertified h (take i H) a (line_at H i).certificate) is certified in
        let e : published_number (line_at H i).entry ≡ None = rw is refl in
        ap (numbered H) e ∙ sym c
    by_act Leave is certified replies =
        let c = subst (λ (a : Act). IsCertified h (take i H) a (line_at H i).certificate) is certified in
        let e : published_number (line_at H i).entry ≡ None = rw is refl in
        ap (numbered H) e ∙ sym c

-- so the book finds it
pub found : (h : Inn) (H : History) (place : ℕ) → IsLegal h H →
    numbered H (option_and_then published_number (option_map (λ (x : Line). x.entry) (slice_get H place))) ≡ certificate_at H place
found h H place legal =
    elim (cases_lt place (length H)) [
      | inl within ↦
          let here = slice_get-get_or H place no_line within in
          rw here (at_line h H place legal within)
      | inr past ↦ rw (slice_get_past H place past) refl
    ]
