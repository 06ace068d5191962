-- A board is published.
use Rattle.std.proofs.Common.{◌≡◌, ℕ, ◌<◌, ◌≤◌, refl, ap, ◌∙◌, arith, ◌==◌, ◌||◌, IsTrue, List, length, inl, inr}
use Rattle.std.proofs.lemmas.Bool.{cases_lt, lt-ltb, le-leb, and_from}
use Rattle.bp_types.specs.House.{Inn}
use Rattle.bp_types.specs.Claim.{IsCertificateOf}
use Rattle.bp_board.specs.Posted.{Posted}
use Rattle.bp_ledger.specs.Inventory.{Inventory}
use Rattle.bp_core.specs.declared.line.Act.TheVariants.{Publish}
use Rattle.bp_core.specs.declared.line.Line.{Line}
use Rattle.bp_core.specs.Lines.{History, vectors, last_position}
use Rattle.bp_core.specs.Callers.{may_log}
use Rattle.bp_core.specs.Changes.{changes_between}
use Rattle.bp_core.specs.Instance.{instance_at}
use Rattle.bp_core.specs.Legal.{IsLegal, IsLegalLine}
use Rattle.bp_core.specs.Log.{LogView, published_line}
use Rattle.bp_core.specs.Roll.{RollView}
use Rattle.bp_core.specs.Keeping.{AreInStep}
use Rattle.bp_core.proofs.Counts.{and_false, did_true, vectors_fit}
use Rattle.bp_core.proofs.Effects.{opened}
use Rattle.bp_core.proofs.InStepMore.{Follows}
use Rattle.bp_core.proofs.Quiet.{IsQuiet, follows_quiet, quiet_forecasts, quiet_rates}

pub vectors_left : (h : Inn) (H : History) → IsLegal h H → ((vectors H ≡ h.limits.publications) → ⊥) → vectors H < h.limits.publications
vectors_left h H legal not_full =
    elim (cases_lt (vectors H) h.limits.publications) [
      | inl less ↦ less
      | inr full ↦ absurd (not_full (omega (arith, vectors_fit h H legal)))
    ]

pub publish_is_legal : (h : Inn) (H : History) (caller : ℕ) (board : Posted) → IsLegal h H → IsTrue (may_log H caller (Publish board.position)) →
    board.position ≤ length H → IsCertificateOf (instance_at h H board.position) board.certificate →
    1 ≤ changes_between H (last_position H) board.position → ((vectors H ≡ h.limits.publications) → ⊥) →
    IsLegalLine h H (published_line caller board (vectors H))
publish_is_legal h H caller board legal may within certifies newer not_full = record {
  opening = opened h H (published_line caller board (vectors H)) legal;
  caller = may;
  range = refl;
  limit = lt-ltb _ _ (vectors_left h H legal not_full);
  behind = refl;
  position = ap (λ b. (length H == 0) || b) (and_from _ _ (le-leb _ _ within) (le-leb _ _ newer)) ∙ did_true (length H == 0);
  certificate = (board.certificate, refl, certifies);
  reply = refl;
}

publish_is_quiet : (caller : ℕ) (board : Posted) (number : ℕ) → IsQuiet (published_line caller board number)
publish_is_quiet caller board number = record { no_book = refl; no_resize = λ n. refl; no_cancel = λ k nth. and_false (caller == k); no_group = λ n. refl }

pub publish_follows : (h : Inn) (log : LogView) (roll : RollView) (inventory : Inventory) (forecasts rates : List ℕ) (caller : ℕ) (board : Posted) →
    AreInStep h log roll inventory forecasts rates →
    Follows h log.lines roll roll inventory forecasts rates (published_line caller board (vectors log.lines))
publish_follows h log roll inventory forecasts rates caller board kept =
    let x : Line = published_line caller board (vectors log.lines) in
    let quiet = publish_is_quiet caller board (vectors log.lines) in
    follows_quiet h log roll inventory forecasts forecasts rates rates x kept quiet refl refl
    (kept.forecasts_are ∙ quiet_forecasts h log.lines x quiet (λ j. refl))
    (kept.rates_are ∙ quiet_rates h log.lines x (λ j. refl))
