-- What a caller may do by what it has seen it may do later, where it has the same calls of its own.
use Rattle.std.proofs.Common.{◌≡◌, ℕ, Bool, true, false, ◌||◌, cond, [], ◌∷◌, filter, refl, ap, ◌∙◌, subst, IsTrue}
use Rattle.std.specs.List.{list_any}
use Rattle.bp_types.specs.House.{Inn}
use Rattle.bp_turn.specs.Prefix.{IsPrefix}
use Rattle.bp_core.specs.declared.line.Act.TheVariants.{Publish as PublishAct}
use Rattle.bp_core.specs.declared.line.Line.{Line}
use Rattle.bp_core.specs.declared.call.Call.{Call}
use Rattle.bp_core.specs.Lines.{History, calls}
use Rattle.bp_core.specs.Callers.{may_act}
use Rattle.bp_core.specs.Acting.{act_of}
use Rattle.bp_core.proofs.Growing.{may_log_by_own, right_stays_right}
use Rattle.bp_desk.specs.Calling.{MayMake}

-- a test that only some lines can pass finds no more in all lines than in these
pub any_among : (q p : Line → Bool) (H : History) → ((x : Line) → q x ≡ false → p x ≡ false) → list_any p H ≡ list_any p (filter q H)
any_among q p [] only = refl
any_among q p (x ∷ H) only = by_test (any_among q p H only) (q x) refl
  where
    by_test : list_any p H ≡ list_any p (filter q H) → (b : Bool) → q x ≡ b → list_any p (x ∷ H) ≡ list_any p (cond b (x ∷ filter q H) (filter q H))
    by_test rest true is = ap (λ t. p x || t) rest
    by_test rest false is = ap (λ t. t || list_any p H) (only x is) ∙ rest

pub may_act_same : (G H : History) (caller : ℕ) → calls G caller ≡ calls H caller → may_act G caller ≡ may_act H caller
may_act_same G H caller same = may_log_by_own G H caller (PublishAct 0) same

-- what may be made by what was seen may be made later
pub may_make_later : (h : Inn) (G H : History) (caller : ℕ) (call : Call) → IsPrefix G H → calls G caller ≡ calls H caller → MayMake h G caller call →
    MayMake h H caller call
may_make_later h G H caller call grows same may = record {
  caller_may = subst IsTrue (may_log_by_own G H caller (act_of call) same) may.caller_may;
  in_range = may.in_range;
  is_right = right_stays_right h G H call grows may.is_right;
}
