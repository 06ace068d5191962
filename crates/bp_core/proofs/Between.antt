-- What stands between two positions leads from the instance at the one to that at the other.
use Rattle.std.proofs.Common.{◌≡◌, ℕ, zero, suc, ◌+◌, ◌-◌, ◌<◌, ◌≤◌, ap, sym, subst, arith, List, length, take}
use Rattle.std.proofs.lemmas.List.{length-take-le}
use Rattle.std.specs.List.{flat_map, range_with_len}
use Rattle.bp_types.specs.declared.change.Change.{Change}
use Rattle.bp_types.specs.House.{Inn, IsHouse}
use Rattle.bp_types.specs.Changes.{Leads}
use Rattle.bp_core.specs.Lines.{History, line_at}
use Rattle.bp_core.specs.Changes.{deltas_at, deltas_between}
use Rattle.bp_core.specs.Instance.{instance_of, instance_at}
use Rattle.bp_core.specs.Laws.{DeltasLead}
use Rattle.bp_core.specs.Legal.{IsLegal}
use Rattle.bp_core.proofs.StoredBetween.{flat_map-more}
use Rattle.bp_core.proofs.LineLeads.{Stands, line_leads}
use Rattle.bp_core.proofs.Prefixes.{prefixes_are_legal, take-more}
use Rattle.bp_core.proofs.Sound.{sound_at, sound_more}
use Rattle.bp_core.proofs.Turns.{leads-append, leads_none}

-- the line at a place
place_leads : (h : Inn) (H : History) (n : ℕ) → IsHouse h → IsLegal h H → n < length H → Leads (instance_at h H n) (deltas_at h H n) (instance_at h H (n + 1))
place_leads h H n house legal within =
    let before = sound_at h H n house legal (omega arith) in
    let line = legal.lines n within in
    let each = length-take-le n H (omega arith) in
    let stands : Stands h (take n H) (line_at H n) = record {
      house = house;
      legal = λ some. prefixes_are_legal h H n legal (omega (arith, each, some)) (omega arith);
      line = line;
      before = before;
      after = sound_more h (take n H) (line_at H n) before line;
    } in
    let P : History → Type 0 = λ G. Leads (instance_at h H n) (deltas_at h H n) (instance_of h G) in
    subst P (sym (take-more H n within)) (line_leads h (take n H) (line_at H n) stands)

run_leads : (h : Inn) (H : History) (a d : ℕ) → IsHouse h → IsLegal h H → a + d ≤ length H →
    Leads (instance_at h H a) (deltas_between h H a (a + d)) (instance_at h H (a + d))
run_leads h H a zero house legal within =
    let at : a + 0 ≡ a = omega arith in
    let none : a + 0 - a ≡ 0 = omega arith in
    let P : List Change → Type 0 = λ l. Leads (instance_at h H a) l (instance_at h H (a + 0)) in
    subst P (sym (ap (λ n. flat_map (deltas_at h H) (range_with_len a n)) none)) (leads_none _ _ (ap (instance_at h H) (sym at)))
run_leads h H a (suc d) house legal within =
    let n : ℕ = a + d in
    let at : a + suc d ≡ n + 1 = omega arith in
    let more = flat_map-more (deltas_at h H) a n (omega arith) in
    let both = leads-append _ _ _ _ _ (run_leads h H a d house legal (omega arith)) (place_leads h H n house legal (omega arith)) in
    let P : List Change → Type 0 = λ l. Leads (instance_at h H a) l (instance_at h H (n + 1)) in
    let Q : ℕ → Type 0 = λ b. Leads (instance_at h H a) (deltas_between h H a b) (instance_at h H b) in
    subst Q (sym at) (subst P (sym more) both)

pub deltas_lead : DeltasLead
deltas_lead h H a b house legal ordered within =
    let at : a + (b - a) ≡ b = omega arith in
    let Q : ℕ → Type 0 = λ n. Leads (instance_at h H a) (deltas_between h H a n) (instance_at h H n) in
    subst Q at (run_leads h H a (b - a) house legal (omega (arith, at, within)))
