-- Each step of the readers and the writer keeps the rule of what readers take.
use Rattle.std.proofs.Common.{◌≡◌, ℕ, ◌≢◌, false, List, [], ◌∷◌, ◌++◌, set, Option, Some, sym, refl, ap, ◌∙◌, subst, ⊎_elim}
use mathlib.Core.Option.{some, some-ne-none}
use lib.ListN.{get_elem?}
use Rattle.left_right.specs.Register.{Admits, Turns, TurnsAt, Forks, Merges}
use Rattle.atomic_table.proofs.Lists.{at_set, at_snoc}
use Rattle.atomic_table.specs.Seated.{TableId}
use Rattle.bp_show.specs.declared.face.Face.{Face}
use Rattle.bp_show.specs.declared.face.Showing.{Showing}
use Rattle.bp_show.specs.declared.name.Name.{Name}
use Rattle.bp_show.specs.Naming.{IsFace, Agrees, unnamed, named, Named, Saw, informed}

-- what is known is this table
abbrev Of : TableId → Option Name → Type 0
Of t v = (n : Name) → v ≡ Some n → n.table ≡ t

abbrev Each : TableId → List (Option Name) → Type 0
Each t views = (seat : ℕ) (n : Name) → get_elem? views seat ≡ some (Some n) → n.table ≡ t

pushed : (t : TableId) (views : List (Option Name)) (w : Option Name) → Of t w → Each t views → Each t (views ++ w ∷ [])
pushed t views w p each seat n at =
    ⊎_elim (λ (h : get_elem? views seat ≡ some (Some n)). each seat n h) (λ (e : w ≡ Some n). p n e) (at_snoc views w (Some n) seat at)

changed : (t : TableId) (views : List (Option Name)) (seat : ℕ) (w : Option Name) → Of t w → Each t views → Each t (set views seat w)
changed t views seat w p each j n at =
    ⊎_elim (λ (h : (j ≡ seat) × (w ≡ Some n)). p n h.1) (λ (h : (j ≢ seat) × (get_elem? views j ≡ some (Some n))). each j n h.1)
    (at_set views seat j w (Some n) at)

of_none : (t : TableId) → Of t unnamed
of_none t n e = absurd (cc)

of_named : (t : TableId) → Of t (named t)
of_named t n e = cc

known : (t : TableId) (views : List (Option Name)) (seat : ℕ) (v : Option Name) → get_elem? views seat ≡ some v → Each t views → Of t v
known t views seat v at each n e = each seat n (at ∙ ap some e)

pub holds_first : (x : Face) → IsFace x → Agrees x (unnamed ∷ [])
holds_first x f = record { face = f; each = pushed x.gift.table_id [] unnamed (of_none x.gift.table_id) (λ seat n at. absurd (some-ne-none (Some n) (sym at))) }

pub admits : Admits Agrees unnamed
admits x views h = record { face = h.face; each = pushed x.gift.table_id views unnamed (of_none x.gift.table_id) h.each }

pub forks : (seat : ℕ) (v : Option Name) → Forks Agrees seat v v v
forks seat v x views h at =
    let k = known x.gift.table_id views seat v at h.each in
    record { face = h.face; each = pushed x.gift.table_id (set views seat v) v k (changed x.gift.table_id views seat v k h.each) }

pub merges : (seat : ℕ) (v : Option Name) (other : ℕ) (w : Option Name) → Merges Agrees seat v other w (informed v w) unnamed
merges seat v other w x views h at apart there =
    let was : get_elem? views other ≡ some w =
    ⊎_elim (λ (t : (other ≡ seat) × (w ≡ w)). absurd (apart t.0)) (λ (t : (other ≢ seat) × (get_elem? views other ≡ some w)). t.1)
    (at_set views seat other w w there) in
    let k = known x.gift.table_id views other w was h.each in
    record {
      face = h.face;
      each =
          changed x.gift.table_id (set views seat w) other unnamed (of_none x.gift.table_id) (changed x.gift.table_id views seat w k h.each);
    }

pub sees : (seat : ℕ) (v : Option Name) → Turns Agrees seat v (λ x. x) Saw
sees seat v x views h at =
    let k = known x.gift.table_id views seat v at h.each in (
      v,
      record { face = h.face; each = changed x.gift.table_id views seat v k h.each },
      (refl, h.face, k),
    )

pub names : (seat : ℕ) (v : Option Name) (x y : Face) → y.gift.table_id ≡ x.gift.table_id → (IsFace x → IsFace y) → TurnsAt Agrees seat v x y Named
names seat v x y same face views h at = (
  named y.gift.table_id,
  record {
    face = face h.face;
    each =
        changed y.gift.table_id views seat (named y.gift.table_id) (of_named y.gift.table_id) (λ j n there. h.each j n there ∙ sym same);
  },
  refl,
)

-- the same, where nothing is pending
pub names_same : (seat : ℕ) (v : Option Name) (x next : Face) → next ≡ x → TurnsAt Agrees seat v x next Named
names_same seat v x next same = subst (λ (y : Face). TurnsAt Agrees seat v x y Named) (sym same) (names seat v x x refl (λ f. f))

-- the same, where one vector is pending
pub names_next : (seat : ℕ) (v : Option Name) (x next : Face) (s : Showing) → s.like.table_id ≡ x.gift.table_id → s.like.me.0.claim ≡ s.vector ∷ [] →
    s.like.me.0.stamp ≡ s.stamp → s.like.me.0.leads ≡ false
    → next ≡ record x { shown = s.vector; stamp = s.stamp; gift = record { table_id = s.like.table_id; view = s.like.me.0 } } →
    TurnsAt Agrees seat v x next Named
names_next seat v x next s table claim stamp leads same = subst (λ (y : Face). TurnsAt Agrees seat v x y Named) (sym same)
    (names seat v x (record x { shown = s.vector; stamp = s.stamp; gift = record { table_id = s.like.table_id; view = s.like.me.0 } }) table
    (λ f. record { claim = claim; stamp = stamp; leads = leads }))
