use Rattle.std.proofs.Common.{◌≡◌, ℕ, ◌+◌, ◌-◌, ◌<◌, ◌≤◌, ◌∙◌, Some, None, Option, sym, subst, arith, length, List}
use Rattle.bp_types.specs.Spans.{IsSpanWithin, first_short}
use Rattle.bp_ledger.specs.Inventory.{Inventory, rooms_left_on}
use Rattle.bp_ledger.specs.Tree.{left_on}
use Rattle.bp_ledger.proofs.LedgerLemmas.{seen, low_on, high_on, none_short, first_is_short}
use Rattle.bp_ledger.proofs.ledger.Ledger.first_below.Goals as goal

pub least_between-requires-clause-low : goal.least_between-requires-clause-low
least_between-requires-clause-low c =
    let levels : ℕ = c.self.inside.levels in
    let width : ℕ = c.self.inside.width in
    let rooms : List ℕ = c.self.inside.rooms.items in
    let leasts : List ℕ = c.self.inside.leasts.items in
    let amounts : List ℕ = c.self.inside.amounts.items in
    let span : IsSpanWithin (length rooms) c.args.span = let P : Inventory → Type 0 = λ w. IsSpanWithin (length w.rooms) c.args.span in
    subst P (sym c.self.view_is) c.requires in
    low_on levels width rooms leasts amounts c.self.invariant c.args.span span

pub least_between-requires-clause-high : goal.least_between-requires-clause-high
least_between-requires-clause-high c =
    let levels : ℕ = c.self.inside.levels in
    let width : ℕ = c.self.inside.width in
    let rooms : List ℕ = c.self.inside.rooms.items in
    let leasts : List ℕ = c.self.inside.leasts.items in
    let amounts : List ℕ = c.self.inside.amounts.items in
    let span : IsSpanWithin (length rooms) c.args.span = let P : Inventory → Type 0 = λ w. IsSpanWithin (length w.rooms) c.args.span in
    subst P (sym c.self.view_is) c.requires in
    high_on levels width rooms leasts amounts c.self.invariant c.args.span span

pub first_between-leaf-requires-clause-low : goal.first_between-leaf-requires-clause-low
first_between-leaf-requires-clause-low c =
    let levels : ℕ = c.self.inside.levels in
    let width : ℕ = c.self.inside.width in
    let rooms : List ℕ = c.self.inside.rooms.items in
    let leasts : List ℕ = c.self.inside.leasts.items in
    let amounts : List ℕ = c.self.inside.amounts.items in
    let span : IsSpanWithin (length rooms) c.args.span = let P : Inventory → Type 0 = λ w. IsSpanWithin (length w.rooms) c.args.span in
    subst P (sym c.self.view_is) c.requires in
    low_on levels width rooms leasts amounts c.self.invariant c.args.span span

pub first_between-leaf-requires-clause-high : goal.first_between-leaf-requires-clause-high
first_between-leaf-requires-clause-high c =
    let levels : ℕ = c.self.inside.levels in
    let width : ℕ = c.self.inside.width in
    let rooms : List ℕ = c.self.inside.rooms.items in
    let leasts : List ℕ = c.self.inside.leasts.items in
    let amounts : List ℕ = c.self.inside.amounts.items in
    let span : IsSpanWithin (length rooms) c.args.span = let P : Inventory → Type 0 = λ w. IsSpanWithin (length w.rooms) c.args.span in
    subst P (sym c.self.view_is) c.requires in
    high_on levels width rooms leasts amounts c.self.invariant c.args.span span

pub first_between-leaf-requires-clause-fits : goal.first_between-leaf-requires-clause-fits
first_between-leaf-requires-clause-fits c =
    let levels : ℕ = c.self.inside.levels in
    let width : ℕ = c.self.inside.width in
    let rooms : List ℕ = c.self.inside.rooms.items in
    let leasts : List ℕ = c.self.inside.leasts.items in
    let amounts : List ℕ = c.self.inside.amounts.items in
    let span : IsSpanWithin (length rooms) c.args.span = let P : Inventory → Type 0 = λ w. IsSpanWithin (length w.rooms) c.args.span in
    subst P (sym c.self.view_is) c.requires in
    rw c.deref-4.ensures.value (c.self.invariant.fits (width + c.args.span.from) (low_on levels width rooms leasts amounts c.self.invariant c.args.span span))

pub returns-then-least_between-units : goal.returns-then-least_between-units
returns-then-least_between-units c =
    let levels : ℕ = c.self.inside.levels in
    let width : ℕ = c.self.inside.width in
    let rooms : List ℕ = c.self.inside.rooms.items in
    let leasts : List ℕ = c.self.inside.leasts.items in
    let amounts : List ℕ = c.self.inside.amounts.items in
    let span : IsSpanWithin (length rooms) c.args.span = let P : Inventory → Type 0 = λ w. IsSpanWithin (length w.rooms) c.args.span in
    subst P (sym c.self.view_is) c.requires in
    let P : Inventory → Type 0 = λ w. ◌≡◌ {A = Option ℕ} None (first_short (rooms_left_on w) c.args.span c.args.units) in
    let L : List ℕ → Type 0 = λ l. (m : ℕ) → width + c.args.span.from < m → m < width + c.args.span.to + 1 →
    c.least_between.result ≤ left_on levels l c.deref-2.result.now m in
    let A : List ℕ → Type 0 = λ a. (m : ℕ) → width + c.args.span.from < m → m < width + c.args.span.to + 1 →
    c.least_between.result ≤ left_on levels leasts a m in
    let has = subst A c.deref-2.ensures.value (subst L c.deref.ensures.value c.least_between.ensures) in
    subst P c.self.view_is (sym (none_short levels width rooms leasts amounts c.self.invariant c.args.span c.args.units span (λ m f t. let e = has m f t in
    omega arith)))

pub returns-then-leaf-high : goal.returns-then-leaf-high
returns-then-leaf-high c =
    let levels : ℕ = c.self.inside.levels in
    let width : ℕ = c.self.inside.width in
    let rooms : List ℕ = c.self.inside.rooms.items in
    let leasts : List ℕ = c.self.inside.leasts.items in
    let amounts : List ℕ = c.self.inside.amounts.items in
    let span : IsSpanWithin (length rooms) c.args.span = let P : Inventory → Type 0 = λ w. IsSpanWithin (length w.rooms) c.args.span in
    subst P (sym c.self.view_is) c.requires in
    let L : List ℕ → Type 0 = λ l. (m : ℕ) → width + c.args.span.from < m → m < width + c.args.span.to + 1 → m < c.first_between-leaf.result →
    c.args.units ≤ left_on levels l c.deref-4.result.now m in
    let A : List ℕ → Type 0 = λ a. (m : ℕ) → width + c.args.span.from < m → m < width + c.args.span.to + 1 → m < c.first_between-leaf.result →
    c.args.units ≤ left_on levels leasts a m in
    let before = subst A c.deref-4.ensures.value (subst L c.deref-3.ensures.value c.first_between-leaf.ensures.before) in
    let S : List ℕ → Type 0 = λ l. left_on levels l c.deref-4.result.now c.first_between-leaf.result < c.args.units in
    let B : List ℕ → Type 0 = λ a. left_on levels leasts a c.first_between-leaf.result < c.args.units in
    let short = subst B c.deref-4.ensures.value (subst S c.deref-3.ensures.value (c.first_between-leaf.ensures.short c.if-leaf-high.true)) in
    let P : Inventory → Type 0 =
    λ w. ◌≡◌ {A = Option ℕ} (Some (c.first_between-leaf.result - width - 1)) (first_short (rooms_left_on w) c.args.span c.args.units) in
    subst P c.self.view_is (sym
    (first_is_short levels width rooms leasts amounts c.self.invariant c.args.span c.args.units c.first_between-leaf.result span
    c.first_between-leaf.ensures.after c.if-leaf-high.true before short))

pub returns-else-leaf-high : goal.returns-else-leaf-high
returns-else-leaf-high c =
    let levels : ℕ = c.self.inside.levels in
    let width : ℕ = c.self.inside.width in
    let rooms : List ℕ = c.self.inside.rooms.items in
    let leasts : List ℕ = c.self.inside.leasts.items in
    let amounts : List ℕ = c.self.inside.amounts.items in
    let span : IsSpanWithin (length rooms) c.args.span = let P : Inventory → Type 0 = λ w. IsSpanWithin (length w.rooms) c.args.span in
    subst P (sym c.self.view_is) c.requires in
    let L : List ℕ → Type 0 = λ l. (m : ℕ) → width + c.args.span.from < m → m < width + c.args.span.to + 1 → m < c.first_between-leaf.result →
    c.args.units ≤ left_on levels l c.deref-4.result.now m in
    let A : List ℕ → Type 0 = λ a. (m : ℕ) → width + c.args.span.from < m → m < width + c.args.span.to + 1 → m < c.first_between-leaf.result →
    c.args.units ≤ left_on levels leasts a m in
    let before = subst A c.deref-4.ensures.value (subst L c.deref-3.ensures.value c.first_between-leaf.ensures.before) in
    let P : Inventory → Type 0 = λ w. ◌≡◌ {A = Option ℕ} None (first_short (rooms_left_on w) c.args.span c.args.units) in
    subst P c.self.view_is (sym
    (none_short levels width rooms leasts amounts c.self.invariant c.args.span c.args.units span
    (λ m f t. before m f t (let past = c.if-leaf-high.false in omega arith))))
