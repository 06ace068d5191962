-- What a run of places changes, with one place more.
use Rattle.std.proofs.Common.{◌≡◌, ℕ, zero, suc, ◌+◌, ◌-◌, ◌<◌, ◌≤◌, refl, ap, ◌∙◌, arith, List, [], ◌∷◌, ◌++◌, length, map, append-nil}
use Rattle.std.specs.List.{range_with_len, flat_map}
use Rattle.std.proofs.lemmas.Grind.{flat_map-append}
use Rattle.std.specs.Prelude.{slice_index_or}
use Rattle.bp_types.specs.declared.change.Change.{Change}
use Rattle.std.proofs.lemmas.List.FromFn.{get_or-map-range_with_len}
use Rattle.bp_types.specs.House.{Inn}
use Rattle.bp_core.specs.Lines.{History}
use Rattle.bp_core.specs.Changes.{deltas_at, deltas_between}
use Rattle.bp_core.specs.Log.{stored_between}

pub range-more : (a n : ℕ) → range_with_len a (suc n) ≡ range_with_len a n ++ (a + n) ∷ []
range-more a zero = ap (λ k. k ∷ []) (let e : a ≡ a + 0 = omega arith in e)
range-more a (suc n) = ap (λ l. a ∷ l) (range-more (a + 1) n ∙ ap (λ k. range_with_len (a + 1) n ++ k ∷ []) (let e : a + 1 + n ≡ a + suc n = omega arith in e))

pub flat_map-more : {X : Type 0} (f : ℕ → List X) (a n : ℕ) → a ≤ n → flat_map f (range_with_len a (n + 1 - a)) ≡ flat_map f (range_with_len a (n - a)) ++ f n
flat_map-more f a n h =
    let size : n + 1 - a ≡ suc (n - a) = omega arith in
    let last : a + (n - a) ≡ n = omega arith in
    ap (λ k. flat_map f (range_with_len a k)) size ∙ ap (flat_map f) (range-more a (n - a)) ∙
    flat_map-append f (range_with_len a (n - a)) ((a + (n - a)) ∷ []) ∙
    ap (λ l. flat_map f (range_with_len a (n - a)) ++ l) (append-nil (f (a + (n - a))) ∙ ap f last)

pub stored_between-more : (deltas : List (List Change)) (a n : ℕ) → a ≤ n →
    stored_between deltas a (n + 1) ≡ stored_between deltas a n ++ slice_index_or deltas n []
stored_between-more deltas a n h = flat_map-more (λ i. slice_index_or deltas i []) a n h

flat_map-same : {X : Type 0} (f g : ℕ → List X) (a n : ℕ) → ((k : ℕ) → a ≤ k → k < a + n → f k ≡ g k) →
    flat_map f (range_with_len a n) ≡ flat_map g (range_with_len a n)
flat_map-same f g a zero same = refl
flat_map-same f g a (suc n) same =
    ap (λ l. l ++ flat_map f (range_with_len (a + 1) n)) (same a (omega arith) (omega arith)) ∙
    ap (λ l. g a ++ l) (flat_map-same f g (a + 1) n (λ k above below. same k (omega arith) (omega arith)))

-- what a book keeps of each line is what the line changes
pub stored_is_between : (h : Inn) (H : History) (a b : ℕ) → b ≤ length H →
    stored_between (map (deltas_at h H) (range_with_len 0 (length H))) a b ≡ deltas_between h H a b
stored_is_between h H a b within =
    flat_map-same (λ i. slice_index_or (map (deltas_at h H) (range_with_len 0 (length H))) i []) (deltas_at h H) a (b - a)
    (λ k above below. get_or-map-range_with_len (deltas_at h H) 0 (length H) k k [] (omega arith) (omega arith))
