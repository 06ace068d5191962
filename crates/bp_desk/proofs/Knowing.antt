-- The newest vector, as histories grow.
use Rattle.std.proofs.Common.{
  ◌≡◌,
  ◌≢◌,
  ℕ,
  ◌<◌,
  ◌≤◌,
  Bool,
  true,
  false,
  nat_lt,
  cond,
  List,
  [],
  ◌∷◌,
  ◌++◌,
  length,
  Some,
  refl,
  sym,
  ap,
  subst,
  ◌∙◌,
  arith,
  slice_get,
  zero,
  suc,
  ◌==◌,
  ◌⊎◌,
  inl,
  inr,
  eq-eqb,
}
use Rattle.std.proofs.lemmas.List.Elements.{filter_map-append}
use Rattle.std.proofs.lemmas.Option.{slice_get_within}
use Rattle.std.proofs.lemmas.Bool.{eqb-true, ltb-true, ltb-false}
use Rattle.bp_types.specs.House.{Inn}
use Rattle.bp_types.specs.Prices.{SumUp}
use Rattle.bp_board.specs.Posted.{Posted}
use Rattle.bp_turn.specs.Prefix.{IsPrefix, longer}
use Rattle.bp_core.specs.Lines.{History, boards, posted, last_number, last_position, last_prices}
use Rattle.bp_core.specs.Legal.{IsLegal}
use Rattle.bp_core.proofs.Growing.{number_never_falls}
use Rattle.bp_core.proofs.Vectors.{last_board_is_last}
use Rattle.bp_desk.specs.Newest.{Vector, IsNewest}

same_some : (a b : Posted) → Some a ≡ Some b → a ≡ b
same_some a b e = cc

-- what is found in a list is found in each longer one
found_before : (xs ys : List Posted) (n : ℕ) (x : Posted) → slice_get xs n ≡ Some x → slice_get (xs ++ ys) n ≡ Some x
found_before [] ys n x is = absurd (let e = slice_get_within [] n x is in omega (arith, e))
found_before (y ∷ xs) ys zero x is = is
found_before (y ∷ xs) ys (suc n) x is = found_before xs ys n x is

-- with as many vectors the last one is the same
pub same_last : (h : Inn) (G H : History) → IsLegal h G → IsLegal h H → IsPrefix G H → last_number G ≡ last_number H →
    (last_position G ≡ last_position H) × (last_prices G ≡ last_prices H)
same_last h G H before after (rest, is) same =
    let a = last_board_is_last h G before in
    let b = last_board_is_last h H after in
    let there : slice_get (boards H) (last_number H) ≡ Some a.board =
    subst (λ n. slice_get (boards H) n ≡ Some a.board) same
    (subst (λ K. slice_get K (last_number G) ≡ Some a.board) (sym (filter_map-append posted G rest) ∙
    ap boards (sym is)) (found_before (boards G) (boards rest) (last_number G) a.board a.last)) in
    let one : a.board ≡ b.board = same_some a.board b.board (sym there ∙ b.last) in
    (sym a.position ∙ ap (λ (p : Posted). p.position) one ∙ b.position, sym a.prices ∙ ap (λ (p : Posted). p.certificate.prices) one ∙ b.prices)

-- the newest vector of a history is that of a longer one with as many
pub newest_still : (h : Inn) (G H : History) (v : Vector) → IsLegal h G → IsLegal h H → IsPrefix G H → last_number G ≡ last_number H → IsNewest h G v →
    IsNewest h H v
newest_still h G H v before after grows same knows =
    let last = same_last h G H before after grows same in
    record {
      number_is = knows.number_is ∙ same;
      position_is = knows.position_is ∙ last.0;
      nights = ap length (sym last.1) ∙ knows.nights;
      each_night = knows.each_night;
      sums_are = subst (λ (prices : List ℕ). SumUp prices v.sums) last.1 knows.sums_are;
    }

by_number : (m n : ℕ) (P : Type 0) → (m ≡ n → P) → (m ≢ n → P) → P
by_number m n P same other = go (m == n) refl
  where
    go : (b : Bool) → (m == n) ≡ b → P
    go true is = same (eqb-true m n is)
    go false is = other (λ e. let no : true ≡ false = sym (eq-eqb m n e) ∙ is in absurd (cc))

-- what was learnt of a longer history
pub learnt_later : (h : Inn) (G H : History) (v w : Vector) → IsLegal h G → IsLegal h H → IsPrefix G H → IsNewest h G v →
    (v.number ≡ last_number H → w ≡ v) → (v.number ≢ last_number H → IsNewest h H w) → IsNewest h H w
learnt_later h G H v w before after grows knows same other =
    by_number v.number (last_number H) (IsNewest h H w)
    (λ e. subst (IsNewest h H) (sym (same e)) (newest_still h G H v before after grows (sym knows.number_is ∙ e) knows))
    other

pub by_order : (m n : ℕ) (P : Type 0) → (m < n → P) → (n ≤ m → P) → P
by_order m n P less more = go (nat_lt m n) refl
  where
    go : (b : Bool) → nat_lt m n ≡ b → P
    go true is = less (ltb-true m n is)
    go false is = more (ltb-false m n is)

-- the newer of two vectors is the last one of the longer of two histories
pub newer : (h : Inn) (G H K : History) (v w u : Vector) → IsLegal h G → IsLegal h H → IsLegal h K → IsPrefix G K → IsPrefix H K → (K ≡ G) ⊎ (K ≡ H) →
    IsNewest h G v → IsNewest h H w → (v.number < w.number → u ≡ w) → (w.number ≤ v.number → u ≡ v) → IsNewest h K u
newer h G H K v w u legal_g legal_h legal_k from_g from_h which knows_g knows_h less more =
    let g = number_never_falls G K from_g in let k = number_never_falls H K from_h in
    let a = knows_g.number_is in let b = knows_h.number_is in
    by_order v.number w.number (IsNewest h K u)
    (λ lt. subst (IsNewest h K) (sym (less lt)) (newest_still h H K w legal_h legal_k from_h (of_second which lt g a b) knows_h))
    (λ le. subst (IsNewest h K) (sym (more le)) (newest_still h G K v legal_g legal_k from_g (of_first which le k a b) knows_g))
  where
    of_second : (K ≡ G) ⊎ (K ≡ H) → v.number < w.number → last_number G ≤ last_number K → v.number ≡ last_number G → w.number ≡ last_number H →
        last_number H ≡ last_number K
    of_second (inl e) lt g a b = let n = ap last_number e in let k = number_never_falls H K from_h in omega (arith, n, lt, g, a, b, k)
    of_second (inr e) lt g a b = sym (ap last_number e)

    of_first : (K ≡ G) ⊎ (K ≡ H) → w.number ≤ v.number → last_number H ≤ last_number K → v.number ≡ last_number G → w.number ≡ last_number H →
        last_number G ≡ last_number K
    of_first (inl e) le k a b = sym (ap last_number e)
    of_first (inr e) le k a b = let n = ap last_number e in let g = number_never_falls G K from_g in omega (arith, n, le, g, a, b, k)

-- the longer of two lists is the one or the other
pub one_of_two : (G H : History) → (longer G H ≡ G) ⊎ (longer G H ≡ H)
one_of_two G H = go (nat_lt (length G) (length H))
  where
    go : (b : Bool) → (cond b H G ≡ G) ⊎ (cond b H G ≡ H)
    go true = inr refl
    go false = inl refl
