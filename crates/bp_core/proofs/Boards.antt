-- The last vector of a legal history.
use Rattle.std.proofs.Common.{
  ◌≡◌,
  ℕ,
  ◌+◌,
  ◌-◌,
  ◌≤◌,
  refl,
  ap,
  sym,
  subst,
  ◌∙◌,
  arith,
  true,
  false,
  cond,
  ◌==◌,
  ◌&&◌,
  ◌||◌,
  nat_lt,
  List,
  [],
  ◌∷◌,
  ◌++◌,
  length,
  take,
  drop,
  count_by,
  slice_get,
  Option,
  Some,
  None,
  is_some,
  unwrap_or,
  append-nil,
  length-append,
  inl,
  inr,
}
use Rattle.std.specs.List.{cons_option}
use Rattle.std.specs.Option.{option_map}
use Rattle.std.proofs.Math.Seq.{take-length}
use Rattle.std.proofs.lemmas.Bool.{cases_Bool, ltb-true}
use Rattle.std.proofs.lemmas.List.{length-take, length-drop}
use Rattle.std.proofs.lemmas.List.Elements.{filter_map-append}
use Rattle.std.proofs.lemmas.List.FromFn.{length-map-range_with_len}
use Rattle.bp_types.specs.Claim.{Claim}
use Rattle.bp_types.specs.House.{Inn}
use Rattle.bp_board.specs.Posted.{Posted}
use Rattle.bp_core.specs.declared.line.Act.{Act}
use Rattle.bp_core.specs.declared.line.Act.TheVariants.{Do, Publish, Enrol, Leave}
use Rattle.bp_core.specs.declared.line.Reply.{Reply}
use Rattle.bp_core.specs.declared.line.Line.{Line}
use Rattle.bp_core.specs.Lines.{History, is_publish, published_position, prices_of, posted, boards, vectors, last_position, last_prices}
use Rattle.bp_core.specs.Changes.{is_change, changes_between}
use Rattle.bp_core.specs.Instance.{units_left_at}
use Rattle.bp_core.specs.Legal.{IsLegal, IsCertified, is_opening_act}
use Rattle.bp_core.proofs.Counts.{and_false}
use Rattle.bp_core.proofs.Pushes.{last_value-push, count-push}
use Rattle.bp_core.proofs.Prefixes.{at_each_position}

-- the last board is the last vector
pub record EndsWith (h : Inn) (H : History) : Type 0 where
  pub as_many : length (boards H) ≡ vectors H
  pub some_vector : 1 ≤ length H → 1 ≤ vectors H
  pub last : (b : Posted) → slice_get (boards H) (vectors H - 1) ≡ Some b → (b.position ≡ last_position H) × (b.certificate.prices ≡ last_prices H) ×
      (length b.certificate.prices ≡ length h.rooms)

get_last : (bs : List Posted) (b : Posted) → slice_get (bs ++ b ∷ []) (length bs) ≡ Some b
get_last [] b = refl
get_last (c ∷ bs) b = get_last bs b

-- a line without a certificate
ends_plain : (h : Inn) (H : History) (caller : ℕ) (act : Act) (reply : Reply) (certificate : Option Claim) → published_position act ≡ None →
    certificate ≡ None → (nat_lt 0 (length H) || (caller == 0 && is_opening_act act)) ≡ true → is_opening_act act ≡ false →
    EndsWith h H → EndsWith h (H ++ record { entry = record { caller = caller; act = act; reply = reply }; certificate = certificate } ∷ [])
ends_plain h H caller act reply certificate silent none opening not_opening ends =
    let x : Line = record { entry = record { caller = caller; act = act; reply = reply }; certificate = certificate } in
    let off : posted x ≡ None =
    ap (λ (o : Option Claim). option_map (λ (c : Claim). record { position = unwrap_or (published_position act) 0; certificate = c }) o) none in
    let same : boards (H ++ x ∷ []) ≡ boards H = filter_map-append posted H (x ∷ []) ∙ ap (λ (o : Option Posted). boards H ++ cons_option o []) off ∙
    append-nil (boards H) in
    let count : vectors (H ++ x ∷ []) ≡ vectors H =
    (let z = ap (λ (o : Option ℕ). cond {A = ℕ} (is_some o) 1 0) silent in omega (arith, count-push is_publish H x, z)) in
    let at : last_position (H ++ x ∷ []) ≡ last_position H = last_value-push (λ (y : Line). published_position y.entry.act) 0 H x ∙
    ap (λ o. unwrap_or o (last_position H)) silent in
    let prices : last_prices (H ++ x ∷ []) ≡ last_prices H = last_value-push prices_of [] H x ∙
    ap (λ (o : Option Claim). unwrap_or (option_map (λ (c : Claim). c.prices) o) (last_prices H)) none in
    let some : 1 ≤ length H = elim (cases_Bool (nat_lt 0 (length H))) [
      | inl t ↦ omega (arith, ltb-true 0 (length H) t)
      | inr f ↦ absurd (let e : false ≡ true =
          sym (ap (λ b. b || (caller == 0 && is_opening_act act)) f ∙ ap (λ b. caller == 0 && b) not_opening ∙ and_false (caller == 0)) ∙ opening in (cc))
    ] in
    record {
      as_many = omega (arith, ap (λ (l : List Posted). length l) same, ends.as_many, count);
      some_vector = λ more. omega (arith, ends.some_vector some, count);
      last = λ b is.
          let was : slice_get (boards H) (vectors H - 1) ≡ Some b =
          sym (ap (λ l. slice_get l (vectors (H ++ x ∷ []) - 1)) same ∙ ap (λ n. slice_get (boards H) (n - 1)) count) ∙ is in
          let facts = ends.last b was in
          (facts.0 ∙ sym at, facts.1 ∙ sym prices, facts.2);
    }

-- a Publish
ends_publish : (h : Inn) (H : History) (caller position : ℕ) (reply : Reply) (certificate : Option Claim) → IsCertified h H (Publish position) certificate →
    EndsWith h H → EndsWith h (H ++ record { entry = record { caller = caller; act = Publish position; reply = reply }; certificate = certificate } ∷ [])
ends_publish h H caller position reply certificate certified ends =
    let x : Line = record { entry = record { caller = caller; act = Publish position; reply = reply }; certificate = certificate } in
    let board : Posted = record { position = position; certificate = certified.0 } in
    let on : posted x ≡ Some board = ap (λ (o : Option Claim). option_map (λ (c : Claim). record { position = position; certificate = c }) o) certified.1 in
    let more : boards (H ++ x ∷ []) ≡ boards H ++ board ∷ [] = filter_map-append posted H (x ∷ []) ∙
    ap (λ (o : Option Posted). boards H ++ cons_option o []) on in
    let count : vectors (H ++ x ∷ []) ≡ vectors H + 1 = count-push is_publish H x in
    let at : last_position (H ++ x ∷ []) ≡ position = last_value-push (λ (y : Line). published_position y.entry.act) 0 H x in
    let prices : last_prices (H ++ x ∷ []) ≡ certified.0.prices = last_value-push prices_of [] H x ∙
    ap (λ (o : Option Claim). unwrap_or (option_map (λ (c : Claim). c.prices) o) (last_prices H)) certified.1 in
    let size : length certified.0.prices ≡ length h.rooms = certified.2.one_each ∙
    length-map-range_with_len (units_left_at h (take position H)) 0 (length h.rooms) in
    record {
      as_many = omega (arith, ap (λ (l : List Posted). length l) more, length-append (boards H) (board ∷ []), ends.as_many, count);
      some_vector = λ some. omega (arith, count);
      last = λ b is.
          let place : vectors (H ++ x ∷ []) - 1 ≡ length (boards H) = omega (arith, count, ends.as_many) in
          let here : Some board ≡ Some b = sym (get_last (boards H) board) ∙
          sym (ap (λ l. slice_get l (vectors (H ++ x ∷ []) - 1)) more ∙ ap (slice_get (boards H ++ board ∷ [])) place) ∙ is in
          let e : board ≡ b = (cc) in (
            ap (λ (p : Posted). p.position) (sym e) ∙ sym at,
            ap (λ (p : Posted). p.certificate.prices) (sym e) ∙ sym prices,
            ap (λ (p : Posted). length p.certificate.prices) (sym e) ∙ size,
          );
    }

ends_more : (h : Inn) (H : History) (caller : ℕ) (act : Act) (reply : Reply) (certificate : Option Claim) → IsCertified h H act certificate →
    (nat_lt 0 (length H) || (caller == 0 && is_opening_act act)) ≡ true →
    EndsWith h H → EndsWith h (H ++ record { entry = record { caller = caller; act = act; reply = reply }; certificate = certificate } ∷ [])
ends_more h H caller (Do command) reply certificate certified opening ends =
    ends_plain h H caller (Do command) reply certificate refl certified opening refl ends
ends_more h H caller (Publish position) reply certificate certified opening ends = ends_publish h H caller position reply certificate certified ends
ends_more h H caller Enrol reply certificate certified opening ends = ends_plain h H caller Enrol reply certificate refl certified opening refl ends
ends_more h H caller Leave reply certificate certified opening ends = ends_plain h H caller Leave reply certificate refl certified opening refl ends

-- a legal history ends with its last vector
pub ends_with : (h : Inn) (H : History) → IsLegal h H → EndsWith h H
ends_with h H legal =
    let P : History → Type 0 = λ G. EndsWith h G in
    subst P (take-length H) (at_each_position h P (record { as_many = refl; some_vector = λ more. absurd (omega arith); last = λ b is. absurd (cc) })
    (λ G x ends line. ends_more h G x.entry.caller x.entry.act x.entry.reply x.certificate line.certificate line.opening ends) H legal (length H)
    (omega arith))

-- no change stands from a place up to an earlier one
pub changes_between-none : (H : History) (a b : ℕ) → b ≤ a → changes_between H a b ≡ 0
changes_between-none H a b h =
    let empty : drop a (take b H) ≡ [] = nothing_left (drop a (take b H)) (omega (arith, length-drop a (take b H), length-take b H)) in
    ap (count_by is_change) empty
  where
    nothing_left : (xs : History) → length xs ≡ 0 → xs ≡ []
    nothing_left [] none = refl
    nothing_left (x ∷ xs) none = absurd (omega arith)
