-- The sold rooms of a history with one line more.
use Rattle.std.proofs.Common.{
  ◌≡◌,
  ℕ,
  suc,
  ◌+◌,
  ◌<◌,
  ◌≤◌,
  refl,
  ap,
  ◌∙◌,
  arith,
  Bool,
  true,
  false,
  not,
  cond,
  ◌||◌,
  ◌&&◌,
  [],
  ◌∷◌,
  ◌++◌,
  length,
  drop,
  unwrap_or,
}
use Rattle.std.proofs.lemmas.List.{take-append-le, drop-append-le}
use Rattle.std.proofs.Math.Seq.{drop-append-add}
use Rattle.bp_types.specs.Sums.{sum_below}
use Rattle.bp_types.specs.Program.{covers}
use Rattle.bp_types.specs.House.{Inn}
use Rattle.bp_types.proofs.SumLemmas.{sum_below-cong, sum_below-le}
use Rattle.bp_core.specs.declared.line.Line.{Line}
use Rattle.bp_core.specs.Lines.{History, line_at, is_book, is_accepted, is_cancellation, booked_stay}
use Rattle.bp_core.specs.Instance.{book_number, is_given_up, stay_booked, holds_room, rooms_of_group, sold_at, span_of}
use Rattle.bp_core.proofs.Pushes.{length-push, line_at-old, line_at-new, sum-push, any-push}

pub book_number-old : (H : History) (x : Line) (i : ℕ) → i < length H → book_number (H ++ x ∷ []) i ≡ book_number H i
book_number-old H x i h = rw (line_at-old H x i h, take-append-le (i + 1) H (x ∷ []) (omega arith)) refl

-- a booking is given up later by the line that is added, or was before
pub is_given_up-old : (H : History) (x : Line) (i : ℕ) → i < length H →
    is_given_up (H ++ x ∷ []) i ≡ (is_given_up H i || is_cancellation (line_at H i).entry.caller (book_number H i) x)
is_given_up-old H x i h =
    rw (
      book_number-old H x i h,
      line_at-old H x i h,
      drop-append-le (i + 1) H (x ∷ []) (omega arith),
    ) (any-push (is_cancellation (line_at H i).entry.caller (book_number H i)) (drop (i + 1) H) x)

-- nothing stands after the line that is added
pub is_given_up-new : (H : History) (x : Line) → is_given_up (H ++ x ∷ []) (length H) ≡ false
is_given_up-new H x = rw (drop-append-add H (x ∷ []) 1) refl

-- a live booking at a place is one that was live and is not given up by the line that is added
pub holds_room-old : (h : Inn) (H : History) (x : Line) (n i : ℕ) → i < length H →
    holds_room h (H ++ x ∷ []) n i ≡ (holds_room h H n i && not (is_cancellation (line_at H i).entry.caller (book_number H i) x))
holds_room-old h H x n i in_range =
    rw (
      is_given_up-old H x i in_range,
      line_at-old H x i in_range,
    )
    (apart (is_book (line_at H i) && is_accepted (line_at H i).entry.reply) (is_given_up H i)
    (is_cancellation (line_at H i).entry.caller (book_number H i) x) (covers (span_of h (stay_booked H i)) n))
  where
    apart : (booked given now night : Bool) → ((booked && not (given || now)) && night) ≡ (((booked && not given) && night) && not now)
    apart true true now night = refl
    apart true false true true = refl
    apart true false true false = refl
    apart true false false true = refl
    apart true false false false = refl
    apart false given now night = refl

-- the line that is added is a booking of the night
abbrev pub books_night : Inn → ℕ → Line → Bool
books_night h n x = (is_book x && is_accepted x.entry.reply) && covers (span_of h (unwrap_or (booked_stay x.entry.act) 0)) n

pub holds_room-new : (h : Inn) (H : History) (x : Line) (n : ℕ) → holds_room h (H ++ x ∷ []) n (length H) ≡ books_night h n x
holds_room-new h H x n =
    rw (is_given_up-new H x, line_at-new H x) (apart (is_book x && is_accepted x.entry.reply) (covers (span_of h (unwrap_or (booked_stay x.entry.act) 0)) n))
  where
    apart : (booked night : Bool) → ((booked && true) && night) ≡ (booked && night)
    apart true night = refl
    apart false night = refl

-- one for each live booking of the night
abbrev pub held_at : Inn → History → ℕ → ℕ
held_at h H n = sum_below (λ i. cond (holds_room h H n i) 1 0) (length H)

pub held_at-push_sum : (h : Inn) (H : History) (x : Line) (n : ℕ) →
    held_at h (H ++ x ∷ []) n ≡ sum_below (λ i. cond (holds_room h (H ++ x ∷ []) n i) 1 0) (length H) + cond (books_night h n x) 1 0
held_at-push_sum h H x n =
    let f : ℕ → ℕ = λ i. cond (holds_room h (H ++ x ∷ []) n i) 1 0 in
    let more : sum_below f (length (H ++ x ∷ [])) ≡ sum_below f (suc (length H)) =
    ap (sum_below f) (let e : length (H ++ x ∷ []) ≡ suc (length H) = omega (arith, length-push H x) in e) in
    more ∙ ap (λ b. sum_below f (length H) + cond b 1 0) (holds_room-new h H x n)

no_more : (a b : Bool) → cond (a && b) 1 0 ≤ cond a 1 0
no_more true true = omega arith
no_more true false = omega arith
no_more false b = omega arith

-- no more rooms are sold than before and by the line that is added
pub sold_at-push_le : (h : Inn) (H : History) (x : Line) (n : ℕ) →
    sold_at h (H ++ x ∷ []) n ≤ sold_at h H n + cond (books_night h n x) 1 0 + rooms_of_group n x
sold_at-push_le h H x n =
    let old : sum_below (λ i. cond (holds_room h (H ++ x ∷ []) n i) 1 0) (length H) ≤ held_at h H n =
    sum_below-le _ _ (length H)
    (λ i g. rw (holds_room-old h H x n i g) (no_more (holds_room h H n i) (not (is_cancellation (line_at H i).entry.caller (book_number H i) x)))) in
    omega (arith, old, held_at-push_sum h H x n, sum-push (rooms_of_group n) H x)

and_true : (b : Bool) → (b && true) ≡ b
and_true true = refl
and_true false = refl

-- a line that gives nothing up adds what it sells
pub sold_at-push : (h : Inn) (H : History) (x : Line) (n : ℕ) → ((caller nth : ℕ) → is_cancellation caller nth x ≡ false) →
    sold_at h (H ++ x ∷ []) n ≡ sold_at h H n + cond (books_night h n x) 1 0 + rooms_of_group n x
sold_at-push h H x n none =
    let old : sum_below (λ i. cond (holds_room h (H ++ x ∷ []) n i) 1 0) (length H) ≡ held_at h H n =
    sum_below-cong _ _ (length H)
    (λ i g. rw (holds_room-old h H x n i g, none (line_at H i).entry.caller (book_number H i)) (ap (λ b. cond b 1 0) (and_true (holds_room h H n i)))) in
    omega (arith, old, held_at-push_sum h H x n, sum-push (rooms_of_group n) H x)
