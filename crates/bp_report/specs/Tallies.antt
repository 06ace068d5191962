-- What became of the Books of each stay.
use Rattle.std.specs.Prelude.{ℕ, ◌+◌, ◌≤◌, Bool, true, false, ◌&&◌, if◌then◌else◌, List, map, take, count_by}
use Rattle.std.specs.List.{range_with_len}
use Rattle.bp_types.specs.declared.limits.TheConstants.{CALLERS}
use Rattle.bp_types.specs.Sums.{sum_below}
use Rattle.bp_core.specs.declared.line.Reply.{Reply}
use Rattle.bp_core.specs.declared.line.Reply.TheVariants.{TooLow, NoRoom}
use Rattle.bp_core.specs.Lines.{History, line_at, is_book_by, is_accepted, has_given_up}
use Rattle.bp_core.specs.Instance.{is_book_of, book_number}
use Rattle.bp_report.specs.declared.tally.Tally.{Tally}

-- a booking whose rate is below the prices
abbrev pub is_too_low : Reply → Bool
is_too_low (TooLow vector sum rate) = true
is_too_low _ = false

-- a booking for which a night has no room
abbrev pub is_no_room : Reply → Bool
is_no_room (NoRoom vector sum night) = true
is_no_room _ = false

-- what was answered at a place
abbrev pub reply_at : History → ℕ → Reply
reply_at H i = (line_at H i).entry.reply

-- a Book of the stay stands at this place
abbrev pub asks_for : History → ℕ → ℕ → Bool
asks_for H j i = is_book_of j (line_at H i)

-- the caller of the Book at this place gave that booking up
abbrev pub is_called_off : History → ℕ → Bool
is_called_off H i = has_given_up H (line_at H i).entry.caller (book_number H i)

-- at how many of the first n places the test holds
abbrev pub places : (ℕ → Bool) → ℕ → ℕ
places test n = sum_below (λ i. if test i then 1 else 0) n

-- the tally of no Book
abbrev pub no_tally : Tally
no_tally = record { asked = 0; accepted = 0; too_low = 0; no_room = 0; cancelled = 0 }

-- no number of the tally is above the greatest
pub record IsSmall (t : Tally) (most : ℕ) : Type 0 where
  pub asked : t.asked ≤ most
  pub accepted : t.accepted ≤ most
  pub too_low : t.too_low ≤ most
  pub no_room : t.no_room ≤ most
  pub cancelled : t.cancelled ≤ most

-- the Books of a stay at the first n places, and what became of them in the whole history
abbrev pub tally_of : History → ℕ → ℕ → Tally
tally_of H n j =
    record {
      asked = places (asks_for H j) n;
      accepted = places (λ i. asks_for H j i && is_accepted (reply_at H i)) n;
      too_low = places (λ i. asks_for H j i && is_too_low (reply_at H i)) n;
      no_room = places (λ i. asks_for H j i && is_no_room (reply_at H i)) n;
      cancelled = places (λ i. asks_for H j i && is_called_off H i) n;
    }

-- the tally with a Book more, by its reply and by whether it was given up
abbrev pub with_book : Tally → Reply → Bool → Tally
with_book t reply given_up =
    record {
      asked = t.asked + 1;
      accepted = t.accepted + (if is_accepted reply then 1 else 0);
      too_low = t.too_low + (if is_too_low reply then 1 else 0);
      no_room = t.no_room + (if is_no_room reply then 1 else 0);
      cancelled = t.cancelled + (if given_up then 1 else 0);
    }

-- the tallies of so many stays at the first n places
abbrev pub tallies_of : History → ℕ → ℕ → List Tally
tallies_of H stays n = map (tally_of H n) (range_with_len 0 stays)

-- how many Books of each caller stand at the first n places
abbrev pub booked_of : History → ℕ → List ℕ
booked_of H n = map (λ caller. count_by (is_book_by caller) (take n H)) (range_with_len 0 CALLERS)
