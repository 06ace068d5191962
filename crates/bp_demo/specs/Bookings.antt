-- Each stay of a house booked once, in order, by the opener.
use Rattle.std.specs.Prelude.{ℕ, zero, suc, ◌+◌, Bool, true, false, if◌then◌else◌, [], ◌∷◌, ◌++◌, count_by}
use Rattle.bp_types.specs.declared.command.Command.TheVariants.{Book}
use Rattle.bp_types.specs.House.{Inn}
use Rattle.bp_core.specs.declared.line.Act.TheVariants.{Do}
use Rattle.bp_core.specs.declared.line.Reply.{Reply}
use Rattle.bp_core.specs.declared.line.Reply.TheVariants.{TooLow, NoRoom}
use Rattle.bp_core.specs.declared.line.Line.{Line}
use Rattle.bp_core.specs.Lines.{History, is_accepted}
use Rattle.bp_core.specs.Acting.{plain_line}
use Rattle.bp_core.specs.Answer.{book_reply}
use Rattle.bp_demo.specs.declared.counts.Counts.{Counts}

-- the opener's booking of a stay after a history, with the reply of its moment
abbrev pub booking : Inn → History → ℕ → Line
booking h H stay = plain_line 0 (Do (Book stay)) (book_reply h H stay)

-- a history after the first n stays were booked behind it
abbrev pub booked_behind : Inn → History → ℕ → History
booked_behind h H zero = H
booked_behind h H (suc n) = booked_behind h H n ++ booking h (booked_behind h H n) n ∷ []

-- a booking whose rate is below the prices
abbrev pub is_too_low : Reply → Bool
is_too_low (TooLow vector sum rate) = true
is_too_low _ = false

-- a booking for which a night has no room
abbrev pub is_no_room : Reply → Bool
is_no_room (NoRoom vector sum night) = true
is_no_room _ = false

-- how many replies of a history pass a test
abbrev pub replies : (Reply → Bool) → History → ℕ
replies test H = count_by (λ (x : Line). test x.entry.reply) H

-- the replies of a history, by kind
abbrev pub counts_of : History → Counts
counts_of H = record { accepted = replies is_accepted H; too_low = replies is_too_low H; no_room = replies is_no_room H }

-- no reply of these kinds
abbrev pub no_counts : Counts
no_counts = record { accepted = 0; too_low = 0; no_room = 0 }

-- one reply more
abbrev pub with_reply : Counts → Reply → Counts
with_reply c reply = record {
  accepted = c.accepted + (if is_accepted reply then 1 else 0);
  too_low = c.too_low + (if is_too_low reply then 1 else 0);
  no_room = c.no_room + (if is_no_room reply then 1 else 0);
}
