use Rattle.std.proofs.Common.{◌≡◌, ℕ, ◌-◌, ◌^◌, ◌<◌, ◌≤◌, map, take, slice_index}
use Rattle.std.specs.Int.Digits.{number_from_digits}
use Rattle.bp_text.proofs.decimal.few_digits.Given as goal

-- the bytes before this one are digits, and the number that they write has no more digits than that
abbrev pub invariant-loop-byte : goal.invariant-loop-byte
invariant-loop-byte l = record {
  digits : (k : ℕ) → k < l.byte-index → (48 ≤ slice_index l.bytes k) × (slice_index l.bytes k ≤ 57);
  number : l.value ≡ number_from_digits 10 (take l.byte-index (map (λ b. b - 48) l.bytes));
  small : l.value < 10 ^ l.byte-index;
}
