-- From what words give, and what became of their text, to the reply of a call.
use Rattle.std.proofs.Common.{◌≡◌, ◌⊎◌, ℕ, ◌<◌, ◌≤◌, ◌++◌, refl, sym, subst, inl, inr, arith, List, length, drop}
use Rattle.std.proofs.lemmas.Bool.{cases_lt}
use Rattle.bp_edges.specs.Memory.{NamedBytes}
use Rattle.bp_cli.specs.Words.{Word}
use Rattle.bp_c.specs.Calls.{IsOutcomeOf, IsGiven, IsAnswered, IsTooShort, Replies}

-- the words' status and text over files that are these, the buffer and the length before and after, and the result
module _ (words : List Word) (files these : List NamedBytes) (status : ℕ) (text old new : List ℕ) (before written result : ℕ)
    (are : these ≡ files) (gives : IsGiven words these status text)
    (no_memory : 3 < status → (result ≡ 6) × (new ≡ old) × (written ≡ before))
    (counted : status ≤ 3 → written ≡ length text)
    (filled : status ≤ 3 → length text ≤ length old → (result ≡ status) × (new ≡ text ++ drop (length text) old))
    (short : status ≤ 3 → length old < length text → (result ≡ 8) × (new ≡ old)) where
  outcome : status ≤ 3 → IsOutcomeOf words files status text
  outcome few = let P : List NamedBytes → Type 0 = λ f. IsOutcomeOf words f status text in subst P are (gives.outcome few)

  -- the text fits, or is too long, or is not there
  abbrev Fits : Type 0
  Fits = (status ≤ 3) × (result ≡ status) × (new ≡ text ++ drop (length text) old)

  abbrev IsLong : Type 0
  IsLong = (status ≤ 3) × (length old < length text) × (result ≡ 8) × (new ≡ old)

  abbrev Lacks : Type 0
  Lacks = (result ≡ 6) × (new ≡ old) × (written ≡ before)

  ways : Fits ⊎ IsLong ⊎ Lacks
  ways = elim gives.known [
    | inl few ↦ elim (cases_lt (length old) (length text)) [
      | inl long ↦ let s = short few long in inr (inl (few, long, s.0, s.1))
      | inr fits ↦ let f = filled few fits in inl (few, f.0, f.1)
    ]
    | inr six ↦ inr (inr (no_memory (omega (arith, six))))
  ]

  known_by : Fits ⊎ IsLong ⊎ Lacks → (result ≤ 3) ⊎ (result ≡ 6) ⊎ (result ≡ 8)
  known_by (inl (few, is, new_is)) = inl (omega (arith, few, is))
  known_by (inr (inl (few, long, is, kept))) = inr (inr is)
  known_by (inr (inr (is, kept, same))) = inr (inl is)

  answered_by : Fits ⊎ IsLong ⊎ Lacks → result ≤ 3 → IsAnswered words files result old new written
  answered_by (inl (few, is, new_is)) small =
      let P : ℕ → Type 0 = λ n. IsOutcomeOf words files n text in
      record { text = text; outcome = subst P (sym is) (outcome few); counted = counted few; filled = new_is }
  answered_by (inr (inl (few, long, is, kept))) small = absurd (omega (arith, small, is))
  answered_by (inr (inr (is, kept, same))) small = absurd (omega (arith, small, is))

  short_by : Fits ⊎ IsLong ⊎ Lacks → result ≡ 8 → IsTooShort words files old written
  short_by (inl (few, is, new_is)) eight = absurd (omega (arith, few, is, eight))
  short_by (inr (inl (few, long, is, kept))) eight =
      record { status = status; text = text; answered = few; outcome = outcome few; counted = counted few; short = omega (arith, long, counted few) }
  short_by (inr (inr (is, kept, same))) eight = absurd (omega (arith, is, eight))

  kept_by : Fits ⊎ IsLong ⊎ Lacks → 3 < result → new ≡ old
  kept_by (inl (few, is, new_is)) more = absurd (omega (arith, few, is, more))
  kept_by (inr (inl (few, long, is, kept))) more = kept
  kept_by (inr (inr (is, kept, same))) more = kept

  no_length_by : Fits ⊎ IsLong ⊎ Lacks → result ≡ 6 → written ≡ before
  no_length_by (inl (few, is, new_is)) six = absurd (omega (arith, few, is, six))
  no_length_by (inr (inl (few, long, is, kept))) six = absurd (omega (arith, is, six))
  no_length_by (inr (inr (is, kept, same))) six = same

  pub replies : Replies words files result old new before written
  replies = record { known = known_by ways; answered = answered_by ways; short = short_by ways; kept = kept_by ways; no_length = no_length_by ways }

-- without memory for the files there is nothing to hand out
pub replies_nothing : (words : List Word) (files : List NamedBytes) (old : List ℕ) (written : ℕ) → Replies words files 6 old old written written
replies_nothing words files old written = record {
  known = inr (inl refl);
  answered = λ few. absurd (omega (arith, few));
  short = λ eight. absurd (omega (arith, eight));
  kept = λ more. refl;
  no_length = λ six. refl;
}
