-- The least length of an arrival among one stay more.
use Rattle.std.proofs.Common.{◌≡◌, ℕ, ◌+◌, ◌<◌, ◌≤◌, min, sym, ◌∙◌, subst, arith, List, Option, Some, None, MatchOption, inl, inr}
use Rattle.std.proofs.lemmas.Bool.{cases_lt}
use Rattle.std.specs.Prelude.{◌⊎◌}
use Rattle.bp_types.specs.Program.{Program}
use Rattle.bp_sheets.specs.Lengths.{IsOpenAt, IsOpenAmong, IsLeastAmong}

-- an open one among one stay more is among those before, or is that one
among_more : (p : Program) (prices : List ℕ) (count arrival nights : ℕ) → IsOpenAmong p prices (count + 1) arrival nights →
    IsOpenAmong p prices count arrival nights ⊎ IsOpenAt p prices count arrival nights
among_more p prices count arrival nights r =
    elim (cases_lt r.stay count) [
      | inl before ↦ inl (record { stay = r.stay; among = before; at = r.at })
      | inr above ↦ inr (subst (λ j. IsOpenAt p prices j arrival nights) (let among = r.among in omega arith) r.at)
    ]

among_still : (p : Program) (prices : List ℕ) (count arrival nights : ℕ) → IsOpenAmong p prices count arrival nights →
    IsOpenAmong p prices (count + 1) arrival nights
among_still p prices count arrival nights r = record { stay = r.stay; among = (let among = r.among in omega arith); at = r.at }

-- a stay that is not open, or arrives on another night, changes nothing
pub least_stays : (p : Program) (prices : List ℕ) (count arrival : ℕ) (least : Option ℕ) → ((nights : ℕ) → IsOpenAt p prices count arrival nights → ⊥) →
    IsLeastAmong p prices count arrival least → IsLeastAmong p prices (count + 1) arrival least
least_stays p prices count arrival None other none = λ nights r.
    elim (among_more p prices count arrival nights r) [ inl before ↦ none nights before | inr here ↦ other nights here ]
least_stays p prices count arrival (Some least) other is = (
  among_still p prices count arrival least is.0,
  λ nights r. elim (among_more p prices count arrival nights r) [ inl before ↦ is.1 nights before | inr here ↦ absurd (other nights here) ],
)

-- with one more that is open there, the least is the fewer nights of both
pub least_is_fewer : (p : Program) (prices : List ℕ) (count arrival here : ℕ) (least : Option ℕ) (new : ℕ) → IsOpenAt p prices count arrival here →
    MatchOption least (new ≡ here) (λ l. new ≡ min l here) →
    IsLeastAmong p prices count arrival least → IsLeastAmong p prices (count + 1) arrival (Some new)
least_is_fewer p prices count arrival here None new at is none = (
  record { stay = count; among = omega arith; at = subst (IsOpenAt p prices count arrival) (sym is) at },
  λ nights r. elim (among_more p prices count arrival nights r) [
    | inl before ↦ absurd (none nights before)
    | inr other ↦ let same : here ≡ nights = sym at.stays ∙ other.stays in omega arith
  ],
)
least_is_fewer p prices count arrival here (Some least) new at is was = (
  elim (cases_lt least here) [
    | inl shorter ↦ subst (IsOpenAmong p prices (count + 1) arrival) (omega arith) (among_still p prices count arrival least was.0)
    | inr longer ↦ record { stay = count; among = omega arith; at = subst (IsOpenAt p prices count arrival) (omega arith) at }
  ],
  λ nights r. elim (among_more p prices count arrival nights r) [
    | inl before ↦ let low = was.1 nights before in omega arith
    | inr other ↦ let same : here ≡ nights = sym at.stays ∙ other.stays in omega arith
  ],
)
