-- Texts that are written as they are spelt.
use Rattle.std.specs.Prelude.{◌≡◌, ℕ, List, ◌++◌, Option, Result, MatchResult}
use Rattle.bp_edges.specs.Writing.{Appended, AppendedPrefix}

-- a first part of the text is written, and the draft has the rest of it
pub record IsDrafted (before now : Option (List ℕ)) (draft text : List ℕ) : Type 0 where
  pub part : List ℕ
  pub splits : text ≡ part ++ draft
  pub written : Appended before now part

-- these bytes are behind the draft, of which a first part may be written; where the call was refused a first part was
abbrev pub Drafts : {E : Type 0} → Option (List ℕ) → Option (List ℕ) → List ℕ → List ℕ → List ℕ → Result (Unit {0}) E → Type 0
Drafts before now old new bytes result =
    MatchResult result (λ _. IsDrafted before now new (old ++ bytes)) (λ _. AppendedPrefix before now (old ++ bytes))
