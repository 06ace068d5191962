-- The opener's last round, when all others have left.
use Rattle.std.specs.Prelude.{◌≡◌, ◌≢◌, ℕ, ◌+◌, ◌-◌, ◌≤◌, Bool, true, false, List, [], ◌∷◌, ◌++◌, length, Contains}
use Rattle.bp_types.specs.declared.limits.TheConstants.{CALLERS}
use Rattle.bp_types.specs.House.{Inn}
use Rattle.bp_turn.specs.Callers.{numbers_from}
use Rattle.bp_core.specs.declared.line.Act.TheVariants.{Publish}
use Rattle.bp_core.specs.declared.line.Line.{Line}
use Rattle.bp_core.specs.Lines.{History, is_publish, last_position, vectors}
use Rattle.bp_core.specs.Changes.{changes_after}
use Rattle.bp_desk.specs.Passes.{PassState}
use Rattle.bp_optimise.specs.Vectors.{IsLeastVector}
use Rattle.bp_optimise.specs.declared.round.Round.{Round}
use Rattle.bp_optimise.specs.declared.round.Round.TheVariants.{Unchanged, Published, Superseded, PublicationsFull}
use Rattle.bp_desk_run.specs.declared.actor.TheConstants.{MOST_ACTORS}

-- the pass of an opener to which all callers up to a number have come back, and which handed out no other
pub record HasAllBack (most : ℕ) (p : PassState) : Type 0 where
  pub opener : p.caller ≡ 0
  pub few : most ≤ MOST_ACTORS
  pub free : p.free ≡ numbers_from (most + 1) (CALLERS - (most + 1))
  pub back : (c : ℕ) → 1 ≤ c → c ≤ most → (es : History) × Contains p.ended (c, es)

-- what the round did to the history that the opener had seen: no other entry came between
abbrev pub IsClosing : Inn → History → History → Round → Type 0
IsClosing house old new (Unchanged changes) = (new ≡ old) × (changes_after old (last_position old) ≡ 0)
IsClosing house old new (Published number) =
    (x : Line) × (new ≡ old ++ x ∷ []) × (x.entry.caller ≡ 0) × (x.entry.act ≡ Publish (length old)) × IsLeastVector house 1 old x
IsClosing house old new (Superseded p changes) = ⊥
IsClosing house old new PublicationsFull = (new ≡ old) × (vectors old ≡ house.limits.publications) × (1 ≤ changes_after old (last_position old))

-- a round that found nothing to publish, or published, has closed the run
abbrev pub has_closed : Round → Bool
has_closed PublicationsFull = false
has_closed _ = true
