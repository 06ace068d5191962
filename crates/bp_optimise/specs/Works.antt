-- What an optimiser beside the sessions has done.
use Rattle.std.specs.Prelude.{◌≡◌, ◌⊎◌, ℕ, ◌≤◌, Bool, false, List, [], ◌∷◌, ◌++◌, All, length, take}
use Rattle.bp_types.specs.House.{Inn}
use Rattle.bp_core.specs.declared.call.Call.TheVariants.{Leave}
use Rattle.bp_core.specs.declared.line.Reply.TheVariants.{Done}
use Rattle.bp_core.specs.Lines.{History, last_position, vectors}
use Rattle.bp_core.specs.Callers.{left_of}
use Rattle.bp_core.specs.Changes.{changes_after}
use Rattle.bp_core.specs.Counting.{IsFollowed}
use Rattle.bp_core.specs.Acting.{line_of}
use Rattle.bp_desk.specs.Passes.{PassState}
use Rattle.bp_optimise.specs.Acts.{HasActed, commands_in}

-- all callers from 1 to a number have left
abbrev pub HaveLeft : History → ℕ → Type 0
HaveLeft H sessions = left_of H sessions ≡ sessions

-- where one of the sessions had not left at a turn, and so many changes stood after the last vector's position, a
-- vector stands at a place from the turn's length on, or there are as many vectors as there may be
abbrev pub IsSettledTurn : Inn → ℕ → ℕ → History → ℕ → Type 0
IsSettledTurn house sessions lead H t =
    (HaveLeft (take t H) sessions → ⊥) → lead ≤ changes_after (take t H) (last_position (take t H)) → IsFollowed H t ⊎ (vectors H ≡ house.limits.publications)

-- each turn that the pass had more is settled
pub record AddsSettled (sessions lead : ℕ) (old new : PassState) : Type 0 where
  pub added : List ℕ
  pub turns : new.turns ≡ old.turns ++ added
  pub within : All (λ t. t ≤ length new.seen) added
  pub settled : All (IsSettledTurn new.house sessions lead new.seen) added

-- a worker has made its rounds, and left. Want of memory apart, all sessions had left by then, and each of its turns is
-- settled
pub record IsWork (sessions lead : ℕ) (pass left : PassState) (memory : Bool) : Type 0 where
  pub acted : HasActed lead pass left
  pub no_command : commands_in left.calls ≡ commands_in pass.calls
  pub before : History
  pub leaves : left.seen ≡ before ++ line_of pass.caller Leave Done ∷ []
  pub earlier : History
  pub last : left.calls ≡ earlier ++ line_of pass.caller Leave Done ∷ []
  pub sessions_left : memory ≡ false → HaveLeft before sessions
  pub settled : memory ≡ false → AddsSettled sessions lead pass left
