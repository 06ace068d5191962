-- Programs that differ in rooms, rates and forecasts alone.
use Rattle.std.specs.Prelude.{◌≡◌, ℕ, ◌<◌, length}
use Rattle.bp_types.specs.Program.{Program, stay_at}

-- the programs have as many nights, and stays of the same spans in the same order
pub record IsAlike (p q : Program) : Type 0 where
  pub nights : length p.rooms ≡ length q.rooms
  pub stays : length p.stays ≡ length q.stays
  pub spans : (j : ℕ) → j < length p.stays → (stay_at p j).span ≡ (stay_at q j).span
