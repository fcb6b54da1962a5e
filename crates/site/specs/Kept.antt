-- What every site keeps of its changes. This file does not name the site, so that the site can cite it.
use Rattle.std.specs.Prelude.{ℕ, ◌<◌, ◌≤◌}
use Rattle.protocol.specs.declared.records.Change.{Change}

-- a change has at most 16 notes and 8 updates, and its home is one of the gateways
pub record WellFormed (gateways : ℕ) (c : Change) : Type 0 where
  pub few_notes : c.notes ≤ 16
  pub few_updates : c.updates ≤ 8
  pub home_known : c.home < gateways
