-- The setups of executions taken together, one after the other.
use Rattle.std.specs.Prelude.{Bool, not, ◌&&◌, ◌||◌, if◌then◌else◌, List}
use Rattle.std.specs.List.{list_all, list_any}
use Rattle.conditions.specs.declared.setup.Setup.{Setup}
use Rattle.conditions.specs.declared.setup.Setups.{Setups}

abbrev pub setups_of : List Setup → Setups
setups_of ss = record { required = list_any (λ (s : Setup). s.required) ss; each_configured = list_all (λ (s : Setup). not s.required || s.configured) ss; offer_configured = list_any (λ (s : Setup). s.offered && s.configured) ss }

abbrev pub with_setup : Setups → Setup → Setups
with_setup all s = record { required = all.required || s.required; each_configured = all.each_configured && (not s.required || s.configured); offer_configured = all.offer_configured || (s.offered && s.configured) }

abbrev pub are_configured : Setups → Bool
are_configured all = if all.required then all.each_configured else all.offer_configured
