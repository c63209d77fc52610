-- What an ask meets.
use Rattle.std.specs.Prelude.{ℕ, List, unwrap_or}
use Rattle.login_base.specs.declared.draws.Draws.{Draws}
use Rattle.realm_data.specs.declared.realm_parts.RealmParts.{RealmParts}
use Rattle.realm_data.specs.RealmBuiltin.{builtin_realm}
use Rattle.facts.specs.declared.fact.Fact.{Fact}
use Rattle.facts.specs.Realms.{current_realm}

-- all that happened before, the realm in force, and the moment and the draws of the ask
pub record Setting : Type 0 where
  pub facts : List Fact
  pub realm : RealmParts
  pub moment : ℕ
  pub draws : Draws

-- the realm in force; facts that have a realm have one
unfoldable pub realm_now : List Fact → RealmParts
realm_now facts = unwrap_or (current_realm facts) builtin_realm

abbrev pub setting_at : List Fact → ℕ → Draws → Setting
setting_at facts moment draws = record { facts = facts; realm = realm_now facts; moment = moment; draws = draws }
