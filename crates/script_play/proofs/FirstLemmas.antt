-- The hall that a script begins with.
use Rattle.std.proofs.Common.{◌≡◌, ◌-◌, ◌^◌, ◌≤◌, true, List, [], ◌++◌, Some, None, refl, ap, subst, ◌∙◌, arith}
use Rattle.std.specs.Prelude.{Option}
use Rattle.std.proofs.lemmas.List.{append-nil}
use Rattle.facts.specs.declared.fact.Fact.{Fact}
use Rattle.realm_data.specs.declared.realm_parts.RealmParts.{RealmParts}
use Rattle.facts.specs.Realms.{last_version, current_realm, has_realm}
use Rattle.facts.specs.Serials.{last_tab_serial, last_stored_serial}
use Rattle.hall_answers.specs.HasSerials.{HasSerials}
use Rattle.login_hall.specs.Growth.{chronicle_of}
use Rattle.login_hall.specs.HallState.{HallState, facts_of}
use Rattle.login_hall.specs.Legal.{RaisesAtStart}
use Rattle.login_hall.specs.Start.{IsStart, IsPut, start_facts}
use Rattle.script_play.specs.Base.{or_builtin, first_mark, base_of}

pub first_stored : (base : List Fact) → base ≡ first_mark → last_stored_serial base ≤ 2 ^ 63 - 2 ^ 20
unfolding last_stored_serial
first_stored base h = let e = ap last_stored_serial h in omega (arith, e)

pub first_version : (base : List Fact) → base ≡ first_mark → last_version base ≤ 2 ^ 63 - 2 ^ 20
unfolding last_version
first_version base h = let e = ap last_version h in omega (arith, e)

no_realm : current_realm first_mark ≡ None
unfolding current_realm
no_realm = refl

-- over a mark the given realm is put, or the built-in one
puts : (given put : Option RealmParts) → IsPut first_mark given put → put ≡ Some (or_builtin given)
unfolding current_realm
puts None put h = h
puts (Some realm) None h = absurd cc
puts (Some realm) (Some put) h = ap Some h.0

pub first_started : (base added : List Fact) (given : Option RealmParts) → base ≡ first_mark → IsStart base given added → base ++ added ≡ base_of given
unfolding base_of
first_started base added given h start =
    let put = puts given start.put (subst (λ b. IsPut b given start.put) h start.is_put) in
    ap (λ l. l ++ added) h ∙ ap (λ l. first_mark ++ l) (start.facts ∙ ap (start_facts base) put ∙ ap (λ b. start_facts b (Some (or_builtin given))) h)

-- what a play needs of its base
module _ (base started : List Fact) (h : base ≡ first_mark) (raises : RaisesAtStart base started) where
  pub base_serials : HasSerials started (2 ^ 62)
  unfolding last_tab_serial last_stored_serial last_version
  base_serials = record {
    tabs = let e = ap last_tab_serial h in omega (arith, e, raises.tabs);
    stored = let e = ap last_stored_serial h in omega (arith, e, raises.stored);
    version = let e = ap last_version h in omega (arith, e, raises.version);
  }

-- a hall without entries whose base has a realm
pub started_realm : (hall : HallState) (base added : List Fact) → hall.base ≡ base ++ added → hall.journal ≡ [] → has_realm (base ++ added) ≡ true → has_realm (facts_of hall) ≡ true
unfolding chronicle_of
started_realm hall base added b j h = ap (λ journal. has_realm (chronicle_of hall.base journal)) j ∙ ap has_realm (append-nil hall.base ∙ b) ∙ h
