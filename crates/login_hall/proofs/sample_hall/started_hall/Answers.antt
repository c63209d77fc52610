use Rattle.std.proofs.Common.{◌≡◌, ◌-◌, ◌^◌, ◌≤◌, true, List, [], ◌∷◌, ◌++◌, ap, ◌∙◌, arith}
use Rattle.std.proofs.lemmas.List.{append-nil}
use Rattle.facts.specs.declared.fact.Fact.{Fact}
use Rattle.facts.specs.declared.fact.Fact.TheVariants.{Mark}
use Rattle.facts.specs.Realms.{last_version, has_realm}
use Rattle.facts.specs.Serials.{last_stored_serial}
use Rattle.login_hall.specs.Growth.{chronicle_of}
use Rattle.login_hall.specs.HallState.{HallState, facts_of}
use Rattle.login_hall.proofs.sample_hall.started_hall.Goals as goal

first_stored : (base : List Fact) → base ≡ Mark 0 0 0 0 ∷ [] → last_stored_serial base ≤ 2 ^ 63 - 2 ^ 20
unfolding last_stored_serial
first_stored base h = let e = ap last_stored_serial h in omega (arith, e)

first_version : (base : List Fact) → base ≡ Mark 0 0 0 0 ∷ [] → last_version base ≤ 2 ^ 63 - 2 ^ 20
unfolding last_version
first_version base h = let e = ap last_version h in omega (arith, e)

-- a hall without entries whose base has a realm
started_realm : (hall : HallState) (base added : List Fact) → hall.base ≡ base ++ added → hall.journal ≡ [] → has_realm (base ++ added) ≡ true → has_realm (facts_of hall) ≡ true
unfolding chronicle_of
started_realm hall base added b j h = ap (λ journal. has_realm (chronicle_of hall.base journal)) j ∙ ap has_realm (append-nil hall.base ∙ b) ∙ h

pub start-requires-clause-stored : goal.start-requires-clause-stored
start-requires-clause-stored c = first_stored c.in_ok-hall.hall.base c.in_ok-hall.ensures.base

pub start-requires-clause-version : goal.start-requires-clause-version
start-requires-clause-version c = first_version c.in_ok-hall.hall.base c.in_ok-hall.ensures.base

pub returns : goal.returns
returns c = record {
  realm =
      started_realm c.started.new.self c.in_ok-hall.hall.base c.in_ok-start.start
      (c.started.ensures.base ∙ ap (λ b. b ++ c.in_ok-start.start) c.in_ok-start.ensures.same.base) c.started.ensures.journal c.in_ok-start.ensures.realm;
}
