-- The realm in force.
use Rattle.std.proofs.Common.{rules, ◌≡◌, ℕ, true, List, [], ◌∷◌, ◌++◌, Option, Some, None, refl, ap, sym, subst, ◌∙◌}
use Rattle.std.specs.Prelude.{fold, is_some}
use Rattle.std.specs.Option.{option_or}
use Rattle.std.proofs.lemmas.Grind.{fold-append}
use Rattle.realm_data.specs.declared.realm_parts.RealmParts.{RealmParts}
use Rattle.facts.specs.declared.fact.Fact.{Fact}
use Rattle.facts.specs.declared.fact.Fact.TheVariants.{RealmPut}
use Rattle.facts.specs.Places.{last_of}
use Rattle.facts.specs.Realms.{last_version, version_after, realm_put, put_as, realm_of, current_realm, has_realm}
use Rattle.facts.proofs.PlacesLemmas.{last_of_append}

pub last_version_more : (old more : List Fact) → last_version (old ++ more) ≡ fold version_after (last_version old) more
unfolding last_version
last_version_more old more = fold-append version_after 0 old more

pub current_realm_more : (old more : List Fact) → current_realm (old ++ more) ≡ option_or (last_of realm_put more) (current_realm old)
unfolding current_realm
current_realm_more old more = last_of_append realm_put old more

either : {A : Type 0} (x y : Option A) → is_some y ≡ true → is_some (option_or x y) ≡ true
either (Some a) y h = refl
either None y h = h

-- facts behind those that have a realm leave them one
pub has_realm_more : (old more : List Fact) → has_realm old ≡ true → has_realm (old ++ more) ≡ true
unfolding has_realm
has_realm_more old more h = ap is_some (current_realm_more old more) ∙ either (last_of realm_put more) (current_realm old) h

-- ---- the realm of the last version is the one in force

own_version : (version : ℕ) (realm : RealmParts) → put_as version (RealmPut version realm) ≡ Some realm
own_version version realm = search rules

none_left : (later : Option RealmParts) (realm : RealmParts) → option_or later (Some realm) ≡ None → ⊥
none_left (Some other) realm h = absurd cc
none_left None realm h = absurd cc

no_later : (later : Option RealmParts) → option_or later None ≡ None → later ≡ None
no_later (Some other) h = absurd cc
no_later None h = refl

kept_version : (version : ℕ) (fs : List Fact) → last_of realm_put fs ≡ None → fold version_after version fs ≡ version
kept_version version [] h = refl
kept_version version (RealmPut new realm ∷ fs) h = absurd (none_left (last_of realm_put fs) realm h)
kept_version version (f ∷ fs) h = kept_version version fs (no_later (last_of realm_put fs) h)

same_put : (new : ℕ) (realm : RealmParts) (fs : List Fact) (later : Option RealmParts) → last_of realm_put fs ≡ later
    → option_or later (put_as (fold version_after new fs) (RealmPut new realm)) ≡ option_or later (Some realm)
same_put new realm fs (Some other) h = refl
same_put new realm fs None h = subst (λ (v : ℕ). put_as v (RealmPut new realm) ≡ Some realm) (sym (kept_version new fs h)) (own_version new realm)

in_version : (version : ℕ) (fs : List Fact) → last_of (put_as (fold version_after version fs)) fs ≡ last_of realm_put fs
in_version version [] = refl
in_version version (RealmPut new realm ∷ fs) =
    ap (λ (o : Option RealmParts). option_or o (put_as (fold version_after new fs) (RealmPut new realm))) (in_version new fs)
    ∙ same_put new realm fs (last_of realm_put fs) refl
in_version version (f ∷ fs) = ap (λ (o : Option RealmParts). option_or o None) (in_version version fs)

pub realm_of_last : (facts : List Fact) → realm_of (last_version facts) facts ≡ current_realm facts
unfolding realm_of last_version current_realm
realm_of_last facts = in_version 0 facts
