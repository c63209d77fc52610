-- A start adds the same facts each time.
use Rattle.std.proofs.Common.{◌≡◌, List, Some, None, refl, sym, ap, ◌∙◌}
use Rattle.std.specs.Prelude.{Option}
use Rattle.realm_data.specs.declared.realm_parts.RealmParts.{RealmParts}
use Rattle.facts.specs.declared.fact.Fact.{Fact}
use Rattle.login_hall.specs.Start.{IsPut, IsPutGiven, IsStart, start_facts}

given_once : (base : List Fact) (realm : RealmParts) (a b : Option RealmParts) → IsPutGiven base realm a → IsPutGiven base realm b → a ≡ b
given_once base realm None None p q = refl
given_once base realm None (Some b) p q = absurd (q.1 p)
given_once base realm (Some a) None p q = absurd (p.1 q)
given_once base realm (Some a) (Some b) p q = ap Some (p.0 ∙ sym q.0)

put_once : (base : List Fact) (realm a b : Option RealmParts) → IsPut base realm a → IsPut base realm b → a ≡ b
put_once base None a b p q = p ∙ sym q
put_once base (Some realm) a b p q = given_once base realm a b p q

pub start_once : (base : List Fact) (realm : Option RealmParts) (one other : List Fact) → IsStart base realm one → IsStart base realm other → one ≡ other
start_once base realm one other first second =
    first.facts ∙ ap (start_facts base) (put_once base realm first.put second.put first.is_put second.is_put) ∙ sym second.facts
