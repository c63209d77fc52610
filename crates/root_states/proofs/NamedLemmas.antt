-- Each known root is named by a fact that can make it known.
use Rattle.std.proofs.Common.{◌≡◌, ℕ, ◌≤◌, Bool, true, false, ◌&&◌, ◌||◌, cond, List, [], ◌∷◌, length, filter, filter_map}
use Rattle.std.proofs.Common.{Option, Some, None, is_some, Contains, refl, ap, sym, subst, ◌∙◌}
use Rattle.std.specs.Prelude.{fold, if◌then◌else◌, ◌==◌}
use Rattle.std.specs.Cmp.{IsEquivalence}
use Rattle.std.specs.List.{list_any, cons_option}
use Rattle.std.specs.Set.{is_member}
use Rattle.std.proofs.lemmas.Bool.{and_parts, eqb-true}
use Rattle.std.proofs.lemmas.Cmp.{nat_eq_equiv, on_equiv, and_equiv}
use Rattle.std.proofs.lemmas.List.Folds.{list_any-from_Any}
use Rattle.std.proofs.lemmas.Map.Made.{is_member-filter}
use Rattle.std.proofs.lemmas.Option.{same_Some}
use Rattle.login_base.specs.IdText.{same_id}
use Rattle.login_base.specs.declared.id.RootKey.{RootKey}
use Rattle.facts.specs.declared.fact.Fact.{Fact}
use Rattle.facts.specs.declared.fact.Fact.TheVariants as events
use Rattle.facts.specs.declared.tabs.RootSession.{RootSession}
use Rattle.facts.specs.Roots.{opens_known, opens_known_in, session_of, root_is_known, root_in, if_known, known_root_in}
use Rattle.facts.specs.Roots.{same_root, roots_known}
use Rattle.facts.specs.Tabs.{session_after, live_among}
use Rattle.root_states.specs.Count.{root_made, roots_made, known_root_made}
use Rattle.root_states.proofs.UniqueLemmas.{fewer_keys}

-- ---- the same root

abbrev root_with : ℕ → ℕ → ℕ → RootKey
root_with high low serial = record { 0 = record { serial = serial; high = high; low = low } }

same_is : (a b : RootKey) → same_root a b ≡ true → a ≡ b
same_is a b h =
    let front = and_parts (a.0.serial == b.0.serial && a.0.high == b.0.high) (a.0.low == b.0.low) h in
    let both = and_parts (a.0.serial == b.0.serial) (a.0.high == b.0.high) front.0 in
    let serial = eqb-true a.0.serial b.0.serial both.0 in
    let high = eqb-true a.0.high b.0.high both.1 in
    let low = eqb-true a.0.low b.0.low front.1 in
    ap (root_with a.0.high a.0.low) serial ∙ ap (λ (n : ℕ). root_with n a.0.low b.0.serial) high
    ∙ ap (λ (n : ℕ). root_with b.0.high n b.0.serial) low

pub laws : IsEquivalence same_root
laws =
    let serial = on_equiv (λ (root : RootKey). root.0.serial) nat_eq_equiv in
    let high = on_equiv (λ (root : RootKey). root.0.high) nat_eq_equiv in
    let low = on_equiv (λ (root : RootKey). root.0.low) nat_eq_equiv in
    and_equiv (and_equiv serial high) low

-- ---- roots that can be made known

or_right : (a b : Bool) → b ≡ true → (a || b) ≡ true
or_right true b h = refl
or_right false b h = h

or_either : (a b : Bool) {G : Type 0} → (a || b) ≡ true → (a ≡ true → G) → (b ≡ true → G) → G
or_either true b h f g = f refl
or_either false b h f g = g h

-- only a known one, where it is known
known_kept : (now : ℕ) (all : List Fact) (pick : Fact → Option RootKey) (facts : List Fact)
    → filter_map (λ (fact : Fact). if_known now all (pick fact)) facts
    ≡ filter (root_is_known now all) (filter_map pick facts)
known_kept now all pick [] = refl
known_kept now all pick (fact ∷ facts) = one (pick fact) _ _ (known_kept now all pick facts)
  where
    chosen : (is : Bool) (root : RootKey) (some rest : List RootKey) → some ≡ rest
        → cons_option (if is then Some root else None) some ≡ cond is (root ∷ rest) rest
    chosen true root some rest h = ap (λ (roots : List RootKey). root ∷ roots) h
    chosen false root some rest h = h

    one : (o : Option RootKey) (some rest : List RootKey) → some ≡ filter (root_is_known now all) rest
        → cons_option (if_known now all o) some ≡ filter (root_is_known now all) (cons_option o rest)
    one None some rest h = h
    one (Some root) some rest h = chosen (root_is_known now all root) root some (filter (root_is_known now all) rest) h

module _ (now : ℕ) (root : RootKey) where
  abbrev held : List RootKey → Bool
  held roots = is_member same_root roots root

  turned : (of : RootKey) (same : Bool) → same_id of.0 root.0 ≡ same → same_root root of ≡ same
  turned of same h = laws.symm root of ∙ h

  -- a known tab names it
  opened_one : (of : RootKey) (same opens any : Bool) (rest : List RootKey) → same_id of.0 root.0 ≡ same
      → ((same && opens) || any) ≡ true → (any ≡ true → held rest ≡ true)
      → held (cons_option (if opens then Some of else None) rest) ≡ true
  opened_one of true true any rest is h later = rw (turned of true is) refl
  opened_one of false true any rest is h later = or_right (same_root root of) (held rest) (later h)
  opened_one of true false any rest is h later = later h
  opened_one of false false any rest is h later = later h

  opened_named : (facts : List Fact) → list_any (opens_known_in now root) facts ≡ true
      → held (roots_made now facts) ≡ true
  opened_named [] h = absurd cc
  opened_named (events.Opened of tab version level life moment ∷ facts) h =
      let opens = opens_known now (events.Opened of tab version level life moment) in
      let any = list_any (opens_known_in now root) facts in
      opened_one of (same_id of.0 root.0) opens any (roots_made now facts) refl h (opened_named facts)
  opened_named (events.Session session (Some of) user moment idle most ∷ facts) h =
      or_right (same_root root of) (held (roots_made now facts)) (opened_named facts h)
  opened_named (events.Session session None user moment idle most ∷ facts) h = opened_named facts h
  opened_named (fact ∷ facts) h = opened_named facts h

  -- so does the session that it has
  begun_one : (of : RootKey) (same : Bool) (new : RootSession) (own : Option RootSession) (rest : List RootKey)
      → same_id of.0 root.0 ≡ same
      → (is_some (if same then Some new else own) || held rest) ≡ true
      → (is_some own || (same_root root of || held rest)) ≡ true
  begun_one of true new own rest is h = rw (turned of true is) (or_right (is_some own) true refl)
  begun_one of false new None rest is h = or_right (same_root root of) (held rest) h
  begun_one of false new (Some own) rest is h = refl

  past_opening : (of : RootKey) (opens : Bool) (own : Option RootSession) (rest : List RootKey)
      → (is_some own || held rest) ≡ true
      → (is_some own || held (cons_option (if opens then Some of else None) rest)) ≡ true
  past_opening of true None rest h = or_right (same_root root of) (held rest) h
  past_opening of true (Some own) rest h = refl
  past_opening of false own rest h = h

  had_named : (facts : List Fact) (own : Option RootSession) → is_some (fold (session_after root) own facts) ≡ true
      → (is_some own || held (roots_made now facts)) ≡ true
  had_named [] own h = rw h refl
  had_named (events.Session session (Some of) user moment idle most ∷ facts) own h =
      let new : RootSession = record { session = session; user = user; opened = moment; seen = moment; idle = idle; max = most } in
      let later = session_after root own (events.Session session (Some of) user moment idle most) in
      begun_one of (same_id of.0 root.0) new own (roots_made now facts) refl (had_named facts later h)
  had_named (events.Session session None user moment idle most ∷ facts) own h = had_named facts own h
  had_named (events.Seen session moment ∷ facts) None h = had_named facts None h
  had_named (events.Seen session moment ∷ facts) (Some own) h = refl
  had_named (events.SessionEnd session ∷ facts) None h = had_named facts None h
  had_named (events.SessionEnd session ∷ facts) (Some own) h = refl
  had_named (events.Opened of tab version level life moment ∷ facts) own h =
      let opens = opens_known now (events.Opened of tab version level life moment) in
      past_opening of opens own (roots_made now facts) (had_named facts own h)
  had_named (fact ∷ facts) own h = had_named facts own h

  had : (own : Option RootSession) → is_some (live_among now own) ≡ true → is_some own ≡ true
  had None h = absurd cc
  had (Some own) h = refl

  -- so each known root is among those that can be made known
  known_named : (facts : List Fact) → root_is_known now facts root ≡ true → held (roots_made now facts) ≡ true
  unfolding root_is_known session_of
  known_named facts h =
      let own = session_of root facts in
      or_either (list_any (opens_known_in now root) facts) (is_some (live_among now own)) h (opened_named facts)
      (λ (live : is_some (live_among now own) ≡ true). had_named facts None (had own live))

  -- and those are all named
  made_one : (of : RootKey) (opens : Bool) (some all : List RootKey) → (held some ≡ true → held all ≡ true)
      → held (cons_option (if opens then Some of else None) some) ≡ true → (same_root root of || held all) ≡ true
  made_one of true some all later h =
      or_either (same_root root of) (held some) h (λ (is : same_root root of ≡ true). rw is refl)
      (λ (there : held some ≡ true). or_right (same_root root of) (held all) (later there))
  made_one of false some all later h = or_right (same_root root of) (held all) (later h)

  made_named : (facts : List Fact) → held (roots_made now facts) ≡ true → held (filter_map root_in facts) ≡ true
  made_named [] h = h
  made_named (events.Opened of tab version level life moment ∷ facts) h =
      let opens = opens_known now (events.Opened of tab version level life moment) in
      made_one of opens (roots_made now facts) (filter_map root_in facts) (made_named facts) h
  made_named (events.Session session (Some of) user moment idle most ∷ facts) h =
      made_one of true (roots_made now facts) (filter_map root_in facts) (made_named facts) h
  made_named (events.Session session None user moment idle most ∷ facts) h = made_named facts h
  made_named (fact ∷ facts) h = made_named facts h

module _ (now : ℕ) (facts : List Fact) where
  abbrev all_known : List RootKey
  all_known = filter_map (known_root_in now facts) facts

  abbrev all_made : List RootKey
  all_made = filter_map (known_root_made now facts) facts

  alike : (pick : Fact → Option RootKey) (root : RootKey)
      → is_member same_root (filter_map (λ (fact : Fact). if_known now facts (pick fact)) facts) root
      ≡ (is_member same_root (filter_map pick facts) root && root_is_known now facts root)
  alike pick root =
      let same = λ (x : RootKey) (is : same_root root x ≡ true). ap (root_is_known now facts) (same_is root x is) in
      ap (λ (roots : List RootKey). is_member same_root roots root) (known_kept now facts pick facts)
      ∙ is_member-filter laws (root_is_known now facts) root same (filter_map pick facts)

  -- the roots that the facts make known are all that are known
  pub made_alike : (root : RootKey) → is_member same_root all_made root ≡ is_member same_root all_known root
  made_alike root = alike (root_made now) root ∙ both (root_is_known now facts root) refl ∙ sym (alike root_in root)
    where
      both : (known : Bool) → root_is_known now facts root ≡ known
          → (is_member same_root (roots_made now facts) root && known)
          ≡ (is_member same_root (filter_map root_in facts) root && known)
      both true is = let made = known_named now root facts is in rw (made, made_named now root facts made) refl
      both false is =
          none (is_member same_root (roots_made now facts) root) (is_member same_root (filter_map root_in facts) root)
        where
          none : (a b : Bool) → (a && false) ≡ (b && false)
          none true true = refl
          none true false = refl
          none false true = refl
          none false false = refl

  among_made : (root : RootKey) → is_member same_root all_known root ≡ true
      → is_member same_root (roots_made now facts) root ≡ true
  among_made root h =
      let made = is_member same_root (roots_made now facts) root in
      (and_parts made (root_is_known now facts root) (sym (alike (root_made now) root) ∙ made_alike root ∙ h)).0

  -- so they are no more than the facts that can make one known
  pub few_roots : roots_known now facts ≤ length (roots_made now facts)
  unfolding roots_known
  few_roots = fewer_keys laws all_known (roots_made now facts) among_made

module _ (now : ℕ) (all : List Fact) where
  -- a fact that opens a known tab makes its root known
  opens_among : (root : RootKey) (fact : Fact) → Contains all fact → opens_known_in now root fact ≡ true
      → root_is_known now all root ≡ true
  unfolding root_is_known
  opens_among root fact there opens =
      let any = list_any-from_Any (opens_known_in now root) all (there.0, fact, there.1, there.2, opens) in
      ap (λ (b : Bool). b || is_some (live_among now (session_of root all))) any

  both_true : (a b : Bool) → a ≡ true → b ≡ true → (a && b) ≡ true
  both_true true b h k = k
  both_true false b h k = absurd cc

  the_root : (of root : RootKey) (opens : Bool) → (if opens then Some of else None) ≡ Some root → opens ≡ true
      → of ≡ root
  the_root of root true made opens = same_Some of root made
  the_root of root false made opens = absurd cc

  pub made_known : (root : RootKey) (fact : Fact) → Contains all fact → root_made now fact ≡ Some root
      → opens_known now fact ≡ true → root_is_known now all root ≡ true
  made_known root (events.Opened of tab version level life moment) there made opens =
      let fact = events.Opened of tab version level life moment in
      let own = both_true (same_id of.0 of.0) (opens_known now fact) (laws.refl of) opens in
      subst (λ (r : RootKey). root_is_known now all r ≡ true) (the_root of root (opens_known now fact) made opens)
      (opens_among of fact there own)
  made_known root fact there made opens = absurd cc
