-- Which roots are known, and how many, where the tabs and the sessions of roots are alike.
use Rattle.std.proofs.Common.{◌≡◌, ℕ, nat_lt, Bool, true, false, ◌&&◌, ◌||◌, cond, List, [], ◌∷◌, filter, filter_map, Option, Some, None, is_some, refl, sym, ap, ◌∙◌}
use Rattle.std.specs.Prelude.{◌==◌, fold, if◌then◌else◌}
use Rattle.std.specs.List.{list_any, cons_option}
use Rattle.std.specs.Set.{is_member}
use Rattle.std.proofs.lemmas.Bool.{and_parts, eqb-true}
use Rattle.std.proofs.lemmas.Map.Made.{is_member-filter}
use Rattle.login_base.specs.IdText.{same_id}
use Rattle.login_base.specs.declared.id.RootKey.{RootKey}
use Rattle.facts.specs.declared.fact.Fact.{Fact}
use Rattle.facts.specs.declared.fact.Fact.TheVariants as events
use Rattle.facts.specs.declared.tabs.RootSession.{RootSession}
use Rattle.facts.specs.Roots.{opens_known, opens_known_in, tabs_known_in, session_of, root_is_known, root_in, if_known, known_root_in, same_root, roots_known}
use Rattle.facts.specs.Tabs.{session_after, live_among}
use Rattle.fact_scans.proofs.Counting.{any_counted}
use Rattle.root_states.proofs.NamedLemmas.{laws}
use Rattle.root_states.proofs.UniqueLemmas.{same_count}
use Rattle.hall_questions.specs.Questions.{AnswerAlike}

-- ---- one root

known_by_count : (now : ℕ) (root : RootKey) (facts : List Fact)
    → root_is_known now facts root ≡ (nat_lt 0 (tabs_known_in now root facts) || is_some (live_among now (session_of root facts)))
unfolding root_is_known tabs_known_in
known_by_count now root facts = ap (λ (b : Bool). b || is_some (live_among now (session_of root facts))) (sym (any_counted (opens_known_in now root) facts))

pub root_known_alike : (one other : List Fact) → AnswerAlike one other → (now : ℕ) (root : RootKey) → root_is_known now one root ≡ root_is_known now other root
root_known_alike one other alike now root =
    known_by_count now root one
    ∙ rw (alike.tabs_in now root, alike.session root) (sym (known_by_count now root other))

-- ---- a known root is named

or_right : (a b : Bool) → b ≡ true → (a || b) ≡ true
or_right true b h = refl
or_right false b h = h

or_either : (a b : Bool) {G : Type 0} → (a || b) ≡ true → (a ≡ true → G) → (b ≡ true → G) → G
or_either true b h f g = f refl
or_either false b h f g = g h

module _ (now : ℕ) (root : RootKey) where
  -- one of these roots is it
  abbrev among : List RootKey → Bool
  among roots = is_member same_root roots root

  abbrev named_in : List Fact → Bool
  named_in facts = among (filter_map root_in facts)

  opening_one : (of : RootKey) (same opens any rest : Bool) → same_root root of ≡ same
      → ((same && opens) || any) ≡ true → (any ≡ true → rest ≡ true) → (same_root root of || rest) ≡ true
  opening_one of true opens any rest is h later = rw is refl
  opening_one of false opens any rest is h later = or_right (same_root root of) rest (later h)

  -- by a tab of it that is known
  opened_named : (facts : List Fact) → list_any (opens_known_in now root) facts ≡ true → named_in facts ≡ true
  opened_named [] h = absurd cc
  opened_named (events.Opened of tab version level life moment ∷ facts) h =
      let opens = opens_known now (events.Opened of tab version level life moment) in
      let any = list_any (opens_known_in now root) facts in
      opening_one of (same_id of.0 root.0) opens any (named_in facts) (laws.symm root of) h (opened_named facts)
  opened_named (events.Session session (Some of) user moment idle most ∷ facts) h = or_right (same_root root of) (named_in facts) (opened_named facts h)
  opened_named (events.Session session None user moment idle most ∷ facts) h = opened_named facts h
  opened_named (fact ∷ facts) h = opened_named facts h

  begun_one : (of : RootKey) (same : Bool) (new : RootSession) (own : Option RootSession) (rest : Bool) → same_root root of ≡ same
      → (is_some (if same then Some new else own) || rest) ≡ true → (is_some own || (same_root root of || rest)) ≡ true
  begun_one of true new own rest is h = rw is (or_right (is_some own) true refl)
  begun_one of false new None rest is h = or_right (same_root root of) rest h
  begun_one of false new (Some own) rest is h = refl

  past_opening : (of : RootKey) (own : Option RootSession) (rest : Bool) → (is_some own || rest) ≡ true → (is_some own || (same_root root of || rest)) ≡ true
  past_opening of None rest h = or_right (same_root root of) rest h
  past_opening of (Some own) rest h = refl

  -- by a session that it has
  had_named : (facts : List Fact) (own : Option RootSession) → is_some (fold (session_after root) own facts) ≡ true → (is_some own || named_in facts) ≡ true
  had_named [] own h = rw h refl
  had_named (events.Session session (Some of) user moment idle most ∷ facts) own h =
      let new : RootSession = record { session = session; user = user; opened = moment; seen = moment; idle = idle; max = most } in
      let later = session_after root own (events.Session session (Some of) user moment idle most) in
      begun_one of (same_id of.0 root.0) new own (named_in facts) (laws.symm root of) (had_named facts later h)
  had_named (events.Session session None user moment idle most ∷ facts) own h = had_named facts own h
  had_named (events.Seen session moment ∷ facts) None h = had_named facts None h
  had_named (events.Seen session moment ∷ facts) (Some own) h = refl
  had_named (events.SessionEnd session ∷ facts) None h = had_named facts None h
  had_named (events.SessionEnd session ∷ facts) (Some own) h = refl
  had_named (events.Opened of tab version level life moment ∷ facts) own h = past_opening of own (named_in facts) (had_named facts own h)
  had_named (fact ∷ facts) own h = had_named facts own h

  had : (own : Option RootSession) → is_some (live_among now own) ≡ true → is_some own ≡ true
  had None h = absurd cc
  had (Some own) h = refl

  known_named : (facts : List Fact) → root_is_known now facts root ≡ true → named_in facts ≡ true
  unfolding root_is_known session_of
  known_named facts h =
      let own = session_of root facts in
      or_either (list_any (opens_known_in now root) facts) (is_some (live_among now own)) h (opened_named facts)
      (λ (live : is_some (live_among now own) ≡ true). had_named facts None (had own live))

-- ---- all of them

abbrev root_with : ℕ → ℕ → ℕ → RootKey
root_with high low serial = record { 0 = record { serial = serial; high = high; low = low } }

same_is : (a b : RootKey) → same_root a b ≡ true → a ≡ b
same_is a b h =
    let front = and_parts (a.0.serial == b.0.serial && a.0.high == b.0.high) (a.0.low == b.0.low) h in
    let both = and_parts (a.0.serial == b.0.serial) (a.0.high == b.0.high) front.0 in
    ap (root_with a.0.high a.0.low) (eqb-true a.0.serial b.0.serial both.0)
    ∙ ap (λ (n : ℕ). root_with n a.0.low b.0.serial) (eqb-true a.0.high b.0.high both.1)
    ∙ ap (λ (n : ℕ). root_with b.0.high n b.0.serial) (eqb-true a.0.low b.0.low front.1)

-- those that are named, where they are known
named_known : (now : ℕ) (all facts : List Fact)
    → filter_map (known_root_in now all) facts ≡ filter (root_is_known now all) (filter_map root_in facts)
named_known now all [] = refl
named_known now all (fact ∷ facts) = one (root_in fact) _ _ (named_known now all facts)
  where
    chosen : (is : Bool) (root : RootKey) (some rest : List RootKey) → some ≡ rest
        → cons_option (if is then Some root else None) some ≡ cond is (root ∷ rest) rest
    chosen true root some rest h = ap (λ (roots : List RootKey). root ∷ roots) h
    chosen false root some rest h = h

    one : (o : Option RootKey) (some rest : List RootKey) → some ≡ filter (root_is_known now all) rest
        → cons_option (if_known now all o) some ≡ filter (root_is_known now all) (cons_option o rest)
    one None some rest h = h
    one (Some root) some rest h = chosen (root_is_known now all root) root some (filter (root_is_known now all) rest) h

-- a root is among those that are known exactly where it is
known_among : (now : ℕ) (facts : List Fact) (root : RootKey)
    → is_member same_root (filter_map (known_root_in now facts) facts) root ≡ root_is_known now facts root
known_among now facts root =
    let same = λ (x : RootKey) (is : same_root root x ≡ true). ap (root_is_known now facts) (same_is root x is) in
    ap (λ (roots : List RootKey). is_member same_root roots root) (named_known now facts facts)
    ∙ is_member-filter laws (root_is_known now facts) root same (filter_map root_in facts)
    ∙ either (root_is_known now facts root) (named_in now root facts) (known_named now root facts)
  where
    either : (known named : Bool) → (known ≡ true → named ≡ true) → (named && known) ≡ known
    either true named h = rw (h refl) refl
    either false true h = refl
    either false false h = refl

pub roots_alike : (one other : List Fact) → AnswerAlike one other → (now : ℕ) → roots_known now one ≡ roots_known now other
unfolding roots_known
roots_alike one other alike now =
    same_count laws (filter_map (known_root_in now one) one) (filter_map (known_root_in now other) other)
    (λ (root : RootKey). known_among now one root ∙ root_known_alike one other alike now root ∙ sym (known_among now other root))
