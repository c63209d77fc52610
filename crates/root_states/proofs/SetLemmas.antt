-- Known roots are counted by the set of their keys.
use Rattle.std.proofs.Common.{◌≡◌, ℕ, ◌+◌, ◌<◌, zero, suc, Bool, true, false, ◌&&◌, ◌||◌, cond, List, [], ◌∷◌, ◌++◌, length}
use Rattle.std.proofs.Common.{map, filter_map, take, Option, Some, None, option_map, slice_get, refl, ap, sym, subst, ◌∙◌, arith}
use Rattle.std.specs.Prelude.{if◌then◌else◌, ◌==◌}
use Rattle.std.specs.BTreeSet.{BTreeSet, IsOrdered, Updates, btree_set_len}
use Rattle.std.specs.Cmp.Lexicographic.{slice_cmp}
use Rattle.std.specs.List.{cons_option}
use Rattle.std.specs.Ordering.{nat_cmp, eq_by_cmp}
use Rattle.std.specs.Set.{is_member, unique_keys}
use Rattle.std.proofs.Math.Bool.{or-false}
use Rattle.std.proofs.lemmas.Cmp.{nat_list_cmp_total, eq_by_cmp_equiv}
use Rattle.std.proofs.lemmas.List.{take_more, map-append, length-map}
use Rattle.std.proofs.lemmas.List.Elements.{filter_map-append}
use Rattle.std.proofs.lemmas.List.Folds.{list_any-append}
use Rattle.std.proofs.lemmas.Map.Text.{is_eq-slice_cmp}
use Rattle.std.proofs.lemmas.Map.Views.{btree_set_len-from_list}
use Rattle.std.proofs.lemmas.Option.{get_or_from_slice_get, slice_get_within, same_Some}
use Rattle.login_base.specs.declared.id.RootKey.{RootKey}
use Rattle.facts.specs.declared.fact.Fact.{Fact}
use Rattle.facts.specs.declared.subject.Subject.{Subject}
use Rattle.facts.specs.Roots.{root_is_known, if_known, known_root_in, same_root, roots_known}
use Rattle.facts.specs.Subjects.{subject_of}
use Rattle.root_states.specs.About.{is_of_roots, of_root_made}
use Rattle.root_states.specs.Count.{root_made, known_root_made, key_of, keys_noted, Gains}
use Rattle.root_states.proofs.NamedLemmas.{laws, made_alike}
use Rattle.root_states.proofs.UniqueLemmas.{same_count}

-- ---- the keys of roots

abbrev same_keys : List ℕ → List ℕ → Bool
same_keys = eq_by_cmp (slice_cmp nat_cmp)

in_turn : (x y z : Bool) → (x && (y && (z && true))) ≡ ((x && y) && z)
in_turn true true true = refl
in_turn true true false = refl
in_turn true false z = refl
in_turn false y z = refl

same_key : (a b : RootKey) → same_keys (key_of a) (key_of b) ≡ same_root a b
same_key a b =
    is_eq-slice_cmp (key_of a) (key_of b)
    ∙ in_turn (a.0.serial == b.0.serial) (a.0.high == b.0.high) (a.0.low == b.0.low)

member_key : (roots : List RootKey) (root : RootKey)
    → is_member same_keys (map key_of roots) (key_of root) ≡ is_member same_root roots root
member_key [] root = refl
member_key (of ∷ roots) root = rw (same_key root of, member_key roots root) refl

unique_mapped : (roots : List RootKey)
    → unique_keys same_keys (map key_of roots) ≡ map key_of (unique_keys same_root roots)
unique_mapped [] = refl
unique_mapped (root ∷ roots) = rw (member_key roots root) (kept (is_member same_root roots root) (unique_mapped roots))
  where
    kept : (had : Bool) → unique_keys same_keys (map key_of roots) ≡ map key_of (unique_keys same_root roots)
        → cond had (unique_keys same_keys (map key_of roots)) (key_of root ∷ unique_keys same_keys (map key_of roots))
        ≡ map key_of (cond had (unique_keys same_root roots) (root ∷ unique_keys same_root roots))
    kept true rest = rest
    kept false rest = ap (λ (keys : List (List ℕ)). key_of root ∷ keys) rest

or_assoc : (a b c : Bool) → ((a || b) || c) ≡ (a || (b || c))
or_assoc true b c = refl
or_assoc false b c = refl

pub gains_nothing : (set : BTreeSet (List ℕ)) → Gains set [] set
gains_nothing set q = sym (or-false (is_member same_keys set.keys q))

gains_on : (first second third : BTreeSet (List ℕ)) (some more : List (List ℕ)) → Gains first some second
    → Gains second more third → Gains first (some ++ more) third
gains_on first second third some more one two q =
    let of : List (List ℕ) → Bool = λ (keys : List (List ℕ)). is_member same_keys keys q in
    two q ∙ ap (λ b. b || of more) (one q) ∙ or_assoc (of first.keys) (of some) (of more)
    ∙ ap (λ b. of first.keys || b) (sym (list_any-append (same_keys q) some more))

either_way : (a b : List ℕ) → same_keys a b ≡ same_keys b a
either_way a b = (eq_by_cmp_equiv nat_list_cmp_total).symm a b

pub gains_one : (old new : BTreeSet (List ℕ)) (key : List ℕ) → Updates (slice_cmp nat_cmp) old new key true
    → Gains old (key ∷ []) new
gains_one old new key updates q =
    updates.0 q ∙ ap (λ b. cond b true (is_member same_keys old.keys q)) (either_way key q)
    ∙ chosen (same_keys q key) (is_member same_keys old.keys q)
  where
    chosen : (is had : Bool) → cond is true had ≡ (had || (is || false))
    chosen true true = refl
    chosen true false = refl
    chosen false true = refl
    chosen false false = refl

module _ (now : ℕ) (all : List Fact) where
  noted_append : (old more : List Fact)
      → keys_noted now all (old ++ more) ≡ keys_noted now all old ++ keys_noted now all more
  noted_append old more =
      ap (map key_of) (filter_map-append (known_root_made now all) old more)
      ∙ map-append key_of (filter_map (known_root_made now all) old) (filter_map (known_root_made now all) more)

  -- the fact at a place is noted too
  pub gains_more : (first second third : BTreeSet (List ℕ)) (facts : List Fact) (i : ℕ) (fact : Fact)
      → slice_get facts i ≡ Some fact
      → Gains first (keys_noted now all (take i facts)) second → Gains second (keys_noted now all (fact ∷ [])) third
      → Gains first (keys_noted now all (take (i + 1) facts)) third
  gains_more first second third facts i fact at before one =
      let longer =
      take_more facts i fact (slice_get_within facts i fact at)
      ∙ ap (λ x. take i facts ++ x ∷ []) (get_or_from_slice_get facts i fact fact at) in
      let noted = ap (keys_noted now all) longer ∙ noted_append (take i facts) (fact ∷ []) in
      subst (λ (keys : List (List ℕ)). Gains first keys third) (sym noted)
      (gains_on first second third (keys_noted now all (take i facts)) (keys_noted now all (fact ∷ [])) before one)

  within_some : (facts : List Fact) (i : ℕ) → i < length facts → slice_get facts i ≡ None → ⊥
  within_some [] i less none = omega arith
  within_some (fact ∷ facts) zero less none = absurd cc
  within_some (fact ∷ facts) (suc i) less none = within_some facts i (omega arith) none

  pub gains_at : (first second third : BTreeSet (List ℕ)) (facts : List Fact) (i : ℕ) → i < length facts
      → Gains first (keys_noted now all (take i facts)) second
      → ((fact : Fact) → slice_get facts i ≡ Some fact → Gains second (keys_noted now all (fact ∷ [])) third)
      → Gains first (keys_noted now all (take (i + 1) facts)) third
  gains_at first second third facts i within before one = at (slice_get facts i) refl
    where
      at : (o : Option Fact) → slice_get facts i ≡ o → Gains first (keys_noted now all (take (i + 1) facts)) third
      at None is = absurd (within_some facts i within is)
      at (Some fact) is = gains_more first second third facts i fact is before (one fact is)

  -- so are all facts, one list after the other
  pub gains_all : (first second third : BTreeSet (List ℕ)) (old more : List Fact)
      → Gains first (keys_noted now all old) second → Gains second (keys_noted now all more) third
      → Gains first (keys_noted now all (old ++ more)) third
  gains_all first second third old more before after =
      let both = gains_on first second third (keys_noted now all old) (keys_noted now all more) before after in
      subst (λ (keys : List (List ℕ)). Gains first keys third) (sym (noted_append old more)) both

  noted_from : (fact : Fact) (o : Option RootKey) → root_made now fact ≡ o
      → keys_noted now all (fact ∷ []) ≡ map key_of (cons_option (if_known now all o) [])
  noted_from fact o made = ap (λ (made : Option RootKey). map key_of (cons_option (if_known now all made) [])) made

  pub noted_none : (set : BTreeSet (List ℕ)) (fact : Fact) → root_made now fact ≡ None
      → Gains set (keys_noted now all (fact ∷ [])) set
  noted_none set fact made =
      subst (λ (keys : List (List ℕ)). Gains set keys set) (sym (noted_from fact None made)) (gains_nothing set)

  -- a fact of another subject makes no root known
  gains_unread : (set : BTreeSet (List ℕ)) (fact : Fact) → is_of_roots (subject_of fact) ≡ false
      → Gains set (keys_noted now all (fact ∷ [])) set
  gains_unread set fact other = noted_none set fact (of_root_made now fact other)

  -- such as the fact at a place, of which the subject is known
  pub unread_at : (set : BTreeSet (List ℕ)) (facts : List Fact) (i : ℕ) (subject : Subject)
      → option_map subject_of (slice_get facts i) ≡ Some subject → is_of_roots subject ≡ false
      → (fact : Fact) → slice_get facts i ≡ Some fact → Gains set (keys_noted now all (fact ∷ [])) set
  unread_at set facts i subject of other fact at =
      let is = same_Some (subject_of fact) subject (ap (option_map subject_of) (sym at) ∙ of) in
      gains_unread set fact (ap is_of_roots is ∙ other)

  noted_where : (known : Bool) (fact : Fact) (root : RootKey) → root_made now fact ≡ Some root
      → root_is_known now all root ≡ known
      → keys_noted now all (fact ∷ []) ≡ map key_of (cons_option (if known then Some root else None) [])
  noted_where known fact root made is =
      noted_from fact (Some root) made
      ∙ ap (λ (b : Bool). map key_of (cons_option (if b then Some root else None) [])) is

  pub noted_unknown : (set : BTreeSet (List ℕ)) (fact : Fact) (root : RootKey) → root_made now fact ≡ Some root
      → root_is_known now all root ≡ false → Gains set (keys_noted now all (fact ∷ [])) set
  noted_unknown set fact root made unknown =
      subst (λ (keys : List (List ℕ)). Gains set keys set) (sym (noted_where false fact root made unknown)) (gains_nothing set)

  pub noted_known : (old new : BTreeSet (List ℕ)) (fact : Fact) (root : RootKey) → root_made now fact ≡ Some root
      → root_is_known now all root ≡ true
      → Gains old (key_of root ∷ []) new → Gains old (keys_noted now all (fact ∷ [])) new
  noted_known old new fact root made known gains =
      subst (λ (keys : List (List ℕ)). Gains old keys new) (sym (noted_where true fact root made known)) gains

-- a set that was empty has as many keys as there are known roots
pub set_counts : (now : ℕ) (empty full : BTreeSet (List ℕ)) (facts : List Fact) → empty.keys ≡ []
    → Gains empty (keys_noted now facts facts) full → IsOrdered (slice_cmp nat_cmp) full
    → btree_set_len full ≡ roots_known now facts
unfolding roots_known
set_counts now empty full facts none gains ordered =
    let keys = keys_noted now facts facts in
    let has : (q : List ℕ) → is_member same_keys full.keys q ≡ is_member same_keys keys q =
    λ (q : List ℕ). gains q ∙ ap (λ (had : List (List ℕ)). is_member same_keys had q || is_member same_keys keys q) none in
    let made = filter_map (known_root_made now facts) facts in
    btree_set_len-from_list nat_list_cmp_total keys full (has, ordered)
    ∙ ap length (unique_mapped made) ∙ length-map (unique_keys same_root made) key_of
    ∙ same_count laws made (filter_map (known_root_in now facts) facts) (made_alike now facts)
