-- Where there is room for one more tab or root.
use Rattle.std.proofs.Common.{◌≡◌, ℕ, ◌<◌, ◌≤◌, suc, Bool, true, cond, nat_lt, List, [], ◌∷◌, length, filter, filter_map}
use Rattle.std.proofs.Common.{Option, Some, None, is_some, IsTrue, refl, ap, sym, subst, arith}
use Rattle.std.specs.Prelude.{fold}
use Rattle.std.specs.List.{cons_option}
use Rattle.std.proofs.lemmas.Bool.Decides.{nat_tests}
use Rattle.login_base.specs.declared.id.RootKey.{RootKey}
use Rattle.facts.specs.declared.fact.Fact.{Fact}
use Rattle.facts.specs.Roots.{opens_known, tabs_known, roots_known}
use Rattle.root_states.specs.Carrying.{tabs_after, roots_after}
use Rattle.root_states.specs.Count.{root_made, roots_made}
use Rattle.fact_scans.proofs.Counting.{few_pass, fewer_by_length, fewer_by_count}
use Rattle.root_states.proofs.NamedLemmas.{few_roots}

-- ---- tabs

pub few_tabs : (now : ℕ) (facts : List Fact) → length facts < 262144 → true ≡ nat_lt (tabs_known now facts) 262144
unfolding tabs_known
few_tabs now facts short = fewer_by_length (opens_known now) facts 262144 short

pub tabs_counted : (now : ℕ) (facts : List Fact) (n : ℕ) → n ≡ fold (tabs_after now) 0 facts
    → nat_lt n 262144 ≡ nat_lt (tabs_known now facts) 262144
unfolding tabs_known
tabs_counted now facts n is = fewer_by_count 262144 (opens_known now) facts n is

-- ---- roots

made_length : (pick : Fact → Option RootKey) (facts : List Fact)
    → length (filter_map pick facts) ≡ length (filter (λ (fact : Fact). is_some (pick fact)) facts)
made_length pick [] = refl
made_length pick (fact ∷ facts) =
    one (pick fact) (filter_map pick facts) (filter (λ (f : Fact). is_some (pick f)) facts) (made_length pick facts)
  where
    one : (o : Option RootKey) (roots : List RootKey) (rest : List Fact) → length roots ≡ length rest
        → length (cons_option o roots) ≡ length (cond (is_some o) (fact ∷ rest) rest)
    one None roots rest h = h
    one (Some root) roots rest h = ap suc h

module _ (now : ℕ) (facts : List Fact) where
  abbrev makes : Fact → Bool
  makes fact = is_some (root_made now fact)

  -- where few facts can make a root known, there is room for one more
  pub short_room : length facts < 65536 → roots_known now facts < 65536
  short_room short = let few = few_roots now facts in let less = made_short in omega (arith, few, less, short)
    where
      made_short : length (roots_made now facts) ≤ length facts
      made_short =
          subst (λ (n : ℕ). n ≤ length facts) (sym (made_length (root_made now) facts)) (few_pass makes facts)

  pub few_room : (n : ℕ) → n ≡ fold (roots_after now) 0 facts → IsTrue (nat_lt n 65536) → roots_known now facts < 65536
  few_room n is less =
      let few = few_roots now facts in
      let length_is = made_length (root_made now) facts in
      let short = below n (length (filter makes facts)) (fewer_by_count 65536 makes facts n is) less in
      omega (arith, few, length_is, short)
    where
      below : (n all : ℕ) → nat_lt n 65536 ≡ nat_lt all 65536 → IsTrue (nat_lt n 65536) → all < 65536
      below n all same less = grind (arith, nat_tests)
