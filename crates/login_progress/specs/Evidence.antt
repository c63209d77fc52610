-- The executions of a flow that are passed in a tab.
use Rattle.std.specs.Prelude.{ℕ, Bool, true, false, ◌&&◌, if◌then◌else◌, List, [], ◌∷◌, Option, Some, None}
use Rattle.std.specs.List.{flat_map}
use Rattle.login_base.specs.declared.id.TabKey.{TabKey}
use Rattle.login_base.specs.declared.id.UserId.{UserId}
use Rattle.flow_tree.specs.declared.exec.Kind.{Kind}
use Rattle.flow_tree.specs.declared.exec.Kind.TheVariants as kinds
use Rattle.flow_tree.specs.declared.leaves.Leaf.{Leaf}
use Rattle.facts.specs.declared.fact.Fact.{Fact}
use Rattle.facts.specs.Evidence.{has_evidence}

abbrev pub has_evidence_of : List Fact → TabKey → Option UserId → Leaf → Bool
has_evidence_of facts tab None leaf = false
has_evidence_of facts tab (Some user) leaf = has_evidence tab user leaf.id facts

-- a name and the secrets are given in posts; allow, deny and a cookie aren't
abbrev pub is_posted : Kind → Bool
is_posted kinds.Allow = false
is_posted kinds.Deny = false
is_posted kinds.Cookie = false
is_posted kinds.Username = true
is_posted kinds.Password = true
is_posted kinds.Form = true
is_posted kinds.Otp = true
is_posted kinds.Recovery = true

abbrev pub is_passed : List Fact → TabKey → Option UserId → Leaf → Bool
is_passed facts tab who leaf = is_posted leaf.kind && has_evidence_of facts tab who leaf

-- the leaves that are given in posts, and for which evidence of the user counts in the tab
unfoldable pub passed_of : List Fact → TabKey → Option UserId → List Leaf → List (List ℕ)
passed_of facts tab who leaves = flat_map (λ (leaf : Leaf). if is_passed facts tab who leaf then leaf.id ∷ [] else []) leaves
