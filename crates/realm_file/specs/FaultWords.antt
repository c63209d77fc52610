-- A fault in words.
use Rattle.std.specs.Prelude.{ℕ, List, [], ◌∷◌, ◌++◌, codes}
use Rattle.flow_tree.specs.declared.fault.TreeRule.{TreeRule}
use Rattle.flow_tree.specs.declared.fault.TreeRule.TheVariants.{DoubleId, ConditionalLeaf, TooDeep, TooMany, DoubleLevel, CondRequirement}
use Rattle.realm_fields.specs.declared.fault.RealmFault.{RealmFault}
use Rattle.realm_fields.specs.declared.fault.RealmFault.TheVariants as faults

abbrev pub rule_words : TreeRule → List ℕ
rule_words DoubleId = codes "DoubleId"
rule_words ConditionalLeaf = codes "ConditionalLeaf"
rule_words TooDeep = codes "TooDeep"
rule_words TooMany = codes "TooMany"
rule_words DoubleLevel = codes "DoubleLevel"
rule_words CondRequirement = codes "CondRequirement"

-- a name, and a path behind a space; with an empty path no space
abbrev pub path_words : List ℕ → List ℕ → List ℕ
path_words name [] = name
path_words name (b ∷ path) = name ++ codes " " ++ (b ∷ path)

abbrev pub tree_words : TreeRule → List ℕ → List ℕ
tree_words rule id = codes "Tree " ++ rule_words rule ++ codes " " ++ id

unfoldable pub fault_words : RealmFault → List ℕ
fault_words faults.NotToml = codes "NotToml"
fault_words (faults.Missing path) = path_words (codes "Missing") path
fault_words (faults.Unknown path) = path_words (codes "Unknown") path
fault_words (faults.WrongKind path) = path_words (codes "WrongKind") path
fault_words (faults.OutOfRange path) = path_words (codes "OutOfRange") path
fault_words (faults.Tree fault) = tree_words fault.rule fault.id
fault_words (faults.Doubled path) = path_words (codes "Doubled") path
fault_words (faults.UnboundLevel path) = path_words (codes "UnboundLevel") path
fault_words faults.Memory = codes "Memory"
