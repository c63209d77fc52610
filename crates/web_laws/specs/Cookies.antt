-- When a browser is given a root to keep.
use Rattle.std.specs.Prelude.{ℕ, Bool, true, false, List, [], ◌∷◌, Option, Some, None}
use Rattle.login_base.specs.declared.id.RootKey.{RootKey}
use Rattle.login_base.specs.declared.id.TabKey.{TabKey}

-- a reply has the keys of an open
abbrev pub has_keys : Option RootKey → Option TabKey → Bool
has_keys (Some root) (Some tab) = true
has_keys (Some root) None = false
has_keys None tab = false

-- there is a line
abbrev pub gives_root : List ℕ → Bool
gives_root [] = false
gives_root (b ∷ bytes) = true
