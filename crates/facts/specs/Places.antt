-- What stands last in a list, and what stands behind it.
use Rattle.std.specs.Prelude.{List, [], ◌∷◌, Option, None, is_some, if◌then◌else◌}
use Rattle.std.specs.Option.{option_or}

-- the last value that is picked
abbrev pub last_of : {F A : Type 0} → (F → Option A) → List F → Option A
last_of pick [] = None
last_of pick (f ∷ fs) = option_or (last_of pick fs) (pick f)

-- what stands behind the last that is picked: all, where none is
abbrev pub after_last : {F A : Type 0} → (F → Option A) → List F → List F
after_last pick [] = []
after_last pick (f ∷ fs) = if is_some (last_of pick fs) then after_last pick fs else (if is_some (pick f) then fs else f ∷ fs)
