-- The last moment of a level, one after the other.
use Rattle.std.proofs.Common.{◌≡◌, ℕ, List, [], ◌∷◌, ◌++◌, Option, Some, None, refl, ap, ◌∙◌}
use Rattle.std.specs.Option.{option_or}
use Rattle.conditions.specs.Truth.{last_moment, moment_of}

or_assoc : {X : Type 0} (o p q : Option X) → option_or (option_or o p) q ≡ option_or o (option_or p q)
or_assoc None p q = refl
or_assoc (Some x) p q = refl

or_none : {X : Type 0} (o : Option X) → option_or None o ≡ option_or o None
or_none None = refl
or_none (Some x) = refl

pub none_yet : (level : ℕ) → last_moment level [] ≡ None
unfolding last_moment
none_yet level = refl

-- one more settles it, where it is of the level
pub one_more : (level : ℕ) (ls : List (ℕ × ℕ)) (l : ℕ × ℕ) → last_moment level (ls ++ l ∷ []) ≡ option_or (moment_of level l) (last_moment level ls)
unfolding last_moment
one_more level [] l = or_none (moment_of level l)
one_more level (x ∷ xs) l = ap (λ o. option_or o (moment_of level x)) (one_more level xs l) ∙ or_assoc (moment_of level l) (last_moment level xs) (moment_of level x)
