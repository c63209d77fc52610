-- Each key of a list once.
use Rattle.std.proofs.Common.{◌≡◌, ◌≤◌, Bool, true, false, ◌||◌, cond, List, [], ◌∷◌, length, refl, ap, sym, ◌∙◌}
use Rattle.std.specs.Cmp.{IsEquivalence}
use Rattle.std.specs.List.{IsDistinct}
use Rattle.std.specs.Set.{is_member, unique_keys, distinct_count}
use Rattle.std.proofs.lemmas.Map.Made.{length-le_from_is_member, length-from_keys, IsDistinct-from_count}
use Rattle.std.proofs.lemmas.Map.Steps.{list_any_congr}

module _ {K : Type 0} {eq : K → K → Bool} (laws : IsEquivalence eq) where
  found_twice : (q x : K) (xs : List K) (same : Bool) → eq q x ≡ same → is_member eq xs x ≡ true
      → is_member eq xs q ≡ (same || is_member eq xs q)
  found_twice q x xs true is had = list_any_congr laws q x xs is ∙ had
  found_twice q x xs false is had = refl

  member_unique : (xs : List K) (q : K) → is_member eq (unique_keys eq xs) q ≡ is_member eq xs q
  member_unique [] q = refl
  member_unique (x ∷ xs) q = kept (is_member eq xs x) refl (member_unique xs q)
    where
      kept : (had : Bool) → is_member eq xs x ≡ had → is_member eq (unique_keys eq xs) q ≡ is_member eq xs q
          → is_member eq (cond had (unique_keys eq xs) (x ∷ unique_keys eq xs)) q ≡ (eq q x || is_member eq xs q)
      kept true is rest = rest ∙ found_twice q x xs (eq q x) refl is
      kept false is rest = ap (λ (b : Bool). eq q x || b) rest

  unique_again : (xs : List K) → unique_keys eq (unique_keys eq xs) ≡ unique_keys eq xs
  unique_again [] = refl
  unique_again (x ∷ xs) = kept (is_member eq xs x) refl (unique_again xs)
    where
      kept : (had : Bool) → is_member eq xs x ≡ had → unique_keys eq (unique_keys eq xs) ≡ unique_keys eq xs
          → unique_keys eq (cond had (unique_keys eq xs) (x ∷ unique_keys eq xs))
          ≡ cond had (unique_keys eq xs) (x ∷ unique_keys eq xs)
      kept true is rest = rest
      kept false is rest = rw (member_unique xs x ∙ is) (ap (λ (keys : List K). x ∷ keys) rest)

  unique_distinct : (xs : List K) → IsDistinct eq (unique_keys eq xs)
  unique_distinct xs = IsDistinct-from_count laws (unique_keys eq xs) (ap length (unique_again xs))

  -- keys that are all among others are at most as many
  pub fewer_keys : (xs ys : List K) → ((q : K) → is_member eq xs q ≡ true → is_member eq ys q ≡ true)
      → distinct_count eq xs ≤ length ys
  fewer_keys xs ys among =
      length-le_from_is_member laws (unique_keys eq xs) ys (unique_distinct xs)
      (λ (q : K) (h : is_member eq (unique_keys eq xs) q ≡ true). among q (sym (member_unique xs q) ∙ h))

  -- the same keys are as many
  pub same_count : (xs ys : List K) → ((q : K) → is_member eq xs q ≡ is_member eq ys q)
      → distinct_count eq xs ≡ distinct_count eq ys
  same_count xs ys same =
      length-from_keys laws (unique_keys eq xs) ys (unique_distinct xs)
      (λ (q : K). member_unique xs q ∙ same q)
