-- Texts that grow at their end.
use Rattle.std.proofs.Common.{◌≡◌, ℕ, List, ◌++◌, ap, ◌∙◌, append_assoc}

-- a text, and then another
pub two_texts : (out mid end first second : List ℕ) → mid ≡ out ++ first → end ≡ mid ++ second → end ≡ out ++ (first ++ second)
two_texts out mid end first second p q = q ∙ ap (λ t. t ++ second) p ∙ append_assoc out first second
