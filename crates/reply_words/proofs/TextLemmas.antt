-- Texts that grow at their end.
use Rattle.std.proofs.Common.{◌≡◌, ℕ, List, ◌++◌, sym, ap, ◌∙◌, append_assoc}

-- two labels with their values, one after the other
pub two_fields : (out mid end label value other_label other : List ℕ) → mid ≡ out ++ (label ++ value) → end ≡ mid ++ (other_label ++ other) → end ≡ out ++ (((label ++ value) ++ other_label) ++ other)
two_fields out mid end label value other_label other p q =
    q ∙ ap (λ t. t ++ (other_label ++ other)) p ∙ append_assoc out (label ++ value) (other_label ++ other) ∙ ap (λ t. out ++ t) (sym (append_assoc (label ++ value) other_label other))

-- a text, and then another
pub two_texts : (out mid end first second : List ℕ) → mid ≡ out ++ first → end ≡ mid ++ second → end ≡ out ++ (first ++ second)
two_texts out mid end first second p q = q ∙ ap (λ t. t ++ second) p ∙ append_assoc out first second
