-- A call that adds to the end of a list, where it succeeds.
use Rattle.std.proofs.Common.{◌≡◌, List, [], ◌++◌, ap, sym, subst, ◌∙◌}
use Rattle.std.specs.Prelude.{OnOk, Result}
use Rattle.std.proofs.lemmas.List.{append-nil}

-- what was added, under another name
pub adds : {A X E : Type 0} (r : Result X E) (old new more same : List A) → more ≡ same → OnOk r (new ≡ old ++ more) → OnOk r (new ≡ old ++ same)
adds r old new more same is h = subst (λ x. OnOk r (new ≡ old ++ x)) is h

-- nothing was added
pub adds_none : {A : Type 0} (old more : List A) → more ≡ [] → old ≡ old ++ more
adds_none old more is = sym (ap (λ x. old ++ x) is ∙ append-nil old)
