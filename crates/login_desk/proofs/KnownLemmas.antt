-- Bytes before and after those that are known.
use Rattle.std.proofs.Common.{◌≡◌, ℕ, List, [], ◌++◌, Some, None, refl, sym, ap, ◌∙◌, append_assoc}
use Rattle.std.specs.Prelude.{Option}
use Rattle.std.proofs.lemmas.List.{append-nil}
use Rattle.login_base.specs.Outside.{before_known, after_known}

pub before_known-append : (a b : List ℕ) (x : Option (List ℕ)) → before_known (a ++ b) x ≡ before_known a (before_known b x)
before_known-append a b None = refl
before_known-append a b (Some x) = ap Some (append_assoc a b x)

pub before_known-nil : (x : Option (List ℕ)) → before_known [] x ≡ x
before_known-nil None = refl
before_known-nil (Some x) = refl

pub after_known-append : (x : Option (List ℕ)) (a b : List ℕ) → after_known (after_known x a) b ≡ after_known x (a ++ b)
after_known-append None a b = refl
after_known-append (Some x) a b = ap Some (append_assoc x a b)

pub after_known-nil : (x : Option (List ℕ)) → x ≡ after_known x []
after_known-nil None = refl
after_known-nil (Some x) = ap Some (sym (append-nil x))

-- one more piece was taken
pub one_more : (start left new : Option (List ℕ)) (taken piece : List ℕ) → start ≡ before_known taken left → left ≡ before_known piece new → start ≡ before_known (taken ++ piece) new
one_more start left new taken piece p q = p ∙ ap (before_known taken) q ∙ sym (before_known-append taken piece new)
