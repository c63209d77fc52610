-- A text in a place of 64 bytes, with zeros behind it.
use Rattle.std.proofs.Common.{◌≡◌, ℕ, ◌-◌, ◌≤◌, List, ◌++◌, length, take, ap, ◌∙◌, arith}
use Rattle.std.specs.Prelude.{replicate}
use Rattle.std.proofs.lemmas.List.{length-append, length-take, length-replicate}

abbrev pub padded : List ℕ → List ℕ
padded text = text ++ replicate (64 - length text) 0

-- a padded text gives its length back
pub length-padded : (text : List ℕ) (len : ℕ) → len ≤ 64 → text ≡ padded (take len text)
    → length (take len text) ≡ len
length-padded text len most h =
    let zeros = 64 - length (take len text) in
    let parts = length-append (take len text) (replicate zeros 0) in
    omega (arith, ap length h, parts, length-take len text, length-replicate {A = ℕ} zeros 0)

-- what is made of two parts is the same where the parts are
pub both : {A B C : Type 0} (f : A → B → C) {a b : A} {c d : B} → a ≡ b → c ≡ d → f a c ≡ f b d
both f {a} {b} {c} {d} p q = ap (λ x. f x c) p ∙ ap (f b) q
