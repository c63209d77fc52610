-- A source that is read part after part.
use Rattle.std.proofs.Common.{◌≡◌, ℕ, List, ◌++◌, arith}
use Rattle.std.specs.Prelude.{Option}
use Rattle.std.proofs.lemmas.List.{length-append}
use Rattle.login_base.specs.Outside.{before_known}
use Rattle.login_desk.specs.declared.whole.Part.TheVariants as parts
use Rattle.login_desk.specs.Whole.{TakesPart, TakesTooMany}
use Rattle.login_desk.proofs.KnownLemmas.{one_more}

module _ (before mid after : Option (List ℕ)) (kept new : List ℕ) (h : before ≡ before_known kept mid) where
  pub too_many : TakesPart kept mid parts.TooLong new after → TakesTooMany before after
  too_many p = record {
    bytes = kept ++ p.0;
    taken = one_more before mid after kept p.0 h p.1;
    many = omega (arith, length-append kept p.0, p.2);
  }
