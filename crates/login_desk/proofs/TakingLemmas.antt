-- A line that is taken byte by byte.
use Rattle.std.proofs.Common.{◌≡◌, ◌≢◌, ℕ, ◌+◌, List, [], ◌∷◌, ◌++◌, sym, arith}
use Rattle.std.specs.Prelude.{Option}
use Rattle.std.proofs.lemmas.List.{length-append}
use Rattle.login_base.specs.Outside.{before_known}
use Rattle.script_lines.specs.Lines.{line_limit}
use Rattle.login_desk.specs.Intake.{Held, rest, Taking, with_byte}
use Rattle.login_desk.proofs.KnownLemmas.{before_known-nil, one_more}
use Rattle.login_desk.proofs.LineLemmas.{IsLine-push, IsFront-nil, IsFront-push}

pub starts : (held : Held) (left : Option (List ℕ)) (kept : List ℕ) → kept ≡ [] → Taking held left kept held left
starts held left kept e = rw e (record { line = []; plain = tt; front = IsFront-nil line_limit; came = sym (before_known-nil (rest held left)); count = omega arith })

pub goes_on : (old now new : Held) (left mid after : Option (List ℕ)) (kept : List ℕ) (b : ℕ) → Taking old left kept now mid → b ≢ 10
    → rest now mid ≡ before_known (b ∷ []) (rest new after) → new.taken ≡ now.taken + 1 → Taking old left (with_byte kept b) new after
goes_on old now new left mid after kept b t other took count = record {
  line = t.line ++ b ∷ [];
  plain = IsLine-push t.line b t.plain other;
  front = IsFront-push t.line kept b t.front;
  came = one_more (rest old left) (rest now mid) (rest new after) t.line (b ∷ []) t.came took;
  count = omega (arith, t.count, length-append t.line (b ∷ []));
}
