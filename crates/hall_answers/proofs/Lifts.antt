-- How far facts lift the counters.
use Rattle.std.proofs.Common.{◌≡◌, ℕ, ◌+◌, ◌-◌, ◌^◌, ◌≤◌, List, [], ◌++◌, ap, sym, ◌∙◌, arith, append_assoc}
use Rattle.std.specs.Prelude.{fold}
use Rattle.std.proofs.lemmas.List.{append-nil}
use Rattle.facts.specs.declared.fact.Fact.{Fact}
use Rattle.facts.specs.Realms.{last_version, version_after}
use Rattle.facts.specs.Serials.{last_tab_serial, last_stored_serial, tab_serial_after, stored_serial_after}
use Rattle.facts.proofs.InForce.{last_version_more}
use Rattle.facts.proofs.SerialLemmas.{last_tab_serial_more, last_stored_serial_more}
use Rattle.hall_answers.specs.HasSerials.{HasSerials}

-- the facts lift each counter of serials by so many at most, and leave the version
pub record Lifts (most : ℕ) (old more : List Fact) : Type 0 where
  pub tabs : last_tab_serial (old ++ more) ≤ last_tab_serial old + most
  pub stored : last_stored_serial (old ++ more) ≤ last_stored_serial old + most
  pub version : last_version (old ++ more) ≡ last_version old

-- the facts lift each counter of serials by so many at most, and the version by one at most
pub record Raising (most : ℕ) (old more : List Fact) : Type 0 where
  pub tabs : last_tab_serial (old ++ more) ≤ last_tab_serial old + most
  pub stored : last_stored_serial (old ++ more) ≤ last_stored_serial old + most
  pub version : last_version (old ++ more) ≤ last_version old + 1

pub raising : (most : ℕ) (old more : List Fact) → Lifts most old more → Raising most old more
raising most old more l = record { tabs = l.tabs; stored = l.stored; version = let e = l.version in omega arith }

-- as the facts are gone through
pub lifts : (most : ℕ) (old more : List Fact) → fold tab_serial_after (last_tab_serial old) more ≤ last_tab_serial old + most
    → fold stored_serial_after (last_stored_serial old) more ≤ last_stored_serial old + most → fold version_after (last_version old) more ≡ last_version old → Lifts most old more
lifts most old more tabs stored version = record {
  tabs = let e = last_tab_serial_more old more in omega (arith, tabs);
  stored = let e = last_stored_serial_more old more in omega (arith, stored);
  version = last_version_more old more ∙ version;
}

pub nothing : (most : ℕ) (old : List Fact) → Lifts most old []
nothing most old = record {
  tabs = let e = ap last_tab_serial (append-nil old) in omega arith;
  stored = let e = ap last_stored_serial (append-nil old) in omega arith;
  version = ap last_version (append-nil old);
}

-- first these, then those
pub both : (first second : ℕ) (old front back : List Fact) → Lifts first old front → Lifts second (old ++ front) back → Lifts (first + second) old (front ++ back)
both first second old front back f s =
    let e = append_assoc old front back in
    record {
      tabs = let t = ap last_tab_serial e in omega (arith, f.tabs, s.tabs);
      stored = let t = ap last_stored_serial e in omega (arith, f.stored, s.stored);
      version = sym (ap last_version e) ∙ s.version ∙ f.version;
    }

-- room for what comes after
pub leaves_room : (most : ℕ) (old more : List Fact) → most ≤ 8 → HasSerials old (2 ^ 63 - 8) → Lifts most old more → HasSerials (old ++ more) (2 ^ 63)
leaves_room most old more few has l = record {
  tabs = omega (arith, few, has.tabs, l.tabs);
  stored = omega (arith, few, has.stored, l.stored);
  version = let e = l.version in omega (arith, has.version);
}
