use Rattle.std.proofs.Common.{◌+◌, ◌*◌, ◌^◌, ◌<◌, ℕ}
use Rattle.one_time.specs.Base32.{IsRegrouped}
use Rattle.one_time.proofs.regrouped.Regrouped.take_in.Given as goal

abbrev pub invariant-loop-self : goal.invariant-loop-self
invariant-loop-self l = record {
  small : l.self.count < 32;
  held : l.self.held < 2 ^ l.self.count;
  value : (v n : ℕ) → IsRegrouped l.width l.fn.self.digits.items l.fn.self.held l.fn.self.count v n
      → IsRegrouped l.width l.self.digits.items l.self.held l.self.count (v * 2 ^ l.bits + l.digit) (n + l.bits);
}

abbrev pub decreases-loop-self : goal.decreases-loop-self
decreases-loop-self l = l.self.count
