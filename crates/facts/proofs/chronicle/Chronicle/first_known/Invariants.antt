use Rattle.std.proofs.Common.{◌<◌, ◌≤◌, ◌-◌, length, take}
use Rattle.facts.specs.Serials.{last_known_serial}
use Rattle.facts.proofs.chronicle.Chronicle.first_known.Given as goal

abbrev pub invariant-loop-low : goal.invariant-loop-low
invariant-loop-low l = (l.low ≤ l.high) × (l.high ≤ length l.self.list) × (0 < l.low → last_known_serial (take l.low l.self.list) < l.serial)

abbrev pub decreases-loop-low : goal.decreases-loop-low
decreases-loop-low l = l.high - l.low
