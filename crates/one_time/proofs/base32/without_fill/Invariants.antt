use Rattle.std.proofs.Common.{◌≡◌, ◌+◌, ◌≤◌, length, take}
use Rattle.std.specs.List.{suffix_len}
use Rattle.one_time.specs.Base32.{is_fill}
use Rattle.one_time.proofs.base32.without_fill.Given as goal

abbrev pub invariant-fill : goal.invariant-fill
invariant-fill l = record {
  inside : l.end ≤ length l.text;
  counted : l.end + suffix_len is_fill l.text ≡ length l.text + suffix_len is_fill (take l.end l.text);
}

abbrev pub decreases-fill : goal.decreases-fill
decreases-fill l = l.end
