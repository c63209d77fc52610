use Rattle.std.proofs.lemmas.Cmp.{int_cmp_total}
use Rattle.std.proofs.lemmas.List.Sorted.{IsPermutation-sym}
use Rattle.sql_loads.proofs.Rising.{apart_permuted, apart_from_rising, rising_from_next, rises_sorted}
use Rattle.sql_loads.proofs.reading.differ.Goals as goal

pub returns : goal.returns
returns c =
    let numbers = c.args.numbers in
    let sorted = c.sort_unstable.new.self.items in
    let same = rw c.into_vec-sorted.ensures.items at c.sort_unstable.ensures.permutation in
    let rising = rw c.as_slice.ensures.value at c.numbers_rise.ensures.rising in
    record {
      apart = (
        λ yes. apart_permuted int_cmp_total (λ n. n) numbers sorted same
            (apart_from_rising int_cmp_total (λ n. n) sorted (rising_from_next int_cmp_total (λ n. n) sorted (rising.0 yes))),
        λ apart. rising.1 (rises_sorted int_cmp_total (λ n. n) sorted c.sort_unstable.ensures.sorted (apart_permuted int_cmp_total (λ n. n) sorted numbers (IsPermutation-sym numbers sorted same) apart)),
      );
    }
