use Rattle.std.proofs.Common.{sym, subst}
use Rattle.tab_asks.specs.Codes.{HasNumber}
use Rattle.tab_asks.proofs.CodeLemmas.{has_number}
use Rattle.tab_asks.proofs.codes.recovery_check.Goals as goal

pub number_check-requires : goal.number_check-requires
number_check-requires g c =
    record { number = subst HasNumber (sym c.check.ensures.verdict) (has_number c.in_ok-list.list.digests c.in_ok-list.list.spent c.args.value.now) }
