use Rattle.std.proofs.Common.{rules}
use Rattle.one_time.proofs.Regrouping.{digit_fits, handed_out}
use Rattle.one_time.proofs.regrouped.Regrouped.hand_out.Goals as goal

pub overflow_cast-self : goal.overflow_cast-self
overflow_cast-self c =
    let below = digit_fits c.args.self.now.held c.args.self.now.count c.args.width c.pow-unit.result c.requires.narrow c.requires.enough c.requires.held c.pow-unit.ensures in
    search rules

pub returns-clause-value : goal.returns-clause-value
returns-clause-value c = λ v n kept.
    handed_out c.args.width c.args.self.now.count c.args.self.now.held c.pow-unit.result v n
    c.args.self.now.digits.items c.push.new.self.items c.requires.enough c.pow-unit.ensures c.in_ok-push.ensures.items kept
