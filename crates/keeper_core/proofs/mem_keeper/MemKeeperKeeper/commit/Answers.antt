use Rattle.std.proofs.Common.{refl, subst}
use Rattle.login_base.specs.InMemory.{FailsNext}
use Rattle.keeper_core.specs.InMemory.{KeeperState}
use Rattle.keeper_core.proofs.mem_keeper.MemKeeperKeeper.commit.Goals as goal

pub returns-then-fails-clause-fails : goal.returns-then-fails-clause-fails
returns-then-fails-clause-fails c =
    (λ e. subst (λ (s : KeeperState). FailsNext s.calls) c.self.view_is (c.fails.ensures.fails c.if-fails.true), λ h. refl)
