use Rattle.hall_laws.proofs.Readiness.{page_done, rootless_page}
use Rattle.hall_laws.proofs.ready.page_completes.Goals as goal

pub returns : goal.returns
returns c =
    record {
      done = page_done c.args.setting.now c.args.root c.args.tab c.args.user;
      rootless = rootless_page c.args.setting.now c.args.tab;
    }
