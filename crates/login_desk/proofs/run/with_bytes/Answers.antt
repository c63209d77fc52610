use Rattle.login_desk.specs.Run.BytesMean.{Met}
use Rattle.login_desk.proofs.RunLemmas.{denied}
use Rattle.login_desk.proofs.run.with_bytes.Goals as goal

pub returns-in-Realm-clause-means : goal.returns-in-Realm-clause-means
returns-in-Realm-clause-means g c = Met c.in-Realm.given c.in-Realm.ensures.given c.work.ensures.means

pub returns-in-Refused-clause-means : goal.returns-in-Refused-clause-means
returns-in-Refused-clause-means g c = denied _ _ _ _ _ _ c.refuse.ensures.unread.script c.in-Refused.ensures.given c.refuse.ensures.means
