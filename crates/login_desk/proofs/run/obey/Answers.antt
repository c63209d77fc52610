use Rattle.std.proofs.Common.{refl, ap, ◌∙◌}
use Rattle.login_base.specs.Outside.{counted}
use Rattle.login_desk.specs.Outside.{SourceState}
use Rattle.login_desk.proofs.RunLemmas.{line_means, with_bytes, at_many, at_realm_fault}
use Rattle.login_desk.proofs.run.obey.Goals as goal

pub returns-in-Bytes-clause-means : goal.returns-in-Bytes-clause-means
returns-in-Bytes-clause-means g c =
    let took = c.in-Bytes.ensures in
    let goes = c.with_bytes.ensures in
    with_bytes _ _ _ _ took.script took.unwritten goes.realm c.in-Bytes.bytes.items _ took.bytes.0 took.bytes.1 (rw c.as_slice.ensures.value at goes.means)

pub returns-in-Bytes-clause-script_end : goal.returns-in-Bytes-clause-script_end
returns-in-Bytes-clause-script_end g c = λ e is. c.with_bytes.ensures.script_end e is ∙ ap (λ (s : SourceState g.row.S.Denot). counted s.ends) c.in-Bytes.ensures.script

pub returns-in-Bytes-clause-realm_end : goal.returns-in-Bytes-clause-realm_end
returns-in-Bytes-clause-realm_end g c = λ e. ap (λ (s : SourceState g.row.R.Denot). s.ends) c.with_bytes.ensures.realm ∙ c.in-Bytes.ensures.ends

pub returns-in-TooLong-clause-means : goal.returns-in-TooLong-clause-means
returns-in-TooLong-clause-means g c =
    let took = c.in-TooLong.ensures in
    let told = c.refuse.ensures in
    at_many _ _ _ _ took.script took.unwritten told.unread.realm _ told.unread.script took.bytes (rw c.too_long.ensures.refusal at told.means)

pub returns-in-Failed-clause-means : goal.returns-in-Failed-clause-means
returns-in-Failed-clause-means g c =
    let took = c.in-Failed.ensures in
    let closed = c.close.ensures in
    at_realm_fault _ _ _ _ took.script took.unwritten closed.unread.realm _ took.bytes.0 closed.unread.script took.bytes.1 (took.cause refl) (line_means _ _ _ _ _ closed.line closed.cause)
