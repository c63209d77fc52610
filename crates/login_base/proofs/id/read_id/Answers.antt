use Rattle.std.proofs.Common.{ap, ◌∙◌}
use Rattle.login_base.specs.IdText.{id_of}
use Rattle.login_base.proofs.HexText.{is_found, id_again}
use Rattle.login_base.proofs.id.read_id.Goals as goal

pub returns-clause-text : goal.returns-clause-text
returns-clause-text c = is_found c.args.text.now c.id_at.result c.id_at.ensures

pub returns-clause-only : goal.returns-clause-only
returns-clause-only c = λ i h e. c.id_at.ensures ∙ ap id_of e ∙ id_again i h
