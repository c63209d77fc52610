use Rattle.std.proofs.Common.{codes, ◌∙◌, ap}
use Rattle.toml.specs.Data.{string}
use Rattle.realm_print.proofs.FieldLemmas.{begun, more}
use Rattle.realm_print.proofs.execs.head_table.Goals as goal

pub returns-clause-read : goal.returns-clause-read
returns-clause-read c =
    let none = begun _ c.new-table.ensures.empty in
    let id = more (codes "id") (string c.args.exec.now.id) _ _ _ _ c.in_ok-put.ensures (c.in_ok-id.ensures ∙ ap string c.name_text.ensures.text) none in
    let requirement = more (codes "require") (string c.requirement_word.result.now) _ _ _ _ c.in_ok-put-2.ensures c.in_ok-requirement.ensures id in
    let kind = more (codes "kind") (string c.kind_word.result.now) _ _ _ _ c.in_ok-put-3.ensures c.in_ok-kind.ensures requirement in
    record {
      word = c.kind_word.result.now;
      requirement = c.requirement_word.result.now;
      members = kind;
      kind_known = c.kind_word.ensures;
      requirement_known = c.requirement_word.ensures;
      named = c.name_text.ensures.name;
    }
