use Rattle.std.proofs.Common.{◌∙◌, arith, refl}
use Rattle.std.proofs.lemmas.Result.{on_ok_weaker}
use Rattle.toml.specs.View.{view}
use Rattle.realm_data.proofs.RealmRules.{names_kept}
use Rattle.realm_print.proofs.RealmLemmas.{admin_key_kept, flow_ranged, flow_shallow}
use Rattle.realm_print.proofs.print.put_head.Goals as goal

pub print-requires : goal.print-requires
print-requires c = (names_kept c.args.parts.now c.requires).realm

pub print-requires-2 : goal.print-requires-2
print-requires-2 c = admin_key_kept c.args.parts.now c.requires

pub print_execs-requires : goal.print_execs-requires
print_execs-requires c = rw c.execs.ensures.execs (flow_ranged c.args.parts.now c.requires)

pub returns : goal.returns
returns c =
    let shallow = flow_shallow c.args.parts.now.flow c.execs.ensures.sound in
    on_ok_weaker c.put-4.result (λ last. record {
      name = view c.in_ok-print.field-0;
      admin_key = view c.in_ok-print-2.field-0;
      flow = view c.in_ok-print_execs.field-0;
      members = last ∙ rw (c.in_ok-put-3.ensures, c.in_ok-put-2.ensures, c.in_ok-put.ensures, c.from.ensures) refl;
      name_read = c.in_ok-print.ensures.read;
      admin_key_read = c.in_ok-print-2.ensures.read;
      flow_read = rw c.execs.ensures.execs at c.in_ok-print_execs.ensures.read;
      name_plain = c.in_ok-print.ensures.plain;
      admin_key_plain = c.in_ok-print-2.ensures.plain;
      flow_plain = c.in_ok-print_execs.ensures.plain 1 (omega arith) (rw c.execs.ensures.execs shallow);
    }) c.put-4.ensures
