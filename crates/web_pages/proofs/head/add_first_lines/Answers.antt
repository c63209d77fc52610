use Rattle.std.proofs.Common.{◌++◌}
use Rattle.web_pages.specs.Heads.{status_line, type_line, cache_line, first_lines}
use Rattle.web_pages.proofs.TextLemmas.{two_texts}
use Rattle.web_pages.proofs.head.add_first_lines.Goals as goal

pub returns : goal.returns
unfolding first_lines
returns c =
    record {
      lines = two_texts c.args.out.now.items c.add.new.out.items c.add-2.new.out.items (status_line c.args.status ++ type_line) cache_line
          (two_texts c.args.out.now.items c.add_status.new.out.items c.add.new.out.items (status_line c.args.status) type_line c.in_ok-add_status.ensures c.in_ok-add.ensures.text)
          c.in_ok-add-2.ensures.text;
    }
