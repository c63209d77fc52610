use Rattle.std.proofs.Common.{◌++◌}
use Rattle.std.specs.Prelude.{codes}
use Rattle.web_pages.specs.Forms.{hidden}
use Rattle.web_pages.proofs.TextLemmas.{two_texts}
use Rattle.web_pages.proofs.forms.add_hidden.Goals as goal

pub returns : goal.returns
unfolding hidden
returns c =
    let front = codes "<input type=\"hidden\" name=\"" in
    let rest = c.args.name.now ++ codes "\" value=\"" ++ c.args.value.now in
    two_texts c.args.out.now.items c.add_three.new.out.items c.add-2.new.out.items (front ++ rest) (codes "\">")
    (two_texts c.args.out.now.items c.add.new.out.items c.add_three.new.out.items front rest c.in_ok-add.ensures.text c.in_ok-add_three.ensures.text)
    c.in_ok-add-2.ensures.text
