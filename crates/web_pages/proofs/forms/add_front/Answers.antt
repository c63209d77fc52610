use Rattle.std.proofs.Common.{◌++◌}
use Rattle.std.specs.Prelude.{codes}
use Rattle.login_base.specs.IdText.{id_bytes}
use Rattle.web_pages.specs.Forms.{hidden, form_front}
use Rattle.web_pages.proofs.TextLemmas.{two_texts}
use Rattle.web_pages.proofs.forms.add_front.Goals as goal

pub returns : goal.returns
unfolding form_front
returns c =
    let front = codes "<form method=\"post\" action=\"/post\">" in
    let tab = hidden (codes "tab") (id_bytes c.args.tab.now.0) in
    let code = hidden (codes "code") (id_bytes c.args.code.now.0) in
    two_texts c.args.out.now.items c.add_hidden.new.out.items c.add_hidden-2.new.out.items (front ++ tab) code
    (two_texts c.args.out.now.items c.add.new.out.items c.add_hidden.new.out.items front tab c.in_ok-add.ensures.text (rw c.id_text.ensures.text at c.in_ok-add_hidden.ensures))
    (rw c.id_text-2.ensures.text at c.in_ok-add_hidden-2.ensures)
