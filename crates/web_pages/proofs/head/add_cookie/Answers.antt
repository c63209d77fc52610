use Rattle.web_pages.proofs.head.add_cookie.Goals as goal

pub returns : goal.returns
returns c = record { line = rw c.id_text.ensures.text at c.add_three.ensures.text }
