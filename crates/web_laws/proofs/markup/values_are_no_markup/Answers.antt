use Rattle.web_laws.proofs.MarkupLemmas.{page_same}
use Rattle.web_laws.proofs.WordLemmas.{words_plain}
use Rattle.web_laws.proofs.markup.values_are_no_markup.Goals as goal

pub returns : goal.returns
returns c =
    let reply = c.args.reply.now in
    let names = c.know_names.ensures.names in
    record {
      words = words_plain reply.opened reply.tab reply.what names c.requires.texts;
      markup = page_same reply names c.requires.texts;
    }
