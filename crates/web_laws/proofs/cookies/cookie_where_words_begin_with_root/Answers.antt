use Rattle.web_laws.proofs.CookieLemmas.{words_begin, line_given}
use Rattle.web_laws.proofs.cookies.cookie_where_words_begin_with_root.Goals as goal

pub returns : goal.returns
returns c =
    let reply = c.args.reply.now in
    record { words = words_begin reply.opened reply.tab reply.what; cookie = line_given reply.opened reply.tab }
