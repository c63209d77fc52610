-- The bytes of a page that aren't plain are those of its fixed texts.
use Rattle.std.proofs.Common.{◌≡◌, ℕ, true, not, List, [], ◌∷◌, ◌++◌, length, refl, sym, ◌∙◌}
use Rattle.std.specs.Prelude.{Option, Some, None, codes, decimal}
use Rattle.std.specs.List.{list_all, flat_map}
use Rattle.std.proofs.lemmas.List.Elements.{filter-append}
use Rattle.login_base.specs.IdText.{id_bytes}
use Rattle.login_base.specs.declared.id.Code.{Code}
use Rattle.login_base.specs.declared.id.RootKey.{RootKey}
use Rattle.login_base.specs.declared.id.TabKey.{TabKey}
use Rattle.realm_data.specs.declared.action.Action.{Action}
use Rattle.realm_data.specs.declared.action.Action.TheVariants as actions
use Rattle.asks.specs.declared.reply.Need.{Need}
use Rattle.asks.specs.declared.reply.Next.{Next}
use Rattle.asks.specs.declared.reply.Next.TheVariants as nexts
use Rattle.asks.specs.declared.reply.Reply.{Reply}
use Rattle.asks.specs.declared.reply.What.{What}
use Rattle.asks.specs.declared.reply.What.TheVariants as whats
use Rattle.reply_words.specs.Words.{action_words, words}
use Rattle.web_pages.specs.declared.field.Field.{Field}
use Rattle.web_pages.specs.Forms.{field_text, kind_fields, action_fields, hidden, form_front, form_back, form_line, need_form, need_forms, action_forms, next_forms, what_forms, forms_of}
use Rattle.web_pages.specs.Heads.{length_line, close_line, first_lines, last_lines, response}
use Rattle.web_pages.specs.Pages.{document, root_line, page}
use Rattle.web_pages.specs.Statuses.{what_status}
use Rattle.web_laws.specs.Blank.{blank_form, blank_needs, blank_action, blank_next, blank_forms, blank_cookie, blank_page}
use Rattle.web_laws.specs.Names.{need_has_name, next_has_names, has_names}
use Rattle.web_laws.specs.Plain.{is_plain, is_plain_text, markup, has_plain_texts}
use Rattle.web_laws.proofs.PlainLemmas.{IsPlain, and_first, and_second, plain_name, plain_id, plain_number}
use Rattle.web_laws.proofs.WordLemmas.{action_plain, words_plain}

-- both texts have the same bytes that aren't plain
abbrev Same : List ℕ → List ℕ → Type 0
Same a b = markup a ≡ markup b

no_markup : (text : List ℕ) → IsPlain text → markup text ≡ []
no_markup [] e = refl
no_markup (b ∷ text) e = rw (and_first (is_plain b) (is_plain_text text) e) (no_markup text (and_second (is_plain b) (is_plain_text text) e))

plus : (a b c d : List ℕ) → Same a b → Same c d → Same (a ++ c) (b ++ d)
plus a b c d p q = rw (filter-append (λ x. not (is_plain x)) a c, filter-append (λ x. not (is_plain x)) b d, p, q) refl

-- in place of a plain text none
emptied : (a text c : List ℕ) → IsPlain text → Same (a ++ text ++ c) (a ++ [] ++ c)
emptied a text c p = plus (a ++ text) (a ++ []) c c (plus a a text [] refl (no_markup text p)) refl

-- ---- forms

hidden_same : (name value : List ℕ) → IsPlain value → Same (hidden name value) (hidden name [])
unfolding hidden
hidden_same name value p = emptied (codes "<input type=\"hidden\" name=\"" ++ name ++ codes "\" value=\"") value (codes "\">") p

back_same : (kind name : List ℕ) (own : List Field) → IsPlain name → Same (form_back kind name own) (form_back kind [] own)
unfolding form_back
back_same kind name own p =
    let own_text = flat_map field_text own in
    let button = codes "<button>" in
    let front : Same (hidden kind name ++ own_text ++ button) (hidden kind [] ++ own_text ++ button) =
    plus (hidden kind name ++ own_text) (hidden kind [] ++ own_text) button button (plus (hidden kind name) (hidden kind []) own_text own_text (hidden_same kind name p) refl) refl in
    let after = codes "</button></form>\n" in
    plus (hidden kind name ++ own_text ++ button ++ name) (hidden kind [] ++ own_text ++ button ++ []) after after
    (plus (hidden kind name ++ own_text ++ button) (hidden kind [] ++ own_text ++ button) name [] front (no_markup name p)) refl

form_same : (tab : TabKey) (code : Code) (kind name : List ℕ) (own : List Field) → IsPlain name → Same (form_line tab code kind name own) (blank_form kind own)
unfolding form_line form_front
form_same tab code kind name own p =
    let start = codes "<form method=\"post\" action=\"/post\">" in
    let tab_input = hidden (codes "tab") (id_bytes tab.0) in
    let code_input = hidden (codes "code") (id_bytes code.0) in
    let no_tab = hidden (codes "tab") [] in
    let no_code = hidden (codes "code") [] in
    let front : Same (start ++ tab_input ++ code_input) (start ++ no_tab ++ no_code) =
    plus (start ++ tab_input) (start ++ no_tab) code_input no_code (plus start start tab_input no_tab refl (hidden_same (codes "tab") (id_bytes tab.0) (plain_id tab.0))) (hidden_same (codes "code") (id_bytes code.0) (plain_id code.0)) in
    plus (start ++ tab_input ++ code_input) (start ++ no_tab ++ no_code) (form_back kind name own) (form_back kind [] own) front (back_same kind name own p)

needs_same : (tab : TabKey) (code : Code) (asked : List Need) → list_all need_has_name asked ≡ true → Same (need_forms tab code asked) (blank_needs asked)
needs_same tab code [] e = refl
needs_same tab code (need ∷ asked) e =
    plus (need_form tab code need) (blank_form (codes "execution") (kind_fields need.kind)) (need_forms tab code asked) (blank_needs asked)
    (form_same tab code (codes "execution") need.id (kind_fields need.kind) (plain_name need.id (and_first (need_has_name need) (list_all need_has_name asked) e)))
    (needs_same tab code asked (and_second (need_has_name need) (list_all need_has_name asked) e))

action_same : (tab : TabKey) (code : Code) (action : Action) → Same (action_forms tab code action) (blank_action action)
action_same tab code actions.VerifyEmail = refl
action_same tab code actions.Terms = form_same tab code (codes "action") (action_words actions.Terms) (action_fields actions.Terms) (action_plain actions.Terms)
action_same tab code actions.UpdatePassword = form_same tab code (codes "action") (action_words actions.UpdatePassword) (action_fields actions.UpdatePassword) (action_plain actions.UpdatePassword)
action_same tab code actions.ConfigureOtp = form_same tab code (codes "action") (action_words actions.ConfigureOtp) (action_fields actions.ConfigureOtp) (action_plain actions.ConfigureOtp)
action_same tab code actions.RecoveryCodes = form_same tab code (codes "action") (action_words actions.RecoveryCodes) (action_fields actions.RecoveryCodes) (action_plain actions.RecoveryCodes)

next_same : (tab : TabKey) (next : Next) → next_has_names next ≡ true → Same (next_forms tab next) (blank_next next)
next_same tab (nexts.Form code asked) e = needs_same tab code asked e
next_same tab (nexts.Action code kind shown) e = action_same tab code kind

tab_same : (tab : TabKey) (what : What) → has_names what ≡ true → Same (what_forms tab what) (blank_forms (Some tab) what)
unfolding what_forms
tab_same tab (whats.Form code asked) e = needs_same tab code asked e
tab_same tab (whats.Action code kind shown) e = action_same tab code kind
tab_same tab (whats.BadCredentials next) e = next_same tab next e
tab_same tab (whats.BadCode next) e = next_same tab next e
tab_same tab (whats.CodeSpent step next) e = next_same tab next e
tab_same tab (whats.BadForm at) e = refl
tab_same tab (whats.AdminRefused rule) e = refl
tab_same tab whats.UnknownClient e = refl
tab_same tab whats.LevelUnknown e = refl
tab_same tab (whats.TooManyRoots count) e = refl
tab_same tab (whats.TooManyTabs count) e = refl
tab_same tab whats.UnknownTab e = refl
tab_same tab whats.TabExpired e = refl
tab_same tab (whats.Stale current) e = refl
tab_same tab (whats.OtherUser own session) e = refl
tab_same tab whats.Finished e = refl
tab_same tab whats.NotAsked e = refl
tab_same tab (whats.Locked until) e = refl
tab_same tab whats.Disabled e = refl
tab_same tab (whats.CredentialMoved had now) e = refl
tab_same tab whats.TokenUnknown e = refl
tab_same tab whats.TokenSpent e = refl
tab_same tab (whats.TokenExpired expiry) e = refl
tab_same tab (whats.Denied execution) e = refl
tab_same tab (whats.NotConfigured execution) e = refl
tab_same tab whats.DeadEnd e = refl
tab_same tab (whats.LevelMissed level) e = refl
tab_same tab (whats.Done session user level) e = refl
tab_same tab (whats.ActionDone user kind) e = refl
tab_same tab whats.LoggedOut e = refl
tab_same tab (whats.Told text) e = refl
tab_same tab whats.StoreFault e = refl
tab_same tab whats.DiceFault e = refl
tab_same tab whats.Memory e = refl

forms_same : (tab : Option TabKey) (what : What) → has_names what ≡ true → Same (forms_of tab what) (blank_forms tab what)
forms_same (Some tab) what e = tab_same tab what e
forms_same None what e = refl

-- ---- pages

document_same : (text forms blank : List ℕ) → IsPlain text → Same forms blank → Same (document text forms) (document [] blank)
unfolding document
document_same text forms blank p q =
    let front = codes "<!doctype html>\n<title>Login</title>\n<p>" in
    let after = codes "</p>\n" in
    plus (front ++ text ++ after) (front ++ [] ++ after) forms blank (emptied front text after p) q

cookie_same : (opened : Option RootKey) (tab : Option TabKey) → Same (root_line opened tab) (blank_cookie opened tab)
cookie_same (Some root) (Some tab) = emptied (codes "Set-Cookie: root=") (id_bytes root.0) (codes "; Path=/; HttpOnly; SameSite=Lax\r\n") (plain_id root.0)
cookie_same (Some root) None = refl
cookie_same None tab = refl

lines_same : (m n : ℕ) → Same (last_lines m) (last_lines n)
unfolding last_lines
lines_same m n =
    let label = codes "Content-Length: " in
    let end = codes "\r\n" in
    let line : Same (length_line m) (length_line n) = emptied label (decimal m) end (plain_number m) ∙ sym (emptied label (decimal n) end (plain_number n)) in
    plus (length_line m ++ close_line) (length_line n ++ close_line) end end (plus (length_line m) (length_line n) close_line close_line line refl) refl

response_same : (status : ℕ) (own line body blank : List ℕ) → Same own line → Same body blank → Same (response status own body) (response status line blank)
response_same status own line body blank p q =
    let first = first_lines status in
    let lines = last_lines (length body) in
    let blank_lines = last_lines (length blank) in
    plus (first ++ own ++ lines) (first ++ line ++ blank_lines) body blank (plus (first ++ own) (first ++ line) lines blank_lines (plus first first own line refl p) (lines_same (length body) (length blank))) q

pub page_same : (reply : Reply) → has_names reply.what ≡ true → has_plain_texts reply.what ≡ true → Same (page reply) (blank_page reply)
page_same reply names texts =
    response_same (what_status reply.what) (root_line reply.opened reply.tab) (blank_cookie reply.opened reply.tab)
    (document (words reply) (forms_of reply.tab reply.what)) (document [] (blank_forms reply.tab reply.what))
    (cookie_same reply.opened reply.tab)
    (document_same (words reply) (forms_of reply.tab reply.what) (blank_forms reply.tab reply.what) (words_plain reply.opened reply.tab reply.what names texts) (forms_same reply.tab reply.what names))
