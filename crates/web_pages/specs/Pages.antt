-- The page of a reply, and of a fault of a request.
use Rattle.std.specs.Prelude.{ℕ, List, [], ◌++◌, Option, Some, None, codes, decimal}
use Rattle.login_base.specs.declared.id.RootKey.{RootKey}
use Rattle.login_base.specs.declared.id.TabKey.{TabKey}
use Rattle.asks.specs.declared.reply.Reply.{Reply}
use Rattle.reply_words.specs.Words.{words}
use Rattle.web_pages.specs.declared.fault.WebFault.{WebFault}
use Rattle.web_pages.specs.declared.fault.WebFault.TheVariants as faults
use Rattle.web_pages.specs.Forms.{forms_of}
use Rattle.web_pages.specs.Heads.{cookie_line, allow_line, response}
use Rattle.web_pages.specs.Statuses.{what_status, fault_status, method_text}

-- a document of one paragraph and forms
unfoldable pub document : List ℕ → List ℕ → List ℕ
document text forms = codes "<!doctype html>\n<title>Login</title>\n<p>" ++ text ++ codes "</p>\n" ++ forms

-- the root of an open goes into a cookie: those replies whose words begin with it
abbrev pub root_line : Option RootKey → Option TabKey → List ℕ
root_line (Some root) (Some tab) = cookie_line root
root_line (Some root) None = []
root_line None tab = []

-- the page of a reply: its words, and what it asks as forms
abbrev pub page : Reply → List ℕ
page reply = response (what_status reply.what) (root_line reply.opened reply.tab) (document (words reply) (forms_of reply.tab reply.what))

-- which method the route has
abbrev pub fault_line : WebFault → List ℕ
fault_line (faults.MethodNotAllowed allowed) = allow_line (method_text allowed)
fault_line fault = []

-- the page of a fault: its status
abbrev pub fault_page : WebFault → List ℕ
fault_page fault = response (fault_status fault) (fault_line fault) (document (codes "fault " ++ decimal (fault_status fault)) [])
