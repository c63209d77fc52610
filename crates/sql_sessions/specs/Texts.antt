-- The texts on sessions and tokens.
use Rattle.std.specs.Prelude.{List, ℕ, codes}

abbrev pub put_session_text : List ℕ
put_session_text = codes "INSERT INTO session (id, user, opened, seen, idle, max, levels) VALUES (?1, ?2, ?3, ?4, ?5, ?6, ?7) ON CONFLICT (id) DO UPDATE SET user = excluded.user, opened = excluded.opened, seen = excluded.seen, idle = excluded.idle, max = excluded.max, levels = excluded.levels"

abbrev pub drop_session_text : List ℕ
drop_session_text = codes "DELETE FROM session WHERE id = ?1"

abbrev pub load_session_text : List ℕ
load_session_text = codes "SELECT id, user, opened, seen, idle, max, levels, rowid FROM session ORDER BY id"

abbrev pub put_token_text : List ℕ
put_token_text = codes "INSERT INTO token (key, user, kind, expiry, spent) VALUES (?1, ?2, ?3, ?4, ?5) ON CONFLICT (key) DO UPDATE SET user = excluded.user, kind = excluded.kind, expiry = excluded.expiry, spent = excluded.spent"

abbrev pub drop_token_text : List ℕ
drop_token_text = codes "DELETE FROM token WHERE key = ?1"

abbrev pub load_token_text : List ℕ
load_token_text = codes "SELECT key, user, kind, expiry, spent, rowid FROM token ORDER BY key"
