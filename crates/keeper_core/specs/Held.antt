-- The tables of a keeper in memory, with room for more rows.
use Rattle.std.specs.Prelude.{ℕ, ◌+◌, ◌≤◌, vec_len, vec_capacity}
use Rattle.keeper_rows.specs.declared.tables.Tables.{Tables}
use Rattle.keeper_core.specs.declared.held.Held.{Held}

abbrev pub tables_in : Held → Tables
tables_in held = record {
  realms = held.realms.items;
  accounts = held.accounts.items;
  secrets = held.secrets.items;
  sessions = held.sessions.items;
  tokens = held.tokens.items;
  marks = held.marks.items;
}

-- each table has room for so many rows more
pub record HasRoom (held : Held) (n : ℕ) : Type 0 where
  pub realms : vec_len held.realms + n ≤ vec_capacity held.realms
  pub accounts : vec_len held.accounts + n ≤ vec_capacity held.accounts
  pub secrets : vec_len held.secrets + n ≤ vec_capacity held.secrets
  pub sessions : vec_len held.sessions + n ≤ vec_capacity held.sessions
  pub tokens : vec_len held.tokens + n ≤ vec_capacity held.tokens
  pub marks : vec_len held.marks + n ≤ vec_capacity held.marks
