-- Two databases that have the same rows tell the same.
use Rattle.std.proofs.Common.{◌≡◌, pos, map, refl, sym, subst}
use Rattle.std.specs.List.{AllByRecursion}
use Rattle.sqlite.specs.declared.types.Value.TheVariants.{Int}
use Rattle.sqlite.specs.Tree.{Trees}
use Rattle.sqlite_trees.specs.Tree.{rowid}
use Rattle.keeper_rows.specs.Applied.{session_key, token_key, text_cmp}
use Rattle.sql_base.specs.Spares.{row_trees}
use Rattle.sql_base.specs.Told.{session_of, token_of, tables_in}
use Rattle.sql_base.specs.Ready.{AreApart, AreNumbered, IsNatural, AreKept}

-- the six tables have the same rows
abbrev pub Agree : Trees → Trees → Type 0
Agree a b = AllByRecursion (λ t. a t ≡ b t) row_trees

pub told_agree : (a b : Trees) → Agree a b → tables_in a ≡ tables_in b
told_agree a b s = rw (s.0, s.1.0, s.1.1.0, s.1.1.1.0, s.1.1.1.1.0, s.1.1.1.1.1.0) refl

pub kept_agree : (a b : Trees) → Agree a b → AreKept b → AreKept a
kept_agree a b s kept =
    let realms : a 0 ≡ b 0 = s.0 in
    let accounts : a 1 ≡ b 1 = s.1.0 in
    let secrets : a 3 ≡ b 3 = s.1.1.0 in
    let sessions : a 5 ≡ b 5 = s.1.1.1.0 in
    let tokens : a 7 ≡ b 7 = s.1.1.1.1.0 in
    let marks : a 9 ≡ b 9 = s.1.1.1.1.1.0 in
    record {
      realms = subst AreNumbered (sym realms) kept.realms;
      versions = subst (AllByRecursion IsNatural) (sym realms) kept.versions;
      accounts = subst AreNumbered (sym accounts) kept.accounts;
      secrets = subst AreNumbered (sym secrets) kept.secrets;
      sessions = subst AreNumbered (sym sessions) kept.sessions;
      session_keys = subst (λ rs. AreApart text_cmp session_key (map session_of rs)) (sym sessions) kept.session_keys;
      tokens = subst AreNumbered (sym tokens) kept.tokens;
      token_keys = subst (λ rs. AreApart text_cmp token_key (map token_of rs)) (sym tokens) kept.token_keys;
      marks = subst AreNumbered (sym marks) kept.marks;
      mark_keys = subst (AllByRecursion (λ r. rowid r ≡ Int (pos 1))) (sym marks) kept.mark_keys;
    }
