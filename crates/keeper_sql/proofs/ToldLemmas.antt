-- When a keeper tells its tables.
use Rattle.std.proofs.Common.{◌≡◌, ◌≤◌, Bool, true, false, ◌&&◌, cond, List, Some, None, Result, Ok, Err, IsTrue, OnOk, OnErr, IfOk, refl, sym, ap, subst, ◌∙◌, arith}
use Rattle.std.specs.Prelude.{IfSome}
use Rattle.sqlite_trees.specs.View.{doubt}
use Rattle.sqlite_trees.specs.declared.store.Store.{Ghosts}
use Rattle.sqlite_trees.proofs.Doubt.{clean_of, no_doubt}
use Rattle.sqlite.specs.Effect.{Database}
use Rattle.sqlite.specs.State.{HasCleanDisk}
use Rattle.sqlite.specs.Held.{Held, state}
use Rattle.keeper_rows.specs.declared.change.Change.{Change}
use Rattle.keeper_rows.specs.declared.tables.Tables.{Tables}
use Rattle.keeper_core.specs.Keeping.{Stays, Commits, Keeps}
use Rattle.sql_loads.specs.declared.tables.Loaded.{Loaded}
use Rattle.sql_base.specs.declared.fault.Fault.{Fault}
use Rattle.sql_base.specs.Told.{tables_in}
use Rattle.keeper_sql.specs.Committed.{IsOurs, IsCommitted, IsKept}
use Rattle.keeper_sql.specs.Kept.{KnowsOurs, told, told_open}
use Rattle.keeper_sql.specs.Unread.{is_whole}

both : (a b : Bool) → (a && b) ≡ true → (a ≡ true) × (b ≡ true)
both true true h = (refl, refl)
both true false h = absurd cc
both false b h = absurd cc

module _ {S : Type 0} (g : Ghosts S) where
  -- what is told of an open connection over a clean disk
  pub tells : (h : Held S) → HasCleanDisk (state g h) → IsTrue (state g h).is_open → told_open g (Ok h) ≡ Some (tables_in (state g h).now.trees)
  tells h clean is_open = rw (clean_of _ clean, is_open) refl

  -- what holds of the tables of an open connection over a clean disk holds where they are told
  pub if_told : (h : Held S) (P : Tables → Type 0) → (HasCleanDisk (state g h) → IsTrue (state g h).is_open → P (tables_in (state g h).now.trees)) → IfSome (told_open g (Ok h)) P
  if_told h P holds = go ((state g h).is_clean && (state g h).is_open) refl
    where
      go : (b : Bool) → ((state g h).is_clean && (state g h).is_open) ≡ b → IfSome (cond b (Some (tables_in (state g h).now.trees)) None) P
      go false is = tt
      go true is = let two = both (state g h).is_clean (state g h).is_open is in holds (no_doubt _ two.0) two.1

  module _ (old new : Held S) (clean : doubt (state g old).is_clean ≤ doubt (state g new).is_clean) where
    early : HasCleanDisk (state g new) → HasCleanDisk (state g old)
    early is = omega (arith, clean)

    pub commits : (changes : List Change) (r : Result (Unit {0}) Fault) → (HasCleanDisk (state g new) → OnOk r (IsCommitted changes (state g old) (state g new)))
        → OnOk r (Commits (told g true (Ok old)) (told g true (Ok new)) changes)
    commits changes (Err fault) h = tt
    commits changes (Ok done) h = if_told new _ (λ is opened. let did = h is in rw (tells old (early is) did.was_open) did.tables_are)

    pub stays : (r : Result (Unit {0}) Fault) → (HasCleanDisk (state g new) → OnErr r (IsKept (state g old) (state g new)))
        → OnErr r (Keeps (told g true (Ok old)) (told g true (Ok new)))
    stays (Ok done) h = tt
    stays (Err fault) h = if_told new _ (λ is opened. let did = h is in rw (tells old (early is) (did.was_open opened)) (ap (λ (db : Database). Some (tables_in db.trees)) (sym (did.same opened))))

  -- a load that left the connection as it was, but for what made it ready, tells what it read
  module _ (known : Bool) (old mid new : Held S) (clean : doubt (state g mid).is_clean ≤ doubt (state g new).is_clean) (same : IsTrue known → mid ≡ old) where
    abbrev whole : Loaded → Bool
    whole loaded = is_whole loaded.untold_realm loaded.unkeyed_mark

    pub reads : (r : Result Loaded Fault) → (HasCleanDisk (state g new) → OnOk r (IsKept (state g mid) (state g new)))
        → (HasCleanDisk (state g new) → IfOk r (λ loaded. IsTrue (whole loaded) → loaded.tables ≡ tables_in (state g mid).now.trees))
        → IfOk r (λ loaded. IfSome (told g (whole loaded) (Ok new)) (λ now. now ≡ loaded.tables))
    reads (Err fault) kept is_told = tt
    reads (Ok loaded) kept is_told = go (whole loaded) refl
      where
        go : (b : Bool) → whole loaded ≡ b → IfSome (told g b (Ok new)) (λ now. now ≡ loaded.tables)
        go false is = tt
        go true all = if_told new _ (λ is opened. ap (λ (db : Database). tables_in db.trees) ((kept is).same opened) ∙ sym (is_told is all))

    pub stays_read : (r : Result Loaded Fault) → (HasCleanDisk (state g new) → OnOk r (IsKept (state g mid) (state g new)))
        → IfOk r (λ loaded. Stays (told g known (Ok old)) (told g (whole loaded) (Ok new)))
    stays_read (Err fault) kept = tt
    stays_read (Ok loaded) kept = both_ways (whole loaded)
      where
        before : (b : Bool) → known ≡ b → HasCleanDisk (state g new) → IsTrue (state g new).is_open → IfSome (told g b (Ok old)) (λ t. tables_in (state g new).now.trees ≡ t)
        before false is clean opened = tt
        before true is clean opened = if_told old _ (λ _ _. ap (λ (db : Database). tables_in db.trees) ((kept clean).same opened) ∙ ap (λ (h : Held S). tables_in (state g h).now.trees) (same is))

        both_ways : (b : Bool) → Stays (told g known (Ok old)) (told g b (Ok new))
        both_ways false = tt
        both_ways true = if_told new _ (λ is opened. before known refl is opened)
