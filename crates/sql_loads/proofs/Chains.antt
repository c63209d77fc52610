-- One read after another.
use Rattle.std.proofs.Common.{◌⊎◌, inl, inr, ◌∙◌, subst, sym, arith, true≢false}
use Rattle.sqlite.specs.Effect.{Database}
use Rattle.sqlite.specs.State.{State, IsUnchanged, Survives}
use Rattle.sqlite.proofs.StateLemmas.{survives_then}
use Rattle.sqlite.specs.Tree.{Trees}
use Rattle.std.specs.Prelude.{IsSome}
use Rattle.sql_base.specs.Steps.{IsRefused}

pub survives_both : (a b c : State) → Survives a b (λ _. ⊥) → Survives b c (λ _. ⊥) → Survives a c (λ _. ⊥)
survives_both a b c one two = survives_then a b c (λ _. ⊥) (λ _. ⊥) (λ _. ⊥) (λ clean db none. none) (λ clean db none. none) one two

pub unchanged_both : (a b c : State) → IsUnchanged a b → IsUnchanged b c → IsUnchanged a c
unchanged_both a b c one two = (
  record {
    was_open = one.0.was_open;
    is_open = two.0.is_open;
    now_is = two.0.now_is ∙ one.0.now_is;
    committed_is = two.0.committed_is ∙ one.0.committed_is;
    mode = two.0.mode ∙ one.0.mode;
  },
  record { changes = two.1.changes ∙ one.1.changes; last_rowid = two.1.last_rowid ∙ one.1.last_rowid },
  two.2 ∙ one.2,
)

refused_later : (a b c : State) → Survives a b (λ _. ⊥) → IsUnchanged a b → IsRefused b c → IsRefused a c
refused_later a b c one same (inl rose) = inl (omega (arith, one.counts, rose))
refused_later a b c one same (inr (inl shut)) = absurd (true≢false (sym same.0.is_open ∙ shut))
refused_later a b c one same (inr (inr limit)) = inr (inr (subst IsSome one.limit limit))

-- why a later read failed is why all of them did
pub cause_later : (a b c : State) (P Q : Trees → Type 0) → ((db : Trees) → Q db → P db) → Survives a b (λ _. ⊥) → IsUnchanged a b → IsRefused b c ⊎ ¬ P b.now.trees → IsRefused a c ⊎ ¬ Q a.now.trees
cause_later a b c P Q part one same (inl refused) = inl (refused_later a b c one same refused)
cause_later a b c P Q part one same (inr none) = inr (λ all. none (subst (λ (d : Database). P d.trees) (sym same.0.now_is) (part a.now.trees all)))
