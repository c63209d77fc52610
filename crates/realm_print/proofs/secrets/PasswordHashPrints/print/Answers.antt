use Rattle.std.proofs.Common.{codes, refl}
use Rattle.toml.specs.View.{view}
use Rattle.toml.proofs.Views.{view-Table}
use Rattle.realm_print.proofs.FieldLemmas.{begun, more}
use Rattle.realm_print.proofs.TableLemmas.{password_back}
use Rattle.realm_print.proofs.secrets.PasswordHashPrints.print.Goals as goal

pub returns-clause-read : goal.returns-clause-read
returns-clause-read c =
    let none = begun _ c.new-table.ensures.empty in
    let salt = more (codes "salt") (view c.in_ok-salt.salt) _ _ _ _ c.in_ok-put.ensures refl none in
    let times = more (codes "iterations") _ _ _ _ _ c.in_ok-put-2.ensures c.from.ensures salt in
    let digest = more (codes "digest") (view c.in_ok-digest.digest) _ _ _ _ c.in_ok-put-3.ensures refl times in
    λ path. rw (view-Table, digest, c.iterations.ensures.iterations) (password_back c.args.self.now (view c.in_ok-salt.salt) (view c.in_ok-digest.digest) c.requires
    (rw c.salt.ensures.salt at c.in_ok-salt.ensures.read) (rw c.digest.ensures.digest at c.in_ok-digest.ensures.read) path)
