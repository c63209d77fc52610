-- The realm that the service begins with.
use Rattle.std.specs.Prelude.{List, [], ◌∷◌, codes, replicate}
use Rattle.lockout.specs.declared.policy.Policy.{Policy}
use Rattle.lockout.specs.declared.policy.Mode.TheVariants.{Temporary}
use Rattle.flow_tree.specs.declared.exec.Exec.{Exec}
use Rattle.flow_tree.specs.declared.exec.Body.TheVariants.{Auth}
use Rattle.flow_tree.specs.declared.exec.Kind.TheVariants.{Form}
use Rattle.flow_tree.specs.declared.exec.Requirement.TheVariants.{Required}
use Rattle.realm_data.specs.declared.realm_parts.Client.{Client}
use Rattle.realm_data.specs.declared.realm_parts.RealmParts.{RealmParts}

-- one execution, which asks for name and password
abbrev pub builtin_flow : List Exec
builtin_flow = record { id = codes "form"; requirement = Required; body = Auth Form } ∷ []

-- a minute more for each third failure, and at most a quarter of an hour
abbrev pub builtin_lockout : Policy
builtin_lockout =
    record {
      mode = Temporary;
      max_failures = 3;
      wait_increment = 60;
      max_wait = 900;
      failure_reset = 43200;
      quick_check = 1000;
      quick_wait = 60;
    }

abbrev pub builtin_clients : List Client
builtin_clients = record { id = codes "app"; level = 0 } ∷ []

unfoldable pub builtin_realm : RealmParts
builtin_realm =
    record {
      name = codes "builtin";
      admin_key = replicate 32 0;
      flow = builtin_flow;
      session = record { idle = 1800; max = 36000; tab = 1800 };
      iterations = 100;
      otp = record { digits = 6; window = 1 };
      recovery_count = 8;
      lockout = builtin_lockout;
      acr = [];
      clients = builtin_clients;
      users = [];
    }
