use Rattle.fact_scans.proofs.tests.the_realm_put_last_is_in_force.Given as goal

abbrev pub ghosts-says_of_realms : goal.ghosts-says_of_realms
ghosts-says_of_realms g a = record { name = a.blank.name; parts = a.blank.parts }
