use Rattle.login_base.proofs.tests.steps_count_over_a_blank.Given as goal

abbrev pub ghosts-tick_twice : goal.ghosts-tick_twice
ghosts-tick_twice a = record { name = a.blank.name; parts = a.blank.parts }
