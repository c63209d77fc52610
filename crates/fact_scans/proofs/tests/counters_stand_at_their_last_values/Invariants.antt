use Rattle.fact_scans.proofs.tests.counters_stand_at_their_last_values.Given as goal

abbrev pub ghosts-last_moment : goal.ghosts-last_moment
ghosts-last_moment g a = record { name = a.blank.name; parts = a.blank.parts }
