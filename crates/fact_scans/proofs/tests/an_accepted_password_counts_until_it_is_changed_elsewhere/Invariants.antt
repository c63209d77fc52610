use Rattle.fact_scans.proofs.tests.an_accepted_password_counts_until_it_is_changed_elsewhere.Given as goal

abbrev pub ghosts-counts : goal.ghosts-counts
ghosts-counts g a = record { name = a.blank.name; parts = a.blank.parts }
