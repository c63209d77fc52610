use Rattle.fact_scans.proofs.tests.a_user_is_as_put_last.Given as goal

abbrev pub ghosts-says_of_the_user : goal.ghosts-says_of_the_user
ghosts-says_of_the_user g a = record { name = a.blank.name; parts = a.blank.parts }
