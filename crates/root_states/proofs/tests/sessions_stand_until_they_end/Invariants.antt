use Rattle.root_states.proofs.tests.sessions_stand_until_they_end.Given as goal

abbrev pub ghosts-says_of_sessions : goal.ghosts-says_of_sessions
ghosts-says_of_sessions g a = record { name = a.blank.name; parts = a.blank.parts }
