use Rattle.login_hall.proofs.sample_hall.is_answered.Given as goal

abbrev pub ghosts-asked_twice : goal.ghosts-asked_twice
ghosts-asked_twice g a = record { name = a.blank.name; parts = a.blank.parts }
