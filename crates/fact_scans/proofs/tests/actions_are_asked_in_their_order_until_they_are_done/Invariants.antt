use Rattle.fact_scans.proofs.tests.actions_are_asked_in_their_order_until_they_are_done.Given as goal

abbrev pub ghosts-first : goal.ghosts-first
ghosts-first g a = record { name = a.blank.name; parts = a.blank.parts }
