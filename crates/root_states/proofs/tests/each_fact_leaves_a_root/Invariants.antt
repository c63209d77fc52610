use Rattle.root_states.proofs.tests.each_fact_leaves_a_root.Given as goal

abbrev pub ghosts-state : goal.ghosts-state
ghosts-state g a = record { name = a.blank.name; parts = a.blank.parts }

abbrev pub ghosts-roots : goal.ghosts-roots
ghosts-roots g a = record { name = a.blank.name; parts = a.blank.parts }
