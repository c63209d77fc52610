use Rattle.account_states.proofs.tests.each_fact_leaves_a_state.Given as goal

abbrev pub ghosts-state : goal.ghosts-state
ghosts-state g a = record { name = a.blank.name; parts = a.blank.parts }
