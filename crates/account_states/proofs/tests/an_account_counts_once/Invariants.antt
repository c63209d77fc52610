use Rattle.account_states.proofs.tests.an_account_counts_once.Given as goal

abbrev pub ghosts-counts : goal.ghosts-counts
ghosts-counts g a = record { name = a.blank.name; parts = a.blank.parts }
