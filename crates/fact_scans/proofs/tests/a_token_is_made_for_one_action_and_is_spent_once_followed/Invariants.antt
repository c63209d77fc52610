use Rattle.fact_scans.proofs.tests.a_token_is_made_for_one_action_and_is_spent_once_followed.Given as goal

abbrev pub ghosts-says_of_tokens : goal.ghosts-says_of_tokens
ghosts-says_of_tokens g a = record { name = a.blank.name; parts = a.blank.parts }
