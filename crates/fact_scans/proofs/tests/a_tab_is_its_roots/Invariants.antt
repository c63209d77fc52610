use Rattle.fact_scans.proofs.tests.a_tab_is_its_roots.Given as goal

abbrev pub ghosts-says_of_tabs : goal.ghosts-says_of_tabs
ghosts-says_of_tabs g a = record { name = a.blank.name; parts = a.blank.parts }
