use Rattle.branch_tx.proofs.ask.list_rows.Given as goal

-- the steps are counted on the blank that is handed over
abbrev pub ghosts-list_counted : goal.ghosts-list_counted
ghosts-list_counted g a = record { name = a.blank.name; parts = a.blank.parts }
