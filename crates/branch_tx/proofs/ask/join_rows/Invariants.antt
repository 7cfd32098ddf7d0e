use Rattle.branch_tx.proofs.ask.join_rows.Given as goal

-- the steps are counted on the blank that is handed over
abbrev pub ghosts-join_counted : goal.ghosts-join_counted
ghosts-join_counted g a = record { name = a.blank.name; parts = a.blank.parts }
