use Rattle.field_merge.proofs.unshared.read_row.Given as goal

-- the steps are counted on the blank that is handed over
abbrev pub ghosts-read_counted : goal.ghosts-read_counted
ghosts-read_counted g a = record { name = a.blank.name; parts = a.blank.parts }
