use Rattle.segment.proofs.segment.Segment.key_in.Given as goal

-- the step is counted on the blank that is handed over
abbrev pub ghosts-key_read : goal.ghosts-key_read
ghosts-key_read a = record { name = a.blank.name; parts = a.blank.parts }
