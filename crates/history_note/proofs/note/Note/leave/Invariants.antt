use Rattle.history_note.proofs.note.Note.leave.Given as goal

-- the line is the one that is handed in
abbrev pub ghosts-leave_line : goal.ghosts-leave_line
ghosts-leave_line g a = record { line = a.line.now }
