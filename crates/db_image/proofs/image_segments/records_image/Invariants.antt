use Rattle.db_image.proofs.image_segments.records_image.Given as goal

abbrev pub ghosts-fit_their_types : goal.ghosts-fit_their_types
ghosts-fit_their_types a = record { name = a.blank.name; parts = a.blank.parts }
