use Rattle.std.proofs.Common.{◌∷◌, ◌++◌, [], List, ℕ, ◌∙◌, ap}
use Rattle.new_image.specs.Image.{image_of}
use Rattle.generations.specs.Written.{behind_gate}
use Rattle.generations.proofs.new.new_file.Goals as goal

pub returns-clause-bytes : goal.returns-clause-bytes
returns-clause-bytes c =
    c.in_ok-file.ensures.bytes ∙ ap (λ (l : List ℕ). 0 ∷ (behind_gate 1 l ++ 0 ∷ [])) (c.deref.ensures.value ∙ c.in_ok-image.ensures ∙ ap image_of c.relations.ensures.value)
