-- The parts that images stand for, computed.
use Rattle.std.proofs.Common.{◌≡◌, List, [], ◌∷◌, Some, None, refl}
use Rattle.std.specs.Prelude.{pos, codes}
use Rattle.db_value.specs.Relations.{number_column}
use Rattle.db_value.specs.declared.value.Value.TheVariants.{Number}
use Rattle.db_value.specs.declared.schema.Relation.{Relation}
use Rattle.db_value.specs.declared.record.Record.{Record}
use Rattle.db_value.specs.declared.entry.Entry.TheVariants.{Commit, Branch as NewBranch}
use Rattle.db_store.specs.Layout.{Layout, new_layout}
use Rattle.db_store.specs.LayoutGrowth.{grow_layout}
use Rattle.hybrid_store.specs.Parts.{layout_of_parts}
use Rattle.image_text.specs.declared.image.Image.{Image}
use Rattle.db_image.specs.Parts.{parts_of}

items : List Relation
items = record { name = codes "items"; columns = number_column (codes "a") ∷ number_column (codes "b") ∷ [] } ∷ []

abbrev one : Record
one = record { key = 7; fields = Number (pos 1) ∷ Number (pos 2) ∷ [] }

-- master alone
abbrev new_image : Image
new_image = record {
  relations = items;
  branches = record { name = codes "master"; origin = record { branch = 0; position = 0 } } ∷ [];
  versions = [];
  segments = (record { head = 1; records = []; rows = record { branch = 0; from = 0; deltas = record { first = 0; words = [] } ∷ [] } ∷ [] } ∷ []) ∷ [];
}

new_laid : layout_of_parts (parts_of new_image) ≡ new_layout items
unfolding items
new_laid = refl

-- a commit on master, and then a branch of it, which gives master another head
abbrev two_image : Image
two_image = record {
  relations = items;
  branches = record { name = codes "master"; origin = record { branch = 0; position = 0 } } ∷ record { name = codes "dev"; origin = record { branch = 0; position = 1 } } ∷ [];
  versions = record { branch = 0; second = None } ∷ [];
  segments = (record { head = 0; records = one ∷ []; rows = record { branch = 0; from = 0; deltas = record { first = 0; words = [] } ∷ record { first = 0; words = 1 ∷ [] } ∷ [] } ∷ record { branch = 1; from = 0; deltas = record { first = 0; words = 1 ∷ [] } ∷ [] } ∷ [] }
      ∷ record { head = 1; records = []; rows = record { branch = 0; from = 1; deltas = record { first = 0; words = [] } ∷ [] } ∷ [] }
      ∷ record { head = 2; records = []; rows = record { branch = 1; from = 0; deltas = record { first = 0; words = [] } ∷ [] } ∷ [] }
      ∷ []) ∷ [];
}

abbrev grown : Layout
grown = grow_layout (grow_layout (new_layout items) (Commit 0 None (record { relation = 0; key = 7; fields = Some (Number (pos 1) ∷ Number (pos 2) ∷ []); widths = Some (0 ∷ 0 ∷ []) } ∷ []))) (NewBranch (codes "dev") (record { branch = 0; position = 1 }))

two_laid : layout_of_parts (parts_of two_image) ≡ grown
unfolding items
two_laid = refl
