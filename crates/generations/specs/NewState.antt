-- What the image of a new dataset stands for.
use Rattle.std.specs.Prelude.{List}
use Rattle.db_value.specs.declared.schema.Relation.{Relation}
use Rattle.db_store.specs.Layout.{new_layout}
use Rattle.db_store.specs.State.{State, laid}

-- the state of the new dataset of a schema
abbrev pub new_state : List Relation → State
new_state rs = laid (new_layout rs)
