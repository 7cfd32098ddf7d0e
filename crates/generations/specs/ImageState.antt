-- What an image stands for.
use Rattle.db_store.specs.State.{State, laid}
use Rattle.hybrid_store.specs.Parts.{layout_of_parts}
use Rattle.image_text.specs.declared.image.Image.{Image}
use Rattle.db_image.specs.Parts.{parts_of}

-- the state that has the layout of an image
unfoldable pub image_state : Image → State
image_state i = laid (layout_of_parts (parts_of i))
