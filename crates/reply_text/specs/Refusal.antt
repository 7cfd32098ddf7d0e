-- The number and the text of each refusal.
use Rattle.std.specs.Prelude.{ℕ, List, ◌∷◌, ◌++◌, Option, Some, None, codes}
use Rattle.std.specs.Fmt.{decimal}
use Rattle.db_value.specs.declared.reply.Refusal.{Refusal}
use Rattle.db_value.specs.declared.reply.Refusal.TheVariants.{Line, NoRelation, NoColumn, NoBranch, NoVersion, KeyThere, KeyMissing, Held, Conflict, InTransaction, NoTransaction, Room, NotFirst, BranchThere, BranchesFull, VersionsFull, TableFull, Skipped, FaultDisk, BodyFull, ValueCount, WrongKind, TextTooLong}
use Rattle.db_value.specs.Version.{place_text}
use Rattle.reply_text.specs.Piece.{numbered_text}

-- the field in which two sides differ, or a star for the whole record
abbrev pub differing_text : Option (List ℕ) → List ℕ
differing_text None = codes "*"
differing_text (Some field) = field

-- a refusal's number, and what it names
abbrev pub refusal_text : Refusal → List ℕ
refusal_text Line = codes "1 bad line"
refusal_text (NoRelation relation) = codes "2 no relation " ++ relation
refusal_text (NoColumn column) = codes "3 no column " ++ column
refusal_text (NoBranch branch) = codes "4 no branch " ++ branch
refusal_text (NoVersion branch position) = codes "5 no version " ++ place_text branch (Some position)
refusal_text (KeyThere relation key) = codes "6 key there " ++ numbered_text relation key
refusal_text (KeyMissing relation key) = codes "7 key missing " ++ numbered_text relation key
refusal_text (Held lock by) = codes "8 held " ++ lock ++ codes " by " ++ decimal by
refusal_text (Conflict relation key field) = codes "9 conflict " ++ numbered_text relation key ++ 32 ∷ differing_text field
refusal_text InTransaction = codes "10 in transaction"
refusal_text NoTransaction = codes "11 no transaction"
refusal_text (Room room) = codes "12 room " ++ decimal room
refusal_text NotFirst = codes "13 not first"
refusal_text (BranchThere branch) = codes "14 branch there " ++ branch
refusal_text BranchesFull = codes "15 branches full"
refusal_text (VersionsFull branch) = codes "16 versions full " ++ branch
refusal_text (TableFull relation) = codes "17 table full " ++ relation
refusal_text Skipped = codes "18 skipped"
refusal_text FaultDisk = codes "19 fault disk"
refusal_text BodyFull = codes "20 body full"
refusal_text (ValueCount relation columns) = codes "21 value count " ++ numbered_text relation columns
refusal_text (WrongKind column) = codes "22 wrong kind " ++ column
refusal_text (TextTooLong column) = codes "23 text too long " ++ column
