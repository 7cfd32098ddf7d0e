-- How many bytes the entry of a commit has. They follow from the widths of its changes: a number has 8 bytes, and a text as many as its column is wide. If one of the changes has a text, the width of its column stands before each field.
use Rattle.std.specs.Prelude.{ℕ, suc, ◌+◌, ◌≤◌, ◌==◌, not, Bool, true, false, List, [], ◌∷◌, Option, Some, None}
use Rattle.std.specs.List.{list_any}
use Rattle.db_value.specs.RowForm.{field_size, row_size}
use Rattle.db_value.specs.declared.version.VersionPlace.{VersionPlace}
use Rattle.db_value.specs.declared.entry.Change.{Change}
use Rattle.db_value.specs.declared.entry.Entry.{Entry}
use Rattle.db_value.specs.declared.entry.Entry.TheVariants.{Commit, Branch}

-- the most bytes of an entry
abbrev pub most_entry : ℕ
most_entry = 16777216

-- a column of texts
abbrev pub is_of_texts : ℕ → Bool
is_of_texts width = not (width == 0)

-- one of these columns is of texts
abbrev pub any_of_texts : List ℕ → Bool
any_of_texts ws = list_any is_of_texts ws

abbrev pub have_texts : Option (List ℕ) → Bool
have_texts None = false
have_texts (Some ws) = any_of_texts ws

-- a change has a text
abbrev pub has_text : Change → Bool
has_text c = have_texts c.widths

-- one of these changes has a text
abbrev pub any_text : List Change → Bool
any_text cs = list_any has_text cs

-- how many bytes fields have, each of them behind its width
abbrev pub wide_size : List ℕ → ℕ
wide_size [] = 0
wide_size (w ∷ ws) = suc (field_size w + wide_size ws)

-- how many bytes the fields of a row have, with their widths or alone
abbrev pub form_size : Bool → List ℕ → ℕ
form_size false ws = row_size ws
form_size true ws = wide_size ws

-- the same of a change, which may have no fields
abbrev pub fields_size : Bool → Option (List ℕ) → ℕ
fields_size wide None = 0
fields_size wide (Some ws) = form_size wide ws

-- a change has a relation, a number of fields, a key of 8 bytes, and the fields
abbrev pub change_size : Bool → Change → ℕ
change_size wide c = 10 + fields_size wide c.widths

abbrev pub changes_size : Bool → List Change → ℕ
changes_size wide [] = 0
changes_size wide (c ∷ cs) = change_size wide c + changes_size wide cs

-- a second parent, or none
abbrev pub second_size : Option VersionPlace → ℕ
second_size None = 1
second_size (Some at) = 9

-- a commit has a kind, the number of its branch, a second parent or none, the number of its changes, and these
abbrev pub commit_size : Option VersionPlace → List Change → ℕ
commit_size second cs = 9 + second_size second + changes_size (any_text cs) cs

-- a commit has no more bytes than an entry can have; a new branch never has
abbrev pub IsShort : Entry → Type 0
IsShort (Commit branch second changes) = commit_size second changes ≤ most_entry
IsShort (Branch name origin) = Unit {0}

-- the same of an entry that may not be there
abbrev pub IsShortIf : Option Entry → Type 0
IsShortIf None = Unit {0}
IsShortIf (Some e) = IsShort e
