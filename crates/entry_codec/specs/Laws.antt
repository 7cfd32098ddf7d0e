-- Which entries have a spelling, and what ties it to reading.
use Rattle.std.specs.Prelude.{◌≡◌, ◌<◌, ◌≤◌, ◌^◌, ◌++◌, ℕ, true, List, [], ◌∷◌, length, drop, Option, Some, None}
use Rattle.std.specs.List.{All, AllByRecursion}
use Rattle.db_value.specs.Text.{is_name}
use Rattle.db_value.specs.Value.{Value, IsValue}
use Rattle.db_value.specs.Width.{are_widths}
use Rattle.db_value.specs.Widths.{meets}
use Rattle.db_value.specs.declared.version.VersionPlace.{VersionPlace}
use Rattle.db_value.specs.declared.entry.Change.{Change}
use Rattle.db_value.specs.declared.entry.Entry.{Entry}
use Rattle.db_value.specs.declared.entry.Entry.TheVariants.{Commit, Branch}
use Rattle.db_store.specs.Dataset.{Dataset}
use Rattle.db_store.specs.Sound.{IsSound}
use Rattle.db_store.specs.Counted.{IsCounted}
use Rattle.db_store.specs.Fits.{fits, ascends, makes_version}
use Rattle.entry_codec.specs.Spelling.{spelling, spellings, entry_size, HasMetChanges}
use Rattle.entry_codec.specs.Grammar.{entry_in, entries_in, most_changes}

-- each number is a byte
abbrev pub AreBytes : List ℕ → Type 0
AreBytes b = All (λ (x : ℕ). x < 256) b

-- both numbers have 32 bits
abbrev pub IsPlace : VersionPlace → Type 0
IsPlace at = (at.branch < 2 ^ 32) × (at.position < 2 ^ 32)

-- a place that has a spelling, if there is one
abbrev pub IsPlaceIfAny : Option VersionPlace → Type 0
IsPlaceIfAny None = Unit {0}
IsPlaceIfAny (Some at) = IsPlace at

-- one to 15 values that meet the widths of their columns, or a deletion
abbrev pub AreFields : Option (List Value) → Option (List ℕ) → Type 0
AreFields None None = Unit {0}
AreFields None (Some ws) = ⊥
AreFields (Some fields) None = ⊥
AreFields (Some fields) (Some ws) = (are_widths ws ≡ true) × ((meets ws fields ≡ true) × AllByRecursion IsValue fields)

-- a change that has a spelling
pub record IsChange (c : Change) : Type 0 where
  pub relation : c.relation ≤ 7
  pub key : c.key < 2 ^ 64
  pub fields : AreFields c.fields c.widths

-- all of them have a spelling
abbrev pub AreChanges : List Change → Type 0
AreChanges [] = Unit {0}
AreChanges (c ∷ cs) = IsChange c × AreChanges cs

-- each value is one of 64 bits with a sign or a short text, if there are any
abbrev pub AreValuesIfAny : Option (List Value) → Type 0
AreValuesIfAny None = Unit {0}
AreValuesIfAny (Some fields) = AllByRecursion IsValue fields

-- the key of each change has 64 bits, and its values are those of fields
abbrev pub AreRanged : List Change → Type 0
AreRanged [] = Unit {0}
AreRanged (c ∷ cs) = ((c.key < 2 ^ 64) × AreValuesIfAny c.fields) × AreRanged cs

-- what every entry of the program has, since its numbers have their types
abbrev pub HasRanges : Entry → Type 0
HasRanges (Commit branch second changes) = AreRanged changes
HasRanges (Branch name origin) = Unit {0}

-- the name of a new branch is a name
abbrev pub IsNamed : Entry → Type 0
IsNamed (Commit branch second changes) = Unit {0}
IsNamed (Branch name origin) = is_name name ≡ true

-- a commit within the rules
pub record IsCommit (branch : ℕ) (second : Option VersionPlace) (changes : List Change) : Type 0 where
  pub number : branch < 2 ^ 32
  pub parent : IsPlaceIfAny second
  pub few : length changes ≤ most_changes
  pub each : AreChanges changes
  pub some : makes_version second changes ≡ true
  pub ascending : ascends changes ≡ true

-- an entry within the rules
abbrev pub IsEntry : Entry → Type 0
IsEntry (Commit branch second changes) = IsCommit branch second changes
IsEntry (Branch name origin) = (is_name name ≡ true) × IsPlace origin

-- all of them have a spelling
abbrev pub AreEntries : List Entry → Type 0
AreEntries [] = Unit {0}
AreEntries (e ∷ es) = IsEntry e × AreEntries es

-- an entry that fits a dataset is within the rules
abbrev pub FittingLaw : Type 0
FittingLaw = (d : Dataset) (e : Entry) → IsSound d → IsCounted d → fits d e ≡ true → HasRanges e → IsNamed e → IsEntry e

-- What is spelled is read, and what is read was spelled so: an entry has one spelling. No spelling is a proper front of another, and the entries of a body are those that it spells.
pub record CodecLaws : Type 0 where
  pub back : (e : Entry) (rest : List ℕ) → IsEntry e → entry_in (spelling e ++ rest) ≡ Some e
  pub size : (e : Entry) → HasMetChanges e → length (spelling e) ≡ entry_size e
  pub no_front : (e f : Entry) (rest : List ℕ) → IsEntry e → IsEntry f → spelling e ++ rest ≡ spelling f → (e ≡ f) × (rest ≡ [])
  pub all : (es : List Entry) → AreEntries es → entries_in (spellings es) ≡ Some es
  pub spelled : (b : List ℕ) (e : Entry) → AreBytes b → entry_in b ≡ Some e → (b ≡ spelling e ++ drop (entry_size e) b) × IsEntry e
  pub body_spelled : (b : List ℕ) (es : List Entry) → AreBytes b → entries_in b ≡ Some es → (b ≡ spellings es) × AreEntries es
