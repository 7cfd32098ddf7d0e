-- What the code finds in a file that has a header.
use Rattle.std.specs.Prelude.{◌≡◌, ◌⊎◌, ◌+◌, ◌-◌, ◌≤◌, ℕ, true, false, nat_eq, List, length, Err}
use Rattle.std.specs.Cmp.Lexicographic.{pointwise}
use Rattle.sha2.specs.Sha256.{sha256}
use Rattle.db_value.specs.declared.entry.Entry.{Entry}
use Rattle.db_store.specs.State.{State}
use Rattle.db_image.specs.Stores.{IsImageOf}
use Rattle.image_parts.specs.Whole.{image_at}
use Rattle.generations.specs.Stored.{state_in}
use Rattle.gate_journal.specs.declared.cause.Cause.TheVariants.{Grammar, Digest}
use Rattle.gate_journal.specs.Reading.{End, records_from}
use Rattle.generations.specs.declared.header.Header.{Header}
use Rattle.generations.specs.declared.open.ImageFound.{ImageFound}
use Rattle.generations.specs.declared.open.ImageFound.TheVariants.{Damaged as NoImage, Whole as WholeImage}
use Rattle.generations.specs.declared.open.Opened.{Opened}
use Rattle.generations.specs.declared.open.Opened.TheVariants.{Damaged, Whole}
use Rattle.generations.specs.Files.{damaged, opened, image_length, walk, walked, file_reads}

-- these bytes, which a header says are the image, have its digest and are an image of the store, or not
abbrev pub IsImageBy : ImageFound → Header → List ℕ → Type 0
IsImageBy (NoImage at cause) h image = ((pointwise nat_eq (sha256 image) h.digest ≡ false) × (at ≡ 25) × (cause ≡ Digest))
    ⊎ ((pointwise nat_eq (sha256 image) h.digest ≡ true) × (left : ℕ) × (image_at h.format image ≡ Err left) × (at ≡ 57 + (length image - left)) × (cause ≡ Grammar))
IsImageBy (WholeImage store) h image = (pointwise nat_eq (sha256 image) h.digest ≡ true) × IsImageOf h.format image (state_in store)

-- what the file stands for, by its image: damaged, or what its records make of the image's store
abbrev pub IsImageIn : ImageFound → List ℕ → Type 0
IsImageIn (NoImage at cause) s = file_reads s ≡ damaged at cause
IsImageIn (WholeImage store) s = file_reads s ≡ walked (state_in store) (57 + image_length s) (records_from (57 + image_length s) s)

-- an image ends within the file
abbrev pub EndsImage : ImageFound → Header → Type 0
EndsImage (NoImage at cause) h = Unit {0}
EndsImage (WholeImage store) h = 57 + h.image ≤ h.len

-- what bodies and the journal's end make of a state
abbrev pub IsReplayed : Opened → State → ℕ → List (List ℕ) → End → Type 0
IsReplayed (Damaged at cause) s from bodies end = walk s from bodies end ≡ damaged at cause
IsReplayed (Whole journal store n) s from bodies end = (es : List Entry) × (length es ≡ n) × (walk s from bodies end ≡ opened (state_in store) es journal.at)

-- the file stands for this
abbrev pub IsOpened : Opened → List ℕ → Type 0
IsOpened (Damaged at cause) s = file_reads s ≡ damaged at cause
IsOpened (Whole journal store n) s = (es : List Entry) × (length es ≡ n) × (file_reads s ≡ opened (state_in store) es journal.at)

-- its journal is clean
abbrev pub IsCleanOpened : Opened → Type 0
IsCleanOpened (Damaged at cause) = Unit {0}
IsCleanOpened (Whole journal store n) = journal.clean ≡ true
