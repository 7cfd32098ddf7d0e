-- The grammar of an image in either format: what bytes are read as from left to right, or where the first fault is.
use Rattle.std.specs.Prelude.{◌≡◌, ℕ, zero, suc, ◌+◌, ◌-◌, ◌*◌, ◌/◌, ◌%◌, ◌^◌, ◌==◌, ◌&&◌, ◌||◌, not, nat_lt, nat_le, cond, Bool, true, List, [], ◌∷◌, ◌++◌, length, take, drop, set, codes, replicate, Option, Some, None, Result, Ok, Err}
use Rattle.std.specs.List.{list_any, list_all}
use Rattle.std.specs.Int.{Width, w32, w64, byte_len, from_le_bytes}
use Rattle.std.proofs.Common.{get_or}
use Rattle.db_value.specs.Text.{same, is_name}
use Rattle.db_value.specs.Schema.{is_declared}
use Rattle.db_value.specs.Width.{is_width}
use Rattle.db_value.specs.Relations.{widths_at}
use Rattle.db_value.specs.declared.record.Record.{Record}
use Rattle.db_value.specs.declared.schema.Column.{Column}
use Rattle.db_value.specs.declared.schema.Relation.{Relation}
use Rattle.db_value.specs.declared.version.VersionPlace.{VersionPlace}
use Rattle.record_page.specs.Page.{capacity, is_page, rows_in}
use Rattle.image_text.specs.declared.image.Format.{Format}
use Rattle.image_text.specs.declared.image.Format.TheVariants.{One, Two}
use Rattle.image_text.specs.declared.image.BranchPart.{BranchPart}
use Rattle.image_text.specs.declared.image.MadeVersion.{MadeVersion}
use Rattle.image_text.specs.declared.image.Delta.{Delta}
use Rattle.image_text.specs.declared.image.RowPart.{RowPart}
use Rattle.image_text.specs.declared.image.SegmentPart.{SegmentPart}
use Rattle.image_text.specs.declared.image.Image.{Image}
use Rattle.image_text.specs.declared.image.Stop.{Stop}
use Rattle.image_text.specs.declared.image.Stop.TheVariants.{Fault, Memory}

-- a value and the bytes behind it; or, at a fault, how many bytes are left from the first byte of the item at fault, none where the bytes end too early
abbrev pub Read : Type 0 → Type 0
Read A = Result (A × List ℕ) ℕ

-- what is read first, and then by what that gave; a fault stays the first one
infixl 10 ◌>>=◌
abbrev pub ◌>>=◌ : {A B : Type 0} → Result A ℕ → (A → Result B ℕ) → Result B ℕ
(Ok x) >>= f = f x
(Err e) >>= f = Err e

-- the item at the front of the bytes keeps a rule, or is at fault
abbrev pub test : Bool → List ℕ → Result (Unit {0}) ℕ
test b bytes = cond b (Ok tt) (Err (length bytes))

-- so many bytes are there, or the bytes end too early
abbrev pub enough : ℕ → List ℕ → Result (Unit {0}) ℕ
enough n bytes = cond (nat_lt (length bytes) n) (Err 0) (Ok tt)

-- one item after another, so many of them, each onto the state that those before it left
unfoldable pub repeat : {S : Type 0} → (S → List ℕ → Read S) → ℕ → S → List ℕ → Read S
repeat item zero s bytes = Ok (s, bytes)
repeat item (suc k) s bytes = do
  x ← item s bytes
  repeat item k x.0 x.1

-- a function that stopped did so at the fault of reading, unless memory ran out
abbrev pub Fails : {Y : Type 0} → Stop → Result Y ℕ → Type 0
Fails Memory read = Unit {0}
Fails (Fault n) read = read ≡ Err n

-- a function returned what reading gives, seen by view, unless memory ran out
abbrev pub Gives : {X Y : Type 0} → (X → Y) → Result X Stop → Result Y ℕ → Type 0
Gives view (Ok x) read = read ≡ Ok (view x)
Gives view (Err e) read = Fails e read

-- ---- numbers

-- the first byte
abbrev pub byte_at : List ℕ → Read ℕ
byte_at [] = Err 0
byte_at (b ∷ bs) = Ok (b, bs)

-- a number without a sign, the lowest byte first
abbrev pub number_at : Width → List ℕ → Read ℕ
number_at w bytes = cond (nat_lt (length bytes) (byte_len w)) (Err 0) (Ok (from_le_bytes w (take (byte_len w) bytes), drop (byte_len w) bytes))

-- ---- relations

-- a length of 1 to 32, and a name of so many bytes
unfoldable pub name_at : List ℕ → Read (List ℕ)
name_at bytes = do
  n ← byte_at bytes
  counted ← test (nat_lt 0 n.0 && nat_le n.0 32) bytes
  there ← enough n.0 n.1
  named ← test (is_name (take n.0 n.1)) bytes
  Ok (take n.0 n.1, drop n.0 n.1)

-- the width of a column: none stands in format one, whose columns are of numbers
unfoldable pub width_at : Format → List ℕ → Read ℕ
width_at One bytes = Ok (0, bytes)
width_at Two bytes = do
  w ← byte_at bytes
  wide ← test (is_width w.0) bytes
  Ok (w.0, w.1)

-- a column before has the name
abbrev pub has_column : List Column → List ℕ → Bool
has_column seen name = list_any (λ c. same c.name name) seen

-- one column more: a name that none of those before it has, and its width
unfoldable pub next_column : Format → List Column → List ℕ → Read (List Column)
next_column format seen bytes = do
  n ← name_at bytes
  fresh ← test (not (has_column seen n.0)) bytes
  w ← width_at format n.1
  Ok (seen ++ record { name = n.0; width = w.0 } ∷ [], w.1)

-- a name, and one to 15 columns
unfoldable pub next_relation : Format → List Relation → List ℕ → Read (List Relation)
next_relation format seen bytes = do
  name ← name_at bytes
  fresh ← test (not (is_declared seen name.0)) bytes
  n ← byte_at name.1
  counted ← test (nat_lt 0 n.0 && nat_le n.0 15) name.1
  columns ← repeat (next_column format) n.0 [] n.1
  Ok (seen ++ record { name = name.0; columns = columns.0 } ∷ [], columns.1)

-- one to 8 relations
unfoldable pub relations_at : Format → List ℕ → Read (List Relation)
relations_at format bytes = do
  n ← byte_at bytes
  counted ← test (nat_lt 0 n.0 && nat_le n.0 8) bytes
  repeat (next_relation format) n.0 [] n.1

-- ---- branches

-- a branch before has the name
abbrev pub is_named : List BranchPart → List ℕ → Bool
is_named seen name = list_any (λ b. same b.name name) seen

-- master comes first, and no name comes again
abbrev pub has_turn : List BranchPart → List ℕ → Bool
has_turn [] name = same name (codes "master")
has_turn (b ∷ bs) name = not (is_named (b ∷ bs) name)

-- the origin of master is 0, 0, and any other origin is on a branch before
abbrev pub is_earlier : List BranchPart → ℕ → Bool
is_earlier [] o = o == 0
is_earlier (b ∷ bs) o = nat_lt o (length (b ∷ bs))

-- the position 0 of master, or any position
abbrev pub is_position : List BranchPart → ℕ → Bool
is_position [] p = p == 0
is_position (b ∷ bs) p = true

-- the version from which all are made
abbrev pub root : VersionPlace
root = record { branch = 0; position = 0 }

-- the version that position 0 of a branch is
abbrev pub base_of : List VersionPlace → VersionPlace → VersionPlace
base_of bases at = cond (at.position == 0) (get_or bases at.branch root) at

-- a branch, and the version that its position 0 is
unfoldable pub next_branch : List BranchPart × List VersionPlace → List ℕ → Read (List BranchPart × List VersionPlace)
next_branch seen bytes = do
  name ← name_at bytes
  fresh ← test (has_turn seen.0 name.0) bytes
  o ← number_at w32 name.1
  earlier ← test (is_earlier seen.0 o.0) name.1
  p ← number_at w32 o.1
  position ← test (is_position seen.0 p.0) o.1
  Ok ((seen.0 ++ record { name = name.0; origin = record { branch = o.0; position = p.0 } } ∷ [], seen.1 ++ base_of seen.1 (record { branch = o.0; position = p.0 }) ∷ []), p.1)

-- one to 1,024 branches
unfoldable pub branches_at : List ℕ → Read (List BranchPart × List VersionPlace)
branches_at bytes = do
  n ← number_at w32 bytes
  counted ← test (nat_lt 0 n.0 && nat_le n.0 1024) bytes
  repeat next_branch n.0 ([], []) n.1

-- ---- versions

-- the last position of a branch so far
abbrev pub last_of : List ℕ → ℕ → ℕ
last_of lasts b = get_or lasts b 0

-- the version was made
abbrev pub is_there : List ℕ → VersionPlace → Bool
is_there lasts at = nat_le at.position (last_of lasts at.branch)

-- the branch is one, and the version that its position 0 is was made
abbrev pub is_begun : List VersionPlace → List ℕ → ℕ → Bool
is_begun bases lasts b = nat_lt b (length lasts) && is_there lasts (get_or bases b root)

-- a flag, and behind a 1 a version that was made
unfoldable pub second_at : List VersionPlace → List ℕ → List ℕ → Read (Option VersionPlace)
second_at bases lasts bytes = do
  f ← byte_at bytes
  flag ← test (nat_le f.0 1) bytes
  cond (f.0 == 0) (Ok (None, f.1)) (do
    b ← number_at w32 f.1
    begun ← test (is_begun bases lasts b.0) f.1
    p ← number_at w32 b.1
    there ← test (nat_le p.0 (last_of lasts b.0)) b.1
    Ok (Some (record { branch = b.0; position = p.0 }), p.1))

-- a branch that has begun and has fewer than 65,536 versions, and its second parent
unfoldable pub next_version : List VersionPlace → List ℕ × List MadeVersion → List ℕ → Read (List ℕ × List MadeVersion)
next_version bases seen bytes = do
  b ← number_at w32 bytes
  begun ← test (is_begun bases seen.0 b.0 && nat_lt (last_of seen.0 b.0) 65535) bytes
  second ← second_at bases seen.0 b.1
  Ok ((set seen.0 b.0 (last_of seen.0 b.0 + 1), seen.1 ++ record { branch = b.0; second = second.0 } ∷ []), second.1)

-- the versions, and the last position of each branch
unfoldable pub versions_at : List VersionPlace → List ℕ → Read (List ℕ × List MadeVersion)
versions_at bases bytes = do
  n ← number_at w32 bytes
  repeat (next_version bases) n.0 (replicate (length bases) 0, []) n.1

-- ---- pages

-- how many of those that are still to come stand on the next page
abbrev pub on_page : List ℕ → ℕ → ℕ
on_page ws more = cond (nat_lt more (capacity ws)) more (capacity ws)

-- a page of these widths that has so many records
abbrev pub is_page_of : List ℕ → ℕ → List ℕ → Bool
is_page_of ws count bytes = is_page ws bytes && (length (rows_in ws bytes).records == count)

-- a page with the next records, where so many are still to come
unfoldable pub next_page : List ℕ → ℕ × List Record → List ℕ → Read (ℕ × List Record)
next_page ws seen bytes = do
  there ← enough 4096 bytes
  page ← test (is_page_of ws (on_page ws seen.0) (take 4096 bytes)) bytes
  Ok ((seen.0 - on_page ws seen.0, seen.1 ++ (rows_in ws (take 4096 bytes)).records), drop 4096 bytes)

-- how many pages so many records stand on
abbrev pub pages_for : List ℕ → ℕ → ℕ
pages_for ws count = (count + (capacity ws - 1)) / capacity ws

-- ---- rows

-- one word more
abbrev pub next_word : List ℕ → List ℕ → Read (List ℕ)
next_word seen bytes = do
  w ← number_at w64 bytes
  Ok (seen ++ w.0 ∷ [], w.1)

-- how many words have the bits of so many records
abbrev pub words_for : ℕ → ℕ
words_for size = (size + 63) / 64

-- where words begin, and how many there are, within the bits of so many records
abbrev pub spans : ℕ → ℕ → ℕ → Bool
spans size first count = cond (count == 0) (first == 0) (nat_le (first + count) (words_for size))

-- the first and the last word aren't zero, and the last one has no bit past so many records
unfoldable pub are_words : ℕ → ℕ → List ℕ → Bool
are_words size first [] = true
are_words size first (w ∷ ws) = nat_lt 0 w && nat_lt 0 (get_or (w ∷ ws) (length ws) 0)
    && (nat_le (first + length (w ∷ ws)) (size / 64) || nat_lt (get_or (w ∷ ws) (length ws) 0) (2 ^ (size % 64)))

-- one delta more: where its words begin, how many there are, and these
unfoldable pub next_delta : ℕ → List Delta → List ℕ → Read (List Delta)
next_delta size seen bytes = do
  f ← number_at w32 bytes
  n ← number_at w32 f.1
  within ← test (spans size f.0 n.0) bytes
  ws ← repeat next_word n.0 [] n.1
  full ← test (are_words size f.0 ws.0) bytes
  Ok (seen ++ record { first = f.0; words = ws.0 } ∷ [], ws.1)

-- a row without deltas
abbrev pub no_row : RowPart
no_row = record { branch = 0; from = 0; deltas = [] }

-- the branch is behind those that have a row
abbrev pub rises : List RowPart → ℕ → Bool
rises [] b = true
rises (r ∷ rs) b = nat_lt (get_or (r ∷ rs) (length rs) no_row).branch b

-- no delta has words
abbrev pub are_blank : List Delta → Bool
are_blank ds = list_all (λ d. length d.words == 0) ds

-- the branch, its first position, and a delta for each position from there; the first has words only at position 0
unfoldable pub next_row : List ℕ → ℕ → List RowPart → List ℕ → Read (List RowPart)
next_row lasts size seen bytes = do
  b ← number_at w32 bytes
  behind ← test (nat_lt b.0 (length lasts) && rises seen b.0) bytes
  f ← number_at w32 b.1
  within ← test (nat_le f.0 (last_of lasts b.0)) b.1
  d ← next_delta size [] f.1
  blank ← test (f.0 == 0 || are_blank d.0) bytes
  ds ← repeat (next_delta size) (last_of lasts b.0 - f.0) d.0 d.1
  Ok (seen ++ record { branch = b.0; from = f.0; deltas = ds.0 } ∷ [], ds.1)

-- ---- segments

-- the head of a branch has at most 65,536 records for each version
abbrev pub has_room : List ℕ → ℕ → ℕ → Bool
has_room lasts zero count = true
has_room lasts (suc b) count = nat_le count (65536 * last_of lasts b)

-- a segment: whose head it is, its records on pages, and at most one row for each branch
unfoldable pub next_segment : List ℕ → List ℕ → List SegmentPart → List ℕ → Read (List SegmentPart)
next_segment ws lasts seen bytes = do
  h ← number_at w32 bytes
  head ← test (nat_le h.0 (length lasts)) bytes
  n ← number_at w32 h.1
  few ← test (has_room lasts h.0 n.0) h.1
  p ← repeat (next_page ws) (pages_for ws n.0) (n.0, []) n.1
  k ← number_at w32 p.1
  rows_few ← test (nat_le k.0 (length lasts)) p.1
  rows ← repeat (next_row lasts n.0) k.0 [] k.1
  Ok (seen ++ record { head = h.0; records = p.0.1; rows = rows.0 } ∷ [], rows.1)

-- the segments of the next relation: fewer than twice as many as branches
unfoldable pub next_segments : List Relation → List ℕ → List (List SegmentPart) → List ℕ → Read (List (List SegmentPart))
next_segments relations lasts seen bytes = do
  n ← number_at w32 bytes
  few ← test (nat_lt n.0 (2 * length lasts)) bytes
  ss ← repeat (next_segment (widths_at relations (length seen)) lasts) n.0 [] n.1
  Ok (seen ++ ss.0 ∷ [], ss.1)

-- ---- the parts, with what the rules over the whole want to know, and no bytes behind them

-- relations, branches, versions and segments, with the last position of each branch
unfoldable pub parts_at : Format → List ℕ → Result (Image × List ℕ) ℕ
parts_at format bytes = do
  relations ← relations_at format bytes
  branches ← branches_at relations.1
  versions ← versions_at branches.0.1 branches.1
  segments ← repeat (next_segments relations.0 versions.0.0) (length relations.0) [] versions.1
  ended ← test (length segments.1 == 0) segments.1
  Ok (record { relations = relations.0; branches = branches.0.0; versions = versions.0.1; segments = segments.0 }, versions.0.0)
