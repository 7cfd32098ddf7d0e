-- Pages that are full but the last, the records that they have, and where a record stands.
use Rattle.std.specs.Prelude.{◌≡◌, ℕ, ◌+◌, ◌-◌, ◌*◌, ◌/◌, ◌<◌, ◌≤◌, true, List, [], ◌++◌, length, take, drop}
use Rattle.std.specs.List.{flat_map}
use Rattle.std.proofs.Common.{get_or}
use Rattle.db_value.specs.Widths.{are_widths, meets}
use Rattle.db_value.specs.declared.record.Record.{Record}
use Rattle.record_page.specs.Page.{Rows, capacity, record_at}

-- how many pages so many records take
abbrev pub page_count : List ℕ → ℕ → ℕ
page_count ws records = (records + (capacity ws - 1)) / capacity ws

-- the records of a page, which are a run of all of them
abbrev pub page_of : Rows → ℕ → Rows
page_of all index = record all { records = take (capacity all.widths) (drop (index * capacity all.widths) all.records) }

-- each record meets the widths
abbrev pub AreWide : List ℕ → List Record → Type 0
AreWide ws records = (i : ℕ) → i < length records → meets ws (record_at records i).fields ≡ true

-- the records of pages, one after another
abbrev pub records_of : List Rows → List Record
records_of pages = flat_map (λ (page : Rows). page.records) pages

-- the pages of blocks, one after another
abbrev pub pages_of : List (List Rows) → List Rows
pages_of blocks = flat_map (λ (block : List Rows). block) blocks

-- the page at a place
abbrev pub page_at : List Rows → ℕ → Rows
page_at pages place = get_or pages place (record { widths = []; records = [] })

-- each page is full but the last one, which has a record
pub record AreFull (ws : List ℕ) (pages : List Rows) : Type 0 where
  pub counted : (i : ℕ) → i < length pages → (page_at pages i).widths ≡ ws
  pub full : (i : ℕ) → i + 1 < length pages → length (page_at pages i).records ≡ capacity ws
  pub some : (i : ℕ) → i < length pages → 0 < length (page_at pages i).records
  pub fits : (i : ℕ) → i < length pages → length (page_at pages i).records ≤ capacity ws

-- each page is full, the last one too
pub record AreAllFull (ws : List ℕ) (pages : List Rows) : Type 0 where
  pub counted : (i : ℕ) → i < length pages → (page_at pages i).widths ≡ ws
  pub full : (i : ℕ) → i < length pages → length (page_at pages i).records ≡ capacity ws

-- each block has 64 pages
abbrev pub AreWhole : List (List Rows) → Type 0
AreWhole blocks = (i : ℕ) → i < length blocks → length (get_or blocks i []) ≡ 64

-- how a segment's pages lie: blocks of full pages, and at most 64 pages after them, full but the last
pub record IsLaid (ws : List ℕ) (blocks : List (List Rows)) (tail : List Rows) : Type 0 where
  pub are : are_widths ws ≡ true
  pub pages : AreFull ws (pages_of blocks ++ tail)
  pub front : AreAllFull ws (pages_of blocks)
  pub whole : AreWhole blocks
  pub few : length tail ≤ 64
  pub wide : AreWide ws (records_of (pages_of blocks ++ tail))
