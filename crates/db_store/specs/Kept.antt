-- Where a transaction keeps its touched keys: each in a frame of a region, whose number is its place in a map.
use Rattle.std.specs.Prelude.{◌≡◌, ℕ, ◌+◌, ◌<◌, ◌^◌, length}
use Rattle.std.specs.FinMap as finite
use Rattle.work_region.specs.Rows.{RowFrames}
use Rattle.key_index.specs.Overlaid.{Overlaid}
use Rattle.db_store.specs.Touched.{place_of}

-- the map has the place of each touched key, and room for as many more as there are frames that no key has
pub record AreKept (frames : RowFrames) (places : Overlaid ℕ) : Type 0 where
  pub spare : places.spare + length frames.frames ≡ frames.room
  pub wide : frames.room < 2 ^ 32
  pub placed : (r key : ℕ) → finite.get places.items (r, key) ≡ place_of r key frames.frames
