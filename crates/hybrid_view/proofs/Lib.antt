pub mod FindLemmas
pub mod ViewLemmas
pub mod PlaceLemmas
pub mod ClearLemmas
pub mod NextLemmas
pub mod BranchPlaces
pub mod DeltaLemmas
pub mod BegunLemmas
mod Examples
pub mod EmptyLemmas
pub mod SpotLemmas
pub mod WalkLemmas
pub mod AnewLemmas
pub mod PutLemmas
pub mod TouchLemmas
