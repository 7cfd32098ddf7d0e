pub mod Loop
pub mod Counted
pub mod Seen
pub mod Takes
pub mod PageLaw
pub mod SegmentLaw
pub mod WholeLaw
