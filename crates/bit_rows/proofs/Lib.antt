pub mod ShortLemmas
pub mod PushLemmas
pub mod ChangedLemmas
pub mod SpotsLemmas
pub mod SeenLemmas
pub mod BegunRowsLemmas
pub mod ToldLemmas
pub mod CountLemmas
