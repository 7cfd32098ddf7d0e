-- The store that the entries of a dataset are taken into.
use Rattle.db_store.specs.State.{State}
use Rattle.hybrid_store.specs.Store.{state_of}
pub use Rattle.hybrid_store.specs.declared.store.HybridStore.{HybridStore as DatasetStore}

-- what the store means
abbrev pub state_in : DatasetStore → State
state_in store = state_of store
