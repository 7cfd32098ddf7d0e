-- A preparation serves for a commit or a new branch on a state.
use Rattle.std.specs.Prelude.{map}
use Rattle.std.specs.Arc.{arc_value}
use Rattle.db_value.specs.declared.entry.Entry.{Entry}
use Rattle.db_store.specs.State.{State}
use Rattle.hybrid_store.specs.declared.commit.HybridPrepared.{HybridPrepared}
use Rattle.hybrid_store.specs.declared.install_branch.HybridPreparedBranch.{HybridPreparedBranch}
use Rattle.hybrid_store.specs.Ready.{IsReady}
use Rattle.hybrid_store.specs.ReadyBranch.{IsReadyBranch}

-- what it has is ready for the commit
abbrev pub Prepares : HybridPrepared → State → Entry → Type 0
Prepares p s e = IsReady p.branch p.second p.deltas.items (arc_value p.head.table) (map arc_value p.records.items) s e

-- and for the new branch
abbrev pub PreparesBranch : HybridPreparedBranch → State → Entry → Type 0
PreparesBranch p s e = IsReadyBranch p.origin p.lane (map arc_value p.heads.items) p.turned s e
