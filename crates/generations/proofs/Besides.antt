-- What calls of the file that doesn't count leave.
use Rattle.std.proofs.Common.{◌≡◌, ℕ, Bool, true, false, List, refl, sym, subst}
use Rattle.db_store.specs.State.{State}
use Rattle.db_outside.specs.Disk.{LeavesOnly, InAll}
use Rattle.db_outside.specs.declared.disk.Disk.{Ghosts}
use Rattle.db_outside.proofs.Moments.{started, joined, weakened}
use Rattle.gate_journal.specs.Gate.{IsShut, IsBehind, IsNoneOrWhole}
use Rattle.gate_journal.specs.Leaves.{IsSameBehind, AppendLeaves}
use Rattle.gate_journal.specs.Reads.{OnlyReads}
use Rattle.generations.specs.declared.beside.Beside.{Beside}
use Rattle.generations.specs.declared.other_gate.OtherGate.{OtherGate}
use Rattle.generations.specs.Asides.{StandsBy, IsBesideOrNext, IsNextFile, is_unread, is_shut, gate_after}
use Rattle.generations.specs.AsideLaws.{stands_or, next_or, while_closed, still_stands}
use Rattle.generations.specs.BesideKeeps.{StandsIn, KeepsBeside}

module _ {D : Type 0} {g : Ghosts D} (second : Bool) (n : ℕ) (s : State) where
  -- nothing happened
  pub still : (only_now : (d : D) (c : List ℕ) → g.since d (g.moment d) c → g.image d c) (old : Beside D g) → StandsIn old second n s → KeepsBeside old old second n s
  still only_now old stands = record {
    any_moment = started g.moment g.since old.disk (IsBesideOrNext second n s) (λ c left. stands_or old.gate second n s (g.image old.disk) stands c (only_now old.disk c left));
    stands = stands;
  }

  -- two runs of calls
  pub both_keep : (old mid new : Beside D g) → KeepsBeside old mid second n s → KeepsBeside mid new second n s → KeepsBeside old new second n s
  both_keep old mid new a b = record {
    any_moment = joined g.moment g.since old.disk mid.disk new.disk (IsBesideOrNext second n s) (IsBesideOrNext second n s) a.any_moment b.any_moment (λ c p. p);
    stands = b.stands;
  }

  -- calls that only read
  pub reads_keep : (old new : Beside D g) → StandsIn old second n s → OnlyReads g.faults g.writes g.seen g.image g.moment g.since old.disk new.disk → StandsIn new second n s → KeepsBeside old new second n s
  reads_keep old new stands reads after = record {
    any_moment = weakened g.moment g.since old.disk new.disk (g.image old.disk) (IsBesideOrNext second n s) reads.any_moment (stands_or old.gate second n s (g.image old.disk) stands);
    stands = after;
  }

  -- the closing of a gate that wasn't surely closed
  module _ (old new : Beside D g) (read : is_unread old.gate ≡ false) (loose : is_shut old.gate ≡ false) (stands : StandsIn old second n s) (leaves : LeavesOnly g.moment g.since old.disk new.disk (IsSameBehind (g.image old.disk))) where
    closing : LeavesOnly g.moment g.since old.disk new.disk (IsBesideOrNext second n s)
    closing = weakened g.moment g.since old.disk new.disk (IsSameBehind (g.image old.disk)) (IsBesideOrNext second n s) leaves (while_closed old.gate second n s (g.image old.disk) read loose stands)

    pub closed_keeps : StandsIn new second n s → KeepsBeside old new second n s
    closed_keeps after = record { any_moment = closing; stands = after }

    pub not_closed_keeps : ((c : List ℕ) → g.image new.disk c → g.since new.disk (g.moment old.disk) c) → new.gate ≡ old.gate → KeepsBeside old new second n s
    not_closed_keeps counts same = record {
      any_moment = closing;
      stands = subst (λ (x : OtherGate). StandsBy x second n s (g.image new.disk)) (sym same)
          (still_stands old.gate second n s (g.image old.disk) (g.image new.disk) read loose (λ c now. leaves.each c (counts c now)) stands);
    }

  -- the opening of a file behind the gate
  module _ (old new : Beside D g) (bytes : List ℕ) (next : IsNextFile n s bytes) (leaves : LeavesOnly g.moment g.since old.disk new.disk (AppendLeaves 0 bytes (g.image old.disk))) where
    opening : LeavesOnly g.moment g.since old.disk new.disk (IsBesideOrNext second n s)
    opening = weakened g.moment g.since old.disk new.disk (AppendLeaves 0 bytes (g.image old.disk)) (IsBesideOrNext second n s) leaves
        (λ c was. next_or second n s next.back c next.more next.is_front (subst (λ (l : List ℕ). IsNoneOrWhole 0 l c) next.spelled was.open_part))

    pub opened_keeps : (shut : Bool) → new.gate ≡ gate_after shut → (shut ≡ true → InAll (g.image new.disk) (IsShut 0)) → (shut ≡ false → InAll (g.image new.disk) (IsBehind 0 bytes)) → KeepsBeside old new second n s
    opened_keeps shut is closed behind = record {
      any_moment = opening;
      stands = subst (λ (x : OtherGate). StandsBy x second n s (g.image new.disk)) (sym is) (by shut closed behind);
    }
      where
        by : (q : Bool) → (q ≡ true → InAll (g.image new.disk) (IsShut 0)) → (q ≡ false → InAll (g.image new.disk) (IsBehind 0 bytes)) → StandsBy (gate_after q) second n s (g.image new.disk)
        by true shut_there behind_there = shut_there refl
        by false shut_there behind_there = record {
          more = next.more;
          back = next.back;
          is_front = next.is_front;
          stands = subst (λ (l : List ℕ). InAll (g.image new.disk) (IsBehind 0 l)) next.spelled (behind_there refl);
        }
