use Rattle.std.proofs.Common.{take, arith}
use Rattle.key_index.specs.Links.{entries_of}
use Rattle.key_index.proofs.Runs.{sorted_all_changed}
use Rattle.key_index.proofs.Linked.{length-blocks, some_sorted, change_links}
use Rattle.key_index.proofs.node.change_some.Goals as goal

pub change_spots-requires : goal.change_spots-requires
change_spots-requires c =
    let cut = rw c.deref.ensures.value at c.leaves_at-from.ensures in
    rw (c.in_ok-spots.ensures, c.deref-2.ensures.value) (some_sorted c.args.leaves.now.items c.leaves_at-from.result.0 c.leaves_at-from.result.1 c.requires.ordered cut.ordered)

pub split_off-requires : goal.split_off-requires
split_off-requires c =
    let cut = rw c.deref.ensures.value at c.leaves_at-from.ensures in
    omega (arith, cut.within, length-blocks c.args.leaves.now.items, c.args.leaves.now.ok.0)

pub push_leaves-requires : goal.push_leaves-requires
push_leaves-requires c =
    let cut = rw c.deref.ensures.value at c.leaves_at-from.ensures in
    let sorted = some_sorted c.args.leaves.now.items c.leaves_at-from.result.0 c.leaves_at-from.result.1 c.requires.ordered cut.ordered in
    rw (c.in_ok-change_spots.ensures, c.in_ok-spots.ensures, c.deref-2.ensures.value) (sorted_all_changed _ (take c.leaves_at-from.result.2 c.args.changes.now) sorted)

pub returns-clause-made : goal.returns-clause-made
returns-clause-made c =
    let cut = rw c.deref.ensures.value at c.leaves_at-from.ensures in
    let made = rw (c.in_ok-spots.ensures, c.deref-2.ensures.value) at c.in_ok-change_spots.ensures in
    record {
      some = cut.some;
      within = cut.few;
      entries = (change_links c.args.leaves.now.items c.split_off.new.self.items c.truncate.new.self.items c.push_leaves.new.to.items c.in_ok-behind.behind.items c.append.new.self.items
          (entries_of c.change_spots.new.spots.items) c.leaves_at-from.result.0 c.leaves_at-from.result.1 (take c.leaves_at-from.result.2 c.args.changes.now) c.requires.ordered cut.ordered cut.around
          c.in_ok-behind.ensures.items c.in_ok-behind.ensures.tail c.truncate.ensures.items c.in_ok-push_leaves.ensures c.in_ok-append.ensures.items made).entries;
    }

pub returns-clause-ordered : goal.returns-clause-ordered
returns-clause-ordered c =
    let cut = rw c.deref.ensures.value at c.leaves_at-from.ensures in
    let made = rw (c.in_ok-spots.ensures, c.deref-2.ensures.value) at c.in_ok-change_spots.ensures in
    (change_links c.args.leaves.now.items c.split_off.new.self.items c.truncate.new.self.items c.push_leaves.new.to.items c.in_ok-behind.behind.items c.append.new.self.items
    (entries_of c.change_spots.new.spots.items) c.leaves_at-from.result.0 c.leaves_at-from.result.1 (take c.leaves_at-from.result.2 c.args.changes.now) c.requires.ordered cut.ordered cut.around
    c.in_ok-behind.ensures.items c.in_ok-behind.ensures.tail c.truncate.ensures.items c.in_ok-push_leaves.ensures c.in_ok-append.ensures.items made).ordered
