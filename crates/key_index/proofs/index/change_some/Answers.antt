use Rattle.std.proofs.Common.{take, arith}
use Rattle.key_index.specs.Blocks.{entries_in}
use Rattle.key_index.specs.Links.{blocks_of}
use Rattle.key_index.proofs.Linked.{length-blocks, some_sorted, change_links}
use Rattle.key_index.proofs.index.change_some.Goals as goal

pub change_leaves-requires : goal.change_leaves-requires
change_leaves-requires c =
    let cut = rw c.deref.ensures.value at c.nodes_at-from.ensures in
    record {
      sorted = rw (c.in_ok-leaves.ensures.entries, c.deref-2.ensures.value) (some_sorted c.args.nodes.now.items c.nodes_at-from.result.0 c.nodes_at-from.result.1 c.requires.ordered cut.ordered);
      lows = c.in_ok-leaves.ensures.lows;
    }

pub split_off-requires : goal.split_off-requires
split_off-requires c =
    let cut = rw c.deref.ensures.value at c.nodes_at-from.ensures in
    omega (arith, cut.within, length-blocks c.args.nodes.now.items, c.args.nodes.now.ok.0)

pub returns-clause-made : goal.returns-clause-made
returns-clause-made c =
    let cut = rw c.deref.ensures.value at c.nodes_at-from.ensures in
    let made = rw (c.in_ok-leaves.ensures.entries, c.deref-2.ensures.value) at c.in_ok-change_leaves.ensures.entries in
    record {
      some = cut.some;
      within = cut.few;
      entries = (change_links c.args.nodes.now.items c.split_off.new.self.items c.truncate.new.self.items c.push_nodes.new.to.items c.in_ok-behind.behind.items c.append.new.self.items
          (entries_in (blocks_of c.change_leaves.new.leaves.items)) c.nodes_at-from.result.0 c.nodes_at-from.result.1 (take c.nodes_at-from.result.2 c.args.changes.now) c.requires.ordered cut.ordered cut.around
          c.in_ok-behind.ensures.items c.in_ok-behind.ensures.tail c.truncate.ensures.items c.in_ok-push_nodes.ensures c.in_ok-append.ensures.items made).entries;
    }

pub returns-clause-ordered : goal.returns-clause-ordered
returns-clause-ordered c =
    let cut = rw c.deref.ensures.value at c.nodes_at-from.ensures in
    let made = rw (c.in_ok-leaves.ensures.entries, c.deref-2.ensures.value) at c.in_ok-change_leaves.ensures.entries in
    (change_links c.args.nodes.now.items c.split_off.new.self.items c.truncate.new.self.items c.push_nodes.new.to.items c.in_ok-behind.behind.items c.append.new.self.items
    (entries_in (blocks_of c.change_leaves.new.leaves.items)) c.nodes_at-from.result.0 c.nodes_at-from.result.1 (take c.nodes_at-from.result.2 c.args.changes.now) c.requires.ordered cut.ordered cut.around
    c.in_ok-behind.ensures.items c.in_ok-behind.ensures.tail c.truncate.ensures.items c.in_ok-push_nodes.ensures c.in_ok-append.ensures.items made).ordered
