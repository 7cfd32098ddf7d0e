use Rattle.std.proofs.Common.{rules, ◌≡◌, ◌-◌, None, Some, length, take, drop, sym, ◌∙◌, ap}
use Rattle.std.proofs.lemmas.List.{take_rest}
use Rattle.entry_codec.specs.Grammar.{entry_in, entries_in}
use Rattle.generations.proofs.Entries.{goes, stops}
use Rattle.generations.proofs.replay.entries_of.Goals as goal

pub returns-in-Err-NotAnEntry : goal.returns-in-Err-NotAnEntry
returns-in-Err-NotAnEntry c =
    let b = c.args.body.now in
    let none : entry_in (take (length b - c.entries.at) (drop c.entries.at b)) ≡ None = search rules in
    sym (stops (entries_in b) c.entries.entries.items b c.entries.at c.entries.invariant.all c.entries-test.true (ap entry_in (sym (take_rest b c.entries.at)) ∙ none))

pub entries-preserved : goal.entries-preserved
entries-preserved c =
    let b = c.args.body.now in
    let there : entry_in (take (length b - c.entries.at) (drop c.entries.at b)) ≡ Some c.in-Ok.entry = search rules in
    record {
      all = goes (entries_in b) c.entries.entries.items c.push.new.self.items b c.entries.at c.in-Ok.size c.in-Ok.entry c.entries.invariant.all c.entries-test.true
          (ap entry_in (sym (take_rest b c.entries.at)) ∙ there) (search rules) (search rules);
      within = search rules;
    }
