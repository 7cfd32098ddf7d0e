use Rattle.std.proofs.Common.{rules, ◌≡◌, ◌+◌, ◌<◌, ◌∙◌, ℕ, List, Some, ap, sym, arith, drop}
use Rattle.std.proofs.lemmas.List.{take_rest}
use Rattle.std.proofs.lemmas.List.Elements.{All-from_get_or, All-drop}
use Rattle.entry_codec.specs.Grammar.{counted_in, commit_of}
use Rattle.entry_codec.specs.Laws.{AreBytes}
use Rattle.db_store.specs.Body.{changes_size}
use Rattle.entry_codec.proofs.Spelled.{commit_size}
use Rattle.entry_codec.proofs.read.first_commit.Goals as goal

pub returns-in-Some-made_commit-clause-size : goal.returns-in-Some-made_commit-clause-size
returns-in-Some-made_commit-clause-size c =
    let b : List ℕ = c.args.b.now in
    let from : ℕ = 4 + c.size_of_second-from.result in
    let are : AreBytes b = All-from_get_or (λ (x : ℕ). x < 256) b 0 (λ i lt. (c.type_inv.b i).fits) in
    let counted : counted_in c.args.wide (drop from b) ≡ Some c.in-Some-2.changes = ap (counted_in c.args.wide) (sym (take_rest b from)) ∙ search rules in
    let made : commit_of c.args.wide c.in-Some.branch c.in-Some-first_second.second c.in-Some-2.changes ≡ Some c.in-Some-made_commit.entry = search rules in
    let size : c.in-Some-2.size ≡ 4 + changes_size c.args.wide c.in-Some-2.changes = search rules in
    let whole = commit_size c.args.wide (drop from b) c.in-Some.branch c.in-Some-first_second.second c.in-Some-2.changes c.in-Some-made_commit.entry (All-drop (λ (x : ℕ). x < 256) from b are) counted made in
    omega (arith, size, whole, c.size_of_second-from.ensures)
