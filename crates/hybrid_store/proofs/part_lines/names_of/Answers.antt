use Rattle.std.proofs.Common.{◌≡◌, ◌∙◌, ◌+◌, ◌<◌, ◌++◌, ◌∷◌, [], ℕ, List, None, length, take, get_or, ap, sym, subst, arith}
use Rattle.std.specs.FinMap.{insert, get, len, get-empty, len-empty}
use Rattle.std.proofs.lemmas.List.{get_or_default, length-map, length-take-le}
use Rattle.db_store.specs.Dataset.{Dataset, branch_named}
use Rattle.store_catalogue.specs.ByName.{Numbers, KeptNames, AreNumbers, name_cmp}
use Rattle.store_catalogue.proofs.BranchLemmas.{numbers_more, count_more}
use Rattle.bit_rows.specs.Kept.{KeptLane, no_kept}
use Rattle.hybrid_store.specs.PartLines.{named_only, named_of}
use Rattle.hybrid_store.proofs.PartLines.{name_new, names_next}
use Rattle.hybrid_store.proofs.part_lines.names_of.Goals as goal

pub loop-index-init : goal.loop-index-init
loop-index-init c = record {
  numbers = λ name. ap (λ (n : Numbers). get n name) c.in_ok-names.ensures.numbers ∙ get-empty name_cmp name;
  count = ap (λ (n : Numbers). len n) c.in_ok-names.ensures.numbers ∙ len-empty name_cmp ℕ;
  room = c.in_ok-names.ensures.room;
}

pub add-requires-clause-new : goal.add-requires-clause-new
add-requires-clause-new c =
    let ks : List KeptLane = c.args.lanes.now in
    let i = c.loop-index.index in
    let lt : i < length ks = c.loop-index-test.true in
    let name : c.name.result ≡ (get_or ks i no_kept).name = c.name.ensures ∙ ap (λ (k : KeptLane). k.name) (c.index-lanes-index.is ∙ get_or_default ks i c.index-lanes-index.result no_kept lt) in
    c.loop-index.invariant.numbers c.name.result ∙ ap (branch_named (named_of (take i ks))) name ∙ name_new ks i lt (c.requires.apart i lt)

pub loop-index-preserved : goal.loop-index-preserved
loop-index-preserved c =
    let ks : List KeptLane = c.args.lanes.now in
    let i = c.loop-index.index in
    let lt : i < length ks = c.loop-index-test.true in
    let k : KeptLane = get_or ks i no_kept in
    let name : c.name.result ≡ k.name = c.name.ensures ∙ ap (λ (x : KeptLane). x.name) (c.index-lanes-index.is ∙ get_or_default ks i c.index-lanes-index.result no_kept lt) in
    let v = c.loop-index.invariant in
    let old : Numbers = c.loop-index.names.numbers in
    let front : Dataset = named_of (take i ks) in
    let new : branch_named front k.name ≡ None = name_new ks i lt (c.requires.apart i lt) in
    let long : length front.branches ≡ i = length-map (take i ks) named_only ∙ length-take-le i ks (omega (arith, lt)) in
    let is : c.add.new.self.numbers ≡ insert old k.name (length front.branches) = ap (λ (n : KeptNames). n.numbers) c.add.ensures ∙ (λ j. insert old (name j) (sym long j)) in
    record {
      numbers = subst (λ (d : Dataset). AreNumbers c.add.new.self.numbers d) (sym (names_next ks i lt))
          (subst (λ (n : Numbers). AreNumbers n (record front { branches = front.branches ++ named_only k ∷ [] })) (sym is) (numbers_more front (named_only k) old new v.numbers));
      count = ap (λ (n : Numbers). len n) is ∙ count_more old k.name (length front.branches) (v.numbers k.name ∙ new) ∙ ap (λ n. n + 1) v.count;
      room = let e = ap (λ (n : KeptNames). n.room) c.add.ensures in let r = v.room in omega (arith, e, r);
    }
