-- The forks of an overlay: what its items are, and that forks stay in order when one is added.
use Rattle.std.proofs.Common.{◌≡◌, ℕ, zero, suc, ◌-◌, ◌<◌, Bool, true, false, List, [], ◌∷◌, ◌/◌, length, map, get_or, set, Some, None, cond, refl, sym, ap, ◌∙◌, subst, arith}
use Rattle.std.proofs.lemmas.Bool.{false≢true}
use Rattle.std.proofs.lemmas.List.{get_or-map, length-set}
use Rattle.std.proofs.Math.Seq.{map-set_same}
use Rattle.std.specs.Map.{lookup}
use Rattle.key_index.specs.declared.fork.Fork.{Fork}
use Rattle.key_index.specs.declared.fork.End.{End}
use Rattle.key_index.specs.declared.fork.End.TheVariants.{At, Past, Lost}
use Rattle.key_index.specs.Forks.{step, way_of, link_of, is_of, is_at, link_at, walk, trail, AreForks}
use Rattle.key_index.proofs.Touches.{pair_eq}
use Rattle.key_index.proofs.Walks.{same_place, at_lost, past_lost, at_past, stands, is_free, not_lost, way_small}

module _ {X : Type 0} where
  abbrev pub entry_of : Fork X → (ℕ × ℕ) × X
  entry_of fork = ((fork.relation, fork.key), fork.item)

  abbrev pub map_entries : List (Fork X) → List ((ℕ × ℕ) × X)
  map_entries forks = map entry_of forks

  here_case : (relation key at : ℕ) (fork d : Fork X) (forks : List (Fork X)) (b : Bool) → is_of relation key fork ≡ b
      → (b ≡ true → 0 ≡ suc at)
      → lookup (pair_eq (relation, key)) (map entry_of forks) ≡ Some (get_or forks at d).item
      → cond (is_of relation key fork) (Some fork.item) (lookup (pair_eq (relation, key)) (map entry_of forks)) ≡ Some (get_or forks at d).item
  here_case relation key at fork d forks true e once more = absurd (omega (arith, once refl))
  here_case relation key at fork d forks false e once more = ap (λ (b : Bool). cond b (Some fork.item) (lookup (pair_eq (relation, key)) (map entry_of forks))) e ∙ more

  -- a key that stands at one place has the item there
  pub has_item : (relation key at : ℕ) (d : Fork X) (forks : List (Fork X)) → is_at forks relation key at ≡ true
      → ((p : ℕ) → is_at forks relation key p ≡ true → p ≡ at)
      → lookup (pair_eq (relation, key)) (map entry_of forks) ≡ Some (get_or forks at d).item
  unfolding is_at
  has_item relation key at d [] e once = absurd (false≢true e)
  has_item relation key zero d (fork ∷ forks) e once = ap (λ (b : Bool). cond b (Some fork.item) (lookup (pair_eq (relation, key)) (map entry_of forks))) e
  has_item relation key (suc at) d (fork ∷ forks) e once =
      here_case relation key at fork d forks (is_of relation key fork) refl (λ b. once 0 b)
      (has_item relation key at d forks e (λ p h. omega (arith, once (suc p) h)))

  none_case : (relation key : ℕ) (fork : Fork X) (forks : List (Fork X)) (b : Bool) → is_of relation key fork ≡ b → (b ≡ true → ⊥)
      → lookup (pair_eq (relation, key)) (map entry_of forks) ≡ None
      → cond (is_of relation key fork) (Some fork.item) (lookup (pair_eq (relation, key)) (map entry_of forks)) ≡ None
  none_case relation key fork forks true e never more = absurd (never refl)
  none_case relation key fork forks false e never more = ap (λ (b : Bool). cond b (Some fork.item) (lookup (pair_eq (relation, key)) (map entry_of forks))) e ∙ more

  -- a key that stands nowhere has no item
  pub has_none : (relation key : ℕ) (forks : List (Fork X)) → ((p : ℕ) → is_at forks relation key p ≡ true → ⊥) → lookup (pair_eq (relation, key)) (map entry_of forks) ≡ None
  unfolding is_at
  has_none relation key [] never = refl
  has_none relation key (fork ∷ forks) never = none_case relation key fork forks (is_of relation key fork) refl (never 0) (has_none relation key forks (λ p h. never (suc p) h))

  -- the key whose trail ends at a fork has the item there
  pub item_at : (forks : List (Fork X)) (relation key at : ℕ) (d : Fork X) → AreForks forks → 0 < length forks → trail forks relation key ≡ At at
      → lookup (pair_eq (relation, key)) (map entry_of forks) ≡ Some (get_or forks at d).item
  item_at forks relation key at d are some e =
      has_item relation key at d forks (stands (is_at forks relation key) (link_at forks) (length forks) are.within (length forks) 0 key at some e).0
      (λ p h. same_place p at (sym (are.found relation key p h) ∙ e))

  pub in_range : (forks : List (Fork X)) (relation key at : ℕ) → AreForks forks → 0 < length forks → trail forks relation key ≡ At at → at < length forks
  in_range forks relation key at are some e = (stands (is_at forks relation key) (link_at forks) (length forks) are.within (length forks) 0 key at some e).1

  pub free_at : (forks : List (Fork X)) (relation key at : ℕ) (side : ℕ) → AreForks forks → 0 < length forks → trail forks relation key ≡ Past at side → (link_at forks at side ≡ 0) × (at < length forks)
  free_at forks relation key at side are some e = is_free (is_at forks relation key) (link_at forks) (length forks) are.within (length forks) 0 key at side some e

  -- the way past a fork is one of four
  pub way_within : (forks : List (Fork X)) (relation key at way : ℕ) → trail forks relation key ≡ Past at way → way < 4
  way_within forks relation key at way e = way_small (is_at forks relation key) (link_at forks) (length forks) 0 key at way e

  -- no trail is lost
  pub never_lost : (forks : List (Fork X)) (relation key : ℕ) → AreForks forks → 0 < length forks → trail forks relation key ≡ Lost → ⊥
  never_lost forks relation key are some e = not_lost (is_at forks relation key) (link_at forks) (length forks) are.within are.later (length forks) 0 key (omega arith) some e

  some_of : (forks : List (Fork X)) (relation key : ℕ) (e : End) → (e ≡ Lost → ⊥) → trail forks relation key ≡ e → 0 < length forks
  some_of [] relation key e not_lost is = absurd (not_lost (sym is))
  some_of (fork ∷ forks) relation key e not_lost is = omega arith

  -- a trail that ends at a fork, or past one, has one
  pub some_at : (forks : List (Fork X)) (relation key at : ℕ) → trail forks relation key ≡ At at → 0 < length forks
  some_at forks relation key at is = some_of forks relation key (At at) (at_lost at) is

  pub some_past : (forks : List (Fork X)) (relation key at : ℕ) (side : ℕ) → trail forks relation key ≡ Past at side → 0 < length forks
  some_past forks relation key at side is = some_of forks relation key (Past at side) (past_lost at side) is

  -- a trail is lost only where there is no fork
  pub none_lost : (forks : List (Fork X)) (relation key : ℕ) → AreForks forks → trail forks relation key ≡ Lost → forks ≡ []
  none_lost [] relation key are is = refl
  none_lost (fork ∷ forks) relation key are is = absurd (never_lost (fork ∷ forks) relation key are (omega arith) is)

  -- a key whose trail ends past a fork has no item
  pub none_past : (forks : List (Fork X)) (relation key at : ℕ) (side : ℕ) → AreForks forks → trail forks relation key ≡ Past at side → lookup (pair_eq (relation, key)) (map entry_of forks) ≡ None
  none_past forks relation key at side are is = has_none relation key forks (λ p h. at_past p at side (sym (are.found relation key p h) ∙ is))

  nothing : AreForks {X = X} []
  unfolding is_at link_at
  nothing = record { later = λ at way h. absurd (omega (arith, h)); within = λ at way h. absurd (omega (arith, h)); found = λ relation key at h. absurd (false≢true h) }

  pub none_there : (forks : List (Fork X)) → forks ≡ [] → AreForks forks
  none_there forks e = subst AreForks (sym e) nothing

  here_is : (forks : List (Fork X)) (relation key at : ℕ) (fork : Fork X) → fork ≡ get_or forks at fork → at < length forks → is_at forks relation key at ≡ is_of relation key fork
  unfolding is_at
  here_is forks relation key at fork h l = get_or-map (is_of relation key) forks at fork false l ∙ ap (is_of relation key) (sym h)

  link_is : (forks : List (Fork X)) (at : ℕ) (way : ℕ) (fork : Fork X) → fork ≡ get_or forks at fork → at < length forks → link_at forks at way ≡ link_of fork way
  unfolding link_at
  link_is forks at way fork h l = get_or-map (λ (f : Fork X). link_of f way) forks at fork 0 l ∙ ap (λ (f : Fork X). link_of f way) (sym h)

  module _ (forks : List (Fork X)) (relation key at rest : ℕ) (fork : Fork X) (is : fork ≡ get_or forks at fork) (l : at < length forks) where
    abbrev on : ℕ → ℕ → ℕ → End
    on fuel place left = walk (is_at forks relation key) (link_at forks) fuel place left

    pub stand_at : (fuel : ℕ) → 0 < fuel → is_of relation key fork ≡ true → on fuel at rest ≡ At at
    stand_at zero f h = absurd (omega (arith, f))
    stand_at (suc fuel) f h = ap (λ (b : Bool). step b (link_at forks at (way_of rest)) at (way_of rest) (on fuel (link_at forks at (way_of rest)) (rest / 4))) (here_is forks relation key at fork is l ∙ h)

    pub stop_past : (fuel : ℕ) → 0 < fuel → is_of relation key fork ≡ false → link_of fork (way_of rest) ≡ 0 → on fuel at rest ≡ Past at (way_of rest)
    stop_past zero f h none = absurd (omega (arith, f))
    stop_past (suc fuel) f h none =
        ap (λ (b : Bool). step b (link_at forks at (way_of rest)) at (way_of rest) (on fuel (link_at forks at (way_of rest)) (rest / 4))) (here_is forks relation key at fork is l ∙ h)
        ∙ ap (λ (x : ℕ). step false x at (way_of rest) (on fuel x (rest / 4))) (link_is forks at (way_of rest) fork is l ∙ none)

    go_case : (more : ℕ → End) (to : ℕ) → 0 < to → step false to at (way_of rest) (more to) ≡ more to
    go_case more zero f = absurd (omega (arith, f))
    go_case more (suc to) f = refl

    pub go_on : (fuel to : ℕ) → 0 < fuel → is_of relation key fork ≡ false → to ≡ link_of fork (way_of rest) → 0 < to → on fuel at rest ≡ on (fuel - 1) to (rest / 4)
    go_on zero to f h leads some = absurd (omega (arith, f))
    go_on (suc fuel) to f h leads some =
        ap (λ (b : Bool). step b (link_at forks at (way_of rest)) at (way_of rest) (on fuel (link_at forks at (way_of rest)) (rest / 4))) (here_is forks relation key at fork is l ∙ h)
        ∙ ap (λ (x : ℕ). step false x at (way_of rest) (on fuel x (rest / 4))) (link_is forks at (way_of rest) fork is l ∙ sym leads)
        ∙ go_case (λ x. on fuel x (rest / 4)) to some
        ∙ (let less : fuel ≡ suc fuel - 1 = omega arith in ap (λ (n : ℕ). on n to (rest / 4)) less)

    pub next_within : AreForks forks → (to : ℕ) → to ≡ link_of fork (way_of rest) → 0 < to → to < length forks
    next_within are to leads some =
        let same : link_at forks at (way_of rest) ≡ to = link_is forks at (way_of rest) fork is l ∙ sym leads in
        subst (λ (x : ℕ). x < length forks) same (are.within at (way_of rest) (subst (λ (x : ℕ). 0 < x) (sym same) some))

  -- forks that lead alike and have the same keys are in order too
  pub alike : (forks forks2 : List (Fork X)) → link_at forks2 ≡ link_at forks → ((r k : ℕ) → is_at forks2 r k ≡ is_at forks r k) → length forks2 ≡ length forks → AreForks forks → AreForks forks2
  alike forks forks2 el ei en are = record {
    later = λ p s h. subst (λ (L : ℕ → ℕ → ℕ). 0 < L p s → p < L p s) (sym el) (are.later p s) h;
    within = λ p s h. subst (λ (n : ℕ). link_at forks2 p s < n) (sym en) (subst (λ (L : ℕ → ℕ → ℕ). 0 < L p s → L p s < length forks) (sym el) (are.within p s) h);
    found = λ r k p h.
        ap (λ (H : ℕ → Bool). walk H (link_at forks2) (length forks2) 0 k) (ei r k)
        ∙ ap (λ (L : ℕ → ℕ → ℕ). walk (is_at forks r k) L (length forks2) 0 k) el
        ∙ ap (λ (n : ℕ). walk (is_at forks r k) (link_at forks) n 0 k) en
        ∙ are.found r k p (ap (λ (H : ℕ → Bool). H p) (sym (ei r k)) ∙ h);
  }

  -- another item at a fork
  abbrev pub with_new : Fork X → X → Fork X
  with_new fork item = record { key = fork.key; links = fork.links; item = item; relation = fork.relation }

  pub item_set : (forks : List (Fork X)) (at : ℕ) (fork : Fork X) (item : X) → fork ≡ get_or forks at fork → AreForks forks → AreForks (set forks at (with_new fork item))
  unfolding is_at link_at
  item_set forks at fork item is are =
      alike forks (set forks at (with_new fork item))
      (λ i p s. get_or (map-set_same (λ (f : Fork X). link_of f s) forks at (with_new fork item) fork (ap (λ (f : Fork X). link_of f s) is) i) p 0)
      (λ r k i p. get_or (map-set_same (is_of r k) forks at (with_new fork item) fork (ap (is_of r k) is) i) p false)
      (length-set forks at (with_new fork item)) are

  -- where there is no fork no key has an item
  pub has_nothing : (forks : List (Fork X)) (relation key : ℕ) → AreForks forks → trail forks relation key ≡ Lost → lookup (pair_eq (relation, key)) (map entry_of forks) ≡ None
  has_nothing forks relation key are is = ap (λ (fs : List (Fork X)). lookup (pair_eq (relation, key)) (map entry_of fs)) (none_lost forks relation key are is)
