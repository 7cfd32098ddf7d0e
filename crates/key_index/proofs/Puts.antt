-- What an overlay has after a put.
use Rattle.std.proofs.Common.{◌≡◌, ℕ, zero, suc, ◌-◌, Bool, true, false, ◌&&◌, List, [], ◌∷◌, ◌++◌, length, map, get_or, set, Option, Some, None, is_some, cond, eqb, refl, sym, ap, ◌∙◌, arith, if◌then◌else◌}
use Rattle.std.proofs.lemmas.Bool.{false≢true, eqb-true}
use Rattle.std.proofs.Math.Seq.{map-set_same}
use Rattle.std.specs.Map.{lookup}
use Rattle.std.specs.FinMap.{from_entries}
use Rattle.key_index.specs.Overlaid.{Overlaid, touched}
use Rattle.key_index.specs.declared.fork.Fork.{Fork}
use Rattle.key_index.specs.declared.fork.End.TheVariants.{At}
use Rattle.key_index.specs.Forks.{new_fork, led, is_at, link_at, trail, items_of, AreForks}
use Rattle.key_index.proofs.Touches.{pair_eq, pair_sym, put_view, pushed_view}
use Rattle.key_index.proofs.Walks.{same_place, stands}
use Rattle.key_index.proofs.Trails.{entry_of, map_entries, with_new, item_at, some_at}
use Rattle.key_index.proofs.Growth.{both_hold}

same_pair : (p q s : ℕ × ℕ) → pair_eq p q ≡ true → pair_eq p s ≡ pair_eq q s
same_pair p q s e =
    let both = both_hold (eqb p.0 q.0) (eqb p.1 q.1) e in
    let first = eqb-true p.0 q.0 both.0 in
    let second = eqb-true p.1 q.1 both.1 in
    ap (λ (n : ℕ). eqb n s.0 && eqb p.1 s.1) first ∙ ap (λ (n : ℕ). eqb q.0 s.0 && eqb n s.1) second

module _ {X : Type 0} where
  over : (b c : Bool) (new old rest : Option X) → c ≡ b → cond c new rest ≡ cond b new (cond c old rest)
  over true true new old rest e = refl
  over true false new old rest e = absurd (false≢true e)
  over false true new old rest e = absurd (false≢true (sym e))
  over false false new old rest e = refl

  aside : (b c : Bool) (new old rest : Option X) → (b ≡ true → c ≡ true → ⊥) → cond c old (cond b new rest) ≡ cond b new (cond c old rest)
  aside true true new old rest apart = absurd (apart refl refl)
  aside true false new old rest apart = refl
  aside false c new old rest apart = refl

  -- every other key has the item that it had
  set_item : (forks : List (Fork X)) (at : ℕ) (fork : Fork X) (item : X) (relation key : ℕ) → fork ≡ get_or forks at fork → is_at forks relation key at ≡ true
      → ((p : ℕ) → is_at forks relation key p ≡ true → p ≡ at) → (q : ℕ × ℕ)
      → lookup (pair_eq q) (map entry_of (set forks at (with_new fork item))) ≡ cond (pair_eq (relation, key) q) (Some item) (lookup (pair_eq q) (map entry_of forks))
  unfolding is_at
  set_item [] at fork item relation key is e once q = absurd (false≢true e)
  set_item (first ∷ forks) zero fork item relation key is e once q =
      let own : pair_eq q (first.relation, first.key) ≡ pair_eq (relation, key) q = pair_sym q (first.relation, first.key) ∙ sym (same_pair (relation, key) (first.relation, first.key) q e) in
      ap (λ (f : Fork X). cond (pair_eq q (f.relation, f.key)) (Some item) (lookup (pair_eq q) (map entry_of forks))) is
      ∙ over (pair_eq (relation, key) q) (pair_eq q (first.relation, first.key)) (Some item) (Some first.item) (lookup (pair_eq q) (map entry_of forks)) own
  set_item (first ∷ forks) (suc at) fork item relation key is e once q =
      let more = set_item forks at fork item relation key is e (λ p h. omega (arith, once (suc p) h)) q in
      ap (cond (pair_eq q (first.relation, first.key)) (Some first.item)) more
      ∙ aside (pair_eq (relation, key) q) (pair_eq q (first.relation, first.key)) (Some item) (Some first.item) (lookup (pair_eq q) (map entry_of forks))
      (λ a b. absurd (omega (arith, once 0 (same_pair (relation, key) q (first.relation, first.key) a ∙ b))))

  -- the view after another item was put at a key
  pub item_view : (forks : List (Fork X)) (at : ℕ) (fork : Fork X) (spare relation key : ℕ) (item : X) (overlay : Overlaid X) → record { items = items_of forks; spare = spare } ≡ overlay
      → AreForks forks → trail forks relation key ≡ At at → fork ≡ get_or forks at fork
      → record { items = items_of (set forks at (with_new fork item)); spare = spare } ≡ touched overlay relation key item
  item_view forks at fork spare relation key item overlay view are ends is =
      let some = some_at forks relation key at ends in
      let there = item_at forks relation key at fork are some ends in
      let here = stands (is_at forks relation key) (link_at forks) (length forks) are.within (length forks) 0 key at some ends in
      put_view (map_entries forks) (map_entries (set forks at (with_new fork item))) spare spare relation key item overlay view
      (set_item forks at fork item relation key is here.0 (λ p h. same_place p at (sym (are.found relation key p h) ∙ ends)))
      (sym (ap (λ (o : Option X). if is_some o then spare else spare - 1) there))

  entries_pushed : (forks : List (Fork X)) (new : Fork X) → map entry_of (forks ++ new ∷ []) ≡ map entry_of forks ++ entry_of new ∷ []
  entries_pushed [] new = refl
  entries_pushed (fork ∷ forks) new = ap (λ (es : List ((ℕ × ℕ) × X)). entry_of fork ∷ es) (entries_pushed forks new)

  entry_led : (fork : Fork X) (side : ℕ) (to : ℕ) → entry_of (led fork side to) ≡ entry_of fork
  entry_led fork side to = refl

  -- links make no difference to the items
  pub entries_led : (forks : List (Fork X)) (at : ℕ) (old : Fork X) (side : ℕ) (to : ℕ) → old ≡ get_or forks at old → map_entries (set forks at (led old side to)) ≡ map_entries forks
  entries_led forks at old side to is = map-set_same entry_of forks at (led old side to) old (entry_led old side to ∙ ap entry_of is)

  -- the view after a fork was added for a new key
  pub added_view : (forks led_forks : List (Fork X)) (spare relation key : ℕ) (item : X) (overlay : Overlaid X) → record { items = items_of forks; spare = spare } ≡ overlay
      → map_entries led_forks ≡ map_entries forks → lookup (pair_eq (relation, key)) (map_entries forks) ≡ None
      → record { items = items_of (led_forks ++ new_fork relation key item ∷ []); spare = spare - 1 } ≡ touched overlay relation key item
  added_view forks led_forks spare relation key item overlay view same none =
      let entries = entries_pushed led_forks (new_fork relation key item) ∙ ap (λ (es : List ((ℕ × ℕ) × X)). es ++ ((relation, key), item) ∷ []) same in
      (λ i. record { items = from_entries (entries i); spare = spare - 1 }) ∙ pushed_view (map_entries forks) spare relation key item overlay view none
