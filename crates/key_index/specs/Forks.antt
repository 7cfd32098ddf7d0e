-- The forks of an overlay: the trail of a key from one to the next, and what holds of all of them.
use Rattle.std.specs.Prelude.{◌≡◌, ℕ, zero, suc, ◌<◌, ◌/◌, ◌%◌, ◌==◌, Bool, true, false, ◌&&◌, eqb, List, length, map, get_or, set, [], ◌∷◌}
use Rattle.std.specs.FinMap.{FinMap, from_entries}
use Rattle.key_index.specs.Overlaid.{touch_cmp}
use Rattle.key_index.specs.declared.fork.Fork.{Fork}
use Rattle.key_index.specs.declared.fork.End.{End}
use Rattle.key_index.specs.declared.fork.End.TheVariants.{At, Past, Lost}

-- by whether the key stands at a fork, and where the fork leads to; 0 is nowhere
abbrev pub step : Bool → ℕ → ℕ → ℕ → End → End
step true to at way more = At at
step false zero at way more = Past at way
step false (suc to) at way more = more

-- the trail takes a way by each two bits of the key, the lowest first
abbrev pub way_of : ℕ → ℕ
way_of rest = rest % 4

-- where a trail ends that goes through so many forks at most
abbrev pub walk : (ℕ → Bool) → (ℕ → ℕ → ℕ) → ℕ → ℕ → ℕ → End
walk here link zero at rest = Lost
walk here link (suc fuel) at rest = step (here at) (link at (way_of rest)) at (way_of rest) (walk here link fuel (link at (way_of rest)) (rest / 4))

module _ {X : Type 0} where
  -- a fork that leads nowhere
  abbrev pub new_fork : ℕ → ℕ → X → Fork X
  new_fork relation key item = record { key = key; links = 0 ∷ 0 ∷ 0 ∷ 0 ∷ []; item = item; relation = relation }

  abbrev pub link_of : Fork X → ℕ → ℕ
  link_of fork way = get_or fork.links way 0

  -- it leads there by this way
  abbrev pub led : Fork X → ℕ → ℕ → Fork X
  led fork way to = record fork { links = set fork.links way to }

  abbrev pub is_of : ℕ → ℕ → Fork X → Bool
  is_of relation key fork = eqb relation fork.relation && eqb key fork.key

  -- the key of the relation stands at this place
  unfoldable pub is_at : List (Fork X) → ℕ → ℕ → ℕ → Bool
  is_at forks relation key at = get_or (map (is_of relation key) forks) at false

  -- where a fork leads to by a way
  unfoldable pub link_at : List (Fork X) → ℕ → ℕ → ℕ
  link_at forks at way = get_or (map (λ (fork : Fork X). link_of fork way) forks) at 0

  -- where the trail of a key ends
  abbrev pub trail : List (Fork X) → ℕ → ℕ → End
  trail forks relation key = walk (is_at forks relation key) (link_at forks) (length forks) 0 key

  -- the items at the keys
  abbrev pub items_of : List (Fork X) → FinMap touch_cmp X
  items_of forks = from_entries (map (λ (fork : Fork X). ((fork.relation, fork.key), fork.item)) forks)

  -- each link leads to a later fork, and the trail of each key that is there ends at it
  pub record AreForks (forks : List (Fork X)) : Type 0 where
    pub later : (at : ℕ) → (way : ℕ) → 0 < link_at forks at way → at < link_at forks at way
    pub within : (at : ℕ) → (way : ℕ) → 0 < link_at forks at way → link_at forks at way < length forks
    pub found : (relation key at : ℕ) → is_at forks relation key at ≡ true → trail forks relation key ≡ At at
