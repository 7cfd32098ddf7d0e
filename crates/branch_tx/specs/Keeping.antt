-- How a transaction keeps its working table. The rules of statements are said over this, so that they hold of a whole private table and of changes over the branch's head alike.
use Rattle.std.specs.Prelude.{ℕ, ◌+◌, ◌==◌, ◌||◌, nat_lt, cond, Bool, false, List, [], ◌∷◌, ◌++◌, length, map, set, replicate, Option}
use Rattle.std.specs.FinMap as finite
use Rattle.std.proofs.Common.{get_or}
use Rattle.db_value.specs.Value.{Value}
use Rattle.db_value.specs.Schema.{most_relations}
use Rattle.db_value.specs.declared.entry.Change.{Change}
use Rattle.db_store.specs.Table.{Contents, Table, relation_at, changed}
use Rattle.db_store.specs.Overlay.{Overlay, laid, is_touched, count_touched, touch, own_widths, change_of, changes_from}

-- what a transaction asks of its working table, in whichever form it keeps that
pub record Keeping (W : Type 0) : Type 0 where
  -- what the working table has of a relation
  pub contents : W → ℕ → Contents
  pub is_touched : W → ℕ → ℕ → Bool
  -- how many keys are touched
  pub touches : W → ℕ
  -- one key of a relation set, and touched
  pub put : W → ℕ → ℕ → Option (List Value) → W
  -- the final state of each touched key, by relation and key, with the widths of its relation beside fields
  pub changes : List (List ℕ) → W → List Change

-- a private table, and the touched keys of each relation in ascending order
pub record Private : Type 0 where
  pub table : Table
  pub touched : List (List ℕ)

-- a private table in which nothing is touched
abbrev pub private_copy : Table → Private
private_copy t = record { table = t; touched = replicate most_relations [] }

-- the touched keys of a relation
abbrev pub keys_at : Private → ℕ → List ℕ
keys_at w r = get_or w.touched r []

-- whether a key is one of some
abbrev pub is_among : ℕ → List ℕ → Bool
is_among key [] = false
is_among key (k ∷ ks) = key == k || is_among key ks

-- ascending keys with one more, where it isn't among them
abbrev pub with_key : ℕ → List ℕ → List ℕ
with_key key [] = key ∷ []
with_key key (k ∷ ks) = cond (nat_lt key k) (key ∷ k ∷ ks) (cond (key == k) (k ∷ ks) (k ∷ with_key key ks))

-- how many touched keys the relations have together
abbrev pub count_keys : List (List ℕ) → ℕ
count_keys [] = 0
count_keys (ks ∷ more) = length ks + count_keys more

-- a key's state in a table as a change of its relation, whose columns have these widths
abbrev pub state_in : List ℕ → Table → ℕ → ℕ → Change
state_in ws t r key = change_of ws r (key, finite.get (relation_at t r) key)

-- the states of keys in a table, by relation and key, with the widths of each relation; the first keys are of relation n
abbrev pub states_from : List (List ℕ) → Table → ℕ → List (List ℕ) → List Change
states_from wss t n [] = []
states_from wss t n (ks ∷ more) = map (state_in (own_widths wss n) t n) ks ++ states_from wss t (n + 1) more

-- a whole private table
abbrev pub privately : Keeping Private
privately = record {
  contents = λ w r. relation_at w.table r;
  is_touched = λ w r key. is_among key (keys_at w r);
  touches = λ w. count_keys w.touched;
  put = λ w r key state. record { table = set w.table r (changed (relation_at w.table r) key state); touched = set w.touched r (with_key key (keys_at w r)) };
  changes = λ wss w. states_from wss w.table 0 w.touched;
}

-- changes over a table that stays
abbrev pub over_table : Table → Keeping (List Overlay)
over_table t = record {
  contents = λ os r. relation_at (laid t os) r;
  is_touched = is_touched;
  touches = count_touched;
  put = touch;
  changes = λ wss os. changes_from wss 0 os;
}
