-- Tables that all have so many relations.
use Rattle.std.proofs.Common.{◌≡◌, ℕ, zero, suc, ◌<◌, List, [], ◌∷◌, ◌++◌, length, take, map, get_or, arith, subst}
use Rattle.std.proofs.lemmas.List.{take-map}
use Rattle.db_value.specs.declared.version.VersionName.{VersionName}
use Rattle.db_store.specs.Table.{Table}
use Rattle.branch_tx.specs.TxState.{AllWide}

-- so has each of the first few of them
front_at : (n k : ℕ) (t : Table) (ts : List Table) → length t ≡ n → AllWide n (take k ts) → (i : ℕ) → i < length (t ∷ take k ts) → length (get_or (t ∷ take k ts) i []) ≡ n
front_at n k t ts e w zero h = e
front_at n k t ts e w (suc i) h = w i (omega arith)

wide_take : (n k : ℕ) (ts : List Table) → AllWide n ts → AllWide n (take k ts)
wide_take n zero ts w = λ i h. absurd (omega arith)
wide_take n (suc k) [] w = w
wide_take n (suc k) (t ∷ ts) w = front_at n k t ts (w zero (omega arith)) (wide_take n k ts (λ j l. w (suc j) (omega arith)))

-- the first few of tables under names
pub wide_taken : (n k : ℕ) (ls : List (VersionName × Table)) → AllWide n (map (λ l. l.1) ls) → AllWide n (map (λ l. l.1) (take k ls))
wide_taken n k ls w = subst (AllWide n) (take-map (λ l. l.1) k ls) (wide_take n k (map (λ l. l.1) ls) w)

-- and one table more
pub wide_more : (n : ℕ) (ls : List (VersionName × Table)) (l : VersionName × Table) → AllWide n (map (λ l. l.1) ls) → length l.1 ≡ n → AllWide n (map (λ l. l.1) (ls ++ l ∷ []))
wide_more n [] l w e zero h = e
wide_more n [] l w e (suc i) h = absurd (omega (arith, h))
wide_more n (x ∷ xs) l w e zero h = w 0 (omega arith)
wide_more n (x ∷ xs) l w e (suc i) h = wide_more n xs l (λ j k. w (suc j) (omega (arith, k))) e i (omega (arith, h))
