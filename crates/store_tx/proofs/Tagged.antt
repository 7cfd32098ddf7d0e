-- Needs that are granted to one session.
use Rattle.std.proofs.Common.{ℕ, List, [], ap, inl, inr, ⊎_elim, refl, sym, ◌∷◌, ◌≡◌, ◌⊎◌}
use Rattle.branch_tx.proofs.LineKeeps.{AnyHas}
use Rattle.branch_tx.specs.Frame.{AllWithin, Within}
use Rattle.store_tx.specs.Keeps.{tagged, OwnedBy}
use Rattle.lock_table.specs.Grants.{Has, row}
use Rattle.lock_table.specs.Rows.{Row}
use Rattle.lock_table.specs.declared.need.Need.{Need}

pub tagged_old : (s : ℕ) (ns : List Need) (rows : List Row) (r : Row) → Has rows r → Has (tagged s ns rows) r
tagged_old s [] rows r h = h
tagged_old s (n ∷ ns) rows r h = inr (tagged_old s ns rows r h)

pub tagged_new : (s : ℕ) (ns : List Need) (rows : List Row) (n : Need) → Has ns n → Has (tagged s ns rows) (row s n)
tagged_new s [] rows n h = absurd h
tagged_new s (m ∷ ms) rows n h = ⊎_elim (λ (e : m ≡ n). inl (ap (row s) e)) (λ (g : Has ms n). inr (tagged_new s ms rows n g)) h

pub tagged_has : (s : ℕ) (ns : List Need) (rows : List Row) (r : Row) → Has (tagged s ns rows) r → ((r.session ≡ s) × Has ns r.need) ⊎ Has rows r
tagged_has s [] rows r h = inr h
tagged_has s (n ∷ ns) rows r h = ⊎_elim
    (λ (e : row s n ≡ r). inl (ap (λ (y : Row). y.session) (sym e), inl (ap (λ (y : Row). y.need) e)))
    (λ (g : Has (tagged s ns rows) r). ⊎_elim (λ (p : (r.session ≡ s) × Has ns r.need). inl (p.0, inr p.1)) (λ (o : Has rows r). inr o) (tagged_has s ns rows r g))
    h

pub within_granted : (rows : List Row) (s : ℕ) (ns : List Need) → ((n : Need) → Has ns n → Has rows (row s n)) → Within (OwnedBy rows s) ns
within_granted rows s [] f = tt
within_granted rows s (n ∷ ns) f = ((n.exclusive, f n (inl refl)), within_granted rows s ns (λ m h. f m (inr h)))

pub all_granted : (rows : List Row) (s : ℕ) (all : List (List Need)) → ((n : Need) → AnyHas all n → Has rows (row s n)) → AllWithin (OwnedBy rows s) all
all_granted rows s [] f = tt
all_granted rows s (ns ∷ more) f = (within_granted rows s ns (λ n h. f n (inl h)), all_granted rows s more (λ n h. f n (inr h)))
