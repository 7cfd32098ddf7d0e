-- What a granted transaction sees of the versions that a statement names.
use Rattle.std.proofs.Common.{◌≡◌, ℕ, suc, ◌+◌, ◌<◌, Bool, true, false, cond, List, [], ◌∷◌, ◌++◌, drop, map, length, get_or, append_assoc, refl, ap, sym, ◌∙◌, arith, Option, Some, None}
use Rattle.std.proofs.lemmas.List.{drop_more}
use Rattle.db_value.specs.declared.record.Record.{Record}
use Rattle.db_value.specs.declared.version.VersionName.{VersionName}
use Rattle.db_value.specs.declared.reply.Refusal.{Refusal}
use Rattle.db_value.specs.declared.reply.Reply.TheVariants.{Listed}
use Rattle.db_value.specs.declared.record.Marked.{Marked}
use Rattle.db_value.specs.declared.condition.Term.{Term}
use Rattle.db_store.specs.Table.{Table, relation_at}
use Rattle.db_store.specs.Overlay.{Overlay}
use Rattle.db_store.specs.Rows.{rows_where}
use Rattle.stmt_text.specs.declared.stmt.Stmt.TheVariants.{Get, Scan, Join, Minus}
use Rattle.stmt_text.specs.declared.stmt.ScanOver.{ScanOver}
use Rattle.multi_scan.specs.Multi.{union_marked, multi}
use Rattle.branch_tx.specs.Keeping.{over_table}
use Rattle.branch_tx.specs.Found.{Source, Own, Other, Lacking, lacking, lacking_or, first_lacking}
use Rattle.branch_tx.specs.Act.{Tx, rows_from, contents_from, answered, unless, scan_versions}
use Rattle.line_needs.specs.Columns.{relation_named}
use Rattle.branch_tx.specs.Granted.{Granted, same_version, lent_table, source_in, names_or_none, tx_in, left, table_from}
use Rattle.branch_tx.specs.TxState.{AllWide}
use Rattle.branch_tx.proofs.Keeps.{get_keeps, scan_keeps, join_keeps, minus_keeps}

-- ---- views that were lent

lent_at : (q : Bool) (n : ℕ) (table t : Table) (rest : Option Table) → length table ≡ n → (rest ≡ Some t → length t ≡ n) → cond q (Some table) rest ≡ Some t → length t ≡ n
lent_at true n table t rest l f e = let same : table ≡ t = cc in ap length (sym same) ∙ l
lent_at false n table t rest l f e = f e

-- a view that was lent is as wide as all are
pub lent_wide : (n : ℕ) (ls : List (VersionName × Table)) (v : VersionName) (t : Table) → AllWide n (map (λ l. l.1) ls) → lent_table ls v ≡ Some t → length t ≡ n
lent_wide n [] v t w e = absurd cc
lent_wide n (l ∷ ls) v t w e = lent_at (same_version l.0 v) n l.1 t (lent_table ls v) (w 0 (omega arith)) (lent_wide n ls v t (λ i h. w (suc i) (omega (arith, h)))) e

-- ---- several names

lack_more : (sources : VersionName → Source) (names : List VersionName) (i : ℕ) (d : VersionName) → i < length names
    → first_lacking (map sources (drop i names)) ≡ lacking_or (lacking (sources (get_or names i d))) (first_lacking (map sources (drop (i + 1) names)))
lack_more sources names i d h = ap (λ (vs : List VersionName). first_lacking (map sources vs)) (drop_more names i d h)

-- one name more is there
pub lack_step : (sources : VersionName → Source) (names : List VersionName) (all : Option Refusal) (i : ℕ) (v d : VersionName) → i < length names → get_or names i d ≡ v → lacking (sources v) ≡ None
    → all ≡ first_lacking (map sources (drop i names)) → all ≡ first_lacking (map sources (drop (i + 1) names))
lack_step sources names all i v d h is none inv =
    inv ∙ lack_more sources names i d h
    ∙ ap (λ (o : Option Refusal). lacking_or o (first_lacking (map sources (drop (i + 1) names)))) (ap (λ (u : VersionName). lacking (sources u)) is ∙ none)

-- one isn't
pub lack_stop : (sources : VersionName → Source) (names : List VersionName) (all : Option Refusal) (i : ℕ) (v d : VersionName) (why : Refusal) → i < length names → get_or names i d ≡ v → lacking (sources v) ≡ Some why
    → all ≡ first_lacking (map sources (drop i names)) → all ≡ Some why
lack_stop sources names all i v d why h is some inv =
    inv ∙ lack_more sources names i d h
    ∙ ap (λ (o : Option Refusal). lacking_or o (first_lacking (map sources (drop (i + 1) names)))) (ap (λ (u : VersionName). lacking (sources u)) is ∙ some)

-- the tables so far with those of the other names are all tables
pub tables_step : (tables : VersionName → Table) (names : List VersionName) (all done : List Table) (i : ℕ) (v d : VersionName) (t : Table) → i < length names → get_or names i d ≡ v → t ≡ tables v
    → all ≡ done ++ map tables (drop i names) → all ≡ (done ++ t ∷ []) ++ map tables (drop (i + 1) names)
tables_step tables names all done i v d t h is e inv =
    inv ∙ ap (λ (vs : List VersionName). done ++ map tables vs) (drop_more names i d h)
    ∙ ap (λ (x : Table). done ++ x ∷ map tables (drop (i + 1) names)) (ap tables is ∙ sym e)
    ∙ sym (append_assoc done (t ∷ []) (map tables (drop (i + 1) names)))

-- ---- rows

contents_seen : (g : Granted) (r : ℕ) (s : Source) → relation_at (table_from g s) r ≡ contents_from (over_table g.head) (tx_in g) r s
contents_seen g r Own = refl
contents_seen g r (Other t) = refl
contents_seen g r (Lacking why) = refl

-- the rows of what it sees are those of the source
pub rows_seen : (g : Granted) (p : Record → Bool) (r : ℕ) (s : Source) → rows_where p r (table_from g s) ≡ rows_from (over_table g.head) p (tx_in g) r s
rows_seen g p r Own = refl
rows_seen g p r (Other t) = refl
rows_seen g p r (Lacking why) = refl

lists_seen : (g : Granted) (p : Record → Bool) (r : ℕ) (names : List VersionName) → map (rows_where p r) (map (λ v. table_from g (source_in g v)) names) ≡ map (λ v. rows_from (over_table g.head) p (tx_in g) r (source_in g v)) names
lists_seen g p r [] = refl
lists_seen g p r (v ∷ vs) =
    let one = rows_seen g p r (source_in g v) in
    let more = lists_seen g p r vs in
    λ i. one i ∷ more i

-- and so are those of several
pub multi_seen : (g : Granted) (p : Record → Bool) (r : ℕ) (names : List VersionName) (tables : List Table) → tables ≡ map (λ v. table_from g (source_in g v)) names
    → multi p r tables ≡ union_marked (map (λ v. rows_from (over_table g.head) p (tx_in g) r (source_in g v)) names)
multi_seen g p r names tables e = ap (multi p r) e ∙ ap union_marked (lists_seen g p r names)

-- what is told where all versions are seen
pub listed_seen : (g : Granted) (p : Record → Bool) (r : ℕ) (names : List VersionName) (rows : List Marked) (tables : List Table) → first_lacking (map (source_in g) names) ≡ None → rows ≡ multi p r tables → tables ≡ map (λ v. table_from g (source_in g v)) names
    → Listed names rows ≡ (scan_versions (over_table g.head) (source_in g) (tx_in g) r p names).reply
listed_seen g p r names rows tables none is e =
    ap (Listed names) (is ∙ multi_seen g p r names tables e)
    ∙ sym (ap (λ (o : Option Refusal). (unless (tx_in g) o (answered (tx_in g) (Listed names (union_marked (map (λ v. rows_from (over_table g.head) p (tx_in g) r (source_in g v)) names))))).reply) none)

-- ---- questions leave it

pub get_left : (g : Granted) (name : List ℕ) (key : ℕ) (at : Option VersionName) → g ≡ left g (Get name key at)
get_left g name key at = ap (λ (tx : Tx (List Overlay)). record g { overlays = tx.work })
    (sym (get_keeps (over_table g.head) (λ tx. tx ≡ tx_in g) (source_in g) (tx_in g) name key at (relation_named g.schema name) refl))

pub scan_left : (g : Granted) (name : List ℕ) (over : ScanOver) (terms : List Term) → g ≡ left g (Scan name over terms)
scan_left g name over terms = ap (λ (tx : Tx (List Overlay)). record g { overlays = tx.work })
    (sym (scan_keeps (over_table g.head) (λ tx. tx ≡ tx_in g) g.schema (source_in g) (names_or_none g.heads) (tx_in g) name over terms (relation_named g.schema name) refl))

pub join_left : (g : Granted) (name other : List ℕ) (v w : VersionName) (terms : List Term) → g ≡ left g (Join name other v w terms)
join_left g name other v w terms = ap (λ (tx : Tx (List Overlay)). record g { overlays = tx.work })
    (sym (join_keeps (over_table g.head) (λ tx. tx ≡ tx_in g) g.schema (tx_in g) name other (source_in g v) (source_in g w) terms (relation_named g.schema name) (relation_named g.schema other) refl))

pub minus_left : (g : Granted) (name : List ℕ) (v w : VersionName) → g ≡ left g (Minus name v w)
minus_left g name v w = ap (λ (tx : Tx (List Overlay)). record g { overlays = tx.work })
    (sym (minus_keeps (over_table g.head) (λ tx. tx ≡ tx_in g) (tx_in g) name (source_in g v) (source_in g w) (relation_named g.schema name) refl))
