-- Questions to three versions and a working table, by computation.
use Rattle.std.proofs.Common.{◌≡◌, ℕ, List, [], ◌∷◌, Option, Some, None, cond, ◌==◌, map, refl, ap, ◌∙◌, pos, codes, true, false, nat_cmp}
use Rattle.std.specs.FinMap as finite
use Rattle.std.specs.FinMap.Entries.{find}
use Rattle.db_value.specs.Value.{Value}
use Rattle.db_value.specs.declared.value.Value.TheVariants.{Number}
use Rattle.db_value.specs.Relations.{number_column}
use Rattle.db_value.specs.declared.record.Record.{Record}
use Rattle.db_value.specs.declared.condition.TermValue.{TermValue}
use Rattle.db_value.specs.declared.condition.TermValue.TheVariants.{Number as AskedNumber, Text as AskedText}
use Rattle.db_value.specs.declared.condition.Op.TheVariants.{AtLeast, NotEqual}
use Rattle.db_value.specs.declared.version.VersionName.{VersionName}
use Rattle.db_value.specs.declared.reply.Reply.{Reply}
use Rattle.db_value.specs.declared.reply.Reply.TheVariants.{Listed, Paired, Refused}
use Rattle.db_value.specs.declared.reply.Refusal.TheVariants.{NoVersion, NoColumn, NoRelation, WrongKind}
use Rattle.db_store.specs.Table.{Contents, rows_of, record_of}
use Rattle.stmt_text.specs.declared.stmt.Stmt.{Stmt}
use Rattle.stmt_text.specs.declared.stmt.Stmt.TheVariants.{Scan, Join, Minus}
use Rattle.stmt_text.specs.declared.stmt.ScanOver.TheVariants.{Named, Heads}
use Rattle.branch_tx.specs.Keeping.{Keeping}
use Rattle.branch_tx.specs.Found.{Source, Own, Other, Lacking}
use Rattle.branch_tx.specs.Act.{Tx, Ground, act}

abbrev number : ℕ → Value
number n = Number (pos n)

abbrev asked : ℕ → TermValue
asked n = AskedNumber (pos n)

abbrev Entries : Type 0
Entries = List (ℕ × List Value)

-- `1 1 1` is inserted, then `2 2 2`, and then the first becomes `1 5 1`
abbrev first : Entries
first = (1, number 1 ∷ number 1 ∷ []) ∷ []

abbrev second : Entries
second = (1, number 1 ∷ number 1 ∷ []) ∷ (2, number 2 ∷ number 2 ∷ []) ∷ []

abbrev third : Entries
third = (1, number 5 ∷ number 1 ∷ []) ∷ (2, number 2 ∷ number 2 ∷ []) ∷ []

abbrev contents : Entries → Contents
contents es = finite.from_sorted es

rows_are : (m : Contents) → rows_of m ≡ map record_of (finite.entries m)
unfolding rows_of
rows_are m = refl

rows_first : rows_of (contents first) ≡ map record_of first
rows_first = rows_are (contents first) ∙ ap (map record_of) (finite.entries-from_sorted nat_cmp first tt)

rows_second : rows_of (contents second) ≡ map record_of second
rows_second = rows_are (contents second) ∙ ap (map record_of) (finite.entries-from_sorted nat_cmp second tt)

rows_third : rows_of (contents third) ≡ map record_of third
rows_third = rows_are (contents third) ∙ ap (map record_of) (finite.entries-from_sorted nat_cmp third tt)

in_second : (key : ℕ) → finite.get (contents second) key ≡ find nat_cmp key second
in_second key = finite.get-from_sorted nat_cmp second key tt

in_third : (key : ℕ) → finite.get (contents third) key ≡ find nat_cmp key third
in_third key = finite.get-from_sorted nat_cmp third key tt

-- the working table is the third, and the others are versions
abbrev keeping : Keeping (Unit {0})
keeping = record { contents = λ w r. contents third; is_touched = λ w r key. false; touches = λ w. 0; put = λ w r key state. w; changes = λ wss w. [] }

abbrev ground : Ground
ground = record { schema = record { name = codes "items"; columns = number_column (codes "a") ∷ number_column (codes "b") ∷ [] } ∷ []; name = codes "master"; full = false }

abbrev tx : Tx (Unit {0})
tx = record { begun = true; room = 0; work = tt; second = None; made = None; moved = None }

abbrev source_at : Option ℕ → Source
source_at None = Own
source_at (Some n) = cond (n == 1) (Other (contents first ∷ [])) (cond (n == 2) (Other (contents second ∷ [])) (Lacking (NoVersion (codes "master") n)))

abbrev reply : Stmt → Reply
reply x = (act keeping ground (λ v. source_at v.position) (codes "master" ∷ []) tx x).reply

abbrev items : List ℕ
items = codes "items"

abbrev at : ℕ → VersionName
at n = record { branch = codes "master"; position = Some n }

abbrev head : VersionName
head = record { branch = codes "master"; position = None }

abbrev row : Value → Record
row a = record { key = 1; fields = a ∷ number 1 ∷ [] }

pub joins : reply (Join items items (at 1) head []) ≡ Paired (record { key = 1; left = number 1 ∷ number 1 ∷ []; right = number 5 ∷ number 1 ∷ [] } ∷ [])
joins = simp (rows_first, in_third) refl

pub tells_apart : reply (Minus items head (at 2)) ≡ Listed [] (record { row = row (number 5); positions = 0 ∷ [] } ∷ [])
tells_apart = simp (rows_third, in_second) refl

pub scans : reply (Scan items (Named (at 2 ∷ head ∷ [])) (record { column = None; op = AtLeast; value = asked 1 } ∷ record { column = Some (codes "a"); op = NotEqual; value = asked 2 } ∷ []))
    ≡ Listed (at 2 ∷ head ∷ []) (record { row = row (number 1); positions = 0 ∷ [] } ∷ record { row = row (number 5); positions = 1 ∷ [] } ∷ [])
scans = simp (rows_second, rows_third) refl

-- the plain name of its branch is the working table within all heads too
pub scans_heads : reply (Scan items Heads []) ≡ Listed (head ∷ []) (record { row = row (number 5); positions = 0 ∷ [] } ∷ record { row = record { key = 2; fields = number 2 ∷ number 2 ∷ [] }; positions = 0 ∷ [] } ∷ [])
scans_heads = simp (rows_third) refl

-- refusals: relations first, from left to right, then columns, then values of the other kind, then versions from left to right
pub refuses_relations : reply (Join (codes "no") (codes "none") (at 9) (at 8) (record { column = Some (codes "c"); op = NotEqual; value = asked 2 } ∷ [])) ≡ Refused (NoRelation (codes "no"))
refuses_relations = refl

pub refuses_a_relation : reply (Join items (codes "none") (at 9) (at 8) (record { column = Some (codes "c"); op = NotEqual; value = asked 2 } ∷ [])) ≡ Refused (NoRelation (codes "none"))
refuses_a_relation = refl

pub refuses_a_column : reply (Join items items (at 9) (at 8) (record { column = Some (codes "c"); op = NotEqual; value = asked 2 } ∷ [])) ≡ Refused (NoColumn (codes "c"))
refuses_a_column = refl

pub refuses_a_text : reply (Join items items (at 9) (at 8) (record { column = Some (codes "a"); op = NotEqual; value = AskedText (codes "2") } ∷ [])) ≡ Refused (WrongKind (codes "a"))
refuses_a_text = refl

pub refuses_a_column_first : reply (Join items items (at 9) (at 8) (record { column = Some (codes "a"); op = NotEqual; value = AskedText (codes "2") } ∷ record { column = Some (codes "c"); op = NotEqual; value = asked 2 } ∷ [])) ≡ Refused (NoColumn (codes "c"))
refuses_a_column_first = refl

pub refuses_a_version : reply (Join items items (at 9) (at 8) []) ≡ Refused (NoVersion (codes "master") 9)
refuses_a_version = refl
