-- Lines that are refused by the schema, or by whether a transaction is open and has changed something. They look at no lock.
use Rattle.std.specs.Prelude.{ℕ, ◌==◌, is_some, cond, Bool, true, false, List, length, Option, Some, None, Result, Ok, Err}
use Rattle.db_value.specs.Value.{Value}
use Rattle.db_value.specs.Relations.{columns_at, widths_at}
use Rattle.db_value.specs.declared.schema.Relation.{Relation}
use Rattle.db_value.specs.Pred.{first_unknown, first_wrong}
use Rattle.db_value.specs.declared.condition.Set.{Set}
use Rattle.db_value.specs.declared.condition.Term.{Term}
use Rattle.db_value.specs.declared.reply.Refusal.{Refusal}
use Rattle.db_value.specs.declared.reply.Refusal.TheVariants.{NoRelation, NoColumn, InTransaction, NoTransaction, NotFirst, ValueCount, WrongKind}
use Rattle.stmt_text.specs.declared.stmt.Stmt.{Stmt}
use Rattle.stmt_text.specs.declared.stmt.Stmt.TheVariants.{Begin, Commit, Abort, On, LogOf, Graph, Segments, Checkpoint, Branch, Merge, Insert, Update, Delete, Get, Scan, Join, Minus}
use Rattle.stmt_text.specs.declared.stmt.NamedSet.{NamedSet}
use Rattle.line_needs.specs.Columns.{columns_of, relation_named, resolved}
use Rattle.line_needs.specs.Misfits.{row_misfit, sets_misfit}

-- a statement that is at home outside a transaction, and one that is at home inside
abbrev pub outside_refusal : Bool → Option Refusal
outside_refusal true = Some InTransaction
outside_refusal false = None

-- an end is refused unless a transaction has begun
abbrev pub inside_refusal : Bool → Option Refusal
inside_refusal true = None
inside_refusal false = Some NoTransaction

-- the relation isn't in the schema
abbrev pub relation_refusal : List ℕ → Option ℕ → Option Refusal
relation_refusal name None = Some (NoRelation name)
relation_refusal name (Some r) = None

-- or the values aren't as many as its columns, or one has no place in its column
abbrev pub row_refusal : List Relation → List ℕ → List Value → Option ℕ → Option Refusal
row_refusal schema name fields None = Some (NoRelation name)
row_refusal schema name fields (Some r) = cond (length fields == length (columns_of schema r)) (row_misfit (columns_of schema r) fields) (Some (ValueCount name (length (columns_at schema r))))

-- a new value is of a column that isn't there, or else one has no place in its column
abbrev pub unresolved_refusal : Result (List Set) (List ℕ) → Option Refusal → Option Refusal
unresolved_refusal (Err column) misfit = Some (NoColumn column)
unresolved_refusal (Ok sets) misfit = misfit

-- the relation isn't in the schema, or it lacks a column, or a new value has no place in its column
abbrev pub set_refusal : List Relation → List ℕ → List NamedSet → Option ℕ → Option Refusal
set_refusal schema name sets None = Some (NoRelation name)
set_refusal schema name sets (Some r) = unresolved_refusal (resolved (columns_at schema r) sets) (sets_misfit (widths_at schema r) (columns_at schema r) sets)

-- a condition is refused where it names a column that isn't there, or else where a value is of the other kind than its column
abbrev pub condition_refusal : Option (List ℕ) → Option (List ℕ) → Option Refusal
condition_refusal (Some unknown) wrong = Some (NoColumn unknown)
condition_refusal None (Some wrong) = Some (WrongKind wrong)
condition_refusal None None = None

-- why a condition on a relation is refused
abbrev pub terms_refusal : List Relation → ℕ → List Term → Option Refusal
terms_refusal schema r terms = condition_refusal (first_unknown (columns_at schema r) terms) (first_wrong (columns_at schema r) (widths_at schema r) terms)

-- the relation isn't in the schema, or a condition on it is refused
abbrev pub ask_refusal : List Relation → List ℕ → List Term → Option ℕ → Option Refusal
ask_refusal schema name terms None = Some (NoRelation name)
ask_refusal schema name terms (Some r) = terms_refusal schema r terms

-- one of two relations isn't in the schema, or a condition on the first one is refused
abbrev pub join_refusal : List Relation → List ℕ → List ℕ → List Term → Option ℕ → Option ℕ → Option Refusal
join_refusal schema left right terms None q = Some (NoRelation left)
join_refusal schema left right terms (Some r) None = Some (NoRelation right)
join_refusal schema left right terms (Some r) (Some s) = terms_refusal schema r terms

-- a merge comes before every change
abbrev pub first_refusal : Bool → Option Refusal
first_refusal true = Some NotFirst
first_refusal false = None

-- why a line is refused by the schema, or by whether a transaction is open and has changed something
abbrev pub early_refusal : List Relation → Bool → Bool → Stmt → Option Refusal
early_refusal schema begun changed (Begin room) = outside_refusal begun
early_refusal schema begun changed Commit = inside_refusal begun
early_refusal schema begun changed Abort = inside_refusal begun
early_refusal schema begun changed (On name) = outside_refusal begun
early_refusal schema begun changed (LogOf name) = None
early_refusal schema begun changed Graph = None
early_refusal schema begun changed Segments = None
early_refusal schema begun changed Checkpoint = outside_refusal begun
early_refusal schema begun changed (Branch name origin) = outside_refusal begun
early_refusal schema begun changed (Merge name prefer) = first_refusal changed
early_refusal schema begun changed (Insert name key fields) = row_refusal schema name fields (relation_named schema name)
early_refusal schema begun changed (Update name key sets) = set_refusal schema name sets (relation_named schema name)
early_refusal schema begun changed (Delete name key) = relation_refusal name (relation_named schema name)
early_refusal schema begun changed (Get name key at) = relation_refusal name (relation_named schema name)
early_refusal schema begun changed (Scan name over terms) = ask_refusal schema name terms (relation_named schema name)
early_refusal schema begun changed (Join left right v w terms) = join_refusal schema left right terms (relation_named schema left) (relation_named schema right)
early_refusal schema begun changed (Minus name v w) = relation_refusal name (relation_named schema name)

-- the line is refused by what is known without a lock
abbrev pub is_early : List Relation → Bool → Bool → Stmt → Bool
is_early schema begun changed x = is_some (early_refusal schema begun changed x)
