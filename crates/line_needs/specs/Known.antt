-- What the schema says of a line before any lock is looked at: why it is refused, or what its names stand for.
use Rattle.std.specs.Prelude.{ℕ, is_some, Bool, List, Option, Some, None, Result, Ok, Err}
use Rattle.db_value.specs.Relations.{columns_at}
use Rattle.db_value.specs.declared.schema.Relation.{Relation}
use Rattle.db_value.specs.declared.reply.Refusal.{Refusal}
use Rattle.stmt_text.specs.declared.stmt.NamedSet.{NamedSet}
use Rattle.stmt_text.specs.declared.stmt.Stmt.{Stmt}
use Rattle.stmt_text.specs.declared.stmt.Stmt.TheVariants.{Insert, Update, Delete, Get, Scan, Join, Minus}
use Rattle.line_needs.specs.declared.known.Known.{Known}
use Rattle.line_needs.specs.declared.known.Known.TheVariants.{Refused, Plain, Of, With, Both}
use Rattle.line_needs.specs.Columns.{relation_named, resolved, resolved_columns}
use Rattle.line_needs.specs.Early.{early_refusal}

-- the relation with a name, if there is one
abbrev pub of_named : Option ℕ → Known
of_named None = Plain
of_named (Some r) = Of r

-- a relation with columns of it by number, if each is there
abbrev pub with_columns : ℕ → Result (List ℕ) (List ℕ) → Known
with_columns r (Err column) = Plain
with_columns r (Ok columns) = With r columns

-- the relation with a name, and the columns of it that get new values
abbrev pub with_named : List Relation → List NamedSet → Option ℕ → Known
with_named schema sets None = Plain
with_named schema sets (Some r) = with_columns r (resolved_columns (resolved (columns_at schema r) sets))

-- two relations, if both are there
abbrev pub both_named : Option ℕ → Option ℕ → Known
both_named None q = Plain
both_named (Some r) None = Plain
both_named (Some r) (Some q) = Both r q

-- what the names of a statement stand for; a name that stands for nothing tells nothing here
abbrev pub named_in : List Relation → Stmt → Known
named_in schema (Insert name key fields) = of_named (relation_named schema name)
named_in schema (Update name key sets) = with_named schema sets (relation_named schema name)
named_in schema (Delete name key) = of_named (relation_named schema name)
named_in schema (Get name key at) = of_named (relation_named schema name)
named_in schema (Scan name over terms) = of_named (relation_named schema name)
named_in schema (Join left right v w terms) = both_named (relation_named schema left) (relation_named schema right)
named_in schema (Minus name v w) = of_named (relation_named schema name)
named_in schema _ = Plain

-- a line that is refused for a cause, if there is one
abbrev pub refused_or : Option Refusal → Known → Known
refused_or (Some why) k = Refused why
refused_or None k = k

-- what is known of a line whose transaction was begun or not, and has changed something or not: it is refused early, or its names stand for this
abbrev pub known_of : List Relation → Bool → Bool → Stmt → Known
known_of schema begun changed x = refused_or (early_refusal schema begun changed x) (named_in schema x)

-- why it is refused, if it is
abbrev pub refusal_in : Known → Option Refusal
refusal_in (Refused why) = Some why
refusal_in _ = None

-- it is refused
abbrev pub is_refusal : Known → Bool
is_refusal k = is_some (refusal_in k)
