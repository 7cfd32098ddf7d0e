-- What is known of a line: it is refused exactly if it is refused early, and for the same; otherwise its names stand for what is known.
use Rattle.std.proofs.Common.{◌≡◌, ℕ, is_some, Bool, true, false, cond, List, [], length, map, refl, ap, sym, subst, ◌∙◌, Option, Some, None}
use Rattle.std.specs.Prelude.{◌==◌, Result, Ok, Err}
use Rattle.std.proofs.lemmas.Bool.{eqb-true}
use Rattle.db_value.specs.Value.{Value}
use Rattle.db_value.specs.Relations.{columns_at, widths_at}
use Rattle.db_value.specs.Widths.{meets}
use Rattle.db_value.specs.Pred.{first_unknown, first_wrong}
use Rattle.db_value.specs.declared.schema.Relation.{Relation}
use Rattle.db_value.specs.declared.condition.Set.{Set}
use Rattle.db_value.specs.declared.condition.Term.{Term}
use Rattle.db_value.specs.declared.version.VersionName.{VersionName}
use Rattle.db_value.specs.declared.reply.Refusal.{Refusal}
use Rattle.db_value.specs.declared.reply.Refusal.TheVariants.{NoRelation, NoColumn, ValueCount, WrongKind}
use Rattle.db_store.specs.Dataset.{Dataset}
use Rattle.stmt_text.specs.declared.stmt.Stmt.{Stmt}
use Rattle.stmt_text.specs.declared.stmt.Stmt.TheVariants.{Insert, Update, Delete, Get, Scan, Join, Minus}
use Rattle.stmt_text.specs.declared.stmt.NamedSet.{NamedSet}
use Rattle.stmt_text.specs.declared.stmt.ScanOver.{ScanOver}
use Rattle.line_needs.specs.Columns.{columns_of, relation_named, resolved, resolved_columns, sets_at}
use Rattle.line_needs.specs.Misfits.{row_misfit, sets_misfit}
use Rattle.line_needs.specs.Early.{relation_refusal, row_refusal, unresolved_refusal, set_refusal, condition_refusal, ask_refusal, join_refusal, early_refusal, is_early}
use Rattle.line_needs.specs.Needs.{stmt_needs, needs}
use Rattle.line_needs.specs.declared.known.Known.{Known}
use Rattle.line_needs.specs.declared.known.Known.TheVariants.{Refused, Of, With, Both}
use Rattle.line_needs.proofs.MisfitLemmas.{none_meets}
use Rattle.line_needs.proofs.SetLemmas.{AreFitting, sets_back, resolved_fitting}
use Rattle.line_needs.specs.Known.{of_named, with_columns, with_named, both_named, named_in, refused_or, known_of, refusal_in, is_refusal}

-- ---- why it is refused

refused_why : (o : Option Refusal) (k : Known) → refusal_in k ≡ None → refusal_in (refused_or o k) ≡ o
refused_why (Some why) k e = refl
refused_why None k e = e

of_free : (o : Option ℕ) → refusal_in (of_named o) ≡ None
of_free None = refl
of_free (Some r) = refl

columns_free : (r : ℕ) (columns : Result (List ℕ) (List ℕ)) → refusal_in (with_columns r columns) ≡ None
columns_free r (Err column) = refl
columns_free r (Ok columns) = refl

with_free : (schema : List Relation) (sets : List NamedSet) (o : Option ℕ) → refusal_in (with_named schema sets o) ≡ None
with_free schema sets None = refl
with_free schema sets (Some r) = columns_free r (resolved_columns (resolved (columns_at schema r) sets))

both_free : (o p : Option ℕ) → refusal_in (both_named o p) ≡ None
both_free None p = refl
both_free (Some r) None = refl
both_free (Some r) (Some q) = refl

-- names alone refuse nothing
named_free : (schema : List Relation) (x : Stmt) → refusal_in (named_in schema x) ≡ None
named_free schema (Insert name key fields) = of_free (relation_named schema name)
named_free schema (Update name key sets) = with_free schema sets (relation_named schema name)
named_free schema (Delete name key) = of_free (relation_named schema name)
named_free schema (Get name key at) = of_free (relation_named schema name)
named_free schema (Scan name over terms) = of_free (relation_named schema name)
named_free schema (Join left right v w terms) = both_free (relation_named schema left) (relation_named schema right)
named_free schema (Minus name v w) = of_free (relation_named schema name)
named_free schema _ = refl

pub known_why : (schema : List Relation) (begun changed : Bool) (x : Stmt) → refusal_in (known_of schema begun changed x) ≡ early_refusal schema begun changed x
known_why schema begun changed x = refused_why (early_refusal schema begun changed x) (named_in schema x) (named_free schema x)

pub known_early : (schema : List Relation) (begun changed : Bool) (x : Stmt) → is_refusal (known_of schema begun changed x) ≡ is_early schema begun changed x
known_early schema begun changed x = ap is_some (known_why schema begun changed x)

-- the needs of a line, by whether it is known to be refused
pub known_needs : (d : Dataset) (b : ℕ) (begun changed : Bool) (x : Stmt) (k : Known) (q : Bool) → k ≡ known_of d.schema begun changed x → is_refusal k ≡ q → cond q [] (stmt_needs d b x) ≡ needs d b begun changed x
known_needs d b begun changed x k q e is =
    let early : q ≡ is_early d.schema begun changed x = sym is ∙ ap is_refusal e ∙ known_early d.schema begun changed x in
    ap (λ (p : Bool). cond p [] (stmt_needs d b x)) early

-- a statement that reads or changes records
abbrev pub is_record : Stmt → Bool
is_record (Insert name key fields) = true
is_record (Update name key sets) = true
is_record (Delete name key) = true
is_record (Get name key at) = true
is_record (Scan name over terms) = true
is_record (Join left right v w terms) = true
is_record (Minus name v w) = true
is_record _ = false

-- what is known of it is so whatever its transaction was and did
pub known_acts : (schema : List Relation) (b c p q : Bool) (x : Stmt) → is_record x ≡ true → known_of schema b c x ≡ known_of schema p q x
known_acts schema b c p q (Insert name key fields) h = refl
known_acts schema b c p q (Update name key sets) h = refl
known_acts schema b c p q (Delete name key) h = refl
known_acts schema b c p q (Get name key at) h = refl
known_acts schema b c p q (Scan name over terms) h = refl
known_acts schema b c p q (Join left right v w terms) h = refl
known_acts schema b c p q (Minus name v w) h = refl
known_acts schema b c p q _ h = absurd cc

-- ---- what the names of a line that isn't refused stand for

-- of a statement on a relation
pub relation_is : (name : List ℕ) (o : Option ℕ) (r : ℕ) → refused_or (relation_refusal name o) (of_named o) ≡ Of r → o ≡ Some r
relation_is name None r e = absurd cc
relation_is name (Some q) r e = cc

-- of an insertion
counted_is : (t : Bool) (o : Option Refusal) (q r : ℕ) (why : Refusal) → refused_or (cond t o (Some why)) (Of q) ≡ Of r → (q ≡ r) × (t ≡ true) × (o ≡ None)
counted_is true None q r why e = (cc, refl, refl)
counted_is true (Some w) q r why e = absurd cc
counted_is false o q r why e = absurd cc

row_is : (schema : List Relation) (name : List ℕ) (fields : List Value) (o : Option ℕ) (r : ℕ) → refused_or (row_refusal schema name fields o) (of_named o) ≡ Of r
    → (o ≡ Some r) × (meets (widths_at schema r) fields ≡ true)
row_is schema name fields None r e = absurd cc
row_is schema name fields (Some q) r e =
    let is = counted_is (length fields == length (columns_of schema q)) (row_misfit (columns_of schema q) fields) q r (ValueCount name (length (columns_at schema q))) e in
    let met : meets (widths_at schema q) fields ≡ true = none_meets (columns_of schema q) fields (eqb-true _ _ is.1) is.2 in
    (ap Some is.0, ap (λ (n : ℕ). meets (widths_at schema n) fields) (sym is.0) ∙ met)

pub known_insert : (schema : List Relation) (begun changed : Bool) (name : List ℕ) (key : ℕ) (fields : List Value) (r : ℕ) → known_of schema begun changed (Insert name key fields) ≡ Of r
    → (relation_named schema name ≡ Some r) × (meets (widths_at schema r) fields ≡ true)
known_insert schema begun changed name key fields r e = row_is schema name fields (relation_named schema name) r e

-- of an update
resolved_is : (q : ℕ) (o : Result (List Set) (List ℕ)) (m : Option Refusal) (r : ℕ) (columns : List ℕ) → refused_or (unresolved_refusal o m) (with_columns q (resolved_columns o)) ≡ With r columns
    → (q ≡ r) × (m ≡ None) × ((sets : List Set) × (o ≡ Ok sets) × (columns ≡ map (λ (s : Set). s.column) sets))
resolved_is q (Err column) m r columns e = absurd cc
resolved_is q (Ok sets) (Some why) r columns e = absurd cc
resolved_is q (Ok sets) None r columns e = (cc, refl, (sets, refl, cc))

-- its columns are as many as its new values, which are of them, and have their places there
pub record AreSets (schema : List Relation) (r : ℕ) (named : List NamedSet) (columns : List ℕ) : Type 0 where
  pub long : length columns ≡ length named
  pub found : resolved (columns_at schema r) named ≡ Ok (sets_at columns named)
  pub taken : sets_misfit (widths_at schema r) (columns_at schema r) named ≡ None
  pub fitting : AreFitting (widths_at schema r) (sets_at columns named)

sets_are : (schema : List Relation) (name : List ℕ) (named : List NamedSet) (o : Option ℕ) (r : ℕ) (columns : List ℕ) → refused_or (set_refusal schema name named o) (with_named schema named o) ≡ With r columns
    → (o ≡ Some r) × AreSets schema r named columns
sets_are schema name named None r columns e = absurd cc
sets_are schema name named (Some q) r columns e =
    let is = resolved_is q (resolved (columns_at schema q) named) (sets_misfit (widths_at schema q) (columns_at schema q) named) r columns e in
    let sets : List Set = is.2.0 in
    let back = sets_back (columns_at schema q) named sets is.2.1 in
    let same : sets ≡ sets_at columns named = sym (ap (λ (cs : List ℕ). sets_at cs named) is.2.2 ∙ back.1) in
    let fitting : AreFitting (widths_at schema q) sets = resolved_fitting (widths_at schema q) (columns_at schema q) named sets is.2.1 is.1 in (
      ap Some is.0,
      record {
        long = ap length is.2.2 ∙ back.0;
        found = ap (λ (n : ℕ). resolved (columns_at schema n) named) (sym is.0) ∙ is.2.1 ∙ ap Ok same;
        taken = ap (λ (n : ℕ). sets_misfit (widths_at schema n) (columns_at schema n) named) (sym is.0) ∙ is.1;
        fitting = subst (λ (n : ℕ). AreFitting (widths_at schema n) (sets_at columns named)) is.0 (subst (AreFitting (widths_at schema q)) same fitting);
      },
    )

pub known_update : (schema : List Relation) (begun changed : Bool) (name : List ℕ) (key : ℕ) (named : List NamedSet) (r : ℕ) (columns : List ℕ) → known_of schema begun changed (Update name key named) ≡ With r columns
    → (relation_named schema name ≡ Some r) × AreSets schema r named columns
known_update schema begun changed name key named r columns e = sets_are schema name named (relation_named schema name) r columns e

-- of a statement with a condition
condition_is : (u w : Option (List ℕ)) (q r : ℕ) → refused_or (condition_refusal u w) (Of q) ≡ Of r → (q ≡ r) × (u ≡ None) × (w ≡ None)
condition_is None None q r e = (cc, refl, refl)
condition_is None (Some column) q r e = absurd cc
condition_is (Some column) w q r e = absurd cc

-- all columns of a condition are there, and of the kinds of their values
abbrev pub AreAsked : List Relation → ℕ → List Term → Type 0
AreAsked schema r terms = (first_unknown (columns_at schema r) terms ≡ None) × (first_wrong (columns_at schema r) (widths_at schema r) terms ≡ None)

asked_at : (schema : List Relation) (terms : List Term) (q r : ℕ) → q ≡ r → AreAsked schema q terms → AreAsked schema r terms
asked_at schema terms q r e h = subst (λ (n : ℕ). AreAsked schema n terms) e h

asked_is : (schema : List Relation) (name : List ℕ) (terms : List Term) (o : Option ℕ) (r : ℕ) → refused_or (ask_refusal schema name terms o) (of_named o) ≡ Of r
    → (o ≡ Some r) × AreAsked schema r terms
asked_is schema name terms None r e = absurd cc
asked_is schema name terms (Some q) r e =
    let is = condition_is (first_unknown (columns_at schema q) terms) (first_wrong (columns_at schema q) (widths_at schema q) terms) q r e in
    (ap Some is.0, asked_at schema terms q r is.0 (is.1, is.2))

pub known_scan : (schema : List Relation) (begun changed : Bool) (name : List ℕ) (over : ScanOver) (terms : List Term) (r : ℕ) → known_of schema begun changed (Scan name over terms) ≡ Of r
    → (relation_named schema name ≡ Some r) × AreAsked schema r terms
known_scan schema begun changed name over terms r e = asked_is schema name terms (relation_named schema name) r e

-- of a join
conditions_are : (u w : Option (List ℕ)) (p q r s : ℕ) → refused_or (condition_refusal u w) (Both p q) ≡ Both r s → (p ≡ r) × (q ≡ s) × ((u ≡ None) × (w ≡ None))
conditions_are None None p q r s e = (cc, cc, (refl, refl))
conditions_are None (Some column) p q r s e = absurd cc
conditions_are (Some column) w p q r s e = absurd cc

both_are : (schema : List Relation) (left right : List ℕ) (terms : List Term) (o p : Option ℕ) (r s : ℕ) → refused_or (join_refusal schema left right terms o p) (both_named o p) ≡ Both r s
    → (o ≡ Some r) × (p ≡ Some s) × AreAsked schema r terms
both_are schema left right terms None p r s e = absurd cc
both_are schema left right terms (Some q) None r s e = absurd cc
both_are schema left right terms (Some q) (Some n) r s e =
    let is = conditions_are (first_unknown (columns_at schema q) terms) (first_wrong (columns_at schema q) (widths_at schema q) terms) q n r s e in
    (ap Some is.0, ap Some is.1, asked_at schema terms q r is.0 is.2)

pub known_join : (schema : List Relation) (begun changed : Bool) (left right : List ℕ) (v w : VersionName) (terms : List Term) (r s : ℕ) → known_of schema begun changed (Join left right v w terms) ≡ Both r s
    → (relation_named schema left ≡ Some r) × (relation_named schema right ≡ Some s) × AreAsked schema r terms
known_join schema begun changed left right v w terms r s e = both_are schema left right terms (relation_named schema left) (relation_named schema right) r s e

-- ---- if they don't stand for what such a statement wants, it is refused

-- it is refused, and for a cause
abbrev pub Stops : Known → Type 0
Stops k = (why : Refusal) × (k ≡ Refused why)

pub relation_stops : (name : List ℕ) (o : Option ℕ) → ((r : ℕ) → refused_or (relation_refusal name o) (of_named o) ≡ Of r → ⊥) → Stops (refused_or (relation_refusal name o) (of_named o))
relation_stops name None n = (NoRelation name, refl)
relation_stops name (Some r) n = absurd (n r refl)

counted_stops : (t : Bool) (o : Option Refusal) (q : ℕ) (why : Refusal) → ((r : ℕ) → refused_or (cond t o (Some why)) (Of q) ≡ Of r → ⊥) → Stops (refused_or (cond t o (Some why)) (Of q))
counted_stops true None q why n = absurd (n q refl)
counted_stops true (Some w) q why n = (w, refl)
counted_stops false o q why n = (why, refl)

row_stops : (schema : List Relation) (name : List ℕ) (fields : List Value) (o : Option ℕ) → ((r : ℕ) → refused_or (row_refusal schema name fields o) (of_named o) ≡ Of r → ⊥) → Stops (refused_or (row_refusal schema name fields o) (of_named o))
row_stops schema name fields None n = (NoRelation name, refl)
row_stops schema name fields (Some q) n = counted_stops (length fields == length (columns_of schema q)) (row_misfit (columns_of schema q) fields) q (ValueCount name (length (columns_at schema q))) n

pub insert_stops : (schema : List Relation) (begun changed : Bool) (name : List ℕ) (key : ℕ) (fields : List Value) → ((r : ℕ) → known_of schema begun changed (Insert name key fields) ≡ Of r → ⊥) → Stops (known_of schema begun changed (Insert name key fields))
insert_stops schema begun changed name key fields n = row_stops schema name fields (relation_named schema name) n

resolved_stops : (q : ℕ) (o : Result (List Set) (List ℕ)) (m : Option Refusal) → ((r : ℕ) (columns : List ℕ) → refused_or (unresolved_refusal o m) (with_columns q (resolved_columns o)) ≡ With r columns → ⊥)
    → Stops (refused_or (unresolved_refusal o m) (with_columns q (resolved_columns o)))
resolved_stops q (Err column) m n = (NoColumn column, refl)
resolved_stops q (Ok sets) (Some why) n = (why, refl)
resolved_stops q (Ok sets) None n = absurd (n q (map (λ (s : Set). s.column) sets) refl)

sets_stop : (schema : List Relation) (name : List ℕ) (named : List NamedSet) (o : Option ℕ) → ((r : ℕ) (columns : List ℕ) → refused_or (set_refusal schema name named o) (with_named schema named o) ≡ With r columns → ⊥)
    → Stops (refused_or (set_refusal schema name named o) (with_named schema named o))
sets_stop schema name named None n = (NoRelation name, refl)
sets_stop schema name named (Some q) n = resolved_stops q (resolved (columns_at schema q) named) (sets_misfit (widths_at schema q) (columns_at schema q) named) n

pub update_stops : (schema : List Relation) (begun changed : Bool) (name : List ℕ) (key : ℕ) (named : List NamedSet) → ((r : ℕ) (columns : List ℕ) → known_of schema begun changed (Update name key named) ≡ With r columns → ⊥)
    → Stops (known_of schema begun changed (Update name key named))
update_stops schema begun changed name key named n = sets_stop schema name named (relation_named schema name) n

condition_stops : (u w : Option (List ℕ)) (q : ℕ) → ((r : ℕ) → refused_or (condition_refusal u w) (Of q) ≡ Of r → ⊥) → Stops (refused_or (condition_refusal u w) (Of q))
condition_stops None None q n = absurd (n q refl)
condition_stops None (Some column) q n = (WrongKind column, refl)
condition_stops (Some column) w q n = (NoColumn column, refl)

asked_stops : (schema : List Relation) (name : List ℕ) (terms : List Term) (o : Option ℕ) → ((r : ℕ) → refused_or (ask_refusal schema name terms o) (of_named o) ≡ Of r → ⊥) → Stops (refused_or (ask_refusal schema name terms o) (of_named o))
asked_stops schema name terms None n = (NoRelation name, refl)
asked_stops schema name terms (Some q) n = condition_stops (first_unknown (columns_at schema q) terms) (first_wrong (columns_at schema q) (widths_at schema q) terms) q n

pub scan_stops : (schema : List Relation) (begun changed : Bool) (name : List ℕ) (over : ScanOver) (terms : List Term) → ((r : ℕ) → known_of schema begun changed (Scan name over terms) ≡ Of r → ⊥) → Stops (known_of schema begun changed (Scan name over terms))
scan_stops schema begun changed name over terms n = asked_stops schema name terms (relation_named schema name) n

conditions_stop : (u w : Option (List ℕ)) (p q : ℕ) → ((r s : ℕ) → refused_or (condition_refusal u w) (Both p q) ≡ Both r s → ⊥) → Stops (refused_or (condition_refusal u w) (Both p q))
conditions_stop None None p q n = absurd (n p q refl)
conditions_stop None (Some column) p q n = (WrongKind column, refl)
conditions_stop (Some column) w p q n = (NoColumn column, refl)

both_stop : (schema : List Relation) (left right : List ℕ) (terms : List Term) (o p : Option ℕ) → ((r s : ℕ) → refused_or (join_refusal schema left right terms o p) (both_named o p) ≡ Both r s → ⊥)
    → Stops (refused_or (join_refusal schema left right terms o p) (both_named o p))
both_stop schema left right terms None p n = (NoRelation left, refl)
both_stop schema left right terms (Some r) None n = (NoRelation right, refl)
both_stop schema left right terms (Some r) (Some s) n = conditions_stop (first_unknown (columns_at schema r) terms) (first_wrong (columns_at schema r) (widths_at schema r) terms) r s n

pub join_stops : (schema : List Relation) (begun changed : Bool) (left right : List ℕ) (v w : VersionName) (terms : List Term) → ((r s : ℕ) → known_of schema begun changed (Join left right v w terms) ≡ Both r s → ⊥)
    → Stops (known_of schema begun changed (Join left right v w terms))
join_stops schema begun changed left right v w terms n = both_stop schema left right terms (relation_named schema left) (relation_named schema right) n
