-- How many bytes changes have in each of the two forms of an entry, and how many of them have a text.
use Rattle.std.specs.Prelude.{ℕ, ◌+◌, ◌-◌, nat_lt, cond, true, false, List, [], ◌∷◌, Option, Some, None}
use Rattle.db_value.specs.Value.{Value}
use Rattle.db_value.specs.declared.entry.Change.{Change}
use Rattle.db_store.specs.Overlay.{own_widths, widths_if}
use Rattle.db_store.specs.Body.{have_texts, has_text, fields_size, changes_size}
use Rattle.db_store.specs.declared.bulk.Bulk.{Bulk}

-- how many of the changes have a text
abbrev pub text_count : List Change → ℕ
text_count [] = 0
text_count (c ∷ cs) = cond (has_text c) 1 0 + text_count cs

-- what changes have
abbrev pub bulk_of : List Change → Bulk
bulk_of cs = record { plain = changes_size false cs; wide = changes_size true cs; texts = text_count cs }

-- no changes
abbrev pub no_bulk : Bulk
no_bulk = record { plain = 0; wide = 0; texts = 0 }

-- one change, which may have fields with these widths
abbrev pub weight : Option (List ℕ) → Bulk
weight ws = record { plain = 10 + fields_size false ws; wide = 10 + fields_size true ws; texts = cond (have_texts ws) 1 0 }

-- the change of a key of a relation with these widths; a key that isn't touched has none
abbrev pub weight_at : List ℕ → Option (Option (List Value)) → Bulk
weight_at ws None = no_bulk
weight_at ws (Some state) = weight (widths_if ws state)

-- changes of which one has something else than before
abbrev pub exchanged : Bulk → Bulk → Bulk → Bulk
exchanged t old new = record { plain = t.plain - old.plain + new.plain; wide = t.wide - old.wide + new.wide; texts = t.texts - old.texts + new.texts }

-- how many bytes the changes have
abbrev pub size_in : Bulk → ℕ
size_in t = cond (nat_lt 0 t.texts) t.wide t.plain

-- a change with the widths of its relation
abbrev pub with_own : List (List ℕ) → Change → Change
with_own wss c = record c { widths = widths_if (own_widths wss c.relation) c.fields }
